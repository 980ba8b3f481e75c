-- The kept states are few, and in order.
use Rattle.std.proofs.Common.{◌≡◌, ℕ, suc, ◌%◌, ◌<◌, ◌≤◌, Bool, true, false, cond, List, [], ◌∷◌, length, refl, sym, ap, ◌∙◌, subst, arith, nat_le, eqb-true, IsTrue}
use Rattle.std.proofs.lemmas.Bool.{lt-leb, lt-ltb}
use Rattle.wire_format.specs.Lists.{Each, ascends}
use Rattle.wire_format.specs.Spelling.{checkpoint_entry_before}
use Rattle.protocol.proofs.Words.Elements.{each_filtered}
use Rattle.replica_histories.specs.Desk.{Snapshot, snapshot_of, kept_from}
use Rattle.replica_histories.specs.Views.{entries_of}
use Rattle.desk.specs.State.{DeskData, IsDesk}
use Rattle.desk.specs.Desking.{MayKeep, checkpoint_is_due}
use Rattle.desk.specs.Keeping.{Descend, AreFew, AreDue, AreKept}

-- ---- the kept states

-- a multiple of the period may stand first
pub due_first : (period : ℕ) (x : Snapshot) (older : List Snapshot) → x.number % period ≡ 0 → AreDue period older → AreDue period (x ∷ older)
due_first period x [] multiple due = tt
due_first period x (a ∷ rest) multiple due = (multiple, due)

-- those from a low mark on
kept_length : (low : ℕ) (xs : List Snapshot) → length (kept_from low xs) ≤ length xs
kept_length low [] = omega arith
kept_length low (x ∷ xs) = go (nat_le low x.number) (kept_length low xs)
  where
    go : (b : Bool) → length (kept_from low xs) ≤ length xs → length (cond b (x ∷ kept_from low xs) (kept_from low xs)) ≤ suc (length xs)
    go true l = omega arith
    go false l = omega arith

abbrev at_least : ℕ → Snapshot → Bool
at_least low x = nat_le low x.number

kept_descend : (low : ℕ) (xs : List Snapshot) → Descend xs → Descend (kept_from low xs)
kept_descend low [] h = tt
kept_descend low (x ∷ xs) h = go (nat_le low x.number) (kept_descend low xs h.1)
  where
    go : (b : Bool) → Descend (kept_from low xs) → Descend (cond b (x ∷ kept_from low xs) (kept_from low xs))
    go true rest = (each_filtered (λ (y : Snapshot). y.number < x.number) (λ (y : Snapshot). y.number < x.number) (at_least low) (λ y t l. l) xs h.0, rest)
    go false rest = rest

pub few_from : (low : ℕ) (xs : List Snapshot) → AreFew xs → AreFew (kept_from low xs)
few_from low xs h = record { few = (let l = kept_length low xs in let k = h.few in omega (arith, l, k)); descend = kept_descend low xs h.descend }

due_from : (period low : ℕ) (xs : List Snapshot) → AreDue period xs → AreDue period (kept_from low xs)
due_from period low [] h = tt
due_from period low (x ∷ []) h = go (nat_le low x.number)
  where
    go : (b : Bool) → AreDue period (cond b (x ∷ []) [])
    go true = tt
    go false = tt
due_from period low (x ∷ y ∷ older) h = go (nat_le low x.number) (due_from period low (y ∷ older) h.1)
  where
    go : (b : Bool) → AreDue period (kept_from low (y ∷ older)) → AreDue period (cond b (x ∷ kept_from low (y ∷ older)) (kept_from low (y ∷ older)))
    go true rest = due_first period x (kept_from low (y ∷ older)) h.0 rest
    go false rest = rest

pub kept_on : (period number low : ℕ) (xs : List Snapshot) → AreKept period number xs → AreKept period number (kept_from low xs)
kept_on period number low xs h = record {
  below = each_filtered (λ (y : Snapshot). y.number ≤ number) (λ (y : Snapshot). y.number ≤ number) (at_least low) (λ y t l. l) xs h.below;
  due = due_from period low xs h.due;
}

-- if the executed number grows
pub below_next : (number later : ℕ) (xs : List Snapshot) → number < later → Each (λ x. x.number ≤ number) xs → Each (λ x. x.number < later) xs
below_next number later [] more h = tt
below_next number later (x ∷ xs) more h = ((let l = h.0 in omega (arith, l, more)), below_next number later xs more h.1)

-- those below the low mark are dropped
pub kept_alone : (low : ℕ) (x : Snapshot) (older : List Snapshot) → Each (λ y. y.number < low) older → kept_from low (x ∷ older) ≡ kept_from low (x ∷ [])
kept_alone low x older below = ap (λ (ys : List Snapshot). cond (nat_le low x.number) (x ∷ ys) ys) (none older below)
  where
    none : (ys : List Snapshot) → Each (λ y. y.number < low) ys → kept_from low ys ≡ []
    none [] h = refl
    none (y ∷ ys) h = let l = lt-leb low y.number h.0 in rw l (none ys h.1)

-- ---- what a view change lists

pub listed_ascend : (xs : List Snapshot) → AreFew xs → IsTrue (ascends checkpoint_entry_before (entries_of xs))
listed_ascend [] h = refl
listed_ascend (a ∷ []) h = refl
listed_ascend (a ∷ b ∷ []) h = let l = lt-ltb b.number a.number h.descend.0.0 in rw l refl
listed_ascend (a ∷ b ∷ d ∷ []) h = let l = lt-ltb b.number a.number h.descend.0.0 in let k = lt-ltb d.number b.number h.descend.1.0.0 in rw (k, l) refl
listed_ascend (a ∷ b ∷ d ∷ e ∷ rest) h = absurd (let l = h.few in omega (arith, l))

-- ---- what the desk keeps

pub desk_drops : (d : DeskData) (low : ℕ) (snapshots : List Snapshot) → IsDesk d → snapshots ≡ kept_from low d.snapshots → IsDesk (record d { snapshots = snapshots })
desk_drops d low snapshots is are =
    subst (λ (xs : List Snapshot). IsDesk (record d { snapshots = xs })) (sym are) (is.0, is.1, is.2, kept_on d.period d.executed.state.number low d.snapshots is.3)

pub may_keep_due : (d : DeskData) (due : Bool) → IsDesk d → Each (λ x. x.number < d.executed.state.number) d.snapshots → due ≡ checkpoint_is_due d → due ≡ true → MayKeep d
may_keep_due d due is newer tells held = record {
  newer = newer;
  due = due_first d.period (snapshot_of d.executed.state) d.snapshots (eqb-true (d.executed.state.number % d.period) 0 (sym tells ∙ held)) is.3.due;
}
