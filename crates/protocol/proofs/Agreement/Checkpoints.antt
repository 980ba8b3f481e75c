-- The checkpoints that count of a sender descend and are few, and one more of a number that is there changes nothing.
use Rattle.std.proofs.Common.{◌≡◌, ℕ, zero, suc, ◌≤◌, ◌<◌, ◌⊎◌, inl, inr, Bool, true, false, cond, List, [], ◌∷◌, length, take, refl, sym, ap, ◌∙◌, subst, arith, Option, Some, None, eqb-true, eq-eqb}
use Rattle.std.specs.Prelude.{◌==◌, nat_lt}
use Rattle.std.proofs.lemmas.Bool.{eqb-false, ltb-false, ltb-true}
use Rattle.wire_format.specs.Lists.{Each}
use Rattle.wire_format.specs.Messages.{CheckpointEntryData as CheckpointEntry}
use Rattle.protocol.specs.System.Configuration.{Configuration}
use Rattle.protocol.specs.System.Trace.{Entry, Has}
use Rattle.protocol.specs.Replica.Certificates.{checkpoint_in, insert_checkpoint, with_checkpoint, checkpoints_of}

-- ---- lists that descend

abbrev pub IsBelow : ℕ → List CheckpointEntry → Type 0
IsBelow n checkpoints = Each (λ (m : CheckpointEntry). m.number < n) checkpoints

abbrev pub Descends : List CheckpointEntry → Type 0
Descends [] = Rattle.std.specs.Prelude.⊤
Descends (m ∷ checkpoints) = IsBelow m.number checkpoints × Descends checkpoints

below_more : (a b : ℕ) (checkpoints : List CheckpointEntry) → a ≤ b → IsBelow a checkpoints → IsBelow b checkpoints
below_more a b [] l h = tt
below_more a b (m ∷ checkpoints) l h = (let less = h.0 in omega arith, below_more a b checkpoints l h.1)

below_number : (n k : ℕ) (checkpoints : List CheckpointEntry) → IsBelow n checkpoints → Has (λ (m : CheckpointEntry). m.number ≡ k) checkpoints → k < n
below_number n k [] h has = absurd has
below_number n k (m ∷ checkpoints) h (inl is) = let less = h.0 in omega arith
below_number n k (m ∷ checkpoints) h (inr has) = below_number n k checkpoints h.1 has

below_take : (n k : ℕ) (checkpoints : List CheckpointEntry) → IsBelow n checkpoints → IsBelow n (take k checkpoints)
below_take n zero [] h = tt
below_take n zero (m ∷ checkpoints) h = tt
below_take n (suc k) [] h = tt
below_take n (suc k) (m ∷ checkpoints) h = (h.0, below_take n k checkpoints h.1)

descends_take : (k : ℕ) (checkpoints : List CheckpointEntry) → Descends checkpoints → Descends (take k checkpoints)
descends_take zero [] h = tt
descends_take zero (m ∷ checkpoints) h = tt
descends_take (suc k) [] h = tt
descends_take (suc k) (m ∷ checkpoints) h = (below_take m.number k checkpoints h.0, descends_take k checkpoints h.1)

few_take : (k : ℕ) (checkpoints : List CheckpointEntry) → length (take k checkpoints) ≤ k
few_take zero [] = omega arith
few_take zero (m ∷ checkpoints) = omega arith
few_take (suc k) [] = omega arith
few_take (suc k) (m ∷ checkpoints) = let r = few_take k checkpoints in omega arith

all_taken : (k : ℕ) (checkpoints : List CheckpointEntry) → length checkpoints ≤ k → take k checkpoints ≡ checkpoints
all_taken zero [] l = refl
all_taken zero (m ∷ checkpoints) l = absurd (omega arith)
all_taken (suc k) [] l = refl
all_taken (suc k) (m ∷ checkpoints) l = ap (λ (xs : List CheckpointEntry). m ∷ xs) (all_taken k checkpoints (omega arith))

-- ---- the inserted entry

-- where the new number stands to that of a checkpoint
pub data Order (a b : ℕ) : Type 0 where
  same : (a == b) ≡ true → a ≡ b → Order a b
  less : (a == b) ≡ false → nat_lt a b ≡ true → a < b → Order a b
  more : (a == b) ≡ false → nat_lt a b ≡ false → b < a → Order a b

pub order : (a b : ℕ) → Order a b
order a b = go (a == b) (nat_lt a b) refl refl
  where
    go : (x y : Bool) → (a == b) ≡ x → nat_lt a b ≡ y → Order a b
    go true y e f = same e (eqb-true a b e)
    go false true e f = less e f (ltb-true a b f)
    go false false e f = let l = ltb-false a b f in let d = eqb-false a b e in more e f (omega arith)

pub inserted_same : (checkpoint m : CheckpointEntry) (checkpoints : List CheckpointEntry) → (m.number == checkpoint.number) ≡ true → insert_checkpoint checkpoint (m ∷ checkpoints) ≡ m ∷ checkpoints
inserted_same checkpoint m checkpoints e = rw e refl

pub inserted_less : (checkpoint m : CheckpointEntry) (checkpoints : List CheckpointEntry) → (m.number == checkpoint.number) ≡ false → nat_lt m.number checkpoint.number ≡ true → insert_checkpoint checkpoint (m ∷ checkpoints) ≡ checkpoint ∷ m ∷ checkpoints
inserted_less checkpoint m checkpoints e f = rw (e, f) refl

pub inserted_more : (checkpoint m : CheckpointEntry) (checkpoints : List CheckpointEntry) → (m.number == checkpoint.number) ≡ false → nat_lt m.number checkpoint.number ≡ false → insert_checkpoint checkpoint (m ∷ checkpoints) ≡ m ∷ insert_checkpoint checkpoint checkpoints
inserted_more checkpoint m checkpoints e f = rw (e, f) refl

below_inserted : (n : ℕ) (checkpoint : CheckpointEntry) (checkpoints : List CheckpointEntry) → checkpoint.number < n → IsBelow n checkpoints → IsBelow n (insert_checkpoint checkpoint checkpoints)
below_inserted n checkpoint [] l h = (l, tt)
below_inserted n checkpoint (m ∷ checkpoints) l h = go (order m.number checkpoint.number) (below_inserted n checkpoint checkpoints l h.1)
  where
    go : Order m.number checkpoint.number → IsBelow n (insert_checkpoint checkpoint checkpoints) → IsBelow n (insert_checkpoint checkpoint (m ∷ checkpoints))
    go (same e s) below = subst (IsBelow n) (sym (inserted_same checkpoint m checkpoints e)) h
    go (less e f s) below = subst (IsBelow n) (sym (inserted_less checkpoint m checkpoints e f)) (l, h)
    go (more e f s) below = subst (IsBelow n) (sym (inserted_more checkpoint m checkpoints e f)) (h.0, below)

pub descends_inserted : (checkpoint : CheckpointEntry) (checkpoints : List CheckpointEntry) → Descends checkpoints → Descends (insert_checkpoint checkpoint checkpoints)
descends_inserted checkpoint [] h = (tt, tt)
descends_inserted checkpoint (m ∷ checkpoints) h = go (order m.number checkpoint.number) (descends_inserted checkpoint checkpoints h.1)
  where
    go : Order m.number checkpoint.number → Descends (insert_checkpoint checkpoint checkpoints) → Descends (insert_checkpoint checkpoint (m ∷ checkpoints))
    go (same e s) below = subst Descends (sym (inserted_same checkpoint m checkpoints e)) h
    go (less e f s) below = subst Descends (sym (inserted_less checkpoint m checkpoints e f)) ((s, below_more m.number checkpoint.number checkpoints (omega arith) h.0), h)
    go (more e f s) below = subst Descends (sym (inserted_more checkpoint m checkpoints e f)) (below_inserted m.number checkpoint checkpoints s h.0, below)

-- a number that is there stays as it is
unchanged : (checkpoint : CheckpointEntry) (checkpoints : List CheckpointEntry) → Descends checkpoints → Has (λ (m : CheckpointEntry). m.number ≡ checkpoint.number) checkpoints → insert_checkpoint checkpoint checkpoints ≡ checkpoints
unchanged checkpoint [] h has = absurd has
unchanged checkpoint (m ∷ checkpoints) h has = go (order m.number checkpoint.number) has (unchanged checkpoint checkpoints h.1)
  where
    go : Order m.number checkpoint.number → (m.number ≡ checkpoint.number) ⊎ Has (λ (x : CheckpointEntry). x.number ≡ checkpoint.number) checkpoints → (Has (λ (x : CheckpointEntry). x.number ≡ checkpoint.number) checkpoints → insert_checkpoint checkpoint checkpoints ≡ checkpoints)
        → insert_checkpoint checkpoint (m ∷ checkpoints) ≡ m ∷ checkpoints
    go (same e s) has below = inserted_same checkpoint m checkpoints e
    go (less e f s) (inl is) below = absurd (omega arith)
    go (less e f s) (inr there) below = let l = below_number m.number checkpoint.number checkpoints h.0 there in absurd (omega arith)
    go (more e f s) (inl is) below = absurd (omega arith)
    go (more e f s) (inr there) below = inserted_more checkpoint m checkpoints e f ∙ ap (λ (xs : List CheckpointEntry). m ∷ xs) (below there)

-- ---- what counts of a sender

pub checkpoints_with : (c : Configuration) (e : Entry) (past : List Entry) (s : ℕ) → checkpoints_of c (e ∷ past) s ≡ with_checkpoint s (checkpoint_in c e) (checkpoints_of c past s)
unfolding checkpoints_of
checkpoints_with c e past s = refl

pub no_checkpoints : (c : Configuration) (s : ℕ) → checkpoints_of c [] s ≡ []
unfolding checkpoints_of
no_checkpoints c s = refl

pub descends_of : (c : Configuration) (s : ℕ) (xs : List Entry) → Descends (checkpoints_of c xs s)
descends_of c s [] = subst Descends (sym (no_checkpoints c s)) tt
descends_of c s (e ∷ past) = subst Descends (sym (checkpoints_with c e past s)) (go (checkpoint_in c e) (descends_of c s past))
  where
    go : (o : Option (ℕ × CheckpointEntry)) → Descends (checkpoints_of c past s) → Descends (with_checkpoint s o (checkpoints_of c past s))
    go None h = h
    go (Some x) h = pick (x.0 == s)
      where
        pick : (b : Bool) → Descends (cond b (take 3 (insert_checkpoint x.1 (checkpoints_of c past s))) (checkpoints_of c past s))
        pick true = descends_take 3 (insert_checkpoint x.1 (checkpoints_of c past s)) (descends_inserted x.1 (checkpoints_of c past s) h)
        pick false = h

pub few_checkpoints : (c : Configuration) (s : ℕ) (past : List Entry) → length (checkpoints_of c past s) ≤ 3
few_checkpoints c s [] = let none = ap (λ (xs : List CheckpointEntry). length xs) (no_checkpoints c s) in omega arith
few_checkpoints c s (e ∷ past) = subst (λ (xs : List CheckpointEntry). length xs ≤ 3) (sym (checkpoints_with c e past s)) (go (checkpoint_in c e) (few_checkpoints c s past))
  where
    go : (o : Option (ℕ × CheckpointEntry)) → length (checkpoints_of c past s) ≤ 3 → length (with_checkpoint s o (checkpoints_of c past s)) ≤ 3
    go None h = h
    go (Some x) h = pick (x.0 == s)
      where
        pick : (b : Bool) → length (cond b (take 3 (insert_checkpoint x.1 (checkpoints_of c past s))) (checkpoints_of c past s)) ≤ 3
        pick true = few_take 3 (insert_checkpoint x.1 (checkpoints_of c past s))
        pick false = h

-- one more of a number that is there changes nothing
pub known_checkpoint : (c : Configuration) (s : ℕ) (checkpoint : CheckpointEntry) (e : Entry) (past : List Entry) → checkpoint_in c e ≡ Some (s, checkpoint)
    → Has (λ (m : CheckpointEntry). m.number ≡ checkpoint.number) (checkpoints_of c past s) → checkpoints_of c (e ∷ past) s ≡ checkpoints_of c past s
known_checkpoint c s checkpoint e past is has =
    checkpoints_with c e past s ∙ ap (λ (o : Option (ℕ × CheckpointEntry)). with_checkpoint s o (checkpoints_of c past s)) is
    ∙ ap (λ (b : Bool). cond b (take 3 (insert_checkpoint checkpoint (checkpoints_of c past s))) (checkpoints_of c past s)) (eq-eqb s s refl)
    ∙ ap (λ (xs : List CheckpointEntry). take 3 xs) (unchanged checkpoint (checkpoints_of c past s) (descends_of c s past) has)
    ∙ all_taken 3 (checkpoints_of c past s) (few_checkpoints c s past)
