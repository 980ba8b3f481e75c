-- A new view is selected exactly where it meets the rules.
use Rattle.std.specs.List.{list_all, list_any}
use Rattle.std.specs.Prelude.{◌==◌, nat_le, nat_lt, ⊤}
use Rattle.std.proofs.Common.{◌≡◌, ℕ, zero, suc, not, max, ◌+◌, ◌-◌, ◌*◌, ◌≤◌, ◌<◌, ◌⊎◌, inl, inr, Bool, true, false, cond, List, [], ◌∷◌, length, map, bytes_eq, slice_get, Option, Some, None, refl, sym, ap, ◌∙◌, subst, arith, ◌&&◌, eqb-true, eq-eqb}
use Rattle.std.proofs.lemmas.Bool.{and_parts, and_from, or_cases, or_left, or_right, le-leb, lt-ltb, leb-true, leb-false, ltb-true, ltb-false}
use Rattle.std.proofs.lemmas.Slice.Eq.{bytes_eq-Decides}
use Rattle.sha2.specs.Sha256.{sha256}
use Rattle.quorum.specs.Quorum.{count_below}
use Rattle.protocol.specs.System.Configuration.{Configuration, span}
use Rattle.wire_format.specs.Messages.{NewViewData, ViewChangeData, CheckpointEntryData as CheckpointEntry, BatchEntryData as BatchEntry}
use Rattle.protocol.specs.System.Trace.{Has}
use Rattle.protocol.specs.Replica.Selection.{is_quorum, is_weak_quorum, signed_change, changes_of, list_of, count_in, ascending, is_within, is_start, agrees, vouches, may_stand_at, may_be_null, null_batch, is_null, may_stand, may_all_stand, largest, largest_of, how_many_batches, may_select}
use Rattle.evidence.specs.Refused.{SaysNothingAgainst, SaysForIt, SaysNothing}
use Rattle.evidence.specs.Selected.{AreSigned, SomePrepared, MayStand, IsSelected, NewViewsMeetTheRules}
use Rattle.protocol.proofs.Words.Lists.{largest_ge, stands_at, some_below, no_longer}
use Rattle.protocol.proofs.Agreement.Marks.{Selects, selects, largest_of-le}
use Rattle.evidence.proofs.Refusing.{have_of_count, says_nothing_against, says_for_it, says_nothing}
use Rattle.evidence.proofs.RefusingMarksSelected.{spelled, lists}
use Rattle.evidence.proofs.SelectedTests.{pairs_of_ascending, ascending_of_pairs, count_of_have, agrees_of, vouches_of, nothing_of, listed_of}
use Rattle.protocol.proofs.Words.Elements.{all_of_each, each_of_all}
use Rattle.std.proofs.lemmas.List.{length-map}
use Rattle.protocol.specs.Laws.Bounds.{IsBounded}
use Rattle.protocol.proofs.Words.Bounds.{bounded, within_of_bounded}

-- ---- carried view changes

are_signed : (c : Configuration) (frames : List (List ℕ)) → length (list_of (map (signed_change c) frames)) ≡ length frames → AreSigned c frames (list_of (map (signed_change c) frames))
are_signed c [] long = tt
are_signed c (frame ∷ frames) long = go (signed_change c frame) refl long (are_signed c frames)
  where
    go : (o : Option (ℕ × ViewChangeData)) → signed_change c frame ≡ o → length (list_of (o ∷ map (signed_change c) frames)) ≡ suc (length frames)
        → (length (list_of (map (signed_change c) frames)) ≡ length frames → AreSigned c frames (list_of (map (signed_change c) frames)))
        → AreSigned c (frame ∷ frames) (list_of (o ∷ map (signed_change c) frames))
    go None is long below =
        let most = no_longer (map (signed_change c) frames) in
        let same = length-map frames (signed_change c) in
        absurd (omega arith)
    go (Some x) is long below = (spelled c frame x is, below (omega arith))

pub changes_are : (c : Configuration) (frames : List (List ℕ)) (set : List (ℕ × ViewChangeData)) → AreSigned c frames set → list_of (map (signed_change c) frames) ≡ set
changes_are c [] [] h = refl
changes_are c [] (x ∷ xs) h = absurd h
changes_are c (frame ∷ frames) [] h = absurd h
changes_are c (frame ∷ frames) (x ∷ xs) h =
    let spells : signed_change c frame ≡ Some x = rw h.0 refl in
    rw spells (ap (λ (ys : List (ℕ × ViewChangeData)). x ∷ ys) (changes_are c frames xs h.1))

as_long : (c : Configuration) (frames : List (List ℕ)) (set : List (ℕ × ViewChangeData)) → AreSigned c frames set → length set ≡ length frames
as_long c [] [] h = refl
as_long c [] (x ∷ xs) h = absurd h
as_long c (frame ∷ frames) [] h = absurd h
as_long c (frame ∷ frames) (x ∷ xs) h = ap suc (as_long c frames xs h.1)

-- ---- how many batches

prepared_ge : (limit i : ℕ) (set : List (ℕ × ViewChangeData)) → SomePrepared set i → i ≤ limit → i ≤ largest_of limit set
prepared_ge limit i [] h l = absurd h
prepared_ge limit i (x ∷ xs) (inl h) l = let r = largest_ge limit i x.1.prepared h l in omega arith
prepared_ge limit i (x ∷ xs) (inr h) l = let r = prepared_ge limit i xs h l in omega arith

largest_has : (limit : ℕ) (batch_entries : List BatchEntry) → 0 < largest limit batch_entries → Has (λ (batch_entry : BatchEntry). batch_entry.number ≡ largest limit batch_entries) batch_entries
largest_has limit [] some = absurd (omega arith)
largest_has limit (batch_entry ∷ batch_entries) some = go (nat_le batch_entry.number limit) some (largest_has limit batch_entries)
  where
    larger : (b : Bool) → nat_le batch_entry.number (largest limit batch_entries) ≡ b → (0 < largest limit batch_entries → Has (λ (x : BatchEntry). x.number ≡ largest limit batch_entries) batch_entries) → 0 < max batch_entry.number (largest limit batch_entries)
        → Has (λ (x : BatchEntry). x.number ≡ max batch_entry.number (largest limit batch_entries)) (batch_entry ∷ batch_entries)
    larger true e below some =
        let le = leb-true batch_entry.number (largest limit batch_entries) e in
        inr (subst (λ m. Has (λ (x : BatchEntry). x.number ≡ m) batch_entries) (omega arith) (below (omega arith)))
    larger false e below some =
        let gt = leb-false batch_entry.number (largest limit batch_entries) e in
        inl (omega arith)

    go : (b : Bool) → 0 < cond b (max batch_entry.number (largest limit batch_entries)) (largest limit batch_entries)
        → (0 < largest limit batch_entries → Has (λ (x : BatchEntry). x.number ≡ largest limit batch_entries) batch_entries)
        → Has (λ (x : BatchEntry). x.number ≡ cond b (max batch_entry.number (largest limit batch_entries)) (largest limit batch_entries)) (batch_entry ∷ batch_entries)
    go true some below = larger (nat_le batch_entry.number (largest limit batch_entries)) refl below some
    go false some below = inr (below some)

-- the largest number is prepared
largest_of-prepared : (limit : ℕ) (set : List (ℕ × ViewChangeData)) → 0 < largest_of limit set → SomePrepared set (largest_of limit set)
largest_of-prepared limit [] some = absurd (omega arith)
largest_of-prepared limit (x ∷ xs) some =
    go (nat_le (largest limit x.1.prepared) (largest_of limit xs)) refl (largest_of-prepared limit xs)
  where
    go : (b : Bool) → nat_le (largest limit x.1.prepared) (largest_of limit xs) ≡ b → (0 < largest_of limit xs → SomePrepared xs (largest_of limit xs))
        → SomePrepared (x ∷ xs) (max (largest limit x.1.prepared) (largest_of limit xs))
    go true e below =
        let le = leb-true (largest limit x.1.prepared) (largest_of limit xs) e in
        inr (subst (λ m. SomePrepared xs m) (omega arith) (below (omega arith)))
    go false e below =
        let gt = leb-false (largest limit x.1.prepared) (largest_of limit xs) e in
        let is : largest limit x.1.prepared ≡ max (largest limit x.1.prepared) (largest_of limit xs) = omega arith in
        inl (subst (λ m. Has (λ (batch_entry : BatchEntry). batch_entry.number ≡ m) x.1.prepared) is (largest_has limit x.1.prepared (omega arith)))

filled : (c : Configuration) (set : List (ℕ × ViewChangeData)) (start : ℕ) (batches : List (List ℕ)) → length batches ≡ max (largest_of (start + span c) set) start - start
    → (i : ℕ) → SomePrepared set i → i ≤ start + 2 * c.period → i ≤ start + length batches
filled c set start batches long i prepared within = let r = prepared_ge (start + span c) i set prepared within in omega arith

ends : (c : Configuration) (set : List (ℕ × ViewChangeData)) (start : ℕ) (batches : List (List ℕ)) → length batches ≡ max (largest_of (start + span c) set) start - start
    → (batches ≡ []) ⊎ (SomePrepared set (start + length batches) × (length batches ≤ 2 * c.period))
ends c set start [] long = inl refl
ends c set start (batch ∷ batches) long =
    let most = largest_of-le (start + span c) set in
    inr (subst (λ m. SomePrepared set m) (omega arith) (largest_of-prepared (start + span c) set (omega arith)), omega arith)

long_enough : (c : Configuration) (set : List (ℕ × ViewChangeData)) (start : ℕ) (batches : List (List ℕ))
    → ((i : ℕ) → SomePrepared set i → i ≤ start + 2 * c.period → i ≤ start + length batches)
    → (batches ≡ []) ⊎ (SomePrepared set (start + length batches) × (length batches ≤ 2 * c.period))
    → length batches ≡ max (largest_of (start + span c) set) start - start
long_enough c set start batches fill end = go (most (nat_lt 0 (largest_of (start + span c) set)) refl) end
  where
    most : (b : Bool) → nat_lt 0 (largest_of (start + span c) set) ≡ b → largest_of (start + span c) set ≤ start + length batches
    most true e = fill (largest_of (start + span c) set) (largest_of-prepared (start + span c) set (ltb-true 0 (largest_of (start + span c) set) e)) (largest_of-le (start + span c) set)
    most false e = let z = ltb-false 0 (largest_of (start + span c) set) e in omega arith

    go : largest_of (start + span c) set ≤ start + length batches → (batches ≡ []) ⊎ (SomePrepared set (start + length batches) × (length batches ≤ 2 * c.period))
        → length batches ≡ max (largest_of (start + span c) set) start - start
    go le (inl none) = let zero_is : length batches ≡ 0 = ap length none in omega arith
    go le (inr end) = let ge = prepared_ge (start + span c) (start + length batches) set end.0 (omega arith) in omega arith

-- ---- the batches

may_stand_of : (c : Configuration) (view : ℕ) (set : List (ℕ × ViewChangeData)) (i : ℕ) (batch : List ℕ) → may_stand c view set i batch ≡ true → MayStand c view set i batch
may_stand_of c view set i batch h =
    by (or_cases (nat_lt 0 (count_below (may_stand_at c set i (sha256 batch)) view)) (is_null batch && may_be_null c set i) h)
  where
    by : (nat_lt 0 (count_below (may_stand_at c set i (sha256 batch)) view) ≡ true) ⊎ ((is_null batch && may_be_null c set i) ≡ true) → MayStand c view set i batch
    by (inl k) =
        let x = some_below (may_stand_at c set i (sha256 batch)) view k in
        let rules = and_parts (is_quorum c (count_in c (λ vc. nat_lt vc.low i && agrees i x.0 (sha256 batch) vc) set)) (is_weak_quorum c (count_in c (vouches i x.0 (sha256 batch)) set)) x.2 in
        inl (
          x.0,
          x.1,
          have_of_count c set (2 * c.faults + 1) (λ vc. nat_lt vc.low i && agrees i x.0 (sha256 batch) vc) (SaysNothingAgainst i x.0 (sha256 batch)) (says_nothing_against i x.0 (sha256 batch))
              (leb-true (2 * c.faults + 1) (count_in c (λ vc. nat_lt vc.low i && agrees i x.0 (sha256 batch) vc) set) rules.0),
          have_of_count c set (c.faults + 1) (vouches i x.0 (sha256 batch)) (SaysForIt i x.0 (sha256 batch)) (says_for_it i x.0 (sha256 batch))
              (leb-true (c.faults + 1) (count_in c (vouches i x.0 (sha256 batch)) set) rules.1),
        )
    by (inr k) =
        let p = and_parts (is_null batch) (may_be_null c set i) k in
        inr (
          (bytes_eq-Decides batch null_batch).0 p.0,
          have_of_count c set (2 * c.faults + 1) (λ vc. nat_lt vc.low i && list_all (λ (batch_entry : BatchEntry). not (batch_entry.number == i)) vc.prepared) (SaysNothing i) (says_nothing i)
              (leb-true (2 * c.faults + 1) (count_in c (λ vc. nat_lt vc.low i && list_all (λ (batch_entry : BatchEntry). not (batch_entry.number == i)) vc.prepared) set) p.1),
        )

below_some : (test : ℕ → Bool) (n k : ℕ) → k < n → test k ≡ true → 0 < count_below test n
below_some test zero k less h = absurd (omega arith)
below_some test (suc n) k less h = go (test n) refl (below_some test n k)
  where
    go : (b : Bool) → test n ≡ b → (k < n → test k ≡ true → 0 < count_below test n) → 0 < cond b (suc (count_below test n)) (count_below test n)
    go true e below = omega arith
    go false e below = pick (nat_lt k n) refl
      where
        pick : (b : Bool) → nat_lt k n ≡ b → 0 < count_below test n
        pick true lt = below (ltb-true k n lt) h
        pick false ge =
            let more = ltb-false k n ge in
            absurd (let f : true ≡ false = sym h ∙ ap test (omega arith) ∙ e in cc)

of_may_stand : (c : Configuration) (view : ℕ) (set : List (ℕ × ViewChangeData)) (i : ℕ) (batch : List ℕ) → ascending set ≡ true → MayStand c view set i batch → may_stand c view set i batch ≡ true
of_may_stand c view set i batch order (inl h) =
    or_left (nat_lt 0 (count_below (may_stand_at c set i (sha256 batch)) view)) (is_null batch && may_be_null c set i)
    (lt-ltb 0 (count_below (may_stand_at c set i (sha256 batch)) view) (below_some (may_stand_at c set i (sha256 batch)) view h.0 h.1
    (and_from (is_quorum c (count_in c (λ vc. nat_lt vc.low i && agrees i h.0 (sha256 batch) vc) set)) (is_weak_quorum c (count_in c (vouches i h.0 (sha256 batch)) set))
    (le-leb (2 * c.faults + 1) (count_in c (λ vc. nat_lt vc.low i && agrees i h.0 (sha256 batch) vc) set)
    (count_of_have c set (2 * c.faults + 1) (λ vc. nat_lt vc.low i && agrees i h.0 (sha256 batch) vc) (SaysNothingAgainst i h.0 (sha256 batch)) (agrees_of i h.0 (sha256 batch)) order h.2))
    (le-leb (c.faults + 1) (count_in c (vouches i h.0 (sha256 batch)) set)
    (count_of_have c set (c.faults + 1) (vouches i h.0 (sha256 batch)) (SaysForIt i h.0 (sha256 batch)) (vouches_of i h.0 (sha256 batch)) order h.3)))))
of_may_stand c view set i batch order (inr h) =
    or_right (nat_lt 0 (count_below (may_stand_at c set i (sha256 batch)) view)) (is_null batch && may_be_null c set i)
    (and_from (is_null batch) (may_be_null c set i) ((bytes_eq-Decides batch null_batch).1 h.0)
    (le-leb (2 * c.faults + 1) (count_in c (λ vc. nat_lt vc.low i && list_all (λ (batch_entry : BatchEntry). not (batch_entry.number == i)) vc.prepared) set)
    (count_of_have c set (2 * c.faults + 1) (λ vc. nat_lt vc.low i && list_all (λ (batch_entry : BatchEntry). not (batch_entry.number == i)) vc.prepared) (SaysNothing i) (nothing_of i) order h.1)))

all_stand : (c : Configuration) (view : ℕ) (set : List (ℕ × ViewChangeData)) (first : ℕ) (batches : List (List ℕ))
    → ((k : ℕ) (batch : List ℕ) → slice_get batches k ≡ Some batch → may_stand c view set (first + k) batch ≡ true) → may_all_stand c view set first batches ≡ true
all_stand c view set first [] h = refl
all_stand c view set first (batch ∷ batches) h =
    and_from (may_stand c view set first batch) (may_all_stand c view set (suc first) batches)
    (let place : first + 0 ≡ first = omega arith in
    subst (λ i. may_stand c view set i batch ≡ true) place (h 0 batch refl))
    (all_stand c view set (suc first) batches (λ k other get.
    subst (λ i. may_stand c view set i other ≡ true) (omega arith) (h (suc k) other get)))

-- ---- the rules, together

meets : (c : Configuration) (new : NewViewData) → may_select c new ≡ true → IsSelected c new
meets c new h = record {
  set = changes_of c new;
  signed = are_signed c new.changes (eqb-true (length (changes_of c new)) (length new.changes) s.signed);
  ascending = pairs_of_ascending (changes_of c new) s.in_order;
  enough = have_of_count c (changes_of c new) (2 * c.faults + 1) (λ vc. true) (λ vc. ⊤) (λ vc t. tt) (leb-true (2 * c.faults + 1) (count_in c (λ vc. true) (changes_of c new)) s.enough);
  within = each_of_all (λ (x : ℕ × ViewChangeData). (x.1.view ≡ new.view) × IsBounded c x.1) (λ (x : ℕ × ViewChangeData). (x.1.view == new.view) && is_within c x.1)
      (λ x t. let p = and_parts (x.1.view == new.view) (is_within c x.1) t in (eqb-true x.1.view new.view p.0, bounded c x.1 p.1)) (changes_of c new) s.each;
  started = have_of_count c (changes_of c new) (2 * c.faults + 1) (λ vc. nat_le vc.low new.start) (λ vc. vc.low ≤ new.start) (λ vc t. leb-true vc.low new.start t)
      (leb-true (2 * c.faults + 1) (count_in c (λ vc. nat_le vc.low new.start) (changes_of c new)) start.0);
  listed = have_of_count c (changes_of c new) (c.faults + 1) (λ vc. list_any (λ (checkpoint : CheckpointEntry). (checkpoint.number == new.start) && bytes_eq checkpoint.digest new.root) vc.checkpoints)
      (λ vc. Has (λ (checkpoint : CheckpointEntry). (checkpoint.number ≡ new.start) × (checkpoint.digest ≡ new.root)) vc.checkpoints) (lists new)
      (leb-true (c.faults + 1) (count_in c (λ vc. list_any (λ (checkpoint : CheckpointEntry). (checkpoint.number == new.start) && bytes_eq checkpoint.digest new.root) vc.checkpoints) (changes_of c new)) start.1);
  filled = filled c (changes_of c new) new.start new.batches long;
  ends = ends c (changes_of c new) new.start new.batches long;
  stands = λ k batch get. may_stand_of c new.view (changes_of c new) (suc new.start + k) batch
      (stands_at c new.view (changes_of c new) (suc new.start) new.batches k batch s.stand get (suc new.start + k) refl);
}
  where
    s : Selects c new
    s = selects c new h

    long : length new.batches ≡ how_many_batches c new
    long = eqb-true (length new.batches) (how_many_batches c new) s.long

    start : (is_quorum c (count_in c (λ vc. nat_le vc.low new.start) (changes_of c new)) ≡ true)
        × (is_weak_quorum c (count_in c (λ vc. list_any (λ (checkpoint : CheckpointEntry). (checkpoint.number == new.start) && bytes_eq checkpoint.digest new.root) vc.checkpoints) (changes_of c new)) ≡ true)
    start = and_parts (is_quorum c (count_in c (λ vc. nat_le vc.low new.start) (changes_of c new)))
        (is_weak_quorum c (count_in c (λ vc. list_any (λ (checkpoint : CheckpointEntry). (checkpoint.number == new.start) && bytes_eq checkpoint.digest new.root) vc.checkpoints) (changes_of c new))) s.start

-- the rules, one by one, over the set that the frames spell
all_rules : (c : Configuration) (new : NewViewData) → Selects c new → may_select c new ≡ true
unfolding may_select
all_rules c new s =
    and_from _ (may_all_stand c new.view (changes_of c new) (suc new.start) new.batches)
    (and_from _ (length new.batches == how_many_batches c new)
    (and_from _ (is_start c (changes_of c new) new.start new.root)
    (and_from _ (list_all (λ x. (x.1.view == new.view) && is_within c x.1) (changes_of c new))
    (and_from _ (ascending (changes_of c new))
    (and_from (length (changes_of c new) == length new.changes) (is_quorum c (count_in c (λ vc. true) (changes_of c new))) s.signed s.enough)
    s.in_order) s.each) s.start) s.long) s.stand

selects_of : (c : Configuration) (new : NewViewData) (r : IsSelected c new) → changes_of c new ≡ r.set → Selects c new
selects_of c new r is = record {
  signed = eq-eqb (length (changes_of c new)) (length new.changes) (ap length is ∙ as_long c new.changes r.set r.signed);
  enough = subst (λ (set : List (ℕ × ViewChangeData)). is_quorum c (count_in c (λ vc. true) set) ≡ true) (sym is)
      (le-leb (2 * c.faults + 1) (count_in c (λ vc. true) r.set) (count_of_have c r.set (2 * c.faults + 1) (λ vc. true) (λ vc. ⊤) (λ vc t. refl) order r.enough));
  in_order = subst (λ (set : List (ℕ × ViewChangeData)). ascending set ≡ true) (sym is) order;
  each = subst (λ (set : List (ℕ × ViewChangeData)). list_all (λ x. (x.1.view == new.view) && is_within c x.1) set ≡ true) (sym is)
      (all_of_each (λ (x : ℕ × ViewChangeData). (x.1.view ≡ new.view) × IsBounded c x.1) (λ (x : ℕ × ViewChangeData). (x.1.view == new.view) && is_within c x.1)
      (λ x t. and_from (x.1.view == new.view) (is_within c x.1) (eq-eqb x.1.view new.view t.0) (within_of_bounded c x.1 t.1)) r.set r.within);
  start = subst (λ (set : List (ℕ × ViewChangeData)). is_start c set new.start new.root ≡ true) (sym is)
      (and_from (is_quorum c (count_in c (λ vc. nat_le vc.low new.start) r.set))
      (is_weak_quorum c (count_in c (λ vc. list_any (λ (checkpoint : CheckpointEntry). (checkpoint.number == new.start) && bytes_eq checkpoint.digest new.root) vc.checkpoints) r.set))
      (le-leb (2 * c.faults + 1) (count_in c (λ vc. nat_le vc.low new.start) r.set)
      (count_of_have c r.set (2 * c.faults + 1) (λ vc. nat_le vc.low new.start) (λ vc. vc.low ≤ new.start) (λ vc t. le-leb vc.low new.start t) order r.started))
      (le-leb (c.faults + 1) (count_in c (λ vc. list_any (λ (checkpoint : CheckpointEntry). (checkpoint.number == new.start) && bytes_eq checkpoint.digest new.root) vc.checkpoints) r.set)
      (count_of_have c r.set (c.faults + 1) (λ vc. list_any (λ (checkpoint : CheckpointEntry). (checkpoint.number == new.start) && bytes_eq checkpoint.digest new.root) vc.checkpoints)
      (λ vc. Has (λ (checkpoint : CheckpointEntry). (checkpoint.number ≡ new.start) × (checkpoint.digest ≡ new.root)) vc.checkpoints) (listed_of new.start new.root) order r.listed)));
  long = eq-eqb (length new.batches) (how_many_batches c new)
      (subst (λ (set : List (ℕ × ViewChangeData)). length new.batches ≡ max (largest_of (new.start + span c) set) new.start - new.start) (sym is)
      (long_enough c r.set new.start new.batches r.filled r.ends));
  stand = subst (λ (set : List (ℕ × ViewChangeData)). may_all_stand c new.view set (suc new.start) new.batches ≡ true) (sym is)
      (all_stand c new.view r.set (suc new.start) new.batches (λ k batch get. of_may_stand c new.view r.set (suc new.start + k) batch order (r.stands k batch get)));
}
  where
    order : ascending r.set ≡ true
    order = ascending_of_pairs r.set r.ascending

pub new_views_meet_the_rules : NewViewsMeetTheRules
new_views_meet_the_rules c new = (meets c new, λ r. all_rules c new (selects_of c new r (changes_are c new.changes r.set r.signed)))
