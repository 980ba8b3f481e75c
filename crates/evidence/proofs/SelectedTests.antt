-- The tests of the rules of a new view hold exactly where their relations do.
use Rattle.std.specs.List.{list_all, list_any, AllPairs, All}
use Rattle.std.proofs.Common.{◌≡◌, ℕ, zero, suc, not, ◌≤◌, ◌<◌, ◌⊎◌, inl, inr, Bool, true, false, List, [], ◌∷◌, bytes_eq, refl, ap, ◌∙◌, arith, ◌&&◌, ◌||◌, eqb-true, eq-eqb}
use Rattle.std.specs.Prelude.{◌==◌, nat_le, nat_lt}
use Rattle.std.proofs.lemmas.Bool.{and_from, or_left, or_right, le-leb, lt-ltb}
use Rattle.std.proofs.lemmas.Slice.Eq.{bytes_eq-Decides}
use Rattle.std.proofs.lemmas.List.Kept.{AllPairs-cons}
use Rattle.quorum.proofs.Counting.{count_mono}
use Rattle.protocol.specs.System.Configuration.{Configuration, replicas}
use Rattle.wire_format.specs.Messages.{ViewChangeData, CheckpointEntryData as CheckpointEntry, BatchEntryData as BatchEntry}
use Rattle.protocol.specs.System.Trace.{Has}
use Rattle.protocol.specs.Replica.Selection.{passes_by, count_in, agrees, vouches, ascending}
use Rattle.evidence.specs.Refused.{SoManyHave, SaysNothingAgainst, SaysForIt, SaysNothing}
use Rattle.protocol.proofs.Words.Elements.{all_where, any_of_has, has_weaker}
use Rattle.protocol.proofs.Words.Lists.{later, first_less, change_of}

-- ---- the order of the senders

above_first : (x : ℕ × ViewChangeData) (xs : List (ℕ × ViewChangeData)) → ascending (x ∷ xs) ≡ true → All (λ y. x.0 < y.0) xs
above_first x [] h k d l = absurd (omega arith)
above_first x (y ∷ ys) h zero d l = first_less x y ys h
above_first x (y ∷ ys) h (suc k) d l =
    let first = first_less x y ys h in
    let more = above_first y ys (later x (y ∷ ys) h) k d (omega arith) in
    omega arith

pub pairs_of_ascending : (xs : List (ℕ × ViewChangeData)) → ascending xs ≡ true → AllPairs (λ x y. x.0 < y.0) xs
pairs_of_ascending [] h = λ i j d less within. absurd (omega arith)
pairs_of_ascending (x ∷ xs) h = AllPairs-cons (λ x y. x.0 < y.0) x xs (above_first x xs h) (pairs_of_ascending xs (later x xs h))

pub ascending_of_pairs : (xs : List (ℕ × ViewChangeData)) → AllPairs (λ x y. x.0 < y.0) xs → ascending xs ≡ true
ascending_of_pairs [] h = refl
ascending_of_pairs (x ∷ []) h = refl
ascending_of_pairs (x ∷ y ∷ ys) h =
    and_from (nat_lt x.0 y.0) (ascending (y ∷ ys)) (lt-ltb x.0 y.0 (h 0 1 x (omega arith) (omega arith)))
    (ascending_of_pairs (y ∷ ys) (λ i j d less within. h (suc i) (suc j) d (omega arith) (omega arith)))

-- ---- how many replicas

pub count_of_have : (c : Configuration) (set : List (ℕ × ViewChangeData)) (count : ℕ) (test : ViewChangeData → Bool) (P : ViewChangeData → Type 0) → ((vc : ViewChangeData) → P vc → test vc ≡ true)
    → ascending set ≡ true → SoManyHave count c set P → count ≤ count_in c test set
count_of_have c set count test P f order have =
    let more = count_mono have.0 (passes_by test set) (replicas c) (λ s within h. passes s (have.2 s h)) in
    let enough = have.1 in
    omega arith
  where
    passes : (s : ℕ) → (vc : ViewChangeData) × Has (λ x. x ≡ (s, vc)) set × P vc → passes_by test set s ≡ true
    passes s x = rw (change_of set s x.0 order x.1) (f x.0 x.2)

-- ---- what a view change says of a number

pub agrees_of : (i w : ℕ) (digest : List ℕ) (vc : ViewChangeData) → SaysNothingAgainst i w digest vc → (nat_lt vc.low i && agrees i w digest vc) ≡ true
agrees_of i w digest vc h =
    and_from (nat_lt vc.low i) (agrees i w digest vc) (lt-ltb vc.low i h.0)
    (all_where (λ (batch_entry : BatchEntry). not (batch_entry.number == i) || nat_lt batch_entry.view w || ((batch_entry.view == w) && bytes_eq batch_entry.digest digest)) vc.prepared
    (λ batch_entry has. by batch_entry (batch_entry.number == i) refl (h.1 batch_entry has)))
  where
    by : (batch_entry : BatchEntry) (b : Bool) → (batch_entry.number == i) ≡ b → (batch_entry.number ≡ i → (batch_entry.view < w) ⊎ ((batch_entry.view ≡ w) × (batch_entry.digest ≡ digest)))
        → (not (batch_entry.number == i) || nat_lt batch_entry.view w || ((batch_entry.view == w) && bytes_eq batch_entry.digest digest)) ≡ true
    by batch_entry false e f = rw e refl
    by batch_entry true e f = pick (f (eqb-true batch_entry.number i e))
      where
        pick : (batch_entry.view < w) ⊎ ((batch_entry.view ≡ w) × (batch_entry.digest ≡ digest)) → (not (batch_entry.number == i) || nat_lt batch_entry.view w || ((batch_entry.view == w) && bytes_eq batch_entry.digest digest)) ≡ true
        pick (inl less) =
            or_left (not (batch_entry.number == i) || nat_lt batch_entry.view w) ((batch_entry.view == w) && bytes_eq batch_entry.digest digest)
            (or_right (not (batch_entry.number == i)) (nat_lt batch_entry.view w) (lt-ltb batch_entry.view w less))
        pick (inr same) =
            or_right (not (batch_entry.number == i) || nat_lt batch_entry.view w) ((batch_entry.view == w) && bytes_eq batch_entry.digest digest)
            (and_from (batch_entry.view == w) (bytes_eq batch_entry.digest digest) (eq-eqb batch_entry.view w same.0) ((bytes_eq-Decides batch_entry.digest digest).1 same.1))

pub vouches_of : (i w : ℕ) (digest : List ℕ) (vc : ViewChangeData) → SaysForIt i w digest vc → vouches i w digest vc ≡ true
vouches_of i w digest vc h =
    any_of_has (λ (batch_entry : BatchEntry). (batch_entry.number ≡ i) × (batch_entry.digest ≡ digest) × (w ≤ batch_entry.view)) (λ (batch_entry : BatchEntry). (batch_entry.number == i) && bytes_eq batch_entry.digest digest && nat_le w batch_entry.view)
    (λ batch_entry t.
    and_from ((batch_entry.number == i) && bytes_eq batch_entry.digest digest) (nat_le w batch_entry.view)
    (and_from (batch_entry.number == i) (bytes_eq batch_entry.digest digest) (eq-eqb batch_entry.number i t.0) ((bytes_eq-Decides batch_entry.digest digest).1 t.1))
    (le-leb w batch_entry.view t.2))
    vc.pre_prepared h

pub nothing_of : (i : ℕ) (vc : ViewChangeData) → SaysNothing i vc → (nat_lt vc.low i && list_all (λ (batch_entry : BatchEntry). not (batch_entry.number == i)) vc.prepared) ≡ true
nothing_of i vc h =
    and_from (nat_lt vc.low i) (list_all (λ (batch_entry : BatchEntry). not (batch_entry.number == i)) vc.prepared) (lt-ltb vc.low i h.0)
    (all_where (λ (batch_entry : BatchEntry). not (batch_entry.number == i)) vc.prepared (λ batch_entry has. by batch_entry (batch_entry.number == i) refl has))
  where
    by : (batch_entry : BatchEntry) (b : Bool) → (batch_entry.number == i) ≡ b → Has (λ x. x ≡ batch_entry) vc.prepared → not b ≡ true
    by batch_entry false e has = refl
    by batch_entry true e has =
        absurd (h.1 (has_weaker (λ x. x ≡ batch_entry) (λ (x : BatchEntry). x.number ≡ i) (λ x same. ap (λ (y : BatchEntry). y.number) same ∙ eqb-true batch_entry.number i e) vc.prepared has))

pub listed_of : (number : ℕ) (root : List ℕ) (vc : ViewChangeData) → Has (λ (checkpoint : CheckpointEntry). (checkpoint.number ≡ number) × (checkpoint.digest ≡ root)) vc.checkpoints
    → list_any (λ (checkpoint : CheckpointEntry). (checkpoint.number == number) && bytes_eq checkpoint.digest root) vc.checkpoints ≡ true
listed_of number root vc h =
    any_of_has (λ (checkpoint : CheckpointEntry). (checkpoint.number ≡ number) × (checkpoint.digest ≡ root)) (λ (checkpoint : CheckpointEntry). (checkpoint.number == number) && bytes_eq checkpoint.digest root)
    (λ checkpoint t. and_from (checkpoint.number == number) (bytes_eq checkpoint.digest root) (eq-eqb checkpoint.number number t.0) ((bytes_eq-Decides checkpoint.digest root).1 t.1))
    vc.checkpoints h
