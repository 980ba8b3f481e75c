-- Laws of the words on lists that the rules of a new view use.
use Rattle.std.proofs.Common.{◌≡◌, ℕ, zero, suc, ◌+◌, ◌≤◌, ◌<◌, inl, inr, Bool, true, false, cond, max, List, [], ◌∷◌, length, slice_get, Option, Some, None, refl, sym, ap, ap₂, subst, arith, eqb-true, eq-eqb}
use Rattle.std.specs.Prelude.{◌==◌, nat_lt, nat_le}
use Rattle.std.specs.Option.{option_map_or}
use Rattle.std.proofs.lemmas.Bool.{and_parts, le-leb, ltb-true, ne_eqb}
use Rattle.quorum.proofs.Counting.{some_more}
use Rattle.quorum.specs.Quorum.{count_below}
use Rattle.protocol.specs.System.Configuration.{Configuration}
use Rattle.wire_format.specs.Messages.{ViewChangeData, BatchEntryData as BatchEntry}
use Rattle.std.specs.List.{list_all}
use Rattle.protocol.specs.Replica.Selection.{change_by, passes_by, largest, largest_of, may_stand, may_all_stand, ascending, list_of}
use Rattle.protocol.specs.System.Trace.{Has}

pub every_change : (test : ViewChangeData → Bool) (set : List (ℕ × ViewChangeData)) (s : ℕ) (vc : ViewChangeData) → list_all (λ x. test x.1) set ≡ true → change_by set s ≡ Some vc → test vc ≡ true
every_change test [] s vc e h = absurd cc
every_change test (x ∷ xs) s vc e h =
    let parts = and_parts (test x.1) (list_all (λ x. test x.1) xs) e in
    go (x.0 == s) h parts.0 (every_change test xs s vc parts.1)
  where
    go : (b : Bool) → cond b (Some x.1) (change_by xs s) ≡ Some vc → test x.1 ≡ true → (change_by xs s ≡ Some vc → test vc ≡ true) → test vc ≡ true
    go true k here below = subst (λ z. test z ≡ true) (let i : x.1 ≡ vc = cc in i) here
    go false k here below = below k

pub passes_change : (test : ViewChangeData → Bool) (set : List (ℕ × ViewChangeData)) (s : ℕ) → passes_by test set s ≡ true → (vc : ViewChangeData) × (change_by set s ≡ Some vc) × (test vc ≡ true)
passes_change test set s h = go (change_by set s) h
  where
    go : (o : Option ViewChangeData) → option_map_or test o false ≡ true → (vc : ViewChangeData) × (o ≡ Some vc) × (test vc ≡ true)
    go None k = absurd cc
    go (Some vc) k = (vc, refl, k)

pub largest_ge : (limit i : ℕ) (batch_entries : List BatchEntry) → Has (λ x. x.number ≡ i) batch_entries → i ≤ limit → i ≤ largest limit batch_entries
largest_ge limit i [] h l = absurd h
largest_ge limit i (batch_entry ∷ batch_entries) (inl h) l =
    let le : batch_entry.number ≤ limit = omega arith in
    let test : nat_le batch_entry.number limit ≡ true = le-leb batch_entry.number limit le in
    rw test (omega arith)
largest_ge limit i (batch_entry ∷ batch_entries) (inr h) l = go (nat_le batch_entry.number limit) (largest_ge limit i batch_entries h l)
  where
    go : (b : Bool) → i ≤ largest limit batch_entries → i ≤ cond b (max batch_entry.number (largest limit batch_entries)) (largest limit batch_entries)
    go true k = omega arith
    go false k = k

pub largest_of-ge : (limit i s : ℕ) (set : List (ℕ × ViewChangeData)) (vc : ViewChangeData) → change_by set s ≡ Some vc → Has (λ x. x.number ≡ i) vc.prepared → i ≤ limit → i ≤ largest_of limit set
largest_of-ge limit i s [] vc is h l = absurd cc
largest_of-ge limit i s (x ∷ xs) vc is h l = go (x.0 == s) is (largest_of-ge limit i s xs vc)
  where
    go : (b : Bool) → cond b (Some x.1) (change_by xs s) ≡ Some vc → (change_by xs s ≡ Some vc → Has (λ x. x.number ≡ i) vc.prepared → i ≤ limit → i ≤ largest_of limit xs)
        → i ≤ max (largest limit x.1.prepared) (largest_of limit xs)
    go true k below =
        let same : x.1 ≡ vc = cc in
        let r = largest_ge limit i x.1.prepared (subst (λ (z : ViewChangeData). Has (λ x. x.number ≡ i) z.prepared) (sym same) h) l in omega arith
    go false k below = let r = below k h l in omega arith

-- the same over each member
pub largest_of-has : (limit i s : ℕ) (set : List (ℕ × ViewChangeData)) (vc : ViewChangeData) → Has (λ x. x ≡ (s, vc)) set → Has (λ x. x.number ≡ i) vc.prepared → i ≤ limit → i ≤ largest_of limit set
largest_of-has limit i s [] vc is h l = absurd is
largest_of-has limit i s (x ∷ xs) vc (inl is) h l =
    let r = largest_ge limit i x.1.prepared (subst (λ (z : ℕ × ViewChangeData). Has (λ x. x.number ≡ i) z.1.prepared) (sym is) h) l in omega arith
largest_of-has limit i s (x ∷ xs) vc (inr is) h l = let r = largest_of-has limit i s xs vc is h l in omega arith

pub change_there : (set : List (ℕ × ViewChangeData)) (s : ℕ) (vc : ViewChangeData) → change_by set s ≡ Some vc → Has (λ x. x ≡ (s, vc)) set
change_there [] s vc h = absurd cc
change_there (x ∷ xs) s vc h = go (x.0 == s) refl h (change_there xs s vc)
  where
    go : (b : Bool) → (x.0 == s) ≡ b → cond b (Some x.1) (change_by xs s) ≡ Some vc → (change_by xs s ≡ Some vc → Has (λ x. x ≡ (s, vc)) xs) → Has (λ x. x ≡ (s, vc)) (x ∷ xs)
    go true own k below =
        let i : x.1 ≡ vc = cc in
        let n : x.0 ≡ s = eqb-true x.0 s own in
        inl (ap₂ (λ (m : ℕ) (y : ViewChangeData). let r : ℕ × ViewChangeData = (m, y) in r) n i)
    go false own k below = inr (below k)

pub get_there : (xs : List (List ℕ)) (k : ℕ) → k < length xs → (x : List ℕ) × (slice_get xs k ≡ Some x)
get_there [] k l = absurd (omega arith)
get_there (y ∷ ys) zero l = (y, refl)
get_there (y ∷ ys) (suc k) l = let m : k < length ys = omega arith in get_there ys k m

pub stands_at : (c : Configuration) (view : ℕ) (set : List (ℕ × ViewChangeData)) (first : ℕ) (batches : List (List ℕ)) (k : ℕ) (batch : List ℕ)
    → may_all_stand c view set first batches ≡ true → slice_get batches k ≡ Some batch → (i : ℕ) → i ≡ first + k → may_stand c view set i batch ≡ true
stands_at c view set first [] k batch h g i is = absurd cc
stands_at c view set first (x ∷ xs) zero batch h g i is =
    let p = and_parts (may_stand c view set first x) (may_all_stand c view set (suc first) xs) h in
    let e : x ≡ batch = cc in
    let n : first ≡ i = omega arith in
    subst (λ m. may_stand c view set m batch ≡ true) n (subst (λ y. may_stand c view set first y ≡ true) e p.0)
stands_at c view set first (x ∷ xs) (suc k) batch h g i is =
    let p = and_parts (may_stand c view set first x) (may_all_stand c view set (suc first) xs) h in
    let n : i ≡ suc first + k = omega arith in
    stands_at c view set (suc first) xs k batch p.1 g i n

pub none_pass : (n : ℕ) → count_below (λ x. false) n ≡ 0
none_pass zero = refl
none_pass (suc n) = none_pass n

pub some_below : (test : ℕ → Bool) (n : ℕ) → nat_lt 0 (count_below test n) ≡ true → (k : ℕ) × (k < n) × (test k ≡ true)
some_below test n h =
    let some : 0 < count_below test n = ltb-true 0 (count_below test n) h in
    let zero_is = none_pass n in
    let more : count_below (λ x. false) n < count_below test n = omega arith in
    let r = some_more test (λ x. false) n more in
    (r.0, r.1, r.3)

-- ---- the order of the senders

pub later : (x : ℕ × ViewChangeData) (xs : List (ℕ × ViewChangeData)) → ascending (x ∷ xs) ≡ true → ascending xs ≡ true
later x [] h = refl
later x (y ∷ ys) h = (and_parts (nat_lt x.0 y.0) (ascending (y ∷ ys)) h).1

pub first_less : (x y : ℕ × ViewChangeData) (ys : List (ℕ × ViewChangeData)) → ascending (x ∷ y ∷ ys) ≡ true → x.0 < y.0
first_less x y ys h = ltb-true x.0 y.0 (and_parts (nat_lt x.0 y.0) (ascending (y ∷ ys)) h).0

pub below_rest : (x : ℕ × ViewChangeData) (xs : List (ℕ × ViewChangeData)) (s : ℕ) (vc : ViewChangeData) → ascending (x ∷ xs) ≡ true → Has (λ y. y ≡ (s, vc)) xs → x.0 < s
below_rest x [] s vc h has = absurd has
below_rest x (y ∷ ys) s vc h (inl same) = subst (λ (z : ℕ × ViewChangeData). x.0 < z.0) same (first_less x y ys h)
below_rest x (y ∷ ys) s vc h (inr rest) =
    let first = first_less x y ys h in
    let more = below_rest y ys s vc (later x (y ∷ ys) h) rest in
    omega arith

-- a replica's view change in the set is the first of its view changes there
pub change_of : (xs : List (ℕ × ViewChangeData)) (s : ℕ) (vc : ViewChangeData) → ascending xs ≡ true → Has (λ y. y ≡ (s, vc)) xs → change_by xs s ≡ Some vc
change_of [] s vc h has = absurd has
change_of (x ∷ xs) s vc h (inl same) =
    let own : (x.0 == s) ≡ true = eq-eqb x.0 s (ap (λ (z : ℕ × ViewChangeData). z.0) same) in
    rw own (ap (λ (z : ℕ × ViewChangeData). Some z.1) same)
change_of (x ∷ xs) s vc h (inr rest) =
    let less = below_rest x xs s vc h rest in
    let other : (x.0 == s) ≡ false = ne_eqb x.0 s (λ e. absurd (omega arith)) in
    rw other (change_of xs s vc (later x xs h) rest)

-- ---- the view changes that a new view carries

pub no_longer : {A : Type 0} (xs : List (Option A)) → length (list_of xs) ≤ length xs
no_longer [] = omega arith
no_longer (None ∷ xs) = let r = no_longer xs in omega arith
no_longer (Some x ∷ xs) = let r = no_longer xs in omega arith
