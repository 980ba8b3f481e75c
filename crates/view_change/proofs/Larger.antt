-- A larger set of view changes allows all that a smaller one does.
use Rattle.std.specs.List.{list_all, list_any}
use Rattle.std.specs.Prelude.{◌==◌, nat_le, nat_lt}
use Rattle.std.proofs.Common.{◌≡◌, ℕ, zero, suc, not, ◌+◌, ◌-◌, ◌*◌, ◌≤◌, ◌<◌, ◌⊎◌, inl, inr, Bool, true, false, List, [], ◌∷◌, ◌++◌, length, bytes_eq, Some, refl, ap, ◌∙◌, subst, arith, ◌&&◌, eqb-true, eq-eqb}
use Rattle.std.proofs.lemmas.Bool.{and_parts, and_from, or_cases, or_left, or_right, le-leb, lt-ltb, leb-true, ltb-true, ne_eqb}
use Rattle.sha2.specs.Sha256.{sha256}
use Rattle.quorum.specs.Quorum.{count_below}
use Rattle.quorum.proofs.Counting.{count_mono}
use Rattle.protocol.specs.System.Configuration.{Configuration, replicas, span}
use Rattle.wire_format.specs.Messages.{ViewChangeData, CheckpointEntryData as CheckpointEntry, BatchEntryData as BatchEntry}
use Rattle.protocol.specs.System.Trace.{Has}
use Rattle.protocol.specs.Replica.Selection.{is_quorum, is_weak_quorum, change_by, passes_by, count_in, ascending, changes_of, all_signed, are_enough, all_within, has_length, is_start, agrees, vouches, may_stand_at, may_be_null, null_batch, is_null, is_some_below, may_stand, may_all_stand, largest, largest_of, may_select}
use Rattle.protocol.proofs.Words.Lists.{passes_change, largest_of-ge, change_there, change_of}
use Rattle.protocol.proofs.Words.Elements.{each_has}
use Rattle.protocol.proofs.Agreement.Marks.{largest_of-le}
use Rattle.protocol.proofs.Words.Elements.{all_where}
use Rattle.view_change.specs.Selecting.{is_set_for, meets, how_many_from, IsPartOfSet, AreFrom}
use Rattle.view_change.specs.Laws.{SelectsBySet, LargerSetsAllow}

-- ---- members of a set in ascending order

-- an entry that a replica has in the part, it has in the whole
pub same_change : (small large : List (ℕ × ViewChangeData)) (s : ℕ) (vc : ViewChangeData) → IsPartOfSet small large → ascending large ≡ true → change_by small s ≡ Some vc → change_by large s ≡ Some vc
same_change small large s vc part order is =
    change_of large s vc order (each_has (λ x. Has (λ y. y ≡ x) large) small (s, vc) part (change_there small s vc is))

-- ---- counts

pub passes_of : (test : ViewChangeData → Bool) (set : List (ℕ × ViewChangeData)) (s : ℕ) (vc : ViewChangeData) → change_by set s ≡ Some vc → test vc ≡ true → passes_by test set s ≡ true
passes_of test set s vc is h = rw is h

-- if each view change that passes one test passes another, no fewer pass that
pub count_weaker : (c : Configuration) (test other : ViewChangeData → Bool) (set : List (ℕ × ViewChangeData))
    → ((s : ℕ) (vc : ViewChangeData) → change_by set s ≡ Some vc → test vc ≡ true → other vc ≡ true) → count_in c test set ≤ count_in c other set
count_weaker c test other set f =
    count_mono (passes_by test set) (passes_by other set) (replicas c)
    (λ s within h. let r = passes_change test set s h in passes_of other set s r.0 r.1 (f s r.0 r.1 r.2))

count_more : (c : Configuration) (test : ViewChangeData → Bool) (small large : List (ℕ × ViewChangeData)) → IsPartOfSet small large → ascending large ≡ true → count_in c test small ≤ count_in c test large
count_more c test small large part order =
    count_mono (passes_by test small) (passes_by test large) (replicas c)
    (λ s within h. let r = passes_change test small s h in passes_of test large s r.0 (same_change small large s r.0 part order r.1) r.2)

pub more_than : (k a b : ℕ) → nat_le k a ≡ true → a ≤ b → nat_le k b ≡ true
more_than k a b h l = let m = leb-true k a h in le-leb k b (omega arith)

quorum_more : (c : Configuration) (test : ViewChangeData → Bool) (small large : List (ℕ × ViewChangeData)) → IsPartOfSet small large → ascending large ≡ true
    → is_quorum c (count_in c test small) ≡ true → is_quorum c (count_in c test large) ≡ true
quorum_more c test small large part order h = more_than (2 * c.faults + 1) (count_in c test small) (count_in c test large) h (count_more c test small large part order)

weak_more : (c : Configuration) (test : ViewChangeData → Bool) (small large : List (ℕ × ViewChangeData)) → IsPartOfSet small large → ascending large ≡ true
    → is_weak_quorum c (count_in c test small) ≡ true → is_weak_quorum c (count_in c test large) ≡ true
weak_more c test small large part order h = more_than (c.faults + 1) (count_in c test small) (count_in c test large) h (count_more c test small large part order)

-- ---- the rules

start_more : (c : Configuration) (start : ℕ) (root : List ℕ) (small large : List (ℕ × ViewChangeData)) → IsPartOfSet small large → ascending large ≡ true
    → is_start c small start root ≡ true → is_start c large start root ≡ true
start_more c start root small large part order h =
    let lows : ViewChangeData → Bool = λ vc. nat_le vc.low start in
    let lists : ViewChangeData → Bool = λ vc. list_any (λ (checkpoint : CheckpointEntry). (checkpoint.number == start) && bytes_eq checkpoint.digest root) vc.checkpoints in
    let p = and_parts (is_quorum c (count_in c lows small)) (is_weak_quorum c (count_in c lists small)) h in
    and_from (is_quorum c (count_in c lows large)) (is_weak_quorum c (count_in c lists large))
    (quorum_more c lows small large part order p.0) (weak_more c lists small large part order p.1)

stand_at_more : (c : Configuration) (i : ℕ) (d : List ℕ) (v : ℕ) (small large : List (ℕ × ViewChangeData)) → IsPartOfSet small large → ascending large ≡ true
    → may_stand_at c small i d v ≡ true → may_stand_at c large i d v ≡ true
stand_at_more c i d v small large part order h =
    let against : ViewChangeData → Bool = λ vc. nat_lt vc.low i && agrees i v d vc in
    let p = and_parts (is_quorum c (count_in c against small)) (is_weak_quorum c (count_in c (vouches i v d) small)) h in
    and_from (is_quorum c (count_in c against large)) (is_weak_quorum c (count_in c (vouches i v d) large))
    (quorum_more c against small large part order p.0) (weak_more c (vouches i v d) small large part order p.1)

null_more : (c : Configuration) (i : ℕ) (small large : List (ℕ × ViewChangeData)) → IsPartOfSet small large → ascending large ≡ true
    → may_be_null c small i ≡ true → may_be_null c large i ≡ true
null_more c i small large part order h =
    quorum_more c (λ vc. nat_lt vc.low i && list_all (λ (entry : BatchEntry). not (entry.number == i)) vc.prepared) small large part order h

stand_more : (c : Configuration) (view i : ℕ) (batch : List ℕ) (small large : List (ℕ × ViewChangeData)) → IsPartOfSet small large → ascending large ≡ true
    → may_stand c view small i batch ≡ true → may_stand c view large i batch ≡ true
stand_more c view i batch small large part order h = go (or_cases (is_some_below (may_stand_at c small i (sha256 batch)) view) (is_null batch && may_be_null c small i) h)
  where
    go : (is_some_below (may_stand_at c small i (sha256 batch)) view ≡ true) ⊎ ((is_null batch && may_be_null c small i) ≡ true) → may_stand c view large i batch ≡ true
    go (inl some) =
        let fewer = count_mono (may_stand_at c small i (sha256 batch)) (may_stand_at c large i (sha256 batch)) view (λ v within t. stand_at_more c i (sha256 batch) v small large part order t) in
        let least = ltb-true 0 (count_below (may_stand_at c small i (sha256 batch)) view) some in
        or_left (is_some_below (may_stand_at c large i (sha256 batch)) view) (is_null batch && may_be_null c large i)
        (lt-ltb 0 (count_below (may_stand_at c large i (sha256 batch)) view) (omega arith))
    go (inr null) =
        let p = and_parts (is_null batch) (may_be_null c small i) null in
        or_right (is_some_below (may_stand_at c large i (sha256 batch)) view) (is_null batch && may_be_null c large i)
        (and_from (is_null batch) (may_be_null c large i) p.0 (null_more c i small large part order p.1))

all_stand_more : (c : Configuration) (view i : ℕ) (batches : List (List ℕ)) (small large : List (ℕ × ViewChangeData)) → IsPartOfSet small large → ascending large ≡ true
    → may_all_stand c view small i batches ≡ true → may_all_stand c view large i batches ≡ true
all_stand_more c view i [] small large part order h = refl
all_stand_more c view i (batch ∷ batches) small large part order h =
    let p = and_parts (may_stand c view small i batch) (may_all_stand c view small (suc i) batches) h in
    and_from (may_stand c view large i batch) (may_all_stand c view large (suc i) batches)
    (stand_more c view i batch small large part order p.0) (all_stand_more c view (suc i) batches small large part order p.1)

-- ---- how many batches

largest_more : (limit : ℕ) (small large : List (ℕ × ViewChangeData)) → IsPartOfSet small large → largest_of limit small ≤ largest_of limit large
largest_more limit [] large part = omega arith
largest_more limit (x ∷ xs) large part =
    let first = within limit x large part.0 in
    let rest = largest_more limit xs large part.1 in
    omega arith
  where
    within : (limit : ℕ) (x : ℕ × ViewChangeData) (large : List (ℕ × ViewChangeData)) → Has (λ y. y ≡ x) large → largest limit x.1.prepared ≤ largest_of limit large
    within limit x [] h = absurd h
    within limit x (y ∷ ys) (inl same) =
        let e : largest limit y.1.prepared ≡ largest limit x.1.prepared = ap (λ (z : ℕ × ViewChangeData). largest limit z.1.prepared) same in omega arith
    within limit x (y ∷ ys) (inr rest) = let r = within limit x ys rest in omega arith

-- If a quorum has its low checkpoint at or below the start, the null batch may stand at each number beyond all that the
-- set has prepared.
pub null_beyond : (c : Configuration) (set : List (ℕ × ViewChangeData)) (start i : ℕ) → is_quorum c (count_in c (λ vc. nat_le vc.low start) set) ≡ true
    → start < i → i ≤ start + span c → largest_of (start + span c) set < i → may_be_null c set i ≡ true
null_beyond c set start i quorum above most beyond =
    let nothing : ViewChangeData → Bool = λ vc. nat_lt vc.low i && list_all (λ (entry : BatchEntry). not (entry.number == i)) vc.prepared in
    more_than (2 * c.faults + 1) (count_in c (λ vc. nat_le vc.low start) set) (count_in c nothing set) quorum
    (count_weaker c (λ vc. nat_le vc.low start) nothing set (λ s vc is low. passes s vc is (leb-true vc.low start low)))
  where
    no_pq_entry : (s : ℕ) (vc : ViewChangeData) → change_by set s ≡ Some vc → (entry : BatchEntry) → Has (λ y. y ≡ entry) vc.prepared → not (entry.number == i) ≡ true
    no_pq_entry s vc is entry has =
        let other : (entry.number == i) ≡ false = ne_eqb entry.number i (λ e. let r = largest_of-ge (start + span c) i s set vc is (has_number entry vc.prepared has e) most in absurd (omega arith)) in
        rw other refl
      where
        has_number : (entry : BatchEntry) (entries : List BatchEntry) → Has (λ y. y ≡ entry) entries → entry.number ≡ i → Has (λ y. y.number ≡ i) entries
        has_number entry [] h e = absurd h
        has_number entry (x ∷ xs) (inl same) e = inl (ap (λ (z : BatchEntry). z.number) same ∙ e)
        has_number entry (x ∷ xs) (inr rest) e = inr (has_number entry xs rest e)

    passes : (s : ℕ) (vc : ViewChangeData) → change_by set s ≡ Some vc → vc.low ≤ start → (nat_lt vc.low i && list_all (λ (entry : BatchEntry). not (entry.number == i)) vc.prepared) ≡ true
    passes s vc is low =
        and_from (nat_lt vc.low i) (list_all (λ (entry : BatchEntry). not (entry.number == i)) vc.prepared)
        (lt-ltb vc.low i (omega arith)) (all_where (λ (entry : BatchEntry). not (entry.number == i)) vc.prepared (no_pq_entry s vc is))

-- ---- batches after others

pub all_stand_append : (c : Configuration) (view i : ℕ) (set : List (ℕ × ViewChangeData)) (xs ys : List (List ℕ)) (j : ℕ) → j ≡ i + length xs
    → may_all_stand c view set i xs ≡ true → may_all_stand c view set j ys ≡ true → may_all_stand c view set i (xs ++ ys) ≡ true
all_stand_append c view i set [] ys j is h k = let e : j ≡ i = omega arith in subst (λ m. may_all_stand c view set m ys ≡ true) e k
all_stand_append c view i set (x ∷ xs) ys j is h k =
    let p = and_parts (may_stand c view set i x) (may_all_stand c view set (suc i) xs) h in
    and_from (may_stand c view set i x) (may_all_stand c view set (suc i) (xs ++ ys)) p.0
    (all_stand_append c view (suc i) set xs ys j (omega arith) p.1 k)

nulls : ℕ → List (List ℕ)
nulls zero = []
nulls (suc k) = null_batch ∷ nulls k

nulls_length : (k : ℕ) → length (nulls k) ≡ k
unfolding nulls
nulls_length zero = refl
nulls_length (suc k) = ap suc (nulls_length k)

nulls_from : (texts : List (List ℕ)) (k : ℕ) → AreFrom texts (nulls k)
unfolding nulls
nulls_from texts zero = tt
nulls_from texts (suc k) = (inl refl, nulls_from texts k)

nulls_stand : (c : Configuration) (view : ℕ) (set : List (ℕ × ViewChangeData)) (k i : ℕ) → ((j : ℕ) → i ≤ j → j < i + k → may_be_null c set j ≡ true)
    → may_all_stand c view set i (nulls k) ≡ true
unfolding nulls
nulls_stand c view set zero i f = refl
nulls_stand c view set (suc k) i f =
    and_from (may_stand c view set i null_batch) (may_all_stand c view set (suc i) (nulls k))
    (or_right (is_some_below (may_stand_at c set i (sha256 null_batch)) view) (is_null null_batch && may_be_null c set i)
    (and_from (is_null null_batch) (may_be_null c set i) refl (f i (omega arith) (omega arith))))
    (nulls_stand c view set k (suc i) (λ j a b. f j (omega arith) (omega arith)))

from_both : (texts xs ys : List (List ℕ)) → AreFrom texts xs → AreFrom texts ys → AreFrom texts (xs ++ ys)
from_both texts [] ys h k = k
from_both texts (x ∷ xs) ys h k = (h.0, from_both texts xs ys h.1 k)

length_both : (xs ys : List (List ℕ)) → length (xs ++ ys) ≡ length xs + length ys
length_both [] ys = omega arith
length_both (x ∷ xs) ys = let r = length_both xs ys in omega arith

-- ---- the parts of a selection that satisfies the rules

pub record Meets (c : Configuration) (view : ℕ) (set : List (ℕ × ViewChangeData)) (start : ℕ) (root : List ℕ) (batches : List (List ℕ)) : Type 0 where
  pub begins : is_start c set start root ≡ true
  pub long : length batches ≡ how_many_from c set start
  pub stand : may_all_stand c view set (suc start) batches ≡ true

pub meets_parts : (c : Configuration) (view : ℕ) (set : List (ℕ × ViewChangeData)) (start : ℕ) (root : List ℕ) (batches : List (List ℕ))
    → meets c view set start root batches ≡ true → Meets c view set start root batches
meets_parts c view set start root batches h =
    let p = and_parts (is_start c set start root && (length batches == how_many_from c set start)) (may_all_stand c view set (suc start) batches) h in
    let q = and_parts (is_start c set start root) (length batches == how_many_from c set start) p.0 in
    record { begins = q.0; long = eqb-true (length batches) (how_many_from c set start) q.1; stand = p.1 }

pub meets_from : (c : Configuration) (view : ℕ) (set : List (ℕ × ViewChangeData)) (start : ℕ) (root : List ℕ) (batches : List (List ℕ))
    → Meets c view set start root batches → meets c view set start root batches ≡ true
meets_from c view set start root batches m =
    and_from (is_start c set start root && (length batches == how_many_from c set start)) (may_all_stand c view set (suc start) batches)
    (and_from (is_start c set start root) (length batches == how_many_from c set start) m.begins (eq-eqb (length batches) (how_many_from c set start) m.long)) m.stand

pub larger_sets_allow : LargerSetsAllow
larger_sets_allow c view start root small large texts batches part in_small in_large from h =
    let m = meets_parts c view small start root batches h in
    let lows : ViewChangeData → Bool = λ vc. nat_le vc.low start in
    let lists : ViewChangeData → Bool = λ vc. list_any (λ (checkpoint : CheckpointEntry). (checkpoint.number == start) && bytes_eq checkpoint.digest root) vc.checkpoints in
    let begins = start_more c start root small large part in_large m.begins in
    let quorum = (and_parts (is_quorum c (count_in c lows small)) (is_weak_quorum c (count_in c lists small)) m.begins).0 in
    let grows = largest_more (start + span c) small large part in
    let extra : ℕ = how_many_from c large start - length batches in
    let long = m.long in
    let most = largest_of-le (start + span c) large in
    let whole : length (batches ++ nulls extra) ≡ how_many_from c large start =
    let a = length_both batches (nulls extra) in
    let b = nulls_length extra in omega arith in (
      batches ++ nulls extra,
      from_both texts batches (nulls extra) from (nulls_from texts extra),
      meets_from c view large start root (batches ++ nulls extra) (record {
        begins = begins;
        long = whole;
        stand = all_stand_append c view (suc start) large batches (nulls extra) (suc start + length batches) refl (all_stand_more c view (suc start) batches small large part in_large m.stand)
            (nulls_stand c view large extra (suc start + length batches)
            (λ j a b. null_more c j small large part in_large (null_beyond c small start j quorum (omega arith) (omega arith) (omega arith))));
      }),
    )

-- ---- a new view

pub selects_by_set : SelectsBySet
unfolding may_select
selects_by_set c new = (forth, back)
  where
    forth : may_select c new ≡ true → (all_signed c new ≡ true) × (is_set_for c new.view (changes_of c new) ≡ true) × (meets c new.view (changes_of c new) new.start new.root new.batches ≡ true)
    forth h =
        let a = and_parts (all_signed c new && are_enough c new && ascending (changes_of c new) && all_within c new && is_start c (changes_of c new) new.start new.root && has_length c new)
        (may_all_stand c new.view (changes_of c new) (suc new.start) new.batches) h in
        let b = and_parts (all_signed c new && are_enough c new && ascending (changes_of c new) && all_within c new && is_start c (changes_of c new) new.start new.root) (has_length c new) a.0 in
        let d = and_parts (all_signed c new && are_enough c new && ascending (changes_of c new) && all_within c new) (is_start c (changes_of c new) new.start new.root) b.0 in
        let e = and_parts (all_signed c new && are_enough c new && ascending (changes_of c new)) (all_within c new) d.0 in
        let f = and_parts (all_signed c new && are_enough c new) (ascending (changes_of c new)) e.0 in
        let g = and_parts (all_signed c new) (are_enough c new) f.0 in (
          g.0,
          and_from (are_enough c new && ascending (changes_of c new)) (all_within c new) (and_from (are_enough c new) (ascending (changes_of c new)) g.1 f.1) e.1,
          and_from (is_start c (changes_of c new) new.start new.root && has_length c new) (may_all_stand c new.view (changes_of c new) (suc new.start) new.batches)
              (and_from (is_start c (changes_of c new) new.start new.root) (has_length c new) d.1 b.1) a.1,
        )

    back : (all_signed c new ≡ true) × (is_set_for c new.view (changes_of c new) ≡ true) × (meets c new.view (changes_of c new) new.start new.root new.batches ≡ true) → may_select c new ≡ true
    back h =
        let a = and_parts (are_enough c new && ascending (changes_of c new)) (all_within c new) h.1 in
        let b = and_parts (are_enough c new) (ascending (changes_of c new)) a.0 in
        let d = and_parts (is_start c (changes_of c new) new.start new.root && has_length c new) (may_all_stand c new.view (changes_of c new) (suc new.start) new.batches) h.2 in
        let e = and_parts (is_start c (changes_of c new) new.start new.root) (has_length c new) d.0 in
        and_from (all_signed c new && are_enough c new && ascending (changes_of c new) && all_within c new && is_start c (changes_of c new) new.start new.root && has_length c new)
        (may_all_stand c new.view (changes_of c new) (suc new.start) new.batches)
        (and_from (all_signed c new && are_enough c new && ascending (changes_of c new) && all_within c new && is_start c (changes_of c new) new.start new.root) (has_length c new)
        (and_from (all_signed c new && are_enough c new && ascending (changes_of c new) && all_within c new) (is_start c (changes_of c new) new.start new.root)
        (and_from (all_signed c new && are_enough c new && ascending (changes_of c new)) (all_within c new)
        (and_from (all_signed c new && are_enough c new) (ascending (changes_of c new)) (and_from (all_signed c new) (are_enough c new) h.0 b.0) b.1) a.1) e.0) e.1) d.1
