-- A replica that has to move has one view change: that of its history, in one order.
use Rattle.std.proofs.Common.{◌≡◌, ℕ, ◌≤◌, ◌<◌, ◌⊎◌, inl, inr, Bool, true, false, ◌&&◌, List, [], ◌∷◌, map, reverse, Some, refl, sym, ap, ap₂, ◌∙◌, subst, arith, eq-eqb, eqb-true}
use Rattle.std.specs.Prelude.{◌==◌, nat_lt}
use Rattle.std.proofs.lemmas.Bool.{and_from, and_parts, or_cases, or_left, or_right, ltb-true, ltb-false, lt-ltb}
use Rattle.sha2.specs.Sha256.{sha256}
use Rattle.wire_format.specs.Lists.{Each, ascends, leads}
use Rattle.wire_format.specs.Messages.{BodyData as Body, BatchEntryData as PqEntry, CheckpointEntryData as CheckpointEntry, ViewChangeData, view_change as ViewChange}
use Rattle.wire_format.specs.Spelling.{IsMessage, IsViewChange, batch_entry_before, bytes_before, named_before}
use Rattle.wire_format.specs.Words.{said}
use Rattle.wire_format.proofs.Saying.{says_what_is_spelled}
use Rattle.protocol.specs.System.Configuration.{Configuration}
use Rattle.protocol.specs.System.Trace.{Entry, Has}
use Rattle.protocol.specs.Replica.Certificates.{low, logged, is_in_marks, Prepared}
use Rattle.protocol.specs.Replica.RightReplica.{checkpoint_of, kept_states, IsPreparedList, IsPrePreparedList}
use Rattle.protocol.proofs.Words.Elements.{each_has, has_some}
use Rattle.protocol.proofs.Words.Options.{some_injective}
use Rattle.pq_sets.specs.Recording.{Ascends}
use Rattle.pq_sets.proofs.ByteOrder.{bytes_irreflexive, bytes_trans}
use Rattle.replica_histories.specs.Views.{entries_of, NewChangesAreOne}
use Rattle.replica_histories.proofs.Changing.{entries_are}
use Rattle.replica_histories.proofs.PqSets.{pq_sets_are_lists}

-- ---- lists in one order

-- an order in which nothing is before itself
record IsStrict (before : PqEntry → PqEntry → Bool) : Type 0 where
  trans : (a b d : PqEntry) → before a b ≡ true → before b d ≡ true → before a d ≡ true
  never : (a : PqEntry) → before a a ≡ true → ⊥

-- each is before all after it, if each is before the next
all_ascend : (before : PqEntry → PqEntry → Bool) → IsStrict before → (xs : List PqEntry) → ascends before xs ≡ true → Ascends before xs
all_ascend before strict [] h = tt
all_ascend before strict (x ∷ xs) h = let p = and_parts (leads before x xs) (ascends before xs) h in let rest = all_ascend before strict xs p.1 in (first xs p.0 rest, rest)
  where
    first : (ys : List PqEntry) → leads before x ys ≡ true → Ascends before ys → Each (λ y. before x y ≡ true) ys
    first [] l up = tt
    first (y ∷ ys) l up = (l, behind ys up.0)
      where
        behind : (zs : List PqEntry) → Each (λ z. before y z ≡ true) zs → Each (λ z. before x z ≡ true) zs
        behind [] each = tt
        behind (z ∷ zs) each = (strict.trans x y z l each.0, behind zs each.1)

-- Two such lists of the same items are one.
one_list : (before : PqEntry → PqEntry → Bool) → IsStrict before → (xs ys : List PqEntry) → Ascends before xs → Ascends before ys → ((z : PqEntry) → Has (λ x. x ≡ z) xs → Has (λ y. y ≡ z) ys)
    → ((z : PqEntry) → Has (λ y. y ≡ z) ys → Has (λ x. x ≡ z) xs) → xs ≡ ys
one_list before strict [] [] up vp over back = refl
one_list before strict [] (y ∷ ys) up vp over back = absurd (back y (inl refl))
one_list before strict (x ∷ xs) [] up vp over back = absurd (over x (inl refl))
one_list before strict (x ∷ xs) (y ∷ ys) up vp over back =
    ap₂ (λ (a : PqEntry) (rest : List PqEntry). a ∷ rest) same (one_list before strict xs ys up.1 vp.1 (λ z has. rest_over z has (over z (inr has))) (λ z has. rest_back z has (back z (inr has))))
  where
    same : x ≡ y
    same = go (over x (inl refl)) (back y (inl refl))
      where
        go : (y ≡ x) ⊎ Has (λ z. z ≡ x) ys → (x ≡ y) ⊎ Has (λ z. z ≡ y) xs → x ≡ y
        go (inl e) k = sym e
        go (inr has) (inl e) = e
        go (inr has) (inr more) =
            let first : before y x ≡ true = each_has (λ z. before y z ≡ true) ys x vp.0 has in
            let second : before x y ≡ true = each_has (λ z. before x z ≡ true) xs y up.0 more in
            absurd (strict.never x (strict.trans x y x second first))

    rest_over : (z : PqEntry) → Has (λ a. a ≡ z) xs → (y ≡ z) ⊎ Has (λ a. a ≡ z) ys → Has (λ a. a ≡ z) ys
    rest_over z has (inl e) = absurd (strict.never z (subst (λ (a : PqEntry). before a z ≡ true) (same ∙ e) (each_has (λ a. before x a ≡ true) xs z up.0 has)))
    rest_over z has (inr k) = k

    rest_back : (z : PqEntry) → Has (λ a. a ≡ z) ys → (x ≡ z) ⊎ Has (λ a. a ≡ z) xs → Has (λ a. a ≡ z) xs
    rest_back z has (inl e) = absurd (strict.never z (subst (λ (a : PqEntry). before a z ≡ true) (sym same ∙ e) (each_has (λ a. before y a ≡ true) ys z vp.0 has)))
    rest_back z has (inr k) = k

-- ---- the orders of both lists

by_number : IsStrict batch_entry_before
by_number = record {
  trans = λ a b d h k. let l = ltb-true a.number b.number h in let m = ltb-true b.number d.number k in lt-ltb a.number d.number (omega (arith, l, m));
  never = λ a h. let l = ltb-true a.number a.number h in absurd (omega (arith, l));
}

-- by number, and then by digest
abbrev Named : PqEntry → PqEntry → Type 0
Named a b = (a.number < b.number) ⊎ ((a.number ≡ b.number) × (bytes_before a.digest b.digest ≡ true))

named : (a b : PqEntry) → named_before a b ≡ true → Named a b
named a b h = go (or_cases (nat_lt a.number b.number) ((a.number == b.number) && bytes_before a.digest b.digest) h)
  where
    go : (nat_lt a.number b.number ≡ true) ⊎ (((a.number == b.number) && bytes_before a.digest b.digest) ≡ true) → Named a b
    go (inl l) = inl (ltb-true a.number b.number l)
    go (inr l) = let p = and_parts (a.number == b.number) (bytes_before a.digest b.digest) l in inr (eqb-true a.number b.number p.0, p.1)

from_named : (a b : PqEntry) → Named a b → named_before a b ≡ true
from_named a b (inl l) = or_left (nat_lt a.number b.number) ((a.number == b.number) && bytes_before a.digest b.digest) (lt-ltb a.number b.number l)
from_named a b (inr l) =
    or_right (nat_lt a.number b.number) ((a.number == b.number) && bytes_before a.digest b.digest) (and_from (a.number == b.number) (bytes_before a.digest b.digest) (eq-eqb a.number b.number l.0) l.1)

named_trans : (a b d : PqEntry) → Named a b → Named b d → Named a d
named_trans a b d (inl x) (inl y) = inl (omega (arith, x, y))
named_trans a b d (inl x) (inr y) = let e = y.0 in inl (omega (arith, x, e))
named_trans a b d (inr x) (inl y) = let e = x.0 in inl (omega (arith, y, e))
named_trans a b d (inr x) (inr y) = inr (x.0 ∙ y.0, bytes_trans a.digest b.digest d.digest x.1 y.1)

-- none stands before one of its name
named_apart : (a b : PqEntry) → Named a b → a.number ≡ b.number → a.digest ≡ b.digest → ⊥
named_apart a b (inl l) n d = absurd (omega (arith, l, n))
named_apart a b (inr l) n d = bytes_irreflexive b.digest (subst (λ (x : List ℕ). bytes_before x b.digest ≡ true) d l.1)

by_names : IsStrict named_before
by_names = record {
  trans = λ a b d h k. from_named a d (named_trans a b d (named a b h) (named b d k));
  never = λ a h. named_apart a a (named a a h) refl refl;
}

-- ---- both lists say the same

pq_entry_is : (a b : PqEntry) → a.number ≡ b.number → a.digest ≡ b.digest → a.view ≡ b.view → a ≡ b
pq_entry_is a b n d v =
    ap (λ (k : ℕ). let z : PqEntry = record { number = k; digest = a.digest; view = a.view } in z) n
    ∙ ap (λ (k : List ℕ). let z : PqEntry = record { number = b.number; digest = k; view = a.view } in z) d
    ∙ ap (λ (k : ℕ). let z : PqEntry = record { number = b.number; digest = b.digest; view = k } in z) v

module _ (c : Configuration) (me : ℕ) (history : List Entry) where
  -- a batch that one list says to be prepared, the other does
  same_prepared : (xs ys : List PqEntry) → IsPreparedList c me history xs → IsPreparedList c me history ys → (z : PqEntry) → Has (λ x. x ≡ z) xs → Has (λ y. y ≡ z) ys
  same_prepared xs ys p q z has = go (has_some (λ y. y.number ≡ z.number) ys (q.all z.view z.number here.0.0 here.1 here.0.1))
    where
      here : ((batch : List ℕ) × Prepared c me history z.view z.number batch × (sha256 batch ≡ z.digest)) × (is_in_marks c (low c me history) z.number ≡ true)
          × ((v : ℕ) (batch : List ℕ) → z.view < v → Prepared c me history v z.number batch → ⊥)
      here = p.listed z has

      go : (y : PqEntry) × Has (λ a. a ≡ y) ys × (y.number ≡ z.number) → Has (λ a. a ≡ z) ys
      go (y, there, number) = subst (λ (b : PqEntry). Has (λ a. a ≡ b) ys) (pq_entry_is y z number digest view) there
        where
          it : ((batch : List ℕ) × Prepared c me history y.view y.number batch × (sha256 batch ≡ y.digest)) × (is_in_marks c (low c me history) y.number ≡ true)
              × ((v : ℕ) (batch : List ℕ) → y.view < v → Prepared c me history v y.number batch → ⊥)
          it = q.listed y there

          -- each is the latest
          not_above : y.view < z.view → ⊥
          not_above l = it.2 z.view here.0.0 l (subst (λ (n : ℕ). Prepared c me history z.view n here.0.0) (sym number) here.0.1)

          not_below : z.view < y.view → ⊥
          not_below l = here.2 y.view it.0.0 l (subst (λ (n : ℕ). Prepared c me history y.view n it.0.0) number it.0.1)

          view : y.view ≡ z.view
          view = by_cases (nat_lt y.view z.view) refl (nat_lt z.view y.view) refl
            where
              by_cases : (a : Bool) → nat_lt y.view z.view ≡ a → (b : Bool) → nat_lt z.view y.view ≡ b → y.view ≡ z.view
              by_cases true h b k = absurd (not_above (ltb-true y.view z.view h))
              by_cases false h true k = absurd (not_below (ltb-true z.view y.view k))
              by_cases false h false k = let l = ltb-false y.view z.view h in let m = ltb-false z.view y.view k in omega (arith, l, m)

          digest : y.digest ≡ z.digest
          digest =
              let batch : logged c me history z.view z.number ≡ Some it.0.0 =
              ap₂ (λ (v n : ℕ). logged c me history v n) (sym view) (sym number) ∙ it.0.1.logged in
              sym it.0.2 ∙ ap sha256 (some_injective it.0.0 here.0.0 (sym batch ∙ here.0.1.logged)) ∙ here.0.2

  -- and a batch that one list says to be pre-prepared
  record NamedThere (ys : List PqEntry) (i : ℕ) (digest : List ℕ) (v : ℕ) : Type 0 where
    pq_entry : PqEntry
    there : Has (λ y. y ≡ pq_entry) ys
    number : pq_entry.number ≡ i
    digest_is : pq_entry.digest ≡ digest
    later : v ≤ pq_entry.view

  named_there : (ys : List PqEntry) → IsPrePreparedList c me history ys → (x : PqEntry) → ((batch : List ℕ) × (logged c me history x.view x.number ≡ Some batch) × (sha256 batch ≡ x.digest)) × (is_in_marks c (low c me history) x.number ≡ true)
      → NamedThere ys x.number x.digest x.view
  named_there ys q x is =
      let s = has_some (λ y. (y.number ≡ x.number) × (y.digest ≡ sha256 is.0.0) × (x.view ≤ y.view)) ys (q.all x.view x.number is.0.0 is.1 is.0.1) in
      record { pq_entry = s.0; there = s.1; number = s.2.0; digest_is = s.2.1 ∙ is.0.2; later = s.2.2 }

  same_logged : (xs ys : List PqEntry) → IsPrePreparedList c me history xs → IsPrePreparedList c me history ys → Ascends named_before xs → (z : PqEntry) → Has (λ x. x ≡ z) xs → Has (λ y. y ≡ z) ys
  same_logged xs ys p q up z has =
      let n = named_there ys q z (p.listed z has) in
      let back = named_there xs p n.pq_entry (q.listed n.pq_entry n.there) in
      let same : back.pq_entry ≡ z = one_named xs back.pq_entry z up back.there has (back.number ∙ n.number) (back.digest_is ∙ n.digest_is) in
      let views : back.pq_entry.view ≡ z.view = ap (λ (a : PqEntry). a.view) same in
      let first = n.later in
      let second = back.later in
      subst (λ (b : PqEntry). Has (λ a. a ≡ b) ys) (pq_entry_is n.pq_entry z n.number n.digest_is (omega (arith, views, first, second))) n.there
    where
      apart : (a b : PqEntry) → named_before a b ≡ true → a.number ≡ b.number → a.digest ≡ b.digest → ⊥
      apart a b h n d = named_apart a b (named a b h) n d

      -- of one name there is one in a list
      one_named : (ws : List PqEntry) (a b : PqEntry) → Ascends named_before ws → Has (λ x. x ≡ a) ws → Has (λ x. x ≡ b) ws → a.number ≡ b.number → a.digest ≡ b.digest → a ≡ b
      one_named [] a b u h k n d = absurd h
      one_named (x ∷ ws) a b u (inl h) (inl k) n d = sym h ∙ k
      one_named (x ∷ ws) a b u (inl h) (inr k) n d = absurd (apart a b (subst (λ (y : PqEntry). named_before y b ≡ true) h (each_has (λ y. named_before x y ≡ true) ws b u.0 k)) n d)
      one_named (x ∷ ws) a b u (inr h) (inl k) n d = absurd (apart b a (subst (λ (y : PqEntry). named_before y a ≡ true) k (each_has (λ y. named_before x y ≡ true) ws a u.0 h)) (sym n) (sym d))
      one_named (x ∷ ws) a b u (inr h) (inr k) n d = one_named ws a b u.1 h k n d

-- ---- the view change

-- a message in a frame may be sent
pub said_valid : (bytes : List ℕ) (body : Body) → said bytes ≡ Some body → IsMessage body.message
said_valid bytes body h = let w = (says_what_is_spelled bytes body).0 h in subst (λ (b : Body). IsMessage b.message) w.2 w.1.valid.message

change_of : (vc : ViewChangeData) (low : ℕ) (checkpoints : List CheckpointEntry) (prepared logged : List PqEntry) → vc.low ≡ low → vc.checkpoints ≡ checkpoints → vc.prepared ≡ prepared → vc.pre_prepared ≡ logged
    → vc ≡ record { view = vc.view; low = low; checkpoints = checkpoints; prepared = prepared; pre_prepared = logged }
change_of vc low checkpoints prepared logged l k p q =
    ap₂ (λ (h : ℕ) (ms : List CheckpointEntry). let x : ViewChangeData = record { view = vc.view; low = h; checkpoints = ms; prepared = vc.prepared; pre_prepared = vc.pre_prepared } in x) l k
    ∙ ap₂ (λ (ps qs : List PqEntry). let x : ViewChangeData = record { view = vc.view; low = low; checkpoints = checkpoints; prepared = ps; pre_prepared = qs } in x) p q

pub new_changes_are_one : NewChangesAreOne
new_changes_are_one c me desk log history point now pq_sets sender vc bytes fits leaves none kept f may says =
    change_of vc log.low (entries_of desk.snapshots) pq_sets.prepared pq_sets.logged low_is checkpoints prepared pre_prepared
  where
    valid : IsViewChange vc
    valid = said_valid bytes (record { sender = sender; message = ViewChange vc }) says

    lists : IsPreparedList c me history pq_sets.prepared × IsPrePreparedList c me history pq_sets.logged
    lists = pq_sets_are_lists c me log history now pq_sets fits leaves none f

    low_is : vc.low ≡ log.low
    low_is = may.low ∙ fits.low

    checkpoints : vc.checkpoints ≡ entries_of desk.snapshots
    checkpoints =
        may.checkpoints ∙ ap (λ (h : ℕ). map checkpoint_of (reverse (kept_states h point.snapshots))) low_is
        ∙ sym (entries_are (kept_states log.low point.snapshots)) ∙ ap entries_of kept

    prepared : vc.prepared ≡ pq_sets.prepared
    prepared =
        one_list batch_entry_before by_number vc.prepared pq_sets.prepared (all_ascend batch_entry_before by_number vc.prepared valid.prepared_ascend) f.prepared.ascending
        (same_prepared c me history vc.prepared pq_sets.prepared may.prepared lists.0) (same_prepared c me history pq_sets.prepared vc.prepared lists.0 may.prepared)

    pre_prepared : vc.pre_prepared ≡ pq_sets.logged
    pre_prepared =
        let up = all_ascend named_before by_names vc.pre_prepared valid.pre_prepared_ascend in
        one_list named_before by_names vc.pre_prepared pq_sets.logged up f.logged.ascending
        (same_logged c me history vc.pre_prepared pq_sets.logged may.proposed lists.1 up) (same_logged c me history pq_sets.logged vc.pre_prepared lists.1 may.proposed f.logged.ascending)
