-- The recorded sets P and Q stay as the history says.
use Rattle.std.specs.Prelude.{◌==◌, nat_le, nat_lt, filter}
use Rattle.std.proofs.Common.{◌≡◌, ◌≢◌, ◌^◌, ℕ, zero, suc, ◌+◌, ◌≤◌, ◌<◌, ◌⊎◌, inl, inr, Bool, true, false, cond, List, [], ◌∷◌, length, bytes_eq, refl, sym, ap, ◌∙◌, ap₂, subst, arith, ◌&&◌, ◌||◌, eqb-true, eq-eqb}
use Rattle.std.proofs.lemmas.Bool.{and_parts, and_from, or_cases, or_left, or_right, le-leb, lt-ltb, leb-true, leb-false, ltb-true, ltb-false, ne_eqb, eqb-false, false_from_ne_true, cases_order, or_parts}
use Rattle.std.specs.List.{AllPairs, All}
use Rattle.std.proofs.lemmas.Slice.Eq.{bytes_eq-Decides}
use Rattle.std.proofs.lemmas.List.Kept.{AllPairs-cons}
use Rattle.sha2.specs.Sha256.{sha256}
use Rattle.sha2.proofs.Facts256.{length-sha256}
use Rattle.protocol.specs.System.Configuration.{Configuration, span, is_number}
use Rattle.wire_format.specs.Messages.{BatchEntryData as PqEntry}
use Rattle.wire_format.specs.Spelling.{batch_entry_before, named_before, bytes_before}
use Rattle.protocol.specs.System.Trace.{Entry, Has}
use Rattle.wire_format.specs.Lists.{Each}
use Rattle.protocol.specs.Replica.Certificates.{low, is_in_marks, logged}
use Rattle.protocol.proofs.Agreement.Marks.{low_grows}
use Rattle.protocol.proofs.Words.Elements.{each_has, has_some, has_weaker, each_where, each_weaker}
use Rattle.pq_sets.specs.Recording.{same_number, same_name, later_of, with_pq_entry, with_prepared, with_logged, with_all, above_mark, IsPreparedAs, IsLoggedAs, AddsPqEntries, Ascends, IsLatest, IsEach, AreDigests, MovesUp, RecordsBegin, LatestIsRecorded, EachIsRecorded, PreparedIsRecorded, LoggedIsRecorded, RecordsAreLists}
use Rattle.pq_sets.proofs.ByteOrder.{bytes_trans, bytes_irreflexive}

-- ---- an order on entries that distinguishes those that name different numbers or digests

pub record IsOrder (before same : PqEntry → PqEntry → Bool) : Type 0 where
  trans : (a b d : PqEntry) → before a b ≡ true → before b d ≡ true → before a d ≡ true
  other : (a b : PqEntry) → before a b ≡ true → same b a ≡ false
  apart : (a b new : PqEntry) → before a b ≡ true → same a new ≡ true → same b new ≡ false
  total : (a new : PqEntry) → length a.digest ≡ length new.digest → same a new ≡ false → before new a ≡ false → before a new ≡ true
  first : (a new b : PqEntry) → same a new ≡ true → before a b ≡ true → before new b ≡ true
  second : (a new b : PqEntry) → same a new ≡ true → before b a ≡ true → before b new ≡ true

-- the later one of two is the one or the other
later_is : (P : PqEntry → Type 0) (a b : PqEntry) → P a → P b → P (later_of a b)
later_is P a b p q = go (nat_le a.view b.view)
  where
    go : (t : Bool) → P (cond t b a)
    go true = q
    go false = p

later_view : (a b : PqEntry) → (a.view ≤ (later_of a b).view) × (b.view ≤ (later_of a b).view)
later_view a b = go (nat_le a.view b.view) refl
  where
    go : (t : Bool) → nat_le a.view b.view ≡ t → (a.view ≤ (cond t b a).view) × (b.view ≤ (cond t b a).view)
    go true e = let l = leb-true a.view b.view e in (omega arith, omega arith)
    go false e = let l = leb-false a.view b.view e in (omega arith, omega arith)

-- the entries of the list with one more entry
abbrev Stands : (PqEntry → PqEntry → Bool) → PqEntry → List PqEntry → PqEntry → Type 0
Stands same new pq_set y =
    (Has (λ x. x ≡ y) pq_set × (same y new ≡ false))
    ⊎ (((x : PqEntry) × Has (λ z. z ≡ x) pq_set × (same x new ≡ true) × (later_of x new ≡ y))
    ⊎ ((new ≡ y) × ((x : PqEntry) → Has (λ z. z ≡ x) pq_set → same x new ≡ false)))

stands : (before same : PqEntry → PqEntry → Bool) → IsOrder before same → (new : PqEntry) (pq_set : List PqEntry) (y : PqEntry) → Ascends before pq_set
    → Has (λ x. x ≡ y) (with_pq_entry before same new pq_set) → Stands same new pq_set y
stands before same order new [] y up (inl e) = inr (inr (e, λ x h. absurd h))
stands before same order new [] y up (inr h) = absurd h
stands before same order new (x ∷ xs) y up h = go (same x new) refl (before new x) refl h (stands before same order new xs y up.1)
  where
    not_later : before new x ≡ true → (z : PqEntry) → Has (λ w. w ≡ z) xs → same z new ≡ false
    not_later first z has = order.other new z (order.trans new x z first (each_has (λ w. before x w ≡ true) xs z up.0 has))

    go : (b : Bool) → same x new ≡ b → (d : Bool) → before new x ≡ d → Has (λ z. z ≡ y) (cond b (later_of x new ∷ xs) (cond d (new ∷ x ∷ xs) (x ∷ with_pq_entry before same new xs)))
        → (Has (λ z. z ≡ y) (with_pq_entry before same new xs) → Stands same new xs y) → Stands same new (x ∷ xs) y
    go true e d f (inl is) below = inr (inl (x, inl refl, e, is))
    go true e d f (inr has) below = inl (inr has, order.apart x y new (each_has (λ w. before x w ≡ true) xs y up.0 has) e)
    go false e true f (inl is) below = inr (inr (is, λ z has. none z has))
      where
        none : (z : PqEntry) → Has (λ w. w ≡ z) (x ∷ xs) → same z new ≡ false
        none z (inl i) = subst (λ (w : PqEntry). same w new ≡ false) i e
        none z (inr i) = not_later f z i
    go false e true f (inr (inl is)) below = inl (inl is, subst (λ (w : PqEntry). same w new ≡ false) is e)
    go false e true f (inr (inr has)) below = inl (inr has, not_later f y has)
    go false e false f (inl is) below = inl (inl is, subst (λ (w : PqEntry). same w new ≡ false) is e)
    go false e false f (inr has) below = wider (below has)
      where
        wider : Stands same new xs y → Stands same new (x ∷ xs) y
        wider (inl r) = inl (inr r.0, r.1)
        wider (inr (inl r)) = inr (inl (r.0, inr r.1, r.2, r.3))
        wider (inr (inr r)) = inr (inr (r.0, λ z has. none z has))
          where
            none : (z : PqEntry) → Has (λ w. w ≡ z) (x ∷ xs) → same z new ≡ false
            none z (inl i) = subst (λ (w : PqEntry). same w new ≡ false) i e
            none z (inr i) = r.1 z i

-- if each entry and the new one have a property, each entry then has it
each_with : (before same : PqEntry → PqEntry → Bool) (P : PqEntry → Type 0) (new : PqEntry) (pq_set : List PqEntry) → Each P pq_set → P new → Each P (with_pq_entry before same new pq_set)
each_with before same P new [] h p = (p, tt)
each_with before same P new (x ∷ xs) h p = go (same x new) (before new x) (each_with before same P new xs h.1 p)
  where
    go : (b d : Bool) → Each P (with_pq_entry before same new xs) → Each P (cond b (later_of x new ∷ xs) (cond d (new ∷ x ∷ xs) (x ∷ with_pq_entry before same new xs)))
    go true d below = (later_is P x new h.0 p, h.1)
    go false true below = (p, h)
    go false false below = (h.0, below)

pub ascends_with : (before same : PqEntry → PqEntry → Bool) → IsOrder before same → (new : PqEntry) (pq_set : List PqEntry) → Each (λ x. length x.digest ≡ length new.digest) pq_set → Ascends before pq_set → Ascends before (with_pq_entry before same new pq_set)
ascends_with before same order new [] long up = (tt, tt)
ascends_with before same order new (x ∷ xs) long up = go (same x new) refl (before new x) refl (ascends_with before same order new xs long.1 up.1)
  where
    go : (b : Bool) → same x new ≡ b → (d : Bool) → before new x ≡ d → Ascends before (with_pq_entry before same new xs)
        → Ascends before (cond b (later_of x new ∷ xs) (cond d (new ∷ x ∷ xs) (x ∷ with_pq_entry before same new xs)))
    go true e d f below =
        (later_is (λ (z : PqEntry). Each (λ y. before z y ≡ true) xs) x new up.0 (each_weaker (λ y. before x y ≡ true) (λ y. before new y ≡ true) (λ y l. order.first x new y e l) xs up.0), up.1)
    go false e true f below = ((f, each_weaker (λ y. before x y ≡ true) (λ y. before new y ≡ true) (λ y l. order.trans new x y f l) xs up.0), up)
    go false e false f below = (each_with before same (λ y. before x y ≡ true) new xs up.0 (order.total x new long.0 e f), below)

-- each earlier entry is there, or a later one that names the same; and the new one, or a later one
kept_with : (before same : PqEntry → PqEntry → Bool) (P Q : PqEntry → Type 0) (new : PqEntry) → ((x : PqEntry) → P x → Q x) → ((x : PqEntry) → P x → same x new ≡ true → Q (later_of x new)) → (pq_set : List PqEntry)
    → Has P pq_set → Has Q (with_pq_entry before same new pq_set)
kept_with before same P Q new f g [] h = absurd h
kept_with before same P Q new f g (x ∷ xs) h = go (same x new) refl (before new x) h (kept_with before same P Q new f g xs)
  where
    go : (b : Bool) → same x new ≡ b → (d : Bool) → P x ⊎ Has P xs → (Has P xs → Has Q (with_pq_entry before same new xs))
        → Has Q (cond b (later_of x new ∷ xs) (cond d (new ∷ x ∷ xs) (x ∷ with_pq_entry before same new xs)))
    go true e d (inl p) below = inl (g x p e)
    go true e d (inr has) below = inr (has_weaker P Q f xs has)
    go false e true (inl p) below = inr (inl (f x p))
    go false e true (inr has) below = inr (inr (has_weaker P Q f xs has))
    go false e false (inl p) below = inl (f x p)
    go false e false (inr has) below = inr (below has)

new_with : (before same : PqEntry → PqEntry → Bool) (Q : PqEntry → Type 0) (new : PqEntry) → Q new → ((x : PqEntry) → same x new ≡ true → Q (later_of x new)) → (pq_set : List PqEntry)
    → Has Q (with_pq_entry before same new pq_set)
new_with before same Q new q g [] = inl q
new_with before same Q new q g (x ∷ xs) = go (same x new) refl (before new x) (new_with before same Q new q g xs)
  where
    go : (b : Bool) → same x new ≡ b → (d : Bool) → Has Q (with_pq_entry before same new xs)
        → Has Q (cond b (later_of x new ∷ xs) (cond d (new ∷ x ∷ xs) (x ∷ with_pq_entry before same new xs)))
    go true e d below = inl (g x e)
    go false e true below = inl q
    go false e false below = inr below

-- ---- the two orders

pub by_number : IsOrder batch_entry_before same_number
by_number = record {
  trans = λ a b d x y. let p = ltb-true a.number b.number x in let q = ltb-true b.number d.number y in lt-ltb a.number d.number (omega arith);
  other = λ a b x. let p = ltb-true a.number b.number x in ne_eqb b.number a.number (λ e. absurd (omega arith));
  apart = λ a b new x y. let p = ltb-true a.number b.number x in let q = eqb-true a.number new.number y in ne_eqb b.number new.number (λ e. absurd (omega arith));
  total = λ a new long x y. let q = ltb-false new.number a.number y in let ne : a.number ≡ new.number → ⊥ = eqb-false a.number new.number x in lt-ltb a.number new.number (omega arith);
  first = λ a new b x y. let q = eqb-true a.number new.number x in let p = ltb-true a.number b.number y in lt-ltb new.number b.number (omega arith);
  second = λ a new b x y. let q = eqb-true a.number new.number x in let p = ltb-true b.number a.number y in lt-ltb b.number new.number (omega arith);
}

bytes_total : (a b : List ℕ) → length a ≡ length b → (a ≡ b → ⊥) → bytes_before b a ≡ false → bytes_before a b ≡ true
bytes_total [] [] e other h = absurd (other refl)
bytes_total [] (y ∷ ys) e other h = absurd (omega arith)
bytes_total (x ∷ xs) [] e other h = absurd (omega arith)
bytes_total (x ∷ xs) (y ∷ ys) e other h = go (cases_order x y) (bytes_total xs ys (omega arith))
  where
    parts : (nat_lt y x ≡ false) × (((y == x) && bytes_before ys xs) ≡ false)
    parts = or_parts (nat_lt y x) ((y == x) && bytes_before ys xs) h

    go : (x ≡ y) ⊎ ((x < y) ⊎ (y < x)) → ((xs ≡ ys → ⊥) → bytes_before ys xs ≡ false → bytes_before xs ys ≡ true) → (nat_lt x y || ((x == y) && bytes_before xs ys)) ≡ true
    go (inl same) rest =
        let eq : (y == x) ≡ true = eq-eqb y x (sym same) in
        let less : bytes_before ys xs ≡ false = false_from_ne_true (bytes_before ys xs) (λ t. let both = and_from (y == x) (bytes_before ys xs) eq t in let not_both = parts.1 in absurd cc) in
        let differ : xs ≡ ys → ⊥ = λ s. other (ap₂ (λ (m : ℕ) (ms : List ℕ). m ∷ ms) same s) in
        or_right (nat_lt x y) ((x == y) && bytes_before xs ys) (and_from (x == y) (bytes_before xs ys) (eq-eqb x y same) (rest differ less))
    go (inr (inl l)) rest = or_left (nat_lt x y) ((x == y) && bytes_before xs ys) (lt-ltb x y l)
    go (inr (inr l)) rest = let not_less = ltb-false y x parts.0 in absurd (omega arith)

-- ---- names of entries

abbrev Before : PqEntry → PqEntry → Type 0
Before a b = (a.number < b.number) ⊎ ((a.number ≡ b.number) × (bytes_before a.digest b.digest ≡ true))

is_before : (a b : PqEntry) → named_before a b ≡ true → Before a b
is_before a b h = go (or_cases (nat_lt a.number b.number) ((a.number == b.number) && bytes_before a.digest b.digest) h)
  where
    go : (nat_lt a.number b.number ≡ true) ⊎ (((a.number == b.number) && bytes_before a.digest b.digest) ≡ true) → Before a b
    go (inl l) = inl (ltb-true a.number b.number l)
    go (inr l) = let p = and_parts (a.number == b.number) (bytes_before a.digest b.digest) l in inr (eqb-true a.number b.number p.0, p.1)

from_before : (a b : PqEntry) → Before a b → named_before a b ≡ true
from_before a b (inl l) = or_left (nat_lt a.number b.number) ((a.number == b.number) && bytes_before a.digest b.digest) (lt-ltb a.number b.number l)
from_before a b (inr l) =
    or_right (nat_lt a.number b.number) ((a.number == b.number) && bytes_before a.digest b.digest) (and_from (a.number == b.number) (bytes_before a.digest b.digest) (eq-eqb a.number b.number l.0) l.1)

is_same : (a b : PqEntry) → same_name a b ≡ true → (a.number ≡ b.number) × (a.digest ≡ b.digest)
is_same a b h = let p = and_parts (a.number == b.number) (bytes_eq a.digest b.digest) h in (eqb-true a.number b.number p.0, (bytes_eq-Decides a.digest b.digest).0 p.1)

from_same : (a b : PqEntry) → a.number ≡ b.number → a.digest ≡ b.digest → same_name a b ≡ true
from_same a b e f = and_from (a.number == b.number) (bytes_eq a.digest b.digest) (eq-eqb a.number b.number e) ((bytes_eq-Decides a.digest b.digest).1 f)

before_trans : (a b d : PqEntry) → Before a b → Before b d → Before a d
before_trans a b d (inl x) (inl y) = inl (omega arith)
before_trans a b d (inl x) (inr y) = let e = y.0 in inl (omega arith)
before_trans a b d (inr x) (inl y) = let e = x.0 in inl (omega arith)
before_trans a b d (inr x) (inr y) = inr (x.0 ∙ y.0, bytes_trans a.digest b.digest d.digest x.1 y.1)

before_apart : (a b : PqEntry) → Before a b → a.number ≡ b.number → a.digest ≡ b.digest → ⊥
before_apart a b (inl x) e f = absurd (omega arith)
before_apart a b (inr x) e f = bytes_irreflexive b.digest (subst (λ d. bytes_before d b.digest ≡ true) f x.1)

before_total : (a new : PqEntry) → length a.digest ≡ length new.digest → same_name a new ≡ false → named_before new a ≡ false → Before a new
before_total a new long differ less = go (cases_order a.number new.number)
  where
    go : (a.number ≡ new.number) ⊎ ((a.number < new.number) ⊎ (new.number < a.number)) → Before a new
    go (inl e) = inr (
      e,
      bytes_total a.digest new.digest long (λ f. let s = from_same a new e f in absurd cc)
          (false_from_ne_true (bytes_before new.digest a.digest) (λ t. let s = from_before new a (inr (sym e, t)) in absurd cc)),
    )
    go (inr (inl l)) = inl l
    go (inr (inr l)) = let s = from_before new a (inl l) in absurd cc

first_before : (a new b : PqEntry) → a.number ≡ new.number → a.digest ≡ new.digest → Before a b → Before new b
first_before a new b e f (inl l) = inl (omega arith)
first_before a new b e f (inr l) = inr (sym e ∙ l.0, subst (λ d. bytes_before d b.digest ≡ true) f l.1)

second_before : (a new b : PqEntry) → a.number ≡ new.number → a.digest ≡ new.digest → Before b a → Before b new
second_before a new b e f (inl l) = inl (omega arith)
second_before a new b e f (inr l) = inr (l.0 ∙ e, subst (λ d. bytes_before b.digest d ≡ true) f l.1)

pub by_name : IsOrder named_before same_name
by_name = record {
  trans = λ a b d x y. from_before a d (before_trans a b d (is_before a b x) (is_before b d y));
  other = λ a b x. false_from_ne_true (same_name b a) (λ t. let s = is_same b a t in before_apart a b (is_before a b x) (sym s.0) (sym s.1));
  apart = λ a b new x y. false_from_ne_true (same_name b new) (λ t. let s = is_same b new t in let r = is_same a new y in before_apart a b (is_before a b x) (r.0 ∙ sym s.0) (r.1 ∙ sym s.1));
  total = λ a new long x y. from_before a new (before_total a new long x y);
  first = λ a new b x y. let r = is_same a new x in from_before new b (first_before a new b r.0 r.1 (is_before a b y));
  second = λ a new b x y. let r = is_same a new x in from_before b new (second_before a new b r.0 r.1 (is_before b a y));
}

-- ---- one entry more

-- an entry that held before, or this one
abbrev With : (ℕ → ℕ → List ℕ → Type 0) → PqEntry → ℕ → ℕ → List ℕ → Type 0
With holds new v i digest = holds v i digest ⊎ ((new.view ≡ v) × (new.number ≡ i) × (new.digest ≡ digest))

-- an entry of the longer list is still the latest of its number
latest_listed : (holds : ℕ → ℕ → List ℕ → Type 0) (in_marks : ℕ → Bool) (new : PqEntry) (pq_set : List PqEntry) → in_marks new.number ≡ true → IsLatest holds in_marks pq_set
    → (y : PqEntry) → Stands same_number new pq_set y
    → With holds new y.view y.number y.digest × (in_marks y.number ≡ true) × ((v : ℕ) (digest : List ℕ) → y.view < v → With holds new v y.number digest → ⊥)
latest_listed holds in_marks new pq_set marked old y (inl s) =
    let l = old.listed y s.0 in
    (inl l.0, l.1, λ v digest less h. go v digest less l.2 h)
  where
    go : (v : ℕ) (digest : List ℕ) → y.view < v → ((w : ℕ) (d : List ℕ) → y.view < w → holds w y.number d → ⊥) → With holds new v y.number digest → ⊥
    go v digest less none (inl h) = none v digest less h
    go v digest less none (inr h) = let t = eq-eqb y.number new.number (sym h.1) in let f = s.1 in absurd cc
latest_listed holds in_marks new pq_set marked old y (inr (inl s)) =
    subst (λ (z : PqEntry). With holds new z.view z.number z.digest × (in_marks z.number ≡ true) × ((v : ℕ) (digest : List ℕ) → z.view < v → With holds new v z.number digest → ⊥)) s.3
    (go (nat_le s.0.view new.view) refl)
  where
    l : holds s.0.view s.0.number s.0.digest × (in_marks s.0.number ≡ true) × ((v : ℕ) (digest : List ℕ) → s.0.view < v → holds v s.0.number digest → ⊥)
    l = old.listed s.0 s.1

    e : s.0.number ≡ new.number
    e = eqb-true s.0.number new.number s.2

    newer : s.0.view ≤ new.view → (v : ℕ) (digest : List ℕ) → new.view < v → With holds new v new.number digest → ⊥
    newer le v digest less (inl h) = l.2 v digest (omega arith) (subst (λ i. holds v i digest) (sym e) h)
    newer le v digest less (inr h) = let w = h.0 in absurd (omega arith)

    older : new.view < s.0.view → (v : ℕ) (digest : List ℕ) → s.0.view < v → With holds new v s.0.number digest → ⊥
    older lt v digest less (inl h) = l.2 v digest less h
    older lt v digest less (inr h) = let w = h.0 in absurd (omega arith)

    go : (t : Bool) → nat_le s.0.view new.view ≡ t
        → With holds new (cond t new s.0).view (cond t new s.0).number (cond t new s.0).digest × (in_marks (cond t new s.0).number ≡ true)
        × ((v : ℕ) (digest : List ℕ) → (cond t new s.0).view < v → With holds new v (cond t new s.0).number digest → ⊥)
    go true is = (inr (refl, refl, refl), marked, newer (leb-true s.0.view new.view is))
    go false is = (inl l.0, l.1, older (leb-false s.0.view new.view is))
latest_listed holds in_marks new pq_set marked old y (inr (inr s)) =
    subst (λ (z : PqEntry). With holds new z.view z.number z.digest × (in_marks z.number ≡ true) × ((v : ℕ) (digest : List ℕ) → z.view < v → With holds new v z.number digest → ⊥)) s.0
    (inr (refl, refl, refl), marked, λ v digest less h. go v digest less h)
  where
    clash : (xs : List PqEntry) → ((x : PqEntry) → Has (λ z. z ≡ x) xs → same_number x new ≡ false) → Has (λ (x : PqEntry). x.number ≡ new.number) xs → ⊥
    clash [] f has = absurd has
    clash (x ∷ xs) f (inl i) = let t = eq-eqb x.number new.number i in let g = f x (inl refl) in absurd cc
    clash (x ∷ xs) f (inr rest) = clash xs (λ z has. f z (inr has)) rest

    go : (v : ℕ) (digest : List ℕ) → new.view < v → With holds new v new.number digest → ⊥
    go v digest less (inl h) = clash pq_set s.1 (old.all v new.number digest marked h)
    go v digest less (inr h) = let w = h.0 in absurd (omega arith)

later_number : (i : ℕ) (a b : PqEntry) → a.number ≡ i → b.number ≡ i → (later_of a b).number ≡ i
later_number i a b e f = later_is (λ (z : PqEntry). z.number ≡ i) a b e f

latest_with : (holds : ℕ → ℕ → List ℕ → Type 0) (in_marks : ℕ → Bool) (new : PqEntry) (pq_set : List PqEntry) → AreDigests holds → length new.digest ≡ 32 → in_marks new.number ≡ true
    → IsLatest holds in_marks pq_set → IsLatest (With holds new) in_marks (with_prepared new pq_set)
latest_with holds in_marks new pq_set digests long marked old = record {
  listed = λ pq_entry has. latest_listed holds in_marks new pq_set marked old pq_entry (stands batch_entry_before same_number by_number new pq_set pq_entry old.ascending has);
  all = all;
  ascending = ascends_with batch_entry_before same_number by_number new pq_set
      (each_where (λ (x : PqEntry). length x.digest ≡ length new.digest) pq_set (λ x has. digests x.view x.number x.digest (old.listed x has).0 ∙ sym long)) old.ascending;
}
  where
    all : (v i : ℕ) (digest : List ℕ) → in_marks i ≡ true → With holds new v i digest → Has (λ (x : PqEntry). x.number ≡ i) (with_prepared new pq_set)
    all v i digest inside (inl h) =
        kept_with batch_entry_before same_number (λ (x : PqEntry). x.number ≡ i) (λ (x : PqEntry). x.number ≡ i) new (λ x e. e)
        (λ x e same. later_number i x new e (sym (eqb-true x.number new.number same) ∙ e)) pq_set (old.all v i digest inside h)
    all v i digest inside (inr h) =
        new_with batch_entry_before same_number (λ (x : PqEntry). x.number ≡ i) new h.1 (λ x same. later_number i x new (eqb-true x.number new.number same ∙ h.1) h.1) pq_set

each_with_one : (holds : ℕ → ℕ → List ℕ → Type 0) (in_marks : ℕ → Bool) (new : PqEntry) (pq_set : List PqEntry) → AreDigests holds → length new.digest ≡ 32 → in_marks new.number ≡ true
    → IsEach holds in_marks pq_set → IsEach (With holds new) in_marks (with_logged new pq_set)
each_with_one holds in_marks new pq_set digests long marked old = record {
  listed = λ pq_entry has. listed pq_entry (stands named_before same_name by_name new pq_set pq_entry old.ascending has);
  all = all;
  ascending = ascends_with named_before same_name by_name new pq_set
      (each_where (λ (x : PqEntry). length x.digest ≡ length new.digest) pq_set (λ x has. digests x.view x.number x.digest (old.listed x has).0 ∙ sym long)) old.ascending;
}
  where
    listed : (y : PqEntry) → Stands same_name new pq_set y → With holds new y.view y.number y.digest × (in_marks y.number ≡ true)
    listed y (inl s) = let l = old.listed y s.0 in (inl l.0, l.1)
    listed y (inr (inl s)) =
        subst (λ (z : PqEntry). With holds new z.view z.number z.digest × (in_marks z.number ≡ true)) s.3
        (later_is (λ (z : PqEntry). With holds new z.view z.number z.digest × (in_marks z.number ≡ true)) s.0 new (let l = old.listed s.0 s.1 in (inl l.0, l.1)) (inr (refl, refl, refl), marked))
    listed y (inr (inr s)) = subst (λ (z : PqEntry). With holds new z.view z.number z.digest × (in_marks z.number ≡ true)) s.0 (inr (refl, refl, refl), marked)

    name : (i : ℕ) (digest : List ℕ) (a b : PqEntry) → a.number ≡ i → a.digest ≡ digest → b.number ≡ i → b.digest ≡ digest → ((later_of a b).number ≡ i) × ((later_of a b).digest ≡ digest)
    name i digest a b e f g h = later_is (λ (z : PqEntry). (z.number ≡ i) × (z.digest ≡ digest)) a b (e, f) (g, h)

    all : (v i : ℕ) (digest : List ℕ) → in_marks i ≡ true → With holds new v i digest → Has (λ (x : PqEntry). (x.number ≡ i) × (x.digest ≡ digest) × (v ≤ x.view)) (with_logged new pq_set)
    all v i digest inside (inl h) =
        kept_with named_before same_name (λ (x : PqEntry). (x.number ≡ i) × (x.digest ≡ digest) × (v ≤ x.view)) (λ (x : PqEntry). (x.number ≡ i) × (x.digest ≡ digest) × (v ≤ x.view)) new (λ x e. e)
        (λ x e same. let s = is_same x new same in let n = name i digest x new e.0 e.1 (sym s.0 ∙ e.0) (sym s.1 ∙ e.1) in let up = (later_view x new).0 in let le = e.2 in (n.0, n.1, omega arith))
        pq_set (old.all v i digest inside h)
    all v i digest inside (inr h) =
        new_with named_before same_name (λ (x : PqEntry). (x.number ≡ i) × (x.digest ≡ digest) × (v ≤ x.view)) new (let e = h.0 in (h.1, h.2, omega arith))
        (λ x same. let s = is_same x new same in let n = name i digest x new (s.0 ∙ h.1) (s.1 ∙ h.2) h.1 h.2 in let up = (later_view x new).1 in let e = h.0 in (n.0, n.1, omega arith)) pq_set

-- ---- the same over another relation, over other marks, and over several entries

latest_same : (holds other : ℕ → ℕ → List ℕ → Type 0) (in_marks : ℕ → Bool) (pq_set : List PqEntry) → ((v i : ℕ) (digest : List ℕ) → holds v i digest → other v i digest)
    → ((v i : ℕ) (digest : List ℕ) → in_marks i ≡ true → other v i digest → holds v i digest) → IsLatest holds in_marks pq_set → IsLatest other in_marks pq_set
latest_same holds other in_marks pq_set to back old = record {
  listed = λ pq_entry has. let l = old.listed pq_entry has in (to pq_entry.view pq_entry.number pq_entry.digest l.0, l.1, λ v digest less h. l.2 v digest less (back v pq_entry.number digest l.1 h));
  all = λ v i digest inside h. old.all v i digest inside (back v i digest inside h);
  ascending = old.ascending;
}

each_same : (holds other : ℕ → ℕ → List ℕ → Type 0) (in_marks : ℕ → Bool) (pq_set : List PqEntry) → ((v i : ℕ) (digest : List ℕ) → holds v i digest → other v i digest)
    → ((v i : ℕ) (digest : List ℕ) → in_marks i ≡ true → other v i digest → holds v i digest) → IsEach holds in_marks pq_set → IsEach other in_marks pq_set
each_same holds other in_marks pq_set to back old = record {
  listed = λ pq_entry has. let l = old.listed pq_entry has in (to pq_entry.view pq_entry.number pq_entry.digest l.0, l.1);
  all = λ v i digest inside h. old.all v i digest inside (back v i digest inside h);
  ascending = old.ascending;
}

-- the entries that a test leaves
left_is : (test : PqEntry → Bool) (xs : List PqEntry) (y : PqEntry) → Has (λ x. x ≡ y) (filter test xs) → Has (λ x. x ≡ y) xs × (test y ≡ true)
left_is test [] y h = absurd h
left_is test (x ∷ xs) y h = go (test x) refl h (left_is test xs y)
  where
    go : (b : Bool) → test x ≡ b → Has (λ z. z ≡ y) (cond b (x ∷ filter test xs) (filter test xs)) → (Has (λ z. z ≡ y) (filter test xs) → Has (λ z. z ≡ y) xs × (test y ≡ true))
        → Has (λ z. z ≡ y) (x ∷ xs) × (test y ≡ true)
    go true e (inl is) below = (inl is, subst (λ (z : PqEntry). test z ≡ true) is e)
    go true e (inr has) below = let r = below has in (inr r.0, r.1)
    go false e has below = let r = below has in (inr r.0, r.1)

is_left : (test : PqEntry → Bool) (P : PqEntry → Type 0) → ((x : PqEntry) → P x → test x ≡ true) → (xs : List PqEntry) → Has P xs → Has P (filter test xs)
is_left test P f [] h = absurd h
is_left test P f (x ∷ xs) h = go (test x) refl h (is_left test P f xs)
  where
    go : (b : Bool) → test x ≡ b → P x ⊎ Has P xs → (Has P xs → Has P (filter test xs)) → Has P (cond b (x ∷ filter test xs) (filter test xs))
    go true e (inl p) below = inl p
    go true e (inr has) below = inr (below has)
    go false e (inl p) below = absurd (let t = f x p in cc)
    go false e (inr has) below = below has

each_left : (test : PqEntry → Bool) (P : PqEntry → Type 0) (xs : List PqEntry) → Each P xs → Each P (filter test xs)
each_left test P [] h = tt
each_left test P (x ∷ xs) h = go (test x) (each_left test P xs h.1)
  where
    go : (b : Bool) → Each P (filter test xs) → Each P (cond b (x ∷ filter test xs) (filter test xs))
    go true below = (h.0, below)
    go false below = below

pub ascends_left : (before : PqEntry → PqEntry → Bool) (test : PqEntry → Bool) (xs : List PqEntry) → Ascends before xs → Ascends before (filter test xs)
ascends_left before test [] h = tt
ascends_left before test (x ∷ xs) h = go (test x) (ascends_left before test xs h.1)
  where
    go : (b : Bool) → Ascends before (filter test xs) → Ascends before (cond b (x ∷ filter test xs) (filter test xs))
    go true below = (each_left test (λ y. before x y ≡ true) xs h.0, below)
    go false below = below

latest_cut : (holds : ℕ → ℕ → List ℕ → Type 0) (in_marks later : ℕ → Bool) (low : ℕ) (pq_set : List PqEntry) → MovesUp holds in_marks later low
    → IsLatest holds in_marks pq_set → IsLatest holds later (above_mark low pq_set)
latest_cut holds in_marks later low pq_set up old = record {
  listed = λ pq_entry has.
      let r = left_is (λ (x : PqEntry). nat_lt low x.number) pq_set pq_entry has in
      let l = old.listed pq_entry r.0 in
      (l.0, up.still pq_entry.number l.1 (ltb-true low pq_entry.number r.1), l.2);
  all = λ v i digest inside h.
      let a = up.above i inside in
      is_left (λ (x : PqEntry). nat_lt low x.number) (λ (x : PqEntry). x.number ≡ i) (λ x e. lt-ltb low x.number (omega arith)) pq_set (old.all v i digest (up.ahead v i digest inside h) h);
  ascending = ascends_left batch_entry_before (λ (x : PqEntry). nat_lt low x.number) pq_set old.ascending;
}

each_cut : (holds : ℕ → ℕ → List ℕ → Type 0) (in_marks later : ℕ → Bool) (low : ℕ) (pq_set : List PqEntry) → MovesUp holds in_marks later low
    → IsEach holds in_marks pq_set → IsEach holds later (above_mark low pq_set)
each_cut holds in_marks later low pq_set up old = record {
  listed = λ pq_entry has.
      let r = left_is (λ (x : PqEntry). nat_lt low x.number) pq_set pq_entry has in
      let l = old.listed pq_entry r.0 in
      (l.0, up.still pq_entry.number l.1 (ltb-true low pq_entry.number r.1));
  all = λ v i digest inside h.
      let a = up.above i inside in
      is_left (λ (x : PqEntry). nat_lt low x.number) (λ (x : PqEntry). (x.number ≡ i) × (x.digest ≡ digest) × (v ≤ x.view)) (λ x e. let n = e.0 in lt-ltb low x.number (omega arith)) pq_set
      (old.all v i digest (up.ahead v i digest inside h) h);
  ascending = ascends_left named_before (λ (x : PqEntry). nat_lt low x.number) pq_set old.ascending;
}

-- an entry of the list for this number and digest
abbrev Says : List PqEntry → ℕ → ℕ → List ℕ → Type 0
Says pq_set v i digest = Has (λ (pq_entry : PqEntry). (pq_entry.view ≡ v) × (pq_entry.number ≡ i) × (pq_entry.digest ≡ digest)) pq_set

abbrev WithAll : (ℕ → ℕ → List ℕ → Type 0) → List PqEntry → ℕ → ℕ → List ℕ → Type 0
WithAll holds new v i digest = holds v i digest ⊎ Says new v i digest

digests_with : (holds : ℕ → ℕ → List ℕ → Type 0) (x : PqEntry) → AreDigests holds → length x.digest ≡ 32 → AreDigests (With holds x)
digests_with holds x digests long v i digest (inl h) = digests v i digest h
digests_with holds x digests long v i digest (inr h) = ap length (sym h.2) ∙ long

regroup : (holds : ℕ → ℕ → List ℕ → Type 0) (x : PqEntry) (xs : List PqEntry) (v i : ℕ) (digest : List ℕ) → WithAll (With holds x) xs v i digest → WithAll holds (x ∷ xs) v i digest
regroup holds x xs v i digest (inl (inl h)) = inl h
regroup holds x xs v i digest (inl (inr h)) = inr (inl h)
regroup holds x xs v i digest (inr h) = inr (inr h)

regroup_back : (holds : ℕ → ℕ → List ℕ → Type 0) (x : PqEntry) (xs : List PqEntry) (v i : ℕ) (digest : List ℕ) → WithAll holds (x ∷ xs) v i digest → WithAll (With holds x) xs v i digest
regroup_back holds x xs v i digest (inl h) = inl (inl h)
regroup_back holds x xs v i digest (inr (inl h)) = inl (inr h)
regroup_back holds x xs v i digest (inr (inr h)) = inr h

none_said : (holds : ℕ → ℕ → List ℕ → Type 0) (v i : ℕ) (digest : List ℕ) → WithAll holds [] v i digest → holds v i digest
none_said holds v i digest (inl h) = h
none_said holds v i digest (inr h) = absurd h

latest_all : (new : List PqEntry) (holds : ℕ → ℕ → List ℕ → Type 0) (in_marks : ℕ → Bool) (pq_set : List PqEntry) → AreDigests holds
    → Each (λ (x : PqEntry). (length x.digest ≡ 32) × (in_marks x.number ≡ true)) new → IsLatest holds in_marks pq_set → IsLatest (WithAll holds new) in_marks (with_all with_prepared new pq_set)
latest_all [] holds in_marks pq_set digests fit old = latest_same holds (WithAll holds []) in_marks pq_set (λ v i d h. inl h) (λ v i d inside h. none_said holds v i d h) old
latest_all (x ∷ xs) holds in_marks pq_set digests fit old =
    latest_same (WithAll (With holds x) xs) (WithAll holds (x ∷ xs)) in_marks (with_all with_prepared xs (with_prepared x pq_set)) (λ v i d h. regroup holds x xs v i d h) (λ v i d inside h. regroup_back holds x xs v i d h)
    (latest_all xs (With holds x) in_marks (with_prepared x pq_set) (digests_with holds x digests fit.0.0) fit.1 (latest_with holds in_marks x pq_set digests fit.0.0 fit.0.1 old))

each_all : (new : List PqEntry) (holds : ℕ → ℕ → List ℕ → Type 0) (in_marks : ℕ → Bool) (pq_set : List PqEntry) → AreDigests holds
    → Each (λ (x : PqEntry). (length x.digest ≡ 32) × (in_marks x.number ≡ true)) new → IsEach holds in_marks pq_set → IsEach (WithAll holds new) in_marks (with_all with_logged new pq_set)
each_all [] holds in_marks pq_set digests fit old = each_same holds (WithAll holds []) in_marks pq_set (λ v i d h. inl h) (λ v i d inside h. none_said holds v i d h) old
each_all (x ∷ xs) holds in_marks pq_set digests fit old =
    each_same (WithAll (With holds x) xs) (WithAll holds (x ∷ xs)) in_marks (with_all with_logged xs (with_logged x pq_set)) (λ v i d h. regroup holds x xs v i d h) (λ v i d inside h. regroup_back holds x xs v i d h)
    (each_all xs (With holds x) in_marks (with_logged x pq_set) (digests_with holds x digests fit.0.0) fit.1 (each_with_one holds in_marks x pq_set digests fit.0.0 fit.0.1 old))

-- ---- histories

marks_parts : (c : Configuration) (h i : ℕ) → is_in_marks c h i ≡ true → (h < i) × (i ≤ h + span c) × (i < 2 ^ 48)
marks_parts c h i t =
    let a = and_parts (nat_lt h i && nat_le i (h + span c)) (is_number i) t in
    let b = and_parts (nat_lt h i) (nat_le i (h + span c)) a.0 in
    (ltb-true h i b.0, leb-true i (h + span c) b.1, ltb-true i (2 ^ 48) a.1)

marks_from : (c : Configuration) (h i : ℕ) → h < i → i ≤ h + span c → i < 2 ^ 48 → is_in_marks c h i ≡ true
marks_from c h i a b d = and_from (nat_lt h i && nat_le i (h + span c)) (is_number i) (and_from (nat_lt h i) (nat_le i (h + span c)) (lt-ltb h i a) (le-leb i (h + span c) b)) (lt-ltb i (2 ^ 48) d)

moves_up : (c : Configuration) (me : ℕ) (e : Entry) (past : List Entry) (holds : ℕ → ℕ → List ℕ → Type 0)
    → ((v i : ℕ) (digest : List ℕ) → holds v i digest → (i ≤ low c me past + span c) × (i < 2 ^ 48))
    → MovesUp holds (is_in_marks c (low c me past)) (is_in_marks c (low c me (e ∷ past))) (low c me (e ∷ past))
moves_up c me e past holds ahead =
    let grows = low_grows c me e past in
    record {
      above = λ i t. (marks_parts c (low c me (e ∷ past)) i t).0;
      ahead = λ v i digest t h. let m = (marks_parts c (low c me (e ∷ past)) i t).0 in let a = ahead v i digest h in marks_from c (low c me past) i (omega arith) a.0 a.1;
      still = λ i t l. let m = marks_parts c (low c me past) i t in let n = m.1 in marks_from c (low c me (e ∷ past)) i l (omega arith) m.2;
    }

is_added : (before after : ℕ → ℕ → List ℕ → Type 0) (in_marks : ℕ → Bool) (new : List PqEntry) → AddsPqEntries before after in_marks new
    → (v i : ℕ) (digest : List ℕ) → WithAll before new v i digest → after v i digest
is_added before after in_marks new adds v i digest (inl h) = adds.stays v i digest h
is_added before after in_marks new adds v i digest (inr h) =
    let r = has_some (λ (pq_entry : PqEntry). (pq_entry.view ≡ v) × (pq_entry.number ≡ i) × (pq_entry.digest ≡ digest)) new h in
    let a = (each_has (λ (pq_entry : PqEntry). after pq_entry.view pq_entry.number pq_entry.digest × (in_marks pq_entry.number ≡ true)) new r.0 adds.new r.1).0 in
    subst (λ d. after v i d) r.2.2 (subst (λ j. after v j r.0.digest) r.2.1 (subst (λ w. after w r.0.number r.0.digest) r.2.0 a))

prepared_digests : (c : Configuration) (me : ℕ) (past : List Entry) → AreDigests (IsPreparedAs c me past)
prepared_digests c me past v i digest h = ap length (sym h.2) ∙ length-sha256 h.0

pub logged_digests : (c : Configuration) (me : ℕ) (past : List Entry) → AreDigests (IsLoggedAs c me past)
logged_digests c me past v i digest h = ap length (sym h.2) ∙ length-sha256 h.0

pub latest_is_recorded : LatestIsRecorded
latest_is_recorded before after in_marks later low pq_set new digests fresh up old adds =
    latest_same (WithAll before new) after later (with_all with_prepared new (above_mark low pq_set)) (is_added before after later new adds) adds.only
    (latest_all new before later (above_mark low pq_set) digests
    (each_weaker (λ (x : PqEntry). after x.view x.number x.digest × (later x.number ≡ true)) (λ (x : PqEntry). (length x.digest ≡ 32) × (later x.number ≡ true))
    (λ x h. (fresh x.view x.number x.digest h.0, h.1)) new adds.new)
    (latest_cut before in_marks later low pq_set up old))

pub each_is_recorded : EachIsRecorded
each_is_recorded before after in_marks later low pq_set new digests fresh up old adds =
    each_same (WithAll before new) after later (with_all with_logged new (above_mark low pq_set)) (is_added before after later new adds) adds.only
    (each_all new before later (above_mark low pq_set) digests
    (each_weaker (λ (x : PqEntry). after x.view x.number x.digest × (later x.number ≡ true)) (λ (x : PqEntry). (length x.digest ≡ 32) × (later x.number ≡ true))
    (λ x h. (fresh x.view x.number x.digest h.0, h.1)) new adds.new)
    (each_cut before in_marks later low pq_set up old))

pub prepared_is_recorded : PreparedIsRecorded
prepared_is_recorded c me e past pq_set new ahead old adds =
    latest_is_recorded (IsPreparedAs c me past) (IsPreparedAs c me (e ∷ past)) (is_in_marks c (low c me past)) (is_in_marks c (low c me (e ∷ past))) (low c me (e ∷ past)) pq_set new
    (prepared_digests c me past) (prepared_digests c me (e ∷ past)) (moves_up c me e past (IsPreparedAs c me past) (λ v i digest h. ahead v i h.0 h.1.logged)) old adds

pub logged_is_recorded : LoggedIsRecorded
logged_is_recorded c me e past pq_set new ahead old adds =
    each_is_recorded (IsLoggedAs c me past) (IsLoggedAs c me (e ∷ past)) (is_in_marks c (low c me past)) (is_in_marks c (low c me (e ∷ past))) (low c me (e ∷ past)) pq_set new
    (logged_digests c me past) (logged_digests c me (e ∷ past)) (moves_up c me e past (IsLoggedAs c me past) (λ v i digest h. ahead v i h.0 h.1)) old adds

pub records_begin : RecordsBegin
unfolding logged
records_begin c me = (
  record { listed = λ pq_entry has. absurd has; all = λ v i digest inside h. absurd (let l = h.1.logged in cc); ascending = tt },
  record { listed = λ pq_entry has. absurd has; all = λ v i digest inside h. absurd (let l = h.1 in cc); ascending = tt },
)

-- ---- lists of a view change

all_of : (P : PqEntry → Type 0) (xs : List PqEntry) → Each P xs → All P xs
all_of P [] h k d l = absurd (omega arith)
all_of P (x ∷ xs) h zero d l = h.0
all_of P (x ∷ xs) h (suc k) d l = all_of P xs h.1 k d (omega arith)

pairs_of : (before : PqEntry → PqEntry → Bool) (R : PqEntry → PqEntry → Type 0) → ((x y : PqEntry) → before x y ≡ true → R x y) → (xs : List PqEntry) → Ascends before xs → AllPairs R xs
pairs_of before R f [] h = λ i j d less within. absurd (omega arith)
pairs_of before R f (x ∷ xs) h = AllPairs-cons R x xs (all_of (R x) xs (each_weaker (λ y. before x y ≡ true) (R x) (λ y t. f x y t) xs h.0)) (pairs_of before R f xs h.1)

pub records_are_lists : RecordsAreLists
records_are_lists c me past prepared logged p q = (
  record {
    listed = λ pq_entry has. let l = p.listed pq_entry has in (l.0, l.1, λ v batch less h. l.2 v (sha256 batch) less (batch, h, refl));
    all = λ v i batch inside h. p.all v i (sha256 batch) inside (batch, h, refl);
    ascending = pairs_of batch_entry_before (λ x y. x.number < y.number) (λ x y t. ltb-true x.number y.number t) prepared p.ascending;
  },
  record {
    listed = λ pq_entry has. q.listed pq_entry has;
    all = λ v i batch inside h. q.all v i (sha256 batch) inside (batch, h, refl);
    differ = pairs_of named_before (λ x y. (x.number ≡ y.number) → x.digest ≢ y.digest) (λ x y t e f. before_apart x y (is_before x y t) e f) logged q.ascending;
  },
)
