-- The numbers of an array, read one after another.
use Rattle.std.proofs.Common.{◌≡◌, ◌≢◌, ℕ, ℤ, zero, suc, ◌+◌, ◌<◌, ◌≤◌, ◌==◌, nat_lt, Bool, true, false, ltb-true, ltb-false, eq-eqb, arith, pos, List, [], ◌∷◌, ◌++◌, length, take, get_or, Option, Some, ap, refl, sym, subst, ◌∙◌, length-append, eqb-true, true≢false, get_or-take, length-take-le}
use Rattle.std.specs.Prelude.{All, AllPairs}
use Rattle.std.specs.List.{list_any}
use Rattle.std.proofs.lemmas.List.{take_more, get_or_append_left, get_or-append-add, get_or_default}
use Rattle.std.proofs.lemmas.List.Elements.{All-nil, All-cons, All-append}
use Rattle.std.proofs.lemmas.List.Folds.{Any-from_list_any, list_any_at}
use Rattle.toml.specs.Data.{as_integer, no_items, item}
use Rattle.toml.specs.View.{view, items_view}
use Rattle.toml.specs.declared.value.Value.{Value}
use Rattle.config_text.specs.Reading.{AreNumbers}
use Rattle.config_text.specs.Judging.{AreParties}

pushed : (vs : List Value) (ns : List ℕ) (v : Value) (n : ℕ) → AreNumbers (items_view vs) ns → as_integer (view v) ≡ Some (pos n) → AreNumbers (items_view (vs ++ v ∷ [])) (ns ++ n ∷ [])
pushed [] ns v n h e = subst (λ ms. AreNumbers (item (view v) no_items) (ms ++ n ∷ [])) (sym h) (e, refl)
pushed (x ∷ vs) [] v n h e = absurd h
pushed (x ∷ vs) (m ∷ ns) v n h e = (h.0, pushed vs ns v n h.1 e)

pub one_more : (vs : List Value) (i : ℕ) (v : Value) (ns after : List ℕ) (n : ℕ) → i < length vs → v ≡ get_or vs i v → AreNumbers (items_view (take i vs)) ns → as_integer (view v) ≡ Some (pos n) → after ≡ ns ++ n ∷ [] → AreNumbers (items_view (take (i + 1) vs)) after
one_more vs i v ns after n p e h k a =
    subst (AreNumbers (items_view (take (i + 1) vs))) (sym a)
    (subst (λ ws. AreNumbers (items_view ws) (ns ++ n ∷ []))
    (sym (take_more vs i v p ∙ ap (λ w. take i vs ++ w ∷ []) (sym e))) (pushed (take i vs) ns v n h k))

same_pos : (o : Option ℤ) (n m : ℕ) → o ≡ Some (pos n) → o ≡ Some (pos m) → n ≡ m
same_pos o n m h k = let e : Some (pos n) ≡ Some (pos m) = sym h ∙ k in cc

-- ---- any numbers of the array

number_at : (vs : List Value) (i : ℕ) (v : Value) → i < length vs → v ≡ get_or vs i v → (ns : List ℕ) → AreNumbers (items_view vs) ns → (as_integer (view v) ≡ Some (pos (get_or ns i 0))) × (i < length ns)
number_at [] i v p e ns h = absurd (omega arith)
number_at (x ∷ vs) i v p e [] h = absurd h
number_at (x ∷ vs) zero v p e (n ∷ ns) h = (rw e h.0, omega arith)
number_at (x ∷ vs) (suc i) v p e (n ∷ ns) h = let r = number_at vs i v (omega arith) e ns h.1 in (r.0, omega (arith, r.1))

taken : (vs : List Value) (i : ℕ) (xs ns : List ℕ) → AreNumbers (items_view (take i vs)) xs → AreNumbers (items_view vs) ns → take i ns ≡ xs
taken [] zero xs ns h k = sym h
taken [] (suc i) xs ns h k = rw k (sym h)
taken (v ∷ vs) zero xs ns h k = sym h
taken (v ∷ vs) (suc i) [] ns h k = absurd h
taken (v ∷ vs) (suc i) (x ∷ xs) [] h k = absurd k
taken (v ∷ vs) (suc i) (x ∷ xs) (n ∷ ns) h k =
    ap (λ y. y ∷ take i ns) (same_pos (as_integer (view v)) n x k.0 h.0) ∙ ap (λ ys. x ∷ ys) (taken vs i xs ns h.1 k.1)

-- A value is no number of one of so many parties.
pub no_party : (vs : List Value) (i parties : ℕ) (v : Value) → i < length vs → v ≡ get_or vs i v → ((n : ℕ) → as_integer (view v) ≡ Some (pos n) → n < parties → ⊥) → (ns : List ℕ) → AreNumbers (items_view vs) ns → AreParties parties ns → ⊥
no_party vs i parties v p e none ns h k =
    let r = number_at vs i v p e ns h in
    none (get_or ns i 0) r.0 (k.0 i 0 r.1)

-- A value is the number of one of those before.
pub named_twice : (vs : List Value) (i parties : ℕ) (v : Value) (xs : List ℕ) (x : ℕ) → i < length vs → v ≡ get_or vs i v → AreNumbers (items_view (take i vs)) xs → as_integer (view v) ≡ Some (pos x)
    → list_any (λ y. y == x) xs ≡ true → (ns : List ℕ) → AreNumbers (items_view vs) ns → AreParties parties ns → ⊥
named_twice vs i parties v xs x p e before here found ns h k =
    let r = number_at vs i v p e ns h in
    let last : get_or ns i 0 ≡ x = same_pos (as_integer (view v)) (get_or ns i 0) x r.0 here in
    let same : take i ns ≡ xs = taken vs i xs ns before h in
    let any = Any-from_list_any (λ y. y == x) xs found in
    let few : any.0 < length (take i ns) = subst (λ ys. any.0 < length ys) (sym same) any.2 in
    let early : any.0 < i = omega (arith, few, length-take-le i ns (omega (arith, r.1))) in
    let first : get_or ns any.0 0 ≡ x =
    sym (get_or-take i ns any.0 0 early) ∙ ap (λ ys. get_or ys any.0 0) same ∙ get_or_default xs any.0 0 any.1 any.2 ∙ any.3 ∙ eqb-true any.1 x any.4 in
    k.1 any.0 i 0 early r.1 (first ∙ sym last)

-- ---- one party more

differs : (xs : List ℕ) (x : ℕ) → list_any (λ y. y == x) xs ≡ false → (k : ℕ) → k < length xs → get_or xs k 0 ≢ x
differs xs x none k p e = true≢false (sym (list_any_at (λ y. y == x) xs k 0 p (rw e (eq-eqb x x refl))) ∙ none)

pub one_party_more : (parties : ℕ) (xs : List ℕ) (x : ℕ) → AreParties parties xs → x < parties → list_any (λ y. y == x) xs ≡ false → AreParties parties (xs ++ x ∷ [])
one_party_more parties xs x h p none = (
  All-append (λ n. n < parties) xs (x ∷ []) h.0 (All-cons (λ n. n < parties) x [] p (All-nil (λ n. n < parties))),
  pairs,
)
  where
    pairs : AllPairs (λ n m. n ≢ m) (xs ++ x ∷ [])
    pairs i j d below within = at (nat_lt j (length xs)) refl
      where
        at : (b : Bool) → nat_lt j (length xs) ≡ b → get_or (xs ++ x ∷ []) i d ≢ get_or (xs ++ x ∷ []) j d
        at true e same =
            let inside : j < length xs = ltb-true j (length xs) e in
            h.1 i j d below inside (sym (get_or_append_left xs (x ∷ []) d i (omega (arith, inside, below))) ∙ same ∙ get_or_append_left xs (x ∷ []) d j inside)
        at false e same =
            let past : length xs ≤ j = ltb-false j (length xs) e in
            let place : j ≡ length xs + 0 = omega (arith, past, within, length-append xs (x ∷ [])) in
            let here : i < length xs = omega (arith, place, below) in
            let last : get_or (xs ++ x ∷ []) j d ≡ x = ap (λ k. get_or (xs ++ x ∷ []) k d) place ∙ get_or-append-add xs (x ∷ []) 0 d in
            differs xs x none i here (get_or_default xs i 0 d here ∙ sym (get_or_append_left xs (x ∷ []) d i here) ∙ same ∙ last)
