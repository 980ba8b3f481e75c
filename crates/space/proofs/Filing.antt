-- Lists of births by numbers and by keys follow the entries.
use Rattle.std.proofs.Common.{◌≡◌, ◌≢◌, ℕ, zero, suc, ◌<◌, Bool, true, false, cond, List, [], ◌∷◌, ◌++◌, length, get_or}
use Rattle.std.proofs.Common.{map, Some, refl, sym, ap, subst, ◌∙◌, arith, eq-eqb}
use Rattle.std.specs.Prelude.{◌==◌, All, AllPairs, filter, find, remove, nat_lt, option_to_list}
use Rattle.std.specs.Ordering.{nat_cmp, is_eq}
use Rattle.std.specs.declared.cmp.Ordering.TheVariants.{Less, Equal, Greater}
use Rattle.std.specs.Map.{lookup}
use Rattle.std.specs.BTreeMap.{is_at}
use Rattle.std.proofs.lemmas.Bool.{ne_eqb, le-ltb}
use Rattle.std.proofs.lemmas.List.{length-map, map-append, get_or-map}
use Rattle.std.proofs.lemmas.List.Concat.{flat_map-cons}
use Rattle.std.proofs.lemmas.List.Elements.{All-head, All-tail, All-cons, All-nil, filter-append}
use Rattle.std.proofs.lemmas.List.Kept.{AllPairs-filter}
use Rattle.tuple_tree.specs.Items.{none}
use Rattle.tuple_tree.specs.Values.{TupleTree}
use Rattle.space.specs.Ages.{births_without}
use Rattle.space.specs.Births.{BornTuple}
use Rattle.space.specs.Filing.{births_by, IsFiled}
use Rattle.space.specs.Found.{entry_of_birth, entries_at}

-- ---- the births of the entries that pass a test

module _ (test : BornTuple → Bool) where
  births_by-cons : (x : BornTuple) (xs : List BornTuple) → births_by test (x ∷ xs) ≡ cond (test x) (x.0 ∷ births_by test xs) (births_by test xs)
  births_by-cons x xs = go (test x)
    where
      go : (b : Bool) → map {A = BornTuple} (λ e. e.0) (cond b (x ∷ filter test xs) (filter test xs)) ≡ cond b (x.0 ∷ births_by test xs) (births_by test xs)
      go true = refl
      go false = refl

  pub births_by_push : (es : List BornTuple) (e : BornTuple) → births_by test (es ++ e ∷ []) ≡ births_by test es ++ cond (test e) (e.0 ∷ []) []
  births_by_push es e =
      ap (map (λ (x : BornTuple). x.0)) (filter-append test es (e ∷ []))
      ∙ map-append (λ (x : BornTuple). x.0) (filter test es) (filter test (e ∷ []))
      ∙ ap (λ xs. births_by test es ++ xs) (births_by-cons e [])

  pub rising_births : (es : List BornTuple) → AllPairs (λ e f. e.0 < f.0) es → AllPairs (λ a b. a < b) (births_by test es)
  rising_births es h i j d l m =
      let fs : List BornTuple = filter test es in
      let n : length (map {A = BornTuple} (λ e. e.0) fs) ≡ length fs = length-map fs (λ e. e.0) in
      let a = get_or-map (λ (e : BornTuple). e.0) fs i (d, none) d (omega arith) in
      let b = get_or-map (λ (e : BornTuple). e.0) fs j (d, none) d (omega arith) in
      let c = AllPairs-filter (λ e f. e.0 < f.0) test es h i j (d, none) l (omega arith) in
      omega arith

  births_by-remove-first : (x : BornTuple) (xs : List BornTuple) → births_by test xs ≡ cond (test x) (births_without x.0 (births_by test (x ∷ xs))) (births_by test (x ∷ xs))
  births_by-remove-first x xs = go (test x) ∙ ap (λ zs. cond (test x) (births_without x.0 zs) zs) (sym (births_by-cons x xs))
    where
      go : (b : Bool) → births_by test xs ≡ cond b (births_without x.0 (cond b (x.0 ∷ births_by test xs) (births_by test xs))) (cond b (x.0 ∷ births_by test xs) (births_by test xs))
      go true = sym (ap (λ t. cond t (births_by test xs) (x.0 ∷ births_without x.0 (births_by test xs))) (eq-eqb x.0 x.0 refl))
      go false = refl

  pub births_by-remove : (es : List BornTuple) (i : ℕ) (e : BornTuple) → AllPairs (λ e f. e.0 < f.0) es → i < length es → e ≡ get_or es i e
      → births_by test (remove es i) ≡ cond (test e) (births_without e.0 (births_by test es)) (births_by test es)
  births_by-remove [] i e h l is = absurd (omega arith)
  births_by-remove (x ∷ xs) zero e h l is =
      subst (λ (y : BornTuple). births_by test xs ≡ cond (test y) (births_without y.0 (births_by test (x ∷ xs))) (births_by test (x ∷ xs))) (sym is) (births_by-remove-first x xs)
  births_by-remove (x ∷ xs) (suc i) e h l is =
      births_by-cons x (remove xs i)
      ∙ go (test x) (test e) (births_by test xs) (births_by test (remove xs i))
      (births_by-remove xs i e (λ j k d m n. h (suc j) (suc k) d (omega arith) (omega arith)) (omega arith) is)
      ∙ ap (λ zs. cond (test e) (births_without e.0 zs) zs) (sym (births_by-cons x xs))
    where
      apart : (x.0 == e.0) ≡ false
      apart =
          let less : x.0 < (get_or xs i e).0 = h 0 (suc i) e (omega arith) (omega arith) in
          let here : e ≡ get_or xs i e = is in
          let same : e.0 ≡ (get_or xs i e).0 = ap (λ (y : BornTuple). y.0) here in
          ne_eqb x.0 e.0 (λ k. omega arith)

      go : (a b : Bool) (ys rs : List ℕ) → rs ≡ cond b (births_without e.0 ys) ys → cond a (x.0 ∷ rs) rs ≡ cond b (births_without e.0 (cond a (x.0 ∷ ys) ys)) (cond a (x.0 ∷ ys) ys)
      go true true ys rs k = ap (λ zs. x.0 ∷ zs) k ∙ sym (ap (λ t. cond t ys (x.0 ∷ births_without e.0 ys)) apart)
      go true false ys rs k = ap (λ zs. x.0 ∷ zs) k
      go false true ys rs k = k
      go false false ys rs k = k

-- ---- lists of a number

module _ (number_of : BornTuple → ℕ) (old : ℕ → List ℕ) (es : List BornTuple) (filed : IsFiled number_of old es) where
  pub IsFiled-push : (new : ℕ → List ℕ) (e : BornTuple) (number : ℕ) → number ≡ number_of e
      → ((n : ℕ) → new n ≡ old n ++ cond (number == n) (e.0 ∷ []) []) → IsFiled number_of new (es ++ e ∷ [])
  IsFiled-push new e number is h n =
      h n ∙ ap (λ xs. xs ++ cond (number == n) (e.0 ∷ []) []) (filed n)
      ∙ ap (λ k. births_by (λ x. number_of x == n) es ++ cond (k == n) (e.0 ∷ []) []) is
      ∙ sym (births_by_push (λ x. number_of x == n) es e)

  filed_rising : (n : ℕ) → AllPairs (λ e f. e.0 < f.0) es → AllPairs (λ a b. a < b) (old n)
  filed_rising n h = subst (AllPairs (λ a b. a < b)) (sym (filed n)) (rising_births (λ e. number_of e == n) es h)

  pub IsFiled-remove : (new : ℕ → List ℕ) (i : ℕ) (e : BornTuple) (number : ℕ) → number ≡ number_of e → AllPairs (λ e f. e.0 < f.0) es → i < length es → e ≡ get_or es i e
      → (AllPairs (λ a b. a < b) (old number) → (n : ℕ) → new n ≡ cond (number == n) (births_without e.0 (old n)) (old n))
      → IsFiled number_of new (remove es i)
  IsFiled-remove new i e number is rising within here h n =
      h (filed_rising number rising) n ∙ ap (λ xs. cond (number == n) (births_without e.0 xs) xs) (filed n)
      ∙ ap (λ k. cond (k == n) (births_without e.0 (births_by (λ x. number_of x == n) es)) (births_by (λ x. number_of x == n) es)) is
      ∙ sym (births_by-remove (λ x. number_of x == n) es i e rising within here)

-- ---- from births back to entries

pub at_same : (b : ℕ) → is_eq (nat_cmp b b) ≡ true
at_same b =
    ap (λ t. is_eq (cond t Less (cond (b == b) Equal Greater))) (le-ltb b b (omega arith))
    ∙ ap (λ t. is_eq (cond t Equal Greater)) (eq-eqb b b refl)

pub at_other : (a b : ℕ) → a ≢ b → is_eq (nat_cmp a b) ≡ false
at_other a b ne = go (nat_lt a b)
  where
    go : (t : Bool) → is_eq (cond t Less (cond (a == b) Equal Greater)) ≡ false
    go true = refl
    go false = ap (λ t. is_eq (cond t Equal Greater)) (ne_eqb a b ne)

-- a look-up finds each entry
pub each_found : (es : List BornTuple) → AllPairs (λ e f. e.0 < f.0) es → All (λ e. lookup (is_at (nat_cmp e.0)) es ≡ Some e.1) es
each_found [] h = All-nil _
each_found (x ∷ xs) h =
    All-cons (λ e. lookup (is_at (nat_cmp e.0)) (x ∷ xs) ≡ Some e.1) x xs
    (ap (λ t. cond t (Some x.1) (lookup (is_at (nat_cmp x.0)) xs)) (at_same x.0))
    (λ k d l.
    let less : x.0 < (get_or xs k d).0 = h 0 (suc k) d (omega arith) (omega arith) in
    ap (λ t. cond t (Some x.1) (lookup (is_at (nat_cmp (get_or xs k d).0)) xs)) (at_other (get_or xs k d).0 x.0 (λ same. omega arith))
    ∙ each_found xs (λ i j e m n. h (suc i) (suc j) e (omega arith) (omega arith)) k d l)

found_one : (es : List BornTuple) (e : BornTuple) → lookup (is_at (nat_cmp e.0)) es ≡ Some e.1 → entry_of_birth es e.0 ≡ e ∷ []
found_one es e h = ap (λ o. map (λ (t : TupleTree). (e.0, t)) (option_to_list o)) h

-- The births of entries lead to them.
pub entries_listed : (es fs : List BornTuple) → All (λ e. lookup (is_at (nat_cmp e.0)) es ≡ Some e.1) fs → entries_at es (map (λ e. e.0) fs) ≡ fs
entries_listed es [] h = refl
entries_listed es (x ∷ xs) h =
    flat_map-cons (entry_of_birth es) x.0 (map (λ (e : BornTuple). e.0) xs)
    ∙ ap (λ ys. ys ++ entries_at es (map (λ (e : BornTuple). e.0) xs)) (found_one es x (All-head (λ e. lookup (is_at (nat_cmp e.0)) es ≡ Some e.1) x xs h))
    ∙ ap (λ ys. x ∷ ys) (entries_listed es xs (All-tail (λ e. lookup (is_at (nat_cmp e.0)) es ≡ Some e.1) x xs h))

module _ (test : BornTuple → Bool) (es : List BornTuple) where
  entries_among : (fs : List BornTuple) → All (λ e. lookup (is_at (nat_cmp e.0)) es ≡ Some e.1) fs → entries_at es (births_by test fs) ≡ filter test fs
  entries_among [] h = refl
  entries_among (x ∷ xs) h =
      ap (entries_at es) (births_by-cons test x xs)
      ∙ go (test x) (entries_among xs (All-tail (λ e. lookup (is_at (nat_cmp e.0)) es ≡ Some e.1) x xs h))
    where
      go : (b : Bool) → entries_at es (births_by test xs) ≡ filter test xs → entries_at es (cond b (x.0 ∷ births_by test xs) (births_by test xs)) ≡ cond b (x ∷ filter test xs) (filter test xs)
      go true rest =
          flat_map-cons (entry_of_birth es) x.0 (births_by test xs)
          ∙ ap (λ ys. ys ++ entries_at es (births_by test xs)) (found_one es x (All-head (λ e. lookup (is_at (nat_cmp e.0)) es ≡ Some e.1) x xs h))
          ∙ ap (λ ys. x ∷ ys) rest
      go false rest = rest

  pub entries_of_births : AllPairs (λ e f. e.0 < f.0) es → entries_at es (births_by test es) ≡ filter test es
  entries_of_births h = entries_among es (each_found es h)

-- ---- matches among candidates

implied_false : (a b : Bool) → (a ≡ true → b ≡ true) → b ≡ false → a ≡ false
implied_false true b h e = absurd (let t : true ≡ false = sym (h refl) ∙ e in cc)
implied_false false b h e = refl

module _ {X : Type 0} (narrow wide : X → Bool) (within : (x : X) → narrow x ≡ true → wide x ≡ true) where
  pub find-filter : (xs : List X) → find narrow (filter wide xs) ≡ find narrow xs
  find-filter [] = refl
  find-filter (x ∷ xs) = go (wide x) refl (find-filter xs)
    where
      go : (b : Bool) → wide x ≡ b → find narrow (filter wide xs) ≡ find narrow xs → find narrow (cond b (x ∷ filter wide xs) (filter wide xs)) ≡ cond (narrow x) (Some x) (find narrow xs)
      go true e rest = ap (λ o. cond (narrow x) (Some x) o) rest
      go false e rest = rest ∙ sym (ap (λ b. cond b (Some x) (find narrow xs)) (implied_false (narrow x) (wide x) (within x) e))
