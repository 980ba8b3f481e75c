-- Entries in any order, each found by the place that it lies at.
use Rattle.std.proofs.Common.{◌≡◌, ◌≢◌, ℕ, zero, suc, ◌+◌, ◌<◌, Bool, true, false, cond, List, [], ◌∷◌, ◌++◌, length}
use Rattle.std.proofs.Common.{drop, get_or, Option, Some, None, refl, sym, ap, subst, ◌∙◌, arith, inl, inr, eq-eqb}
use Rattle.std.specs.Prelude.{◌==◌, All}
use Rattle.std.specs.List.{IsDistinct, AllByRecursion, swap_remove}
use Rattle.std.specs.List.Sorted.{IsPermutation}
use Rattle.std.specs.Ordering.{nat_cmp}
use Rattle.std.specs.Map.{keys_of, lookup}
use Rattle.std.specs.BTreeMap.{is_at}
use Rattle.std.proofs.lemmas.Bool.{cases_eq, ne_eqb}
use Rattle.std.proofs.lemmas.List.{get_or_default}
use Rattle.std.proofs.lemmas.List.Sorted.{IsPermutation-map, IsPermutation-swap_remove, IsPermutation-to_front}
use Rattle.std.proofs.lemmas.List.Sorted.{IsPermutation-sym, Contains-permutation}
use Rattle.std.proofs.lemmas.Map.Keys.{IsDistinct-IsPermutation, IsDistinct-head, IsDistinct-tail, IsDistinct-cons}
use Rattle.std.proofs.lemmas.Map.Views.{Contains-from_lookup, lookup-from_Contains, exact_unsigned_eq}
use Rattle.std.proofs.lemmas.Cmp.{nat_eq_equiv}
use Rattle.tuple_tree.specs.Items.{none}
use Rattle.tuple_tree.specs.Values.{TupleTree}
use Rattle.space.specs.Births.{BornTuple}
use Rattle.space.specs.Stored.{in_order, LiesAt}
use Rattle.space.proofs.Filing.{at_other}
use Rattle.space.proofs.InOrder.{Puts, lookup-in_order, absent}

flips : (a b : ℕ) → (a == b) ≡ (b == a)
flips a b = elim (cases_eq a b) [
  | inl is ↦ eq-eqb a b is ∙ sym (eq-eqb b a (sym is))
  | inr other ↦ ne_eqb a b other ∙ sym (ne_eqb b a (λ is. other (sym is)))
]

-- ---- the same entries in another order

none_or : (o p : Option TupleTree) → ((t : TupleTree) → o ≡ Some t → p ≡ Some t) → ((t : TupleTree) → p ≡ Some t → o ≡ Some t) → o ≡ p
none_or None None h k = refl
none_or None (Some t) h k = k t refl
none_or (Some t) p h k = sym (h t refl)

moved : (es fs : List BornTuple) (q : ℕ) → IsPermutation es fs → IsDistinct ◌==◌ (keys_of es) → IsDistinct ◌==◌ (keys_of fs)
    → lookup (λ k. q == k) es ≡ lookup (λ k. q == k) fs
moved es fs q p d e =
    none_or (lookup (λ k. q == k) es) (lookup (λ k. q == k) fs)
    (λ t h. lookup-from_Contains nat_eq_equiv q t fs e (Contains-permutation es fs (q, t) p (Contains-from_lookup exact_unsigned_eq q t es h)))
    (λ t h. lookup-from_Contains nat_eq_equiv q t es d (Contains-permutation fs es (q, t) (IsPermutation-sym es fs p) (Contains-from_lookup exact_unsigned_eq q t fs h)))

stays_distinct : (es fs : List BornTuple) → IsPermutation es fs → IsDistinct ◌==◌ (keys_of es) → IsDistinct ◌==◌ (keys_of fs)
stays_distinct es fs p d = IsDistinct-IsPermutation ◌==◌ flips (keys_of es) (keys_of fs) (IsPermutation-map (λ e. e.0) es fs p) d

-- ---- an entry at its place

module _ (es : List BornTuple) (i : ℕ) (e : BornTuple) (d : IsDistinct ◌==◌ (keys_of es)) (l : i < length es) (is : e ≡ get_or es i e) where
  out : IsPermutation es (e ∷ swap_remove es i e)
  out = IsPermutation-swap_remove es i e l is

  distinct_out : IsDistinct ◌==◌ (keys_of (e ∷ swap_remove es i e))
  distinct_out = stays_distinct es (e ∷ swap_remove es i e) out d

  pub found_at : lookup (λ k. e.0 == k) es ≡ Some e.1
  found_at =
      moved es (e ∷ swap_remove es i e) e.0 out d distinct_out
      ∙ ap (λ a. cond a (Some e.1) (lookup (λ k. e.0 == k) (swap_remove es i e))) (eq-eqb e.0 e.0 refl)

  pub distinct_left : IsDistinct ◌==◌ (keys_of (swap_remove es i e))
  distinct_left = IsDistinct-tail ◌==◌ e.0 (keys_of (swap_remove es i e)) distinct_out

  pub taken_out : Puts es (swap_remove es i e) e.0 None
  taken_out q = elim (cases_eq e.0 q) [
    | inl same ↦
        subst (λ (n : ℕ). lookup (λ k. n == k) (swap_remove es i e) ≡ None) same
        (absent e.0 (swap_remove es i e) (IsDistinct-head ◌==◌ e.0 (keys_of (swap_remove es i e)) distinct_out))
        ∙ sym (ap (λ a. cond a None (lookup (λ k. q == k) es)) (eq-eqb e.0 q same))
    | inr other ↦
        sym (ap (λ a. cond a (Some e.1) (lookup (λ k. q == k) (swap_remove es i e))) (ne_eqb q e.0 (λ same. other (sym same))))
        ∙ sym (moved es (e ∷ swap_remove es i e) q out d distinct_out)
        ∙ sym (ap (λ a. cond a None (lookup (λ k. q == k) es)) (ne_eqb e.0 q other))
  ]

-- a birth that has no entry leaves none
pub nothing_out : (es : List BornTuple) (b : ℕ) → lookup (λ k. b == k) es ≡ None → Puts es es b None
nothing_out es b missing q = elim (cases_eq b q) [
  | inl same ↦
      subst (λ (n : ℕ). lookup (λ k. n == k) es ≡ None) same missing
      ∙ sym (ap (λ a. cond a None (lookup (λ k. q == k) es)) (eq-eqb b q same))
  | inr other ↦ sym (ap (λ a. cond a None (lookup (λ k. q == k) es)) (ne_eqb b q other))
]

-- ---- a new entry at the end

present : (b : ℕ) (es : List BornTuple) → lookup (λ k. b == k) es ≡ None → AllByRecursion (λ k. (b == k) ≡ false) (keys_of es)
present b [] h = tt
present b (e ∷ es) h = go (b == e.0) h (present b es)
  where
    go : (a : Bool) → cond a (Some e.1) (lookup (λ k. b == k) es) ≡ None → (lookup (λ k. b == k) es ≡ None → AllByRecursion (λ k. (b == k) ≡ false) (keys_of es))
        → (a ≡ false) × AllByRecursion (λ k. (b == k) ≡ false) (keys_of es)
    go true n rest = absurd (let g : ⊥ = cc in g)
    go false n rest = (refl, rest n)

module _ (es : List BornTuple) (b : ℕ) (t : TupleTree) (d : IsDistinct ◌==◌ (keys_of es)) (missing : lookup (λ k. b == k) es ≡ None) where
  front : IsPermutation (es ++ (b, t) ∷ []) ((b, t) ∷ es)
  front = IsPermutation-to_front es (b, t)

  distinct_front : IsDistinct ◌==◌ (keys_of ((b, t) ∷ es))
  distinct_front = IsDistinct-cons ◌==◌ b (keys_of es) (present b es missing) d

  pub distinct_more : IsDistinct ◌==◌ (keys_of (es ++ (b, t) ∷ []))
  distinct_more = stays_distinct ((b, t) ∷ es) (es ++ (b, t) ∷ []) (IsPermutation-sym (es ++ (b, t) ∷ []) ((b, t) ∷ es) front) distinct_front

  pub put_last : Puts es (es ++ (b, t) ∷ []) b (Some t)
  put_last q =
      moved (es ++ (b, t) ∷ []) ((b, t) ∷ es) q front distinct_more distinct_front
      ∙ ap (λ a. cond a (Some t) (lookup (λ k. q == k) es)) (flips q b)

below_none : (xs : List BornTuple) (b : ℕ) → All (λ e. e.0 < b) xs → lookup (is_at (nat_cmp b)) xs ≡ None
below_none [] b h = refl
below_none (x ∷ xs) b h =
    let under : x.0 < b = h 0 x (omega arith) in
    ap (λ a. cond a (Some x.1) (lookup (is_at (nat_cmp b)) xs)) (at_other b x.0 (λ same. absurd (omega arith)))
    ∙ below_none xs b (λ k d l. h (suc k) d (omega arith))

-- a birth above all others has no entry
pub newest_is_new : (es : List BornTuple) (b : ℕ) → All (λ e. e.0 < b) (in_order es) → lookup (λ k. b == k) es ≡ None
newest_is_new es b h = sym (lookup-in_order es b) ∙ below_none (in_order es) b h

-- ---- a search from the front

pub passed : (es : List BornTuple) (i b : ℕ) (e : BornTuple) → i < length es → e ≡ get_or es i e → e.0 ≢ b
    → lookup (λ k. b == k) (drop i es) ≡ lookup (λ k. b == k) (drop (i + 1) es)
passed [] i b e l is other = absurd (omega arith)
passed (x ∷ xs) zero b e l is other =
    let drops : drop (0 + 1) (x ∷ xs) ≡ xs = refl in
    ap (λ a. cond a (Some x.1) (lookup (λ k. b == k) xs)) (ne_eqb b x.0 (λ same. other (ap (λ y. y.0) is ∙ sym same)))
passed (x ∷ xs) (suc i) b e l is other =
    let n : suc i + 1 ≡ suc (i + 1) = omega arith in
    passed xs i b e (omega arith) is other ∙ ap (λ (k : ℕ). lookup (λ k. b == k) (drop k (x ∷ xs))) (sym n)

-- the entry at the place of a birth
pub there : (es : List BornTuple) (i b : ℕ) (e : BornTuple) → LiesAt es b i → e ≡ get_or es i e → e.0 ≡ b
there es i b e h is = ap (λ x. x.0) (is ∙ get_or_default es i e (b, none) h.within) ∙ h.birth_there

pub found_there : (es : List BornTuple) (i b : ℕ) (e : BornTuple) → IsDistinct ◌==◌ (keys_of es) → LiesAt es b i → e ≡ get_or es i e → lookup (λ k. b == k) es ≡ Some e.1
found_there es i b e d h is =
    subst (λ (n : ℕ). lookup (λ k. n == k) es ≡ Some e.1) (there es i b e h is) (found_at es i e d h.within is)
