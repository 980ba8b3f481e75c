-- What a test of several items tells.
use Rattle.std.proofs.Common.{◌≡◌, ℕ, suc, ◌+◌, ◌-◌, ◌<◌, ◌≤◌, max, Bool, true, false, ◌||◌, List, [], ◌∷◌, ◌++◌}
use Rattle.std.proofs.Common.{length, take, Option, Some, None, ap, sym, refl, ◌∙◌, arith, length-append}
use Rattle.std.proofs.lemmas.Bool.{le-ltb, lt-ltb}
use Rattle.std.proofs.lemmas.List.{take_at}
use lib.Dec.{ltb}
use Rattle.tuple_tree.specs.Items.{TreeItem, leaf, inner, Items, none, item, with_last, how_many, levels_in, has_leaf}
use Rattle.tuple_tree.specs.Values.{AreBytes}
use Rattle.tuple_tree.specs.Reading.{◌>>=◌, Reader, more, byte_at, item_with, items_with, inner_at, item_at, items_at}
use Rattle.tuple_tree.specs.Spelling.{items_spelling}
use Rattle.tuple_tree.specs.Flat.{IsFlat}
use Rattle.tuple_tree.specs.Judging.{Judged, judged, judged_one, judged_leaf, items_judged}
use Rattle.tuple_tree.specs.declared.limits.Extent.{Extent}
use Rattle.tuple_tree.proofs.Leaves.{ReadsLeaves}
use Rattle.tuple_tree.proofs.Readers.{parts}
use Rattle.tuple_tree.proofs.Seeing.{joined, more_from}
use Rattle.tuple_tree.proofs.Steps.{at_leaf, at_five, inner_below, no_levels}
use Rattle.tuple_tree.proofs.Trees.{items_found, whole_spelling_length}

abbrev pub combine : ℕ → Bool → Judged → Judged
combine below wide None = None
combine below wide (Some y) = Some (max below y.0, wide || y.1, y.2)

or_more : (a b c : Bool) → (a || (b || c)) ≡ ((a || b) || c)
or_more true b c = refl
or_more false b c = refl

or_none : (a : Bool) → (a || false) ≡ a
or_none true = refl
or_none false = refl

combined : (b c : ℕ) (w x : Bool) (o : Judged) → combine b w (combine c x o) ≡ combine (max b c) (w || x) o
combined b c w x None = refl
combined b c w x (Some y) = let m : max b (max c y.0) ≡ max (max b c) y.0 = omega arith in ap (λ n. Some (n, w || (x || y.1), y.2)) m ∙ ap (λ v. Some (max (max b c) y.0, v, y.2)) (or_more w x y.1)

-- a list in a list
abbrev pub then_nested : Judged → Judged
then_nested None = None
then_nested (Some y) = Some (y.0 + 1, y.1, y.2)

pub byte_whole : (bs front : List ℕ) (n : ℕ) → byte_at bs ≡ Some (n, front) → bs ≡ n ∷ front
byte_whole [] front n e = absurd (let g : ⊥ = cc in g)
byte_whole (b ∷ bs) front n e = let p = parts e in ap (λ m. m ∷ bs) p.0 ∙ ap (λ xs. n ∷ xs) p.1

module _ {L : Type 0} (is_wide : L → Bool) where
  judged_behind : (v : TreeItem L) (o : Option (Items L × List ℕ)) → judged is_wide (joined (item v none) o) ≡ (judged_one is_wide (Some (v, [])) >>= λ x. combine x.0 x.1 (judged is_wide o))
  judged_behind v None = refl
  judged_behind v (Some y) = refl

  judged_some : (o : Option (Items L × List ℕ)) (below : ℕ) (wide : Bool) (rest : List ℕ) → judged is_wide o ≡ Some (below, wide, rest)
      → (t : Items L) × (o ≡ Some (t, rest)) × (below ≡ levels_in t) × (wide ≡ has_leaf is_wide t)
  judged_some None below wide rest e = absurd (let g : ⊥ = cc in g)
  judged_some (Some x) below wide rest e =
      let told : ◌≡◌ {A = ℕ × Bool × List ℕ} (levels_in x.0, has_leaf is_wide x.0, x.1) (below, wide, rest) = cc in
      (x.0, ap (λ y. Some (x.0, y.2)) told, ap (λ y. y.0) (sym told), ap (λ y. y.1) (sym told))

  pub judged_none : (o : Option (Items L × List ℕ)) → judged is_wide o ≡ None → o ≡ None
  judged_none None e = refl
  judged_none (Some x) e = absurd (let g : ⊥ = cc in g)

  judged_inner : (o : Option (Items L × List ℕ)) → judged_one is_wide (o >>= λ t. Some (inner t.0, t.1)) ≡ then_nested (judged is_wide o)
  judged_inner None = refl
  judged_inner (Some t) = let m : 1 + levels_in t.0 ≡ levels_in t.0 + 1 = omega arith in ap (λ n. Some (n, has_leaf is_wide t.0, t.1)) m

  leaf_judged : (o : Option (L × List ℕ)) → judged_one is_wide (o >>= λ x. Some (leaf x.0, x.1)) ≡ (judged_leaf is_wide o >>= λ x. Some (0, x.0, x.1))
  leaf_judged None = refl
  leaf_judged (Some x) = refl

  module _ (leaf_at : ℕ → Reader L) where
    judged_suc : (levels n : ℕ) (bs : List ℕ) → items_judged is_wide leaf_at levels (suc n) bs ≡ (judged_one is_wide (item_at leaf_at levels bs) >>= λ x. combine x.0 x.1 (items_judged is_wide leaf_at levels n x.2))
    unfolding items_judged
    judged_suc levels n bs =
        let at : Reader (TreeItem L) = item_at leaf_at levels in
        let cases : (o : Option (TreeItem L × List ℕ)) → judged is_wide (o >>= λ x. more at with_last n (with_last none x.0) x.1) ≡ (judged_one is_wide o >>= λ x. combine x.0 x.1 (judged is_wide (more at with_last n none x.2))) = elim [
          | None ↦ refl
          | Some v ↦ ap (judged is_wide) (more_from at n (item v.0 none) v.1) ∙ judged_behind v.0 (more at with_last n none v.1)
        ] in
        cases (at bs)

    pub goes_on : (levels n i below in_item : ℕ) (wide has_wide : Bool) (bs after : List ℕ) → i < n → judged_one is_wide (item_at leaf_at levels bs) ≡ Some (in_item, has_wide, after)
        → combine (max below in_item) (wide || has_wide) (items_judged is_wide leaf_at levels (n - (i + 1)) after) ≡ combine below wide (items_judged is_wide leaf_at levels (n - i) bs)
    goes_on levels n i below in_item wide has_wide bs after p e =
        let m : n - i ≡ suc (n - (i + 1)) = omega arith in
        sym (ap (λ m. combine below wide (items_judged is_wide leaf_at levels m bs)) m ∙ ap (combine below wide) (judged_suc levels (n - (i + 1)) bs)
        ∙ ap (λ o. combine below wide (o >>= λ x. combine x.0 x.1 (items_judged is_wide leaf_at levels (n - (i + 1)) x.2))) e
        ∙ combined below in_item wide has_wide (items_judged is_wide leaf_at levels (n - (i + 1)) after))

    pub one_fails : (levels n i below : ℕ) (wide : Bool) (bs : List ℕ) → i < n → judged_one is_wide (item_at leaf_at levels bs) ≡ None → combine below wide (items_judged is_wide leaf_at levels (n - i) bs) ≡ None
    one_fails levels n i below wide bs p e =
        let m : n - i ≡ suc (n - (i + 1)) = omega arith in
        ap (λ m. combine below wide (items_judged is_wide leaf_at levels m bs)) m ∙ ap (combine below wide) (judged_suc levels (n - (i + 1)) bs)
        ∙ ap (λ o. combine below wide (o >>= λ x. combine x.0 x.1 (items_judged is_wide leaf_at levels (n - (i + 1)) x.2))) e

    pub ends : (levels n i below : ℕ) (wide : Bool) (bs : List ℕ) → n ≤ i → combine below wide (items_judged is_wide leaf_at levels (n - i) bs) ≡ Some (below, wide, bs)
    unfolding items_judged
    ends levels n i below wide bs p =
        let m : n - i ≡ 0 = omega arith in
        let z : max below 0 ≡ below = omega arith in
        ap (λ m. combine below wide (items_judged is_wide leaf_at levels m bs)) m ∙ ap (λ n. Some (n, wide || false, bs)) z ∙ ap (λ v. Some (below, v, bs)) (or_none wide)

    -- an item after its tag
    pub no_tag : (levels : ℕ) (bs : List ℕ) → byte_at bs ≡ None → judged_one is_wide (item_at leaf_at levels bs) ≡ None
    unfolding item_with
    no_tag levels bs e = rw e refl

    pub leaf_told : (levels tag : ℕ) (bs front : List ℕ) → byte_at bs ≡ Some (tag, front) → (tag ≡ 5 → ⊥) → judged_one is_wide (item_at leaf_at levels bs) ≡ (judged_leaf is_wide (leaf_at tag front) >>= λ x. Some (0, x.0, x.1))
    leaf_told levels tag bs front e ne = ap (judged_one is_wide) (at_leaf leaf_at levels tag bs front e ne) ∙ leaf_judged (leaf_at tag front)

    pub without_levels : (levels tag : ℕ) (bs front : List ℕ) → byte_at bs ≡ Some (tag, front) → tag ≡ 5 → levels ≡ 0 → judged_one is_wide (item_at leaf_at levels bs) ≡ None
    without_levels levels tag bs front e f z =
        ap (judged_one is_wide) (at_five leaf_at levels tag bs front e f ∙ ap (λ n. inner_at leaf_at n front) z ∙ no_levels leaf_at front)

    pub nested_told : (levels tag : ℕ) (bs front : List ℕ) → byte_at bs ≡ Some (tag, front) → tag ≡ 5 → 0 < levels → judged_one is_wide (item_at leaf_at levels bs) ≡ then_nested (judged is_wide (items_at leaf_at (levels - 1) front))
    nested_told levels tag bs front e f p =
        ap (judged_one is_wide) (at_five leaf_at levels tag bs front e f ∙ inner_below leaf_at levels front p) ∙ judged_inner (items_at leaf_at (levels - 1) front)

    -- a whole list
    pub no_count : (levels : ℕ) (bs : List ℕ) → byte_at bs ≡ None → judged is_wide (items_at leaf_at levels bs) ≡ None
    unfolding items_with
    no_count levels bs e = rw e refl

    pub many : (levels count : ℕ) (bs front : List ℕ) → byte_at bs ≡ Some (count, front) → 32 < count → judged is_wide (items_at leaf_at levels bs) ≡ None
    unfolding items_with
    many levels count bs front e l = let b : ltb 32 count ≡ true = lt-ltb 32 count l in rw (e, b) refl

    pub few : (levels count : ℕ) (bs front : List ℕ) → byte_at bs ≡ Some (count, front) → count ≤ 32 → items_judged is_wide leaf_at levels count front ≡ judged is_wide (items_at leaf_at levels bs)
    unfolding items_with items_judged
    few levels count bs front e l = let b : ltb 32 count ≡ false = le-ltb 32 count l in sym (rw (e, b) refl)

    -- what a list that was found is, and the bytes that spell its items
    pub found : {IsLeaf : L → Type 0} {length_of : L → ℕ} {spelling : L → List ℕ} (reads : ReadsLeaves IsLeaf length_of spelling leaf_at) (count below : ℕ) (wide : Bool) (bs front rest : List ℕ)
        → byte_at bs ≡ Some (count, front) → AreBytes bs → length bs ≤ 1024 → judged is_wide (items_at leaf_at 7 bs) ≡ Some (below, wide, rest)
        → (t : Items L) × (items_at leaf_at 7 bs ≡ Some (t, rest)) × (length rest ≤ length front)
        × ((xs : List ℕ) (extent : Extent) → xs ≡ take (length front - length rest) front → extent.depth ≡ 1 + below → extent.encoded_len ≡ 1 + (length front - length rest) → extent.has_wide ≡ wide
        → IsFlat IsLeaf length_of is_wide spelling count xs extent t)
    found {IsLeaf = IsLeaf} {length_of = length_of} {spelling = spelling} reads count below wide bs front rest e d n h =
        let j = judged_some (items_at leaf_at 7 bs) below wide rest h in
        let t : Items L = j.0 in
        let f = items_found IsLeaf length_of spelling leaf_at reads 7 bs rest t d j.1 in
        let whole : count ∷ front ≡ how_many t ∷ items_spelling spelling t ++ rest = sym (byte_whole bs front count e) ∙ f.0.whole in
        let counted : count ≡ how_many t = cc in
        let spelled : front ≡ items_spelling spelling t ++ rest = cc in
        let len = whole_spelling_length IsLeaf length_of spelling leaf_at reads t in
        let l : length front ≡ length (items_spelling spelling t) + length rest = ap length spelled ∙ length-append (items_spelling spelling t) rest in
        let m : length (items_spelling spelling t) ≡ length front - length rest = omega (arith, l) in
        let b : length bs ≡ 1 + length front = omega (arith, ap length (byte_whole bs front count e)) in (
          t,
          j.1,
          omega (arith, l),
          λ xs extent o p q r. record {
            measured = (
              record { fields = f.1.0; levels = omega (arith, f.1.2); length = omega (arith, n, b, l, len); each = f.1.1 },
              omega (arith, p, j.2),
              omega (arith, q, m, len),
              r ∙ j.3,
            );
            counted = counted;
            spelled = o ∙ ap (take (length front - length rest)) spelled ∙ take_at (items_spelling spelling t) rest (length front - length rest) m;
          },
        )
