-- Items are read out of the bytes that spell them, and what the bytes are with one more item.
use Rattle.std.proofs.Common.{◌≡◌, ℕ, ◌+◌, Bool, false, ◌||◌, List, [], ◌∷◌, ◌++◌, ap, sym, subst, refl, ◌∙◌, arith}
use Rattle.std.proofs.Common.{append-nil}
use Rattle.tuple_tree.specs.Items.{TreeItem, inner, Items, none, with_last, how_many, item_levels, item_length}
use Rattle.tuple_tree.specs.Items.{item_has, has_leaf}
use Rattle.tuple_tree.specs.Limits.{IsItem, IsWithin}
use Rattle.tuple_tree.specs.Extents.{IsLonger}
use Rattle.tuple_tree.specs.declared.limits.Extent.{Extent}
use Rattle.tuple_tree.specs.Reading.{Reader, item_at, more}
use Rattle.tuple_tree.specs.Spelling.{item_spelling, items_spelling}
use Rattle.tuple_tree.specs.Flat.{read_or_none, items_in, IsFlat}
use Rattle.tuple_tree.proofs.Growing.{Holds, size-with_last, within-with_last, has_leaf-with_last}
use Rattle.tuple_tree.proofs.Leaves.{ReadsLeaves}
use Rattle.tuple_tree.proofs.Trees.{onto_again, items_spelling_last}

module _ {L : Type 0} {IsLeaf : L → Type 0} {length_of : L → ℕ} {spelling : L → List ℕ} {leaf_at : ℕ → Reader L} (reads : ReadsLeaves IsLeaf length_of spelling leaf_at) where
  read_again : (t : Items L) → IsWithin IsLeaf length_of t → items_in leaf_at 7 (how_many t) (items_spelling spelling t) ≡ t
  unfolding items_in
  read_again t h =
      ap (λ bs. read_or_none (more (item_at leaf_at 7) with_last (how_many t) none bs)) (sym (append-nil (items_spelling spelling t)))
      ∙ ap read_or_none (onto_again IsLeaf length_of spelling leaf_at reads t none 7 [] h.each (omega (arith, h.levels)) (omega (arith, h.length)))

  module _ {is_wide : L → Bool} {count : ℕ} {bs : List ℕ} {extent : Extent} {t : Items L} where
    -- the items that the bytes spell
    pub items_are : IsFlat IsLeaf length_of is_wide spelling count bs extent t → items_in leaf_at 7 count bs ≡ t
    items_are h = ap (λ n. items_in leaf_at 7 n bs) h.counted ∙ ap (items_in leaf_at 7 (how_many t)) h.spelled ∙ read_again t h.measured.0

    -- so they spell those that are read
    pub closed : IsFlat IsLeaf length_of is_wide spelling count bs extent t → IsFlat IsLeaf length_of is_wide spelling count bs extent (items_in leaf_at 7 count bs)
    closed h = subst (IsFlat IsLeaf length_of is_wide spelling count bs extent) (sym (items_are h)) h

  -- the bytes with one more item
  pub grown : {is_wide : L → Bool} (count : ℕ) (bs new : List ℕ) (extent longer : Extent) (t : Items L) (x : TreeItem L) (l b : ℕ) (w : Bool) → IsFlat IsLeaf length_of is_wide spelling count bs extent t
      → IsItem IsLeaf x → new ≡ bs ++ item_spelling spelling x → l ≡ item_levels x → b ≡ item_length length_of x → w ≡ item_has is_wide x → IsLonger extent count l b w longer
      → IsFlat IsLeaf length_of is_wide spelling (count + 1) new longer (with_last t x)
  grown {is_wide = is_wide} count bs new extent longer t x l b w h valid e levels len wide k =
      let m = h.measured in
      let sizes : Holds IsLeaf length_of t count extent.depth extent.encoded_len = record { within = m.0; items = h.counted; levels = m.1; bytes = m.2 } in
      let s = size-with_last t x count extent.depth extent.encoded_len sizes in
      record {
        measured = (
          within-with_last t x count extent.depth extent.encoded_len sizes valid k.0 (omega (arith, k.1, k.3, levels)) (omega (arith, k.2, k.4, len)),
          omega (arith, k.3, s.1, levels),
          omega (arith, k.4, s.2, len),
          k.5 ∙ ap (λ c. c || w) m.3 ∙ ap (λ c. has_leaf is_wide t || c) wide ∙ sym (has_leaf-with_last is_wide t x),
        );
        counted = sym s.0;
        spelled = e ∙ ap (λ xs. xs ++ item_spelling spelling x) h.spelled ∙ sym (items_spelling_last IsLeaf length_of spelling leaf_at reads t x);
      }

-- the bytes with a nested list more
pub with_nested : {L : Type 0} (spelling : L → List ℕ) (new old bs xs : List ℕ) (n : ℕ) (t : Items L) → new ≡ old ++ 5 ∷ n ∷ xs → old ≡ bs → n ≡ how_many t → xs ≡ items_spelling spelling t
    → new ≡ bs ++ item_spelling spelling (inner t)
with_nested spelling new old bs xs n t e f c x = e ∙ ap (λ ys. ys ++ 5 ∷ n ∷ xs) f ∙ ap (λ m. bs ++ 5 ∷ m ∷ xs) c ∙ ap (λ ys. bs ++ 5 ∷ how_many t ∷ ys) x

module _ {L : Type 0} {IsLeaf : L → Type 0} {length_of : L → ℕ} {spelling : L → List ℕ} {is_wide : L → Bool} {count : ℕ} {bs : List ℕ} {extent : Extent} {t : Items L} where
  pub opened : {u : Items L} → IsFlat IsLeaf length_of is_wide spelling count bs extent u → u ≡ t → IsFlat IsLeaf length_of is_wide spelling count bs extent t
  opened h e = subst (IsFlat IsLeaf length_of is_wide spelling count bs extent) e h

  -- the sizes of the items
  pub holds : IsFlat IsLeaf length_of is_wide spelling count bs extent t → Holds IsLeaf length_of t count extent.depth extent.encoded_len
  holds h = record { within = h.measured.0; items = h.counted; levels = h.measured.1; bytes = h.measured.2 }

pub empty : {L : Type 0} {IsLeaf : L → Type 0} {length_of : L → ℕ} {spelling : L → List ℕ} {is_wide : L → Bool} (bs : List ℕ) → bs ≡ [] → IsFlat IsLeaf length_of is_wide spelling 0 bs (record { depth = 1; encoded_len = 1; has_wide = false }) none
empty bs e =
    record {
      measured = (record { fields = omega arith; levels = omega arith; length = omega arith; each = tt }, omega arith, omega arith, refl);
      counted = refl;
      spelled = e;
    }
