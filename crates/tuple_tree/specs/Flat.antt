-- Which items bytes spell, one after another.
use Rattle.std.specs.Prelude.{◌≡◌, ℕ, Bool, List, length, Option, Some, None, IsTrue, is_some}
use Rattle.tuple_tree.specs.Items.{Items, none, with_last, how_many}
use Rattle.tuple_tree.specs.Extents.{IsMeasured}
use Rattle.tuple_tree.specs.Reading.{Reader, item_at, more}
use Rattle.tuple_tree.specs.Spelling.{datum_spelling, slot_spelling, items_spelling}
use Rattle.tuple_tree.specs.Fronts.{front_of}
use Rattle.tuple_tree.specs.Values.{TupleTree, TemplateTree, datum_length, slot_length, is_wide, is_wide_slot, IsDatum}
use Rattle.tuple_tree.specs.Values.{IsSlot}
use Rattle.tuple_tree.specs.declared.limits.Extent.{Extent}

-- the items that were read, and none if nothing was
abbrev pub read_or_none : {L : Type 0} → Option (Items L × List ℕ) → Items L
read_or_none None = none
read_or_none (Some x) = x.0

module _ {L : Type 0} (leaf_at : ℕ → Reader L) where
  -- so many items at the front of bytes, with at most so many levels in each
  unfoldable pub items_in : ℕ → ℕ → List ℕ → Items L
  items_in levels count bs = read_or_none (more (item_at leaf_at levels) with_last count none bs)

  -- There are as many.
  unfoldable pub HasItems : ℕ → ℕ → List ℕ → Type 0
  HasItems levels count bs = IsTrue (is_some (more (item_at leaf_at levels) with_last count none bs))

-- The bytes spell the items, which are within the limits, and the numbers beside them are theirs.
pub record IsFlat {L : Type 0} (IsLeaf : L → Type 0) (length_of : L → ℕ) (is_wide : L → Bool)
    (spelling : L → List ℕ) (count : ℕ) (bs : List ℕ) (extent : Extent) (t : Items L) : Type 0 where
  pub measured : IsMeasured IsLeaf length_of is_wide t extent
  pub counted : count ≡ how_many t
  pub spelled : bs ≡ items_spelling spelling t

abbrev pub IsFlatTuple : ℕ → List ℕ → Extent → TupleTree → Type 0
IsFlatTuple count bs extent t = IsFlat IsDatum datum_length is_wide datum_spelling count bs extent t

abbrev pub IsFlatTemplate : ℕ → List ℕ → Extent → ℕ → TemplateTree → Type 0
IsFlatTemplate count bs extent fixed p =
    IsFlat IsSlot slot_length is_wide_slot slot_spelling count bs extent p × (fixed ≡ length (front_of p))
