-- The plain fields that the Rust values stand for.
use Rattle.tuple_tree.specs.Items.{TreeItem, leaf, inner}
use Rattle.tuple_tree.specs.Values.{Slot, actual, any, formal}
use Rattle.tuple_tree.specs.AtomView.{datum_of}
use Rattle.tuple_tree.specs.declared.templates.Field.{Field}
use Rattle.tuple_tree.specs.declared.templates.Field.TheVariants.{Actual, Any, Formal, Nested}

module _ {A : Type 0} where
  abbrev pub field_of : Field A → TreeItem Slot
  field_of (Actual x) = leaf (actual (datum_of x))
  field_of Any = leaf any
  field_of (Formal k) = leaf (formal k)
  field_of (Nested p) = inner p
