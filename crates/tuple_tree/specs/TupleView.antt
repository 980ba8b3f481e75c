-- The plain values that the Rust values stand for.
use Rattle.tuple_tree.specs.Items.{TreeItem, leaf, inner}
use Rattle.tuple_tree.specs.Values.{Datum}
use Rattle.tuple_tree.specs.AtomView.{datum_of}
use Rattle.tuple_tree.specs.declared.tuples.Value.{Value}
use Rattle.tuple_tree.specs.declared.tuples.Value.TheVariants.{Atom, Nested}

module _ {A : Type 0} where
  abbrev pub value_of : Value A → TreeItem Datum
  value_of (Atom x) = leaf (datum_of x)
  value_of (Nested t) = inner t
