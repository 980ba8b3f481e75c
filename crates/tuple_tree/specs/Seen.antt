-- The plain values and fields that the Rust ones stand for where they lie.
use Rattle.std.specs.Prelude.{Option, Some, None}
use Rattle.tuple_tree.specs.Items.{TreeItem, leaf, inner}
use Rattle.tuple_tree.specs.Values.{Datum, number, text, bytes, truth, wide, Slot, actual, any, formal}
use Rattle.tuple_tree.specs.declared.atoms.Kind.{Kind}
use Rattle.tuple_tree.specs.declared.values.AtomRef.{AtomRef}
use Rattle.tuple_tree.specs.declared.values.AtomRef.TheVariants as atoms
use Rattle.tuple_tree.specs.declared.values.ValueRef.{ValueRef}
use Rattle.tuple_tree.specs.declared.values.ValueRef.TheVariants as values
use Rattle.tuple_tree.specs.declared.fields.FieldRef.{FieldRef}
use Rattle.tuple_tree.specs.declared.fields.FieldRef.TheVariants as fields

abbrev pub seen_datum : AtomRef → Datum
seen_datum (atoms.Number n) = number n
seen_datum (atoms.Text s) = text s.now
seen_datum (atoms.Bytes s) = bytes s.now
seen_datum (atoms.Truth b) = truth b
seen_datum (atoms.Wide n) = wide n

abbrev pub seen_value : ValueRef → TreeItem Datum
seen_value (values.Atom x) = leaf (seen_datum x)
seen_value (values.Nested t) = inner t

-- the field that each value of the kind matches, or without one each value
abbrev pub open_slot : Option Kind → Slot
open_slot None = any
open_slot (Some k) = formal k

abbrev pub seen_field : FieldRef → TreeItem Slot
seen_field (fields.Actual x) = leaf (actual (seen_datum x))
seen_field fields.Any = leaf any
seen_field (fields.Formal k) = leaf (formal k)
seen_field (fields.Nested p) = inner p
