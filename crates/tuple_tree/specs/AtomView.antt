-- The plain value that a Rust value without tuples stands for.
use Rattle.std.specs.Prelude.{string_bytes}
use Rattle.tuple_tree.specs.Values.{Datum, number, text, bytes, truth, wide}
use Rattle.tuple_tree.specs.declared.atoms.Atom.{Atom}
use Rattle.tuple_tree.specs.declared.atoms.Atom.TheVariants.{Number, Text, Bytes, Truth, Wide}

abbrev pub datum_of : {A : Type 0} → Atom A → Datum
datum_of (Number n) = number n
datum_of (Text s) = text (string_bytes s)
datum_of (Bytes v) = bytes v.items
datum_of (Truth b) = truth b
datum_of (Wide n) = wide n
