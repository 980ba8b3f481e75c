-- A test that computes whether a template matches a tuple.
use Rattle.std.specs.Prelude.{Bool, true, false, ◌&&◌}
use Rattle.std.specs.Ordering.{int_eq}
use Rattle.std.specs.Str.{bytes_eq}
use Rattle.std.specs.Bool.{beq}
use Rattle.tuple_tree.specs.Items.{TreeItem, leaf, inner, none, item}
use Rattle.tuple_tree.specs.declared.atoms.Kind.{Kind}
use Rattle.tuple_tree.specs.declared.atoms.Kind.TheVariants as kinds
use Rattle.tuple_tree.specs.Values.{Datum, number, text, bytes, truth, wide, Slot, actual, any, formal, TupleTree}
use Rattle.tuple_tree.specs.Values.{TemplateTree}

-- Whether two plain values are equal; values of different kinds never are.
abbrev pub datum_eq : Datum → Datum → Bool
datum_eq (number m) (number n) = int_eq m n
datum_eq (text s) (text t) = bytes_eq s t
datum_eq (bytes s) (bytes t) = bytes_eq s t
datum_eq (truth b) (truth c) = beq b c
datum_eq (wide m) (wide n) = int_eq m n
datum_eq _ _ = false

-- whether a value equals this plain one
abbrev pub is_datum : Datum → TreeItem Datum → Bool
is_datum x (leaf y) = datum_eq x y
is_datum x (inner t) = false

-- Whether a value is of a kind.
abbrev pub is_of_kind : Kind → TreeItem Datum → Bool
is_of_kind kinds.Number (leaf (number n)) = true
is_of_kind kinds.Text (leaf (text s)) = true
is_of_kind kinds.Bytes (leaf (bytes s)) = true
is_of_kind kinds.Truth (leaf (truth b)) = true
is_of_kind kinds.Tuple (inner t) = true
is_of_kind kinds.Wide (leaf (wide n)) = true
is_of_kind _ _ = false

-- whether a value matches a field that is no template: an equal value, any value, or each value of the kind
abbrev pub is_slot_match : Slot → TreeItem Datum → Bool
is_slot_match (actual x) v = is_datum x v
is_slot_match any v = true
is_slot_match (formal k) v = is_of_kind k v

-- whether a field matches a value: a nested template matches nested tuples alone, and these as a template
abbrev mutual
  pub is_field_match : TreeItem Slot → TreeItem Datum → Bool
  is_field_match (leaf s) v = is_slot_match s v
  is_field_match (inner p) (leaf x) = false
  is_field_match (inner p) (inner t) = is_match p t

  -- whether a template matches a tuple: both have the same number of items, and each field matches
  pub is_match : TemplateTree → TupleTree → Bool
  is_match none none = true
  is_match none (item v t) = false
  is_match (item f p) none = false
  is_match (item f p) (item v t) = is_field_match f v && is_match p t
