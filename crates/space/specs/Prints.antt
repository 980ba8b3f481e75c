-- Labels of tuples, by which most tuples that don't match are told.
use Rattle.std.specs.Prelude.{◌≡◌, ◌≢◌, ℕ, true, List, length, slice_get, unsigned_abs, Option, Some, None}
use Rattle.std.specs.Ordering.{nat_cmp}
use Rattle.std.specs.Map.{lookup}
use Rattle.std.specs.BTreeMap.{is_at}
use Rattle.tuple_tree.specs.Items.{TreeItem, leaf, inner, as_list}
use Rattle.tuple_tree.specs.Values.{Datum, number, text, bytes, truth, wide, kind_of, TupleTree, TemplateTree}
use Rattle.tuple_tree.specs.declared.atoms.Kind.{Kind}
use Rattle.tuple_tree.specs.declared.atoms.Kind.TheVariants as kinds
use Rattle.template_match.specs.Tests.{is_match}
use Rattle.space.specs.Births.{BornTuple}
use Rattle.space.specs.declared.prints.Label.{Label}
use Rattle.space.specs.declared.prints.Wanted.{Wanted}
use Rattle.space.specs.declared.prints.Wanted.TheVariants.{Anything, First, Second}

-- a number without its sign, or how many bytes there are
abbrev pub datum_print : Datum → ℕ
datum_print (number n) = unsigned_abs n
datum_print (text s) = length s
datum_print (bytes s) = length s
datum_print (truth b) = 0
datum_print (wide n) = 0

abbrev pub value_print : Option (TreeItem Datum) → ℕ
value_print None = 0
value_print (Some (leaf x)) = datum_print x
value_print (Some (inner t)) = 0

-- the same of a value that is read at the front of bytes
abbrev pub front_print : Option Datum → ℕ
front_print None = 0
front_print (Some x) = datum_print x

-- what the second value tells
abbrev pub tuple_print : TupleTree → ℕ
tuple_print t = value_print (slice_get (as_list t) 1)

-- the kind of the first value
abbrev pub kind_first : Option (TreeItem Datum) → Kind
kind_first None = kinds.Tuple
kind_first (Some v) = kind_of v

abbrev pub first_kind : TupleTree → Kind
first_kind t = kind_first (slice_get (as_list t) 0)

-- the label of an entry, which a search reads without a look at its tuple
abbrev pub entry_label : BornTuple → Label
entry_label e = record { birth = e.0; second = tuple_print e.1; first = first_kind e.1 }

-- A label isn't the wanted one.
abbrev pub IsUnlike : Wanted → Label → Type 0
IsUnlike Anything label = ⊥
IsUnlike (First wanted) label = label.first ≢ wanted
IsUnlike (Second wanted) label = label.second ≢ wanted

-- No tuple that the template matches has a label that tells something else.
abbrev pub TellsMatches : TemplateTree → Wanted → Type 0
TellsMatches p wanted = (e : BornTuple) → is_match p e.1 ≡ true → IsUnlike wanted (entry_label e) → ⊥

-- A birth has no tuple, or one whose label isn't the wanted one.
abbrev pub HasOtherLabel : Wanted → ℕ → List BornTuple → Type 0
HasOtherLabel wanted birth es =
    (t : TupleTree) → lookup (is_at (nat_cmp birth)) es ≡ Some t → IsUnlike wanted (entry_label (birth, t))
