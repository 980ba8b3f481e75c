-- The keys by which the index finds tuples by their first value.
use Rattle.std.specs.Prelude.{ℕ, List, [], ◌∷◌, Option, Some, None}
use Rattle.std.specs.Hash.FoldHasher.{initial, write, finish}
use Rattle.tuple_tree.specs.Items.{leaf, inner, none, item, how_many}
use Rattle.tuple_tree.specs.Values.{Datum, actual, any, formal, TupleTree, TemplateTree}
use Rattle.tuple_tree.specs.Spelling.{datum_spelling}

-- a hash of how many values there are, and of the spelling of the first one
unfoldable pub key_of : ℕ → List ℕ → ℕ
key_of count spelled = finish (write (write initial (count ∷ [])) spelled)

abbrev pub datum_key : ℕ → Datum → ℕ
datum_key count x = key_of count (datum_spelling x)

-- the key of a tuple, which tells something of its first value unless that is a tuple
abbrev pub tuple_key : TupleTree → ℕ
tuple_key none = 0
tuple_key (item (leaf x) t) = datum_key (how_many (item (leaf x) t)) x
tuple_key (item (inner u) t) = 0

-- the key of the tuples that the template may match, if its first field is an actual
abbrev pub template_key : TemplateTree → Option ℕ
template_key none = None
template_key (item (leaf (actual x)) p) = Some (datum_key (how_many (item (leaf (actual x)) p)) x)
template_key (item (leaf any) p) = None
template_key (item (leaf (formal k)) p) = None
template_key (item (inner q) p) = None
