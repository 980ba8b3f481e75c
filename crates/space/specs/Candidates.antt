-- Which stored tuples a template may match, by their number of values and the key of their first value.
use Rattle.std.specs.Prelude.{ℕ, Bool, ◌==◌, List, map, filter, Option, Some, None}
use Rattle.tuple_tree.specs.Items.{how_many}
use Rattle.tuple_tree.specs.Values.{TupleTree, TemplateTree}
use Rattle.space.specs.Births.{SpaceState}
use Rattle.space.specs.Keys.{tuple_key, template_key}

-- whether a tuple has the key, or so many values if there is none
abbrev pub has_key : Option ℕ → ℕ → TupleTree → Bool
has_key None count t = how_many t == count
has_key (Some key) count t = tuple_key t == key

-- a tuple of the key that the template's first field has, or of the template's length if that field is no actual
abbrev pub is_candidate : TemplateTree → TupleTree → Bool
is_candidate p t = has_key (template_key p) (how_many p) t

-- the births of these tuples, the oldest first
abbrev pub candidates_of : TemplateTree → SpaceState → List ℕ
candidates_of p s = map (λ e. e.0) (filter (λ e. is_candidate p e.1) s.entries)
