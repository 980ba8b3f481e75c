-- Which tuples a template matches (Bessani and others, DepSpace, EuroSys 2008, section 2: same number of fields, equal
-- defined fields; formals by kind and nested templates are our own).
use Rattle.std.specs.Prelude.{◌≡◌}
use Rattle.tuple_tree.specs.Items.{TreeItem, leaf, inner, none, item}
use Rattle.tuple_tree.specs.Values.{Datum, Slot, actual, any, formal, kind_of, TupleTree, TemplateTree}

-- A field that is no template: an equal value, any value, or each value of the kind.
abbrev pub SlotMatches : Slot → TreeItem Datum → Type 0
SlotMatches (actual x) v = v ≡ leaf x
SlotMatches any v = Unit {0}
SlotMatches (formal k) v = kind_of v ≡ k

-- Lists of equal length whose fields match one by one; a nested template matches a nested tuple.
abbrev mutual
  pub FieldMatches : TreeItem Slot → TreeItem Datum → Type 0
  FieldMatches (leaf s) v = SlotMatches s v
  FieldMatches (inner p) (leaf x) = ⊥
  FieldMatches (inner p) (inner t) = Matches p t

  pub Matches : TemplateTree → TupleTree → Type 0
  Matches none none = Unit {0}
  Matches none (item v t) = ⊥
  Matches (item f p) none = ⊥
  Matches (item f p) (item v t) = FieldMatches f v × Matches p t
