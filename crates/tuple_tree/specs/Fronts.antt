-- The bytes with which each tuple begins that a template matches: those of its spelling before its first open field.
use Rattle.std.specs.Prelude.{ℕ, Bool, true, false, if◌then◌else◌, List, [], ◌∷◌, ◌++◌}
use Rattle.tuple_tree.specs.Items.{TreeItem, leaf, inner, none, item, how_many, item_has}
use Rattle.tuple_tree.specs.Spelling.{datum_spelling}
use Rattle.tuple_tree.specs.Values.{Slot, actual, any, formal, TemplateTree}

-- whether more than one value matches
abbrev pub is_open : Slot → Bool
is_open (actual x) = false
is_open any = true
is_open (formal k) = true

abbrev pub slot_front : Slot → List ℕ
slot_front (actual x) = datum_spelling x
slot_front any = []
slot_front (formal k) = []

-- Of a nested template with an open field, tag and count are such bytes too.
abbrev mutual
  pub field_front : TreeItem Slot → List ℕ
  field_front (leaf s) = slot_front s
  field_front (inner p) = 5 ∷ how_many p ∷ front_of p

  pub front_of : TemplateTree → List ℕ
  front_of none = []
  front_of (item f p) = if item_has is_open f then field_front f else (field_front f ++ front_of p)
