-- What the private walks along the bytes of values, and of a template at once, give: the bytes after them, if they
-- match.
use Rattle.std.specs.Prelude.{ℕ, ◌==◌, if◌then◌else◌, List, [], ◌∷◌, Option, Some, None}
use Rattle.tuple_tree.specs.Items.{TreeItem, leaf, inner, none, item, with_last, how_many}
use Rattle.tuple_tree.specs.Values.{Slot, actual, any, formal, TemplateTree}
use Rattle.tuple_tree.specs.declared.atoms.Kind.{Kind}
use Rattle.tuple_tree.specs.declared.atoms.Kind.TheVariants as kinds
use Rattle.tuple_tree.specs.Reading.{◌>>=◌, rest_of, inner_at, item_at, more}
use Rattle.tuple_tree.specs.Loose.{loose_at, loose_slot_at}
use Rattle.tuple_tree.specs.Spelling.{datum_spelling}

-- the bytes after these ones, if they begin with them
abbrev pub strip : List ℕ → List ℕ → Option (List ℕ)
strip [] bs = Some bs
strip (x ∷ xs) [] = None
strip (x ∷ xs) (b ∷ bs) = if x == b then strip xs bs else None

-- the bytes after a value
unfoldable pub behind_value : List ℕ → Option (List ℕ)
behind_value bs = rest_of (item_at loose_at 7 bs)

-- the tag of the values of a kind
abbrev pub value_tag : Kind → ℕ
value_tag kinds.Number = 1
value_tag kinds.Text = 2
value_tag kinds.Bytes = 3
value_tag kinds.Truth = 4
value_tag kinds.Tuple = 5
value_tag kinds.Wide = 6

-- the bytes after a value of this kind
unfoldable pub behind_kind : Kind → List ℕ → Option (List ℕ)
behind_kind k bs = strip (value_tag k ∷ []) bs >>= λ rest. behind_value bs

abbrev pub behind_slot : Slot → List ℕ → Option (List ℕ)
behind_slot (actual x) bs = strip (datum_spelling x) bs
behind_slot any bs = behind_value bs
behind_slot (formal k) bs = behind_kind k bs

abbrev mutual
  pub behind_field : TreeItem Slot → List ℕ → Option (List ℕ)
  behind_field (leaf s) bs = behind_slot s bs
  behind_field (inner p) bs = strip (5 ∷ how_many p ∷ []) bs >>= λ rest. behind_fields p rest

  pub behind_fields : TemplateTree → List ℕ → Option (List ℕ)
  behind_fields none bs = Some bs
  behind_fields (item f p) bs = behind_field f bs >>= λ rest. behind_fields p rest

-- the bytes after so many fields, and after values that they match
unfoldable pub behind_both : ℕ → ℕ → List ℕ → List ℕ → Option (List ℕ × List ℕ)
behind_both levels count fs bs =
    more (item_at loose_slot_at levels) with_last count none fs >>= λ p. behind_fields p.0 bs >>= λ rest. Some
    (p.1, rest)

-- the bytes after one field, and after a value that it matches
unfoldable pub behind_one : ℕ → List ℕ → List ℕ → Option (List ℕ × List ℕ)
behind_one levels fs bs = item_at loose_slot_at levels fs >>= λ f. behind_field f.0 bs >>= λ rest. Some (f.1, rest)

-- the same of a value that is no tuple, after its tag, and of a template in a template
unfoldable pub behind_atom : ℕ → List ℕ → List ℕ → Option (List ℕ × List ℕ)
behind_atom tag fs bs = loose_at tag fs >>= λ x. strip (datum_spelling x.0) bs >>= λ rest. Some (x.1, rest)

unfoldable pub behind_nested : ℕ → List ℕ → List ℕ → Option (List ℕ × List ℕ)
behind_nested levels fs bs = inner_at loose_slot_at levels fs >>= λ f. behind_field f.0 bs >>= λ rest. Some (f.1, rest)
