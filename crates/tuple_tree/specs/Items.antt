-- A finite list of items, each of them a leaf or such a list again. A tuple is one whose leaves are plain
-- values, a template one whose leaves are the fields that are no template.
use Rattle.std.specs.Prelude.{ℕ, ◌+◌, max, Bool, false, ◌||◌, List, [], ◌∷◌}

-- an item: a leaf, or a list of items again
mutual
  pub data TreeItem (L : Type 0) : Type 0 where
    leaf : L → TreeItem L
    inner : Items L → TreeItem L

  -- a finite list of items
  pub data Items (L : Type 0) : Type 0 where
    none : Items L
    item : TreeItem L → Items L → Items L

module _ {L : Type 0} where
  -- how many items
  abbrev pub how_many : Items L → ℕ
  how_many none = 0
  how_many (item x xs) = 1 + how_many xs

  -- the items with one more at their end
  abbrev pub with_last : Items L → TreeItem L → Items L
  with_last none y = item y none
  with_last (item x xs) y = item x (with_last xs y)

  -- the items as a plain list
  abbrev pub as_list : Items L → List (TreeItem L)
  as_list none = []
  as_list (item x xs) = x ∷ as_list xs

  -- how many levels of lists an item has, none if it is a leaf
  abbrev mutual
    pub item_levels : TreeItem L → ℕ
    item_levels (leaf x) = 0
    item_levels (inner xs) = 1 + levels_in xs

    -- the levels of lists within lists below this one
    pub levels_in : Items L → ℕ
    levels_in none = 0
    levels_in (item x xs) = max (item_levels x) (levels_in xs)

  -- A flat list has one level.
  abbrev pub levels_of : Items L → ℕ
  levels_of xs = 1 + levels_in xs

-- the length of an item's encoding, from that of each leaf: a nested list has a tag and a count before its items
module _ {L : Type 0} (length_of : L → ℕ) where
  abbrev mutual
    pub item_length : TreeItem L → ℕ
    item_length (leaf x) = length_of x
    item_length (inner xs) = 2 + length_in xs

    -- the length of the items' encodings, without the count before them
    pub length_in : Items L → ℕ
    length_in none = 0
    length_in (item x xs) = item_length x + length_in xs

  -- the length of a whole encoding, with its count
  abbrev pub whole_length : Items L → ℕ
  whole_length xs = 1 + length_in xs

-- whether some leaf in the item passes the test, at any level
module _ {L : Type 0} (test : L → Bool) where
  abbrev mutual
    pub item_has : TreeItem L → Bool
    item_has (leaf x) = test x
    item_has (inner xs) = has_leaf xs

    -- whether some leaf passes the test, at any level
    pub has_leaf : Items L → Bool
    has_leaf none = false
    has_leaf (item x xs) = item_has x || has_leaf xs
