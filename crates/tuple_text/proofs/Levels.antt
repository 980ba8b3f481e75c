-- The levels of an item, and the limits that a list's items keep or pass.
use Rattle.std.proofs.Common.{ℕ, suc, ◌<◌, ◌≤◌, arith}
use Rattle.tuple_tree.specs.Items.{TreeItem, leaf, inner, Items, none, item, how_many, item_levels, levels_in}
use Rattle.tuple_tree.specs.Items.{whole_length}
use Rattle.tuple_tree.specs.Limits.{IsItem, AreItems}
use Rattle.tuple_text.specs.Lines.{EachLeaf, LeafIn}
use Rattle.tuple_text.specs.declared.reader.Stop.{Stop}
use Rattle.tuple_text.specs.declared.reader.Stop.TheVariants.{BadByte, TooDeep, TooManyFields, TooLong, NoMemory}
use Rattle.tuple_text.proofs.Right.{Limits, both, levels, no_limits}
use Rattle.tuple_text.proofs.Endings.{Each}

module _ {L : Type 0} where
  abbrev pub Counted : TreeItem L → Type 0
  Counted x = IsItem (λ _. Unit {0}) x

  abbrev pub AreCounted : Items L → Type 0
  AreCounted xs = AreItems (λ _. Unit {0}) xs

  abbrev pub Fits : (L → ℕ) → Items L → Type 0
  Fits length_of t = whole_length length_of t ≤ 1024

  abbrev pub Overflows : (L → ℕ) → Items L → Type 0
  Overflows length_of t = 1024 < whole_length length_of t

  -- an item with at most so many levels
  abbrev pub Within : ℕ → Limits → TreeItem L → Type 0
  Within n both x = (item_levels x ≤ n) × Counted x
  Within n levels x = item_levels x ≤ n
  Within n no_limits x = Unit {0}

  -- the limits that an item passes with room for n levels, and that a list passes with room for so many items
  abbrev pub ItemExceeds : ℕ → TreeItem L → Stop → Type 0
  ItemExceeds n x BadByte = ⊥
  ItemExceeds n x TooDeep = n < item_levels x
  ItemExceeds n x TooManyFields = Counted x → ⊥
  ItemExceeds n x TooLong = ⊥
  ItemExceeds n x NoMemory = ⊥

  abbrev pub Exceed : ℕ → ℕ → Items L → Stop → Type 0
  Exceed n room xs BadByte = ⊥
  Exceed n room xs TooDeep = n < levels_in xs
  Exceed n room xs TooManyFields = how_many xs ≤ room → AreCounted xs → ⊥
  Exceed n room xs TooLong = ⊥
  Exceed n room xs NoMemory = ⊥

  pub first_exceeds : (n room : ℕ) (x : TreeItem L) (xs : Items L) (s : Stop) → ItemExceeds n x s → Exceed n (suc room) (item x xs) s
  first_exceeds n room x xs BadByte h = h
  first_exceeds n room x xs TooDeep h = omega (arith, h)
  first_exceeds n room x xs TooManyFields h = λ p q. h q.0
  first_exceeds n room x xs TooLong h = h
  first_exceeds n room x xs NoMemory h = h

  pub rest_exceeds : (n room : ℕ) (x : TreeItem L) (xs : Items L) (s : Stop) → Exceed n room xs s → Exceed n (suc room) (item x xs) s
  rest_exceeds n room x xs BadByte h = h
  rest_exceeds n room x xs TooDeep h = omega (arith, h)
  rest_exceeds n room x xs TooManyFields h = λ p q. h (omega (arith, p)) q.1
  rest_exceeds n room x xs TooLong h = h
  rest_exceeds n room x xs NoMemory h = h

  -- a limit that the items of a nested list pass, the list passes as an item
  pub inner_exceeds : (n : ℕ) (xs : Items L) (s : Stop) → Exceed n 32 xs s → ItemExceeds (suc n) (inner xs) s
  inner_exceeds n xs BadByte h = h
  inner_exceeds n xs TooDeep h = omega (arith, h)
  inner_exceeds n xs TooManyFields h = λ p. h p.0 p.1
  inner_exceeds n xs TooLong h = h
  inner_exceeds n xs NoMemory h = h

module _ {L : Type 0} (IsLeaf : L → Type 0) where
  abbrev pub OneIs : ℕ → Limits → TreeItem L → Type 0
  OneIs n c x = LeafIn IsLeaf x × Within n c x

  pub weaker : (n : ℕ) (c : Limits) (x : TreeItem L) → OneIs n both x → OneIs n c x
  weaker n both x h = h
  weaker n levels x h = (h.0, h.1.0)
  weaker n no_limits x h = (h.0, tt)

  pub each_weaker : (n : ℕ) (c : Limits) (xs : Items L) → Each (OneIs n both) xs → Each (OneIs n c) xs
  each_weaker n c none h = tt
  each_weaker n c (item x xs) h = (weaker n c x h.0, each_weaker n c xs h.1)

  pub each_leaf : (n : ℕ) (c : Limits) (xs : Items L) → Each (OneIs n c) xs → EachLeaf IsLeaf xs
  each_leaf n c none h = tt
  each_leaf n c (item x xs) h = (h.0.0, each_leaf n c xs h.1)

  pub each_levels : (n : ℕ) (xs : Items L) → Each (OneIs n levels) xs → levels_in xs ≤ n
  each_levels n none h = omega arith
  each_levels n (item x xs) h = omega (arith, h.0.1, each_levels n xs h.1)

  pub each_counted : (n : ℕ) (xs : Items L) → Each (OneIs n both) xs → AreCounted xs
  each_counted n none h = tt
  each_counted n (item x xs) h = (h.0.1.1, each_counted n xs h.1)

-- From the leaves of a tree to its items and back.
module _ {L : Type 0} (P : L → Type 0) where
  mutual
    pub are_items : (xs : Items L) → EachLeaf P xs → AreCounted xs → AreItems P xs
    are_items none h k = tt
    are_items (item x xs) h k = (is_item x h.0 k.0, are_items xs h.1 k.1)

    is_item : (x : TreeItem L) → LeafIn P x → Counted x → IsItem P x
    is_item (leaf x) h k = h
    is_item (inner xs) h k = (k.0, are_items xs h k.1)

  mutual
    pub are_counted : (xs : Items L) → AreItems P xs → AreCounted xs
    are_counted none h = tt
    are_counted (item x xs) h = (is_counted x h.0, are_counted xs h.1)

    is_counted : (x : TreeItem L) → IsItem P x → Counted x
    is_counted (leaf x) h = tt
    is_counted (inner xs) h = (h.0, are_counted xs h.1)
