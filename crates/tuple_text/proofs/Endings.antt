-- The text of a list's items up to its closing parenthesis, in the order of reading.
use Rattle.std.proofs.Common.{◌≡◌, ℕ, Bool, true, false, List, ◌++◌, refl, ap, inl, inr}
use Rattle.tuple_tree.specs.Items.{TreeItem, Items, none, item, with_last}
use Rattle.tuple_text.specs.Texts.{AreBlanks, ItemText, ItemsText, MoreText}
use Rattle.tuple_text.proofs.Blanks.{Frees, gap_passed}

module _ {L : Type 0} where
  -- the items of both, in order
  abbrev pub join : Items L → Items L → Items L
  join none u = u
  join (item x t) u = item x (join t u)

  pub join_none : (t : Items L) → join t none ≡ t
  join_none none = refl
  join_none (item x t) = ap (item x) (join_none t)

  pub join_last : (t : Items L) (x : TreeItem L) (u : Items L) → join (with_last t x) u ≡ join t (item x u)
  join_last none x u = refl
  join_last (item y t) x u = ap (item y) (join_last t x u)

  abbrev pub Each : (TreeItem L → Type 0) → Items L → Type 0
  Each P none = Unit {0}
  Each P (item x xs) = P x × Each P xs

module _ {L : Type 0} (leaf_text : L → List ℕ) where
  -- the items' text; free says whether an item may stand right at the front
  abbrev pub Ends : Bool → Items L → List ℕ → Type 0
  Ends free none w = AreBlanks w
  Ends free (item x xs) w =
      (lead front rest : List ℕ) × (w ≡ lead ++ (front ++ rest)) × AreBlanks lead × Frees free lead × ItemText leaf_text x front × Ends false xs rest

  ends_from_more : (xs : Items L) (body : List ℕ) → MoreText leaf_text xs body → Ends false xs body
  ends_from_more none body h = h
  ends_from_more (item x xs) body h = (h.0, h.1, h.2, h.3, h.4.1, inr h.4.0, h.5, ends_from_more xs h.2 h.6)

  pub ends_from_items : (xs : Items L) (body : List ℕ) → ItemsText leaf_text xs body → Ends true xs body
  ends_from_items none body h = h
  ends_from_items (item x xs) body h = (h.0, h.1, h.2, h.3, h.4, inl refl, h.5, ends_from_more xs h.2 h.6)

  ends_to_more : (xs : Items L) (w : List ℕ) → Ends false xs w → MoreText leaf_text xs w
  ends_to_more none w h = h
  ends_to_more (item x xs) w h = (h.0, h.1, h.2, h.3, gap_passed h.0 h.4 h.5, h.6, ends_to_more xs h.2 h.7)

  pub ends_to_items : (xs : Items L) (w : List ℕ) → Ends true xs w → ItemsText leaf_text xs w
  ends_to_items none w h = h
  ends_to_items (item x xs) w h = (h.0, h.1, h.2, h.3, h.4, h.6, ends_to_more xs h.2 h.7)
