-- What a test of bytes tells of the items that they spell: the levels in them, whether some leaf is a wide number, and
-- the bytes after them.
use Rattle.std.specs.Prelude.{ℕ, Bool, List, Option, Some, None}
use Rattle.tuple_tree.specs.Items.{TreeItem, Items, none, with_last, item_levels, levels_in, item_has, has_leaf}
use Rattle.tuple_tree.specs.Reading.{Reader, item_at, more}

abbrev pub Judged : Type 0
Judged = Option (ℕ × Bool × List ℕ)

module _ {L : Type 0} (is_wide : L → Bool) where
  abbrev pub judged : Option (Items L × List ℕ) → Judged
  judged None = None
  judged (Some x) = Some (levels_in x.0, has_leaf is_wide x.0, x.1)

  abbrev pub judged_one : Option (TreeItem L × List ℕ) → Judged
  judged_one None = None
  judged_one (Some x) = Some (item_levels x.0, item_has is_wide x.0, x.1)

  abbrev pub judged_leaf : Option (L × List ℕ) → Option (Bool × List ℕ)
  judged_leaf None = None
  judged_leaf (Some x) = Some (is_wide x.0, x.1)

-- so many items
unfoldable pub items_judged : {L : Type 0} → (L → Bool) → (ℕ → Reader L) → ℕ → ℕ → List ℕ → Judged
items_judged is_wide leaf_at levels count bs = judged is_wide (more (item_at leaf_at levels) with_last count none bs)
