-- The limits of tuples and templates: 32 items in each list, 8 levels, and 1,024 bytes of encoding.
use Rattle.std.specs.Prelude.{ℕ, ◌<◌, ◌≤◌}
use Rattle.tuple_tree.specs.Items.{TreeItem, leaf, inner, Items, none, item, how_many, levels_of, whole_length}
use Rattle.tuple_tree.specs.declared.limits.Refusal.{Refusal}
use Rattle.tuple_tree.specs.declared.limits.Refusal.TheVariants.{TooManyFields, TooDeep, TooLong, NoMemory}

-- The item is a right leaf, or a list of at most 32 such items.
module _ {L : Type 0} (IsLeaf : L → Type 0) where
  abbrev mutual
    pub IsItem : TreeItem L → Type 0
    IsItem (leaf x) = IsLeaf x
    IsItem (inner xs) = (how_many xs ≤ 32) × AreItems xs

    -- Each of the items is a right leaf, or a list of at most 32 such items.
    pub AreItems : Items L → Type 0
    AreItems none = Unit {0}
    AreItems (item x xs) = IsItem x × AreItems xs

-- The whole is within the limits. Levels and length of the whole bound those of each nested list.
pub record IsWithin {L : Type 0} (IsLeaf : L → Type 0) (length_of : L → ℕ) (t : Items L) : Type 0 where
  pub fields : how_many t ≤ 32
  pub levels : levels_of t ≤ 8
  pub length : whole_length length_of t ≤ 1024
  pub each : AreItems IsLeaf t

-- Why a list of so many items, levels and bytes is refused: the first limit that it passes, in this order. If it
-- passes none, memory ran out.
abbrev pub RefusesSize : Refusal → ℕ → ℕ → ℕ → Type 0
RefusesSize TooManyFields items levels bytes = 32 < items
RefusesSize TooDeep items levels bytes = (items ≤ 32) × (8 < levels)
RefusesSize TooLong items levels bytes = (items ≤ 32) × (levels ≤ 8) × (1024 < bytes)
RefusesSize NoMemory items levels bytes = (items ≤ 32) × (levels ≤ 8) × (bytes ≤ 1024)

abbrev pub RefusesItems : {L : Type 0} → (L → ℕ) → Refusal → Items L → Type 0
RefusesItems length_of refusal t = RefusesSize refusal (how_many t) (levels_of t) (whole_length length_of t)
