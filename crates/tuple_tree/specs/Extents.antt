-- Definitions for the private fields and functions that keep levels and bytes beside the items.
use Rattle.std.specs.Prelude.{◌≡◌, ◌≢◌, ℕ, ◌+◌, ◌<◌, ◌≤◌, max, Bool, ◌||◌, Result, MatchResult}
use Rattle.tuple_tree.specs.Items.{Items, levels_of, whole_length, has_leaf}
use Rattle.tuple_tree.specs.Limits.{IsWithin, RefusesSize}
use Rattle.tuple_tree.specs.declared.limits.Extent.{Extent}
use Rattle.tuple_tree.specs.declared.limits.Refusal.{Refusal}
use Rattle.tuple_tree.specs.declared.limits.Refusal.TheVariants.{NoMemory}

-- The items are within the limits, and this is their extent.
abbrev pub IsMeasured : {L : Type 0} → (L → Type 0) → (L → ℕ) → (L → Bool) → Items L → Extent → Type 0
IsMeasured IsLeaf length_of is_wide t extent =
    IsWithin IsLeaf length_of t × (extent.depth ≡ levels_of t) × (extent.encoded_len ≡ whole_length length_of t)
    × (extent.has_wide ≡ has_leaf is_wide t)

-- A list of len items has room for one more item, and the longer list has the extent new.
abbrev pub IsLonger : Extent → ℕ → ℕ → ℕ → Bool → Extent → Type 0
IsLonger old len item_depth item_len item_wide new =
    (len < 32) × (new.depth ≤ 8) × (new.encoded_len ≤ 1024) × (new.depth ≡ max old.depth (1 + item_depth))
    × (new.encoded_len ≡ old.encoded_len + item_len) × (new.has_wide ≡ (old.has_wide || item_wide))

-- The list with one more item, of so many levels and bytes, passes the limit that the refusal names, and none before
-- it.
abbrev pub RefusesItem : Extent → ℕ → ℕ → ℕ → Refusal → Type 0
RefusesItem old len item_depth item_len refusal =
    RefusesSize refusal (len + 1) (max old.depth (1 + item_depth)) (old.encoded_len + item_len)

-- The result is the extent of the list with one more item, or why it is refused.
abbrev pub LengthensList : Extent → ℕ → ℕ → ℕ → Bool → Result Extent Refusal → Type 0
LengthensList old len item_depth item_len item_wide result =
    MatchResult result (IsLonger old len item_depth item_len item_wide) (RefusesItem old len item_depth item_len)

-- the same, if memory is not asked for
abbrev pub Extends : Extent → ℕ → ℕ → ℕ → Bool → Result Extent Refusal → Type 0
Extends old len item_depth item_len item_wide result =
    MatchResult result (IsLonger old len item_depth item_len item_wide)
    (λ refusal. (refusal ≢ NoMemory) × RefusesItem old len item_depth item_len refusal)
