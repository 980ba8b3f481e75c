-- What the private functions that find groups on a disk speak of.
use Rattle.std.specs.Prelude.{◌≡◌, ℕ, ◌+◌, ◌<◌, ◌≤◌, ◌^◌, List, ◌++◌, length, drop, Bool, true, false, Option, Some, None}
use Rattle.event_log.specs.Groups.{BeginsWithGroup, IsGroupOf}
use Rattle.event_log.specs.declared.owner.Owner.{Owner}

-- The bytes begin with this group, of so many events, the first of which has this number.
pub record FindsGroup (owner : Owner) (bytes group : List ℕ) (number count : ℕ) : Type 0 where
  pub is : IsGroupOf owner group number count
  pub rest : List ℕ
  pub whole : bytes ≡ group ++ rest

-- The bytes begin with this group if one was found, and else with none.
abbrev pub FindsNextGroup : Owner → List ℕ → List ℕ → Option (ℕ × ℕ) → Type 0
FindsNextGroup owner bytes group None = BeginsWithGroup owner bytes → ⊥
FindsNextGroup owner bytes group (Some found) = FindsGroup owner bytes group found.0 found.1

-- The group has at most so many bytes, and as many as an empty one at least. Its numbers fit.
pub record FitsGroup (most : ℕ) (group : List ℕ) (number count : ℕ) : Type 0 where
  pub some : 28 ≤ length group
  pub within : length group ≤ most
  pub numbered : number + count < 2 ^ 64

abbrev pub FitsNextGroup : ℕ → List ℕ → Option (ℕ × ℕ) → Type 0
FitsNextGroup most group None = Unit {0}
FitsNextGroup most group (Some found) = FitsGroup most group found.0 found.1

-- No sound group begins from one place up to another.
abbrev pub NoGroupIn : Owner → List ℕ → ℕ → ℕ → Type 0
NoGroupIn owner file from until =
    (place : ℕ) → from ≤ place → place < until → BeginsWithGroup owner (drop place file) → ⊥

-- No sound group begins from one place on.
abbrev pub NoGroupFrom : Owner → List ℕ → ℕ → Type 0
NoGroupFrom owner file from = (place : ℕ) → from ≤ place → BeginsWithGroup owner (drop place file) → ⊥

-- The first sound group from one place on begins at the found place.
pub record IsFirstGroup (owner : Owner) (file : List ℕ) (from found : ℕ) : Type 0 where
  pub behind : from ≤ found
  pub none : NoGroupIn owner file from found
  pub sound : BeginsWithGroup owner (drop found file)

abbrev pub FindsFirst : Owner → List ℕ → ℕ → Option ℕ → Type 0
FindsFirst owner file from None = NoGroupFrom owner file from
FindsFirst owner file from (Some found) = IsFirstGroup owner file from found

-- The first sound group from one place on begins at the next one, or none begins before that.
abbrev pub SearchesTo : Owner → List ℕ → ℕ → ℕ → Bool → Type 0
SearchesTo owner file from next true = IsFirstGroup owner file from next
SearchesTo owner file from next false = NoGroupIn owner file from next

-- A sound group begins at this place, and this is the next one, or none begins there.
abbrev pub JudgesPlace : Owner → List ℕ → ℕ → ℕ → Bool → Type 0
JudgesPlace owner file place next true = (next ≡ place) × BeginsWithGroup owner (drop place file)
JudgesPlace owner file place next false = (next ≡ place + 1) × (BeginsWithGroup owner (drop place file) → ⊥)
