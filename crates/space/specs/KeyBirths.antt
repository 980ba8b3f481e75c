-- The births of a key.
use Rattle.std.specs.Prelude.{ℕ, List, [], ◌∷◌}
use Rattle.space.specs.declared.key_births.KeyBirths.{KeyBirths}
use Rattle.space.specs.declared.key_births.KeyBirths.TheVariants.{Empty, One, Many}

abbrev pub births_of : KeyBirths → List ℕ
births_of Empty = []
births_of (One birth) = birth ∷ []
births_of (Many list) = list.births
