-- Words of the private functions that find places.
use Rattle.std.specs.Prelude.{ℕ, ◌==◌, List, if◌then◌else◌}
use Rattle.std.specs.Option.{option_map_or}
use Rattle.points.specs.declared.levels.Rise.{Rise}
use Rattle.points.specs.Leveling.{level_position}

-- the position of the first level that is at least the number, else 0
abbrev pub position_in : List Rise → ℕ → ℕ
position_in found k = if k == 0 then 0 else option_map_or (λ x. x) (level_position found k) 0
