-- Levels, and the positions at which they rise.
use Rattle.std.specs.Prelude.{◌≡◌, ℕ, zero, suc, ◌+◌, ◌<◌, Bool, ◌&&◌, List, [], ◌∷◌, length, nat_lt, nat_le, if◌then◌else◌, max, Option, None, slice_index}
use Rattle.quorum.specs.Quorum.{count_below}
use Rattle.quorum.specs.Votes.{or_else}
use Rattle.std.specs.Bool.{then_some}
use Rattle.protocol.specs.System.Configuration.{Configuration, replicas, is_correct_replica}
use Rattle.protocol.specs.System.Trace.{Entry}
use Rattle.points.specs.declared.levels.Rise.{Rise}
use Rattle.protocol.specs.Space.Linear.{reached_at, reached, count_correct, is_level}

-- the greatest of a value over the numbers below n
abbrev pub greatest_below : (ℕ → ℕ) → ℕ → ℕ
greatest_below f zero = 0
greatest_below f (suc n) = max (f n) (greatest_below f n)

-- the number that the replica reached, if it is a level
abbrev pub level_reached : Configuration → List Entry → ℕ → ℕ
level_reached c past r = if is_level c past (reached past r) then reached past r else 0

-- the greatest level that some replica reached
abbrev pub level : Configuration → List Entry → ℕ
level c past = greatest_below (level_reached c past) (replicas c)

-- the positions at which the level rises, the newest first
abbrev pub rises : Configuration → List Entry → List Rise
rises c [] = []
rises c (e ∷ past) =
    if nat_lt (level c past) (level c (e ∷ past))
    then record { level = level c (e ∷ past); position = length past } ∷ rises c past
    else rises c past

-- the position of the first level that is at least the number
abbrev pub level_position : List Rise → ℕ → Option ℕ
level_position [] k = None
level_position (x ∷ xs) k = or_else (level_position xs k) (then_some (nat_le k x.level) x.position)

-- ---- by the numbers that the replicas reached

-- a correct replica reached the number
abbrev pub reached_number : Configuration → List ℕ → ℕ → ℕ → Bool
reached_number c values k r = is_correct_replica c r && nat_le k (slice_index values r)

-- the number that the replica reached, if all but f of the correct ones did
abbrev pub number_reached : Configuration → List ℕ → ℕ → ℕ
number_reached c values r =
    if nat_le (count_correct c) (count_below (reached_number c values (slice_index values r)) (replicas c) + c.faults)
    then slice_index values r
    else 0

-- the greatest such number
abbrev pub level_in : Configuration → List ℕ → ℕ
level_in c values = greatest_below (number_reached c values) (replicas c)

-- the numbers reached before the entry lead to those after it
abbrev pub RaisesNumbers : Entry → List ℕ → List ℕ → Type 0
RaisesNumbers e old new = (r : ℕ) → r < 10 → slice_index new r ≡ max (reached_at r e) (slice_index old r)
