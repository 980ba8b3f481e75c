-- Words of the private functions that run batches: the batches of the numbers that have one, and the requests that ran
-- in them.
use Rattle.std.specs.Prelude.{ℕ, zero, suc, ◌≤◌, ⊤, List, [], ◌∷◌, ◌++◌, map, Option}
use Rattle.std.specs.Option.{option_map_or}
use Rattle.protocol.specs.System.Configuration.{Configuration}
use Rattle.wire_format.specs.Words.{requests_of}
use Rattle.protocol.specs.Replica.State.{State, Ran, execute, ran_in}
use Rattle.protocol.specs.Space.Linear.{Placing, ordered_point}

-- a number with its batch
pub record Numbered : Type 0 where
  pub number : ℕ
  pub batch : List ℕ

-- the number before
abbrev pub before : ℕ → ℕ
before zero = 0
before (suc n) = n

-- the state, with the number before this one, so that the batch of this number comes next
abbrev pub ready_for : ℕ → State → State
ready_for k st = record st { number = before k }

-- the points of requests that ran in the batch of a number, if its level has a place
abbrev pub points_at : Option ℕ → ℕ → List Ran → List Placing
points_at place number ran = option_map_or (λ position. map (ordered_point position number) ran) place []

-- the points of the requests that ran in these batches
abbrev pub numbered_points : Configuration → (ℕ → Option ℕ) → State → List Numbered → List Placing
numbered_points c place st [] = []
numbered_points c place st (x ∷ xs) =
    points_at (place x.number) x.number (ran_in c x.number (ready_for x.number st) (requests_of x.batch))
    ++ numbered_points c place (execute c (ready_for x.number st) x.batch) xs

-- the numbers ascend, from k on
abbrev pub AscendsFrom : ℕ → List Numbered → Type 0
AscendsFrom k [] = ⊤
AscendsFrom k (x ∷ xs) = (k ≤ x.number) × AscendsFrom (suc x.number) xs
