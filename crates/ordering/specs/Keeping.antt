-- The invariant of a log.
use Rattle.std.specs.Prelude.{◌≡◌, ℕ, ◌^◌, ◌<◌, ◌≤◌, length, All}
use Rattle.ordering.specs.Votes.{AreVotes}
use Rattle.ordering.specs.Log.{Row, LogData, replicas}

pub record IsRow (n : ℕ) (row : Row) : Type 0 where
  pub prepares : AreVotes n row.prepares
  pub commits : AreVotes n row.commits

-- One to three replicas may be faulty. There is a row for each number within the marks, and a list of checkpoints for
-- each replica.
pub record IsLog (m : LogData) : Type 0 where
  pub some : 1 ≤ m.faults
  pub few : m.faults ≤ 3
  pub me : m.me < replicas m
  pub span : m.span ≤ 32
  pub low : m.low < 2 ^ 48
  pub size : length m.rows ≡ m.span
  pub rows : All (IsRow (replicas m)) m.rows
  pub checkpoints : length m.checkpoints ≡ replicas m
