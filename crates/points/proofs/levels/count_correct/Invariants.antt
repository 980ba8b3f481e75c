use Rattle.std.proofs.Common.{◌≡◌, ◌≤◌}
use Rattle.quorum.specs.Quorum.{count_below}
use Rattle.protocol.specs.System.Configuration.{is_correct_replica}
use Rattle.points.proofs.levels.count_correct.Given as goal

abbrev pub invariant-loop-replica : goal.invariant-loop-replica
invariant-loop-replica l = (l.count ≡ count_below (is_correct_replica l.config) l.replica) × (l.count ≤ l.replica)
