use Rattle.std.proofs.Common.{length}
use Rattle.run_command.proofs.drills.+wrong_replica.Given as goal

abbrev pub decreases-wrong_replica : goal.decreases-wrong_replica
decreases-wrong_replica l = length l.drills.now
