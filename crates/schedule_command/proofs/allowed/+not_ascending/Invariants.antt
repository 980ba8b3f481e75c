use Rattle.std.proofs.Common.{length}
use Rattle.schedule_command.proofs.allowed.+not_ascending.Given as goal

abbrev pub decreases-not_ascending : goal.decreases-not_ascending
decreases-not_ascending l = length l.parties.now
