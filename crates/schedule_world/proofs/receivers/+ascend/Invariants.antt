use Rattle.std.proofs.Common.{length}
use Rattle.schedule_world.proofs.receivers.+ascend.Given as goal

abbrev pub decreases-ascend : goal.decreases-ascend
decreases-ascend l = length l.parties.now
