use Rattle.std.proofs.Common.{length}
use Rattle.view_change.proofs.selecting.+start_of.Given as goal

abbrev pub decreases-start_of : goal.decreases-start_of
decreases-start_of l = length l.some.now
