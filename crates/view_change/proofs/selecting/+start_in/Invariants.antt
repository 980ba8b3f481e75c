use Rattle.std.proofs.Common.{length}
use Rattle.view_change.proofs.selecting.+start_in.Given as goal

abbrev pub decreases-start_in : goal.decreases-start_in
decreases-start_in l = length l.entries.now
