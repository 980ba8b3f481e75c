use Rattle.std.proofs.Common.{length}
use Rattle.view_change.proofs.selecting.+largest.Given as goal

abbrev pub decreases-largest : goal.decreases-largest
decreases-largest l = length l.entries.now
