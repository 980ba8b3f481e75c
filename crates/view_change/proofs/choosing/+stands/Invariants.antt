use Rattle.std.proofs.Common.{length}
use Rattle.view_change.proofs.choosing.+stands.Given as goal

abbrev pub decreases-stands : goal.decreases-stands
decreases-stands l = length l.some.now
