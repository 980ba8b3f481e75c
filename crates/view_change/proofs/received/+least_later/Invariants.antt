use Rattle.std.proofs.Common.{length}
use Rattle.view_change.proofs.received.+least_later.Given as goal

abbrev pub decreases-least_later : goal.decreases-least_later
decreases-least_later l = length l.held.now
