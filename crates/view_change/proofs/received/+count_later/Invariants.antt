use Rattle.std.proofs.Common.{length}
use Rattle.view_change.proofs.received.+count_later.Given as goal

abbrev pub decreases-count_later : goal.decreases-count_later
decreases-count_later l = length l.held.now
