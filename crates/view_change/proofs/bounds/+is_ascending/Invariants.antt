use Rattle.std.proofs.Common.{length}
use Rattle.view_change.proofs.bounds.+is_ascending.Given as goal

abbrev pub decreases-is_ascending : goal.decreases-is_ascending
decreases-is_ascending l = length l.set.now
