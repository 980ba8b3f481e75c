use Rattle.std.proofs.Common.{length}
use Rattle.view_change.proofs.choosing.+is_prepared_in.Given as goal

abbrev pub decreases-is_prepared_in : goal.decreases-is_prepared_in
decreases-is_prepared_in l = length l.set.now
