use Rattle.std.proofs.Common.{length}
use Rattle.view_change.proofs.rules.+is_passed_by.Given as goal

abbrev pub decreases-is_passed_by : goal.decreases-is_passed_by
decreases-is_passed_by l = length l.set.now
