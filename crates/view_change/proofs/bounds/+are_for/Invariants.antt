use Rattle.std.proofs.Common.{length}
use Rattle.view_change.proofs.bounds.+are_for.Given as goal

abbrev pub decreases-are_for : goal.decreases-are_for
decreases-are_for l = length l.set.now
