use Rattle.std.proofs.Common.{length}
use Rattle.pq_sets.proofs.digests.+is_less.Given as goal

abbrev pub decreases-is_less : goal.decreases-is_less
decreases-is_less l = length l.digest.now
