use Rattle.std.proofs.Common.{length}
use Rattle.space_node.proofs.drill.+are_of_faulty.Given as goal

abbrev pub decreases-are_of_faulty : goal.decreases-are_of_faulty
decreases-are_of_faulty l = length l.drills.now
