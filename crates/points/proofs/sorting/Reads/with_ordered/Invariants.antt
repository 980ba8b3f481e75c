use Rattle.std.proofs.Common.{vec_len}
use Rattle.points.proofs.Holding.{Merged}
use Rattle.points.proofs.sorting.Reads.with_ordered.Given as goal

abbrev pub invariant-loop-placed : goal.invariant-loop-placed
invariant-loop-placed l = Merged l.fn.self l.fn.ordered.items l.rest.items l.merged.entries

abbrev pub decreases-loop-placed : goal.decreases-loop-placed
decreases-loop-placed l = vec_len l.rest
