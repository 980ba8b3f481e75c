use Rattle.std.proofs.Common.{reverse, take}
use Rattle.points.specs.Batching.{CollectsBatches, numbered_of}
use Rattle.points.proofs.batches.find_batches.Given as goal

abbrev pub invariant-loop-entry : goal.invariant-loop-entry
invariant-loop-entry l = CollectsBatches (reverse (take l.entry-index l.trace)) (numbered_of l.found.entries)
