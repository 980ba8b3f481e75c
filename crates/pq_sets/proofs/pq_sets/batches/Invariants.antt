use Rattle.std.specs.Arc.{arc_value}
use Rattle.std.proofs.Common.{◌≡◌, map, take}
use Rattle.pq_sets.specs.PqSetsView.{texts_in}
use Rattle.pq_sets.proofs.pq_sets.batches.Given as goal

abbrev pub invariant-loop-pq_entry : goal.invariant-loop-pq_entry
invariant-loop-pq_entry l = map arc_value l.batches.items ≡ texts_in (take l.pq_entry-index l.pq_set)
