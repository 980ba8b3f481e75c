use Rattle.desk.proofs.AssignedCalls.{BatchesLeft}
use Rattle.desk.proofs.desk.Desk.note_assigned.Given as goal

abbrev pub invariant-loop-batch : goal.invariant-loop-batch
invariant-loop-batch l = BatchesLeft l.self.executed.clients l.batches l.calls.items l.batch-index
