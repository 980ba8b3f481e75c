use Rattle.replica.proofs.Executions.{ExecutesSoFar}
use Rattle.replica.proofs.both_parts.BothParts.execute_committed.Given as goal

abbrev pub invariant-loop : goal.invariant-loop
invariant-loop l = ExecutesSoFar l.counter l.initial.self l.initial.outputs.items l.self l.outputs.items
