use Rattle.replica.proofs.NumbersGiven.{NumbersSoFar}
use Rattle.replica.proofs.both_parts.BothParts.number_waiting.Given as goal

abbrev pub invariant-loop : goal.invariant-loop
invariant-loop l = NumbersSoFar l.counter l.initial.self l.initial.outputs.items l.self l.outputs.items
