use Rattle.std.proofs.Common.{take}
use Rattle.space_node.specs.Calls.{AcceptNothing}
use Rattle.space_node.proofs.turn.accept_nothing.Given as goal

abbrev pub invariant-loop-output : goal.invariant-loop-output
invariant-loop-output l = AcceptNothing (take l.output-index l.outputs)
