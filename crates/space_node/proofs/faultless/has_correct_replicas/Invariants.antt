use Rattle.space_node.proofs.NewParties.{AreReplicas}
use Rattle.space_node.proofs.faultless.has_correct_replicas.Given as goal

abbrev pub invariant-loop-number : goal.invariant-loop-number
invariant-loop-number l = AreReplicas l.config l.number
