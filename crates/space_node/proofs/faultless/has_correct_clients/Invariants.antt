use Rattle.space_node.proofs.NewParties.{AreClients}
use Rattle.space_node.proofs.faultless.has_correct_clients.Given as goal

abbrev pub invariant-loop-number : goal.invariant-loop-number
invariant-loop-number l = AreClients l.config l.number
