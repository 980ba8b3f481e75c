use Rattle.std.proofs.Common.{take}
use Rattle.space_node.specs.Runs.{HasHistories}
use Rattle.space_node.proofs.finishing.first_client_off.Given as goal

abbrev pub invariant-loop-client : goal.invariant-loop-client
invariant-loop-client g l = HasHistories l.journal.trace (take l.client-index l.clients)
