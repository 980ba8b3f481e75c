use Rattle.std.proofs.Common.{◌≡◌, ◌++◌, map, take}
use Rattle.terms.specs.Parties.{party_number}
use Rattle.space_node.specs.Runs.{ClientsArePrompt, stopped_of}
use Rattle.space_node.proofs.finishing.add_clients.Given as goal

abbrev pub invariant-loop-client : goal.invariant-loop-client
invariant-loop-client g l =
    ClientsArePrompt g.N.Naming.config (take l.client-index l.clients)
    × (map party_number l.stopped.items ≡ map party_number l.initial.stopped.items ++ stopped_of (take l.client-index l.clients))
