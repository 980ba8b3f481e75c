use Rattle.std.proofs.Common.{◌≡◌, map, take}
use Rattle.terms.specs.declared.parties.ReplicaId.{ReplicaId}
use Rattle.space_node.specs.Runs.{ReplicasArePrompt}
use Rattle.space_node.specs.PartyStates.{PartyState}
use Rattle.space_node.proofs.finishing.shares_of.Given as goal

abbrev pub invariant-loop-replica : goal.invariant-loop-replica
invariant-loop-replica g l =
    (map (λ (s : PartyState). s.party) l.shares.items ≡ map (λ (r : ReplicaId). r.0) (take l.replica-index l.replicas))
    × ReplicasArePrompt g.N.Naming.config l.shares.items
