use Rattle.std.proofs.Common.{◌≡◌, map}
use Rattle.std.specs.List.{range_with_len}
use Rattle.terms.specs.declared.parties.ReplicaId.{ReplicaId}
use Rattle.journal.specs.Histories.{correct_of}
use Rattle.space_node.proofs.faultless.correct_replicas.Given as goal

abbrev pub invariant-loop-number : goal.invariant-loop-number
invariant-loop-number l =
    map (λ (r : ReplicaId). r.0) l.replicas.items ≡ correct_of l.config (range_with_len 0 l.number)
