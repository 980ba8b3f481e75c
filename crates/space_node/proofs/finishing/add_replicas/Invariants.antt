use Rattle.std.proofs.Common.{◌≡◌, ◌++◌, map, take}
use Rattle.terms.specs.Parties.{party_number}
use Rattle.space_node.specs.Runs.{stopped_of}
use Rattle.space_node.proofs.finishing.add_replicas.Given as goal

abbrev pub invariant-loop-share : goal.invariant-loop-share
invariant-loop-share g l =
    map party_number l.stopped.items ≡ map party_number l.initial.stopped.items ++ stopped_of (take l.share-index l.shares)
