use Rattle.std.proofs.Common.{◌≡◌, map}
use Rattle.terms.specs.Parties.{party_number}
use Rattle.frame_endpoint.specs.Endpoint.{others_below}
use Rattle.frame_endpoint.proofs.receivers.other_replicas.Given as goal

abbrev pub invariant-loop-other : goal.invariant-loop-other
invariant-loop-other l = map party_number l.parties.items ≡ others_below l.other l.me.0
