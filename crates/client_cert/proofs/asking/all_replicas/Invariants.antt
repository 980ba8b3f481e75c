use Rattle.std.proofs.Common.{◌≡◌, map}
use Rattle.std.specs.List.{range_with_len}
use Rattle.terms.specs.Parties.{party_number}
use Rattle.client_cert.proofs.asking.all_replicas.Given as goal

abbrev pub invariant-loop-replica : goal.invariant-loop-replica
invariant-loop-replica l = map party_number l.parties.items ≡ range_with_len 0 l.replica
