use Rattle.std.proofs.Common.{◌≡◌, ◌≤◌}
use Rattle.client_cert.specs.State.{count_like}
use Rattle.client_cert.proofs.ballots.Ballots.count_like.Given as goal

abbrev pub invariant-loop-replica : goal.invariant-loop-replica
invariant-loop-replica l = (l.count ≡ count_like l.self l.replica l.ballot) × (l.count ≤ l.replica)
