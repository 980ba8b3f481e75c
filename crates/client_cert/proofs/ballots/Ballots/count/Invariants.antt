use Rattle.std.proofs.Common.{◌≡◌, ◌≤◌}
use Rattle.client_cert.specs.State.{count_held}
use Rattle.client_cert.proofs.ballots.Ballots.count.Given as goal

abbrev pub invariant-loop-replica : goal.invariant-loop-replica
invariant-loop-replica l = (l.count ≡ count_held l.self l.replica) × (l.count ≤ l.replica)
