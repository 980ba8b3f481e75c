use Rattle.std.proofs.Common.{◌≡◌, ◌+◌, ◌*◌, ◌++◌}
use Rattle.authenticator.specs.Dealing.{keys_with, other_replicas}
use Rattle.authenticator.proofs.Dealing.{others_from}
use Rattle.authenticator.proofs.row.push_replicas.Given as goal

-- the keys so far, and those with the replicas that are left, are all
abbrev pub invariant-loop-party : goal.invariant-loop-party
invariant-loop-party l =
    l.keys.items ++ keys_with l.seed l.me (others_from l.seed l.me (3 * l.faults + 1) l.party)
    ≡ l.fn.keys.items ++ keys_with l.seed l.me (other_replicas l.faults l.me)
