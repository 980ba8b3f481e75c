use Rattle.std.proofs.Common.{◌≡◌, ◌++◌}
use Rattle.std.specs.List.{range_with_len}
use Rattle.authenticator.specs.Dealing.{others_among}
use Rattle.party_keys.proofs.lists.push_replicas.Given as goal

abbrev pub invariant-loop-party : goal.invariant-loop-party
invariant-loop-party l = l.parties.items ≡ l.fn.parties.items ++ others_among (range_with_len 0 l.party) l.me
