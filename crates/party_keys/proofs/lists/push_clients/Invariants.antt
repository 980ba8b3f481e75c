use Rattle.std.proofs.Common.{◌≡◌, ◌++◌}
use Rattle.std.specs.List.{range_with_len}
use Rattle.terms.specs.declared.parties.TheConstants.{FIRST_CLIENT}
use Rattle.party_keys.proofs.lists.push_clients.Given as goal

abbrev pub invariant-loop-client : goal.invariant-loop-client
invariant-loop-client l = l.parties.items ≡ l.fn.parties.items ++ range_with_len FIRST_CLIENT l.client
