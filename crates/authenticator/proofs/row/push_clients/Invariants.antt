use Rattle.std.proofs.Common.{◌≡◌, ◌+◌, ◌*◌, ◌++◌}
use Rattle.std.specs.Prelude.{◌-◌}
use Rattle.std.specs.List.{range_with_len}
use Rattle.terms.specs.declared.parties.TheConstants.{FIRST_CLIENT}
use Rattle.authenticator.specs.Dealing.{all_clients, keys_with}
use Rattle.authenticator.proofs.row.push_clients.Given as goal

-- the keys so far, and those with the clients that are left, are all
abbrev pub invariant-loop-pair : goal.invariant-loop-pair
invariant-loop-pair l =
    l.keys.items ++ keys_with l.seed l.me (range_with_len (FIRST_CLIENT + 2 * l.pair) (l.clients - 2 * l.pair))
    ≡ l.fn.keys.items ++ keys_with l.seed l.me (all_clients l.clients)
