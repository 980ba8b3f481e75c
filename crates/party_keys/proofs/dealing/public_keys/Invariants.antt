use Rattle.std.proofs.Common.{◌≡◌, take}
use Rattle.party_keys.proofs.dealing.public_keys.Given as goal

abbrev pub invariant-loop-replica : goal.invariant-loop-replica
invariant-loop-replica l = l.keys.items ≡ take l.replica l.publics
