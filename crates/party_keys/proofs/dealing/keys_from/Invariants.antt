use Rattle.std.proofs.Common.{◌≡◌, ◌==◌, take}
use Rattle.std.specs.Prelude.{filter, map}
use Rattle.party_keys.proofs.dealing.keys_from.Given as goal

abbrev pub invariant-loop-shared : goal.invariant-loop-shared
invariant-loop-shared l = l.keys.items ≡ map (λ s. s.key) (filter (λ s. s.from == l.me) (take l.shared-index l.row))
