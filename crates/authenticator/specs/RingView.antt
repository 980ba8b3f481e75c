-- The keys of a ring.
use Rattle.std.specs.Prelude.{ℕ, ◌==◌, Bool, ◌&&◌, ◌||◌, List}
use Rattle.std.specs.Arc.{arc_value}
use Rattle.authenticator.specs.declared.ring.Source.{Source}
use Rattle.authenticator.specs.declared.ring.Source.TheVariants as source
use Rattle.authenticator.specs.declared.row.DealtKeys.{DealtKeys}
use Rattle.authenticator.specs.declared.row.SharedKey.{SharedKey}
use Rattle.authenticator.specs.Dealing.{dealt_keys}
use Rattle.authenticator.specs.Keys.{Keys, row, dealt}
use Rattle.authenticator.specs.Laws.{is_peer}

-- what the seed gives the party
abbrev pub keys_dealt : DealtKeys → List SharedKey
keys_dealt d = dealt_keys d.seed d.faults d.clients d.me

abbrev pub keys_of : Source → Keys
keys_of (source.Seed seed) = dealt seed
keys_of (source.Row keys) = row (arc_value keys).items
keys_of (source.Dealt keys) = row (keys_dealt keys)

-- one of the two is the party, and the other exchanges frames with it
abbrev pub joins : ℕ → ℕ → ℕ → ℕ → ℕ → Bool
joins faults clients me from to =
    ((from == me) && is_peer faults clients me to) || ((to == me) && is_peer faults clients me from)
