-- Which keys a seed gives to each party. Replicas exchange frames with each other and with all clients; clients exchange
-- none with each other.
use Rattle.std.specs.Prelude.{◌≡◌, ℕ, ◌+◌, ◌*◌, ◌==◌, not, List, [], ◌∷◌, ◌++◌, filter, nat_lt, if◌then◌else◌}
use Rattle.std.specs.List.{flat_map, range_with_len}
use Rattle.terms.specs.declared.parties.TheConstants.{FIRST_CLIENT}
use Rattle.authenticator.specs.Keys.{derived_key}
use Rattle.authenticator.specs.declared.row.SharedKey.{SharedKey}

-- The keys that a seed gives a party: in both directions with each other replica, and a replica's with each client.
abbrev pub dealt_keys : List ℕ → ℕ → ℕ → ℕ → List SharedKey
dealt_keys seed faults clients me =
    flat_map (λ p. record { from = p; to = me; key = derived_key seed p me }
    ∷ record { from = me; to = p; key = derived_key seed me p } ∷ [])
    (filter (λ p. not (p == me)) (range_with_len 0 (3 * faults + 1))
    ++ range_with_len FIRST_CLIENT (if nat_lt me FIRST_CLIENT then clients else 0))

-- ---- parts of these, for the functions that deal

-- the keys of two parties, in both directions
abbrev pub both_keys : List ℕ → ℕ → ℕ → List SharedKey
both_keys seed me party =
    record { from = party; to = me; key = derived_key seed party me }
    ∷ record { from = me; to = party; key = derived_key seed me party } ∷ []

-- The keys of two parties are appended: the one from the party to this one, and the one back.
abbrev pub IsPairPushed : ℕ → ℕ → List (List ℕ) → List SharedKey → List SharedKey → Type 0
IsPairPushed me party pair old new =
    (there back : List ℕ) → pair ≡ there ∷ back ∷ []
    → new ≡ old ++ record { from = party; to = me; key = there } ∷ record { from = me; to = party; key = back } ∷ []

-- the keys of a party with each of these, one after another
abbrev pub keys_with : List ℕ → ℕ → List ℕ → List SharedKey
keys_with seed me parties = flat_map (both_keys seed me) parties

abbrev pub all_replicas : ℕ → List ℕ
all_replicas faults = range_with_len 0 (3 * faults + 1)

abbrev pub all_clients : ℕ → List ℕ
all_clients clients = range_with_len FIRST_CLIENT clients

-- those that are not this party
abbrev pub others_among : List ℕ → ℕ → List ℕ
others_among parties me = filter (λ p. not (p == me)) parties

abbrev pub other_replicas : ℕ → ℕ → List ℕ
other_replicas faults me = others_among (all_replicas faults) me

-- how many clients exchange frames with a party: all with a replica, none with a client
abbrev pub clients_of : ℕ → ℕ → ℕ
clients_of me clients = if nat_lt me FIRST_CLIENT then clients else 0

-- the parties that exchange frames with this one
abbrev pub peers : ℕ → ℕ → ℕ → List ℕ
peers faults clients me = other_replicas faults me ++ all_clients (clients_of me clients)
