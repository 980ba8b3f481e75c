-- The keys that a configuration gives a party.
use Rattle.std.specs.Prelude.{◌≡◌, ℕ, List, map, nat_lt, if◌then◌else◌, Option, Some, None}
use Rattle.terms.specs.declared.parties.TheConstants.{FIRST_CLIENT}
use Rattle.authenticator.specs.Dealing.{peers}
use Rattle.authenticator.specs.Keys.{derived_key, signing_seed}
use Rattle.authenticator.specs.Membership.{Membership}
use Rattle.signing.specs.Publics.{knows}
use Rattle.protocol.specs.System.Configuration.{Configuration, members}
use Rattle.party_keys.specs.PartyData.{PartyData}

-- the signing seed of a replica; a client has none
abbrev pub seed_of : Configuration → ℕ → Option (List ℕ)
seed_of c me = if nat_lt me FIRST_CLIENT then Some (signing_seed c.seed me) else None

-- its keys are those that the seed derives for it and each party that it exchanges frames with
abbrev pub keys_of : Configuration → ℕ → PartyData
keys_of c me =
    record {
      party = me;
      faults = c.faults;
      clients = c.clients;
      period = c.period;
      from = map (λ p. derived_key c.seed p me) (peers c.faults c.clients me);
      to = map (λ p. derived_key c.seed me p) (peers c.faults c.clients me);
      publics = c.publics;
      seed = seed_of c me;
    }

-- With the public keys beside it, the ring is all that the party knows of each configuration that gives it these keys.
abbrev pub IsRingOf : PartyData → Membership → Type 0
IsRingOf k ring = (c : Configuration) → k ≡ keys_of c k.party → members c k.party ≡ knows ring k.publics
