-- The faulty parties that have made a frame.
use Rattle.std.specs.Prelude.{◌≡◌, ◌<◌, ℕ, List, length, slice_index_or}
use Rattle.terms.specs.Parties.{party_number}
use Rattle.terms.specs.declared.parties.Party.{Party}
use Rattle.schedule_world.specs.declared.faulty.FaultyParty.{FaultyParty}

-- it is this party under this seed
abbrev pub IsPartyOf : List ℕ → Party → FaultyParty → Type 0
IsPartyOf seed party one = (one.seed ≡ seed) × (party_number one.party ≡ party_number party)

-- at this place is this party under this seed
abbrev pub IsPartyAt : List ℕ → Party → List FaultyParty → ℕ → Type 0
IsPartyAt seed party faulty at =
    (at < length faulty) × ((d : FaultyParty) → IsPartyOf seed party (slice_index_or faulty at d))
