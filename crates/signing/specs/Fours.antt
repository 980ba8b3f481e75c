-- What the private functions speak of that hash four texts at once.
use Rattle.std.specs.Prelude.{◌≡◌, ℕ, ◌+◌, ◌-◌, List, [], ◌∷◌, ◌++◌, Some, map, slice_get}
use Rattle.hash_lanes.specs.Midstates.{IsAfter}
use Rattle.hash_lanes.specs.declared.midstate.Midstate.{Midstate}
use Rattle.signing.specs.Joined.{end_to_end}
use Rattle.signing.specs.Lamport.{secret, public_hash, bit_of}
use Rattle.signing.specs.declared.secrets.Place.{Place}

-- four numbers, from this one on
abbrev pub four_from : ℕ → List ℕ
four_from first = first ∷ (first + 1) ∷ (first + 2) ∷ (first + 3) ∷ []

-- four parts of a text, from this one on, end to end
abbrev pub four_joined : (ℕ → List ℕ) → ℕ → List ℕ
four_joined parts first = end_to_end 4 (λ k. parts (first + k))

-- the secret at a place, and its hash
abbrev pub secret_at : List ℕ → Place → List ℕ
secret_at seed place = secret seed place.leaf place.bit place.value

abbrev pub public_hash_at : List ℕ → Place → List ℕ
public_hash_at seed place = public_hash seed place.leaf place.bit place.value

-- the place of the value that a hash has at a bit, and that of the other value
abbrev pub own_place : ℕ → List ℕ → ℕ → Place
own_place leaf hash bit = record { leaf = leaf; bit = bit; value = bit_of hash bit }

abbrev pub other_place : ℕ → List ℕ → ℕ → Place
other_place leaf hash bit = record { leaf = leaf; bit = bit; value = 1 - bit_of hash bit }

-- the place of a value of a bit under a leaf
abbrev pub leaf_place : ℕ → ℕ → ℕ → Place
leaf_place bit value leaf = record { leaf = leaf; bit = bit; value = value }

-- the public hashes of both values of a bit under a leaf
abbrev pub public_pair : List ℕ → ℕ → ℕ → List ℕ
public_pair seed leaf bit = public_hash seed leaf bit 0 ++ public_hash seed leaf bit 1

-- the hashes have taken in these texts, each its own
abbrev pub HaveTakenIn : List (List ℕ) → List Midstate → Type 0
HaveTakenIn texts states =
    (lane : ℕ) (text : List ℕ) → slice_get texts lane ≡ Some text
    → (state : Midstate) × (slice_get states lane ≡ Some state) × IsAfter state text

-- the hashes of four leaves, from this one on, take in the public hashes of one more bit
abbrev pub TakeInBit : List ℕ → ℕ → ℕ → List Midstate → List Midstate → Type 0
TakeInBit seed first bit old new =
    (texts : ℕ → List ℕ) → HaveTakenIn (map texts (four_from first)) old
    → HaveTakenIn (map (λ leaf. texts leaf ++ public_pair seed leaf bit) (four_from first)) new
