-- What the private functions that run the rounds of a block speak of (FIPS 180-4, section 6.2.2).
use Rattle.std.specs.Prelude.{◌≡◌, ◌+◌, ◌*◌, ◌<◌, ℕ, List, slice_index}
use Rattle.sha2.specs.Sha256.{rounds, schedule, word_at}

-- the first 16 words are the block's
abbrev pub HoldsBlock : List ℕ → List ℕ → Type 0
HoldsBlock block words = (k : ℕ) → k < 16 → slice_index words k ≡ word_at block (4 * k)

-- the words are those of the block's message schedule
abbrev pub HoldsSchedule : List ℕ → List ℕ → Type 0
HoldsSchedule block words = (t : ℕ) → t < 64 → slice_index words t ≡ slice_index (schedule block 48) t

-- the eight words are those of rounds 8 * turn to 8 * turn + 7
abbrev pub HoldsGroup : List ℕ → ℕ → List ℕ → Type 0
HoldsGroup block turn words =
    (k : ℕ) → k < 8 → slice_index words k ≡ slice_index (schedule block 48) (8 * turn + k)

-- the working variables are those after t rounds over the block from a hash value
abbrev pub IsAfterRounds : List ℕ → List ℕ → ℕ → List ℕ → Type 0
IsAfterRounds hash block t variables = variables ≡ rounds hash (schedule block 48) t
