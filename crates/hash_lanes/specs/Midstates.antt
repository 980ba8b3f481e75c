-- Hashes that have taken in whole blocks (FIPS 180-4, section 6.2), as a key of HMAC that is made ready (RFC 2104,
-- section 4).
use Rattle.std.specs.Prelude.{◌≡◌, ◌<◌, ℕ, ◌+◌, ◌*◌, ◌/◌, ◌%◌, ◌^◌, List, ◌++◌, Some, length, slice_get}
use Rattle.std.specs.Borrow.{Bor}
use Rattle.sha2.specs.Sha256.{hash_after, initial_hash_256, sha256}
use Rattle.hash_lanes.specs.Tails.{padded_tail}
use Rattle.hash_lanes.specs.declared.midstate.Midstate.{Midstate}

-- The hash has taken in these bytes, which are whole blocks.
pub record IsAfter (s : Midstate) (m : List ℕ) : Type 0 where
  pub edge : length m % 64 ≡ 0
  pub words : s.words ≡ hash_after initial_hash_256 m (length m / 64)
  pub taken : s.taken ≡ length m % 2 ^ 64

-- The digest is that of the bytes that the hash has taken in, and the text behind them.
abbrev pub IsDigestAfter : Midstate → List ℕ → List ℕ → Type 0
IsDigestAfter s text digest = (m : List ℕ) → IsAfter s m → digest ≡ sha256 (m ++ text)

-- Each digest is that of one text behind the bytes that its hash has taken in.
abbrev pub AreDigests : List (Bor Midstate) → List ℕ → List (List ℕ) → Type 0
AreDigests states text digests =
    (lane : ℕ) (state : Bor Midstate) (m : List ℕ) → slice_get states lane ≡ Some state → IsAfter state.now m
    → slice_get digests lane ≡ Some (sha256 (m ++ text))

-- the same, each with a text of its own
abbrev pub AreOwnDigests : List (Bor Midstate) → List (Bor (List ℕ)) → List (List ℕ) → Type 0
AreOwnDigests states texts digests =
    (lane : ℕ) (state : Bor Midstate) (text : Bor (List ℕ)) (m : List ℕ) → slice_get states lane ≡ Some state
    → slice_get texts lane ≡ Some text → IsAfter state.now m
    → slice_get digests lane ≡ Some (sha256 (m ++ text.now))

-- The texts have fewer than 56 bytes: each ends within one block.
abbrev pub AreShort : List (Bor (List ℕ)) → Type 0
AreShort texts = (lane : ℕ) (text : Bor (List ℕ)) → slice_get texts lane ≡ Some text → length text.now < 56

-- The block is the text with its padding, behind the bytes that the hash has taken in.
abbrev pub IsLastBlock : Midstate → List ℕ → List ℕ → Type 0
IsLastBlock s text block = (block ≡ padded_tail text ((s.taken + length text) * 8 % 2 ^ 64)) × (length block ≡ 64)

-- Each of four hashes has taken in its block.
abbrev pub HaveTaken : List Midstate → List (Bor (List ℕ)) → List Midstate → Type 0
HaveTaken old blocks new =
    (lane : ℕ) (before : Midstate) (block : Bor (List ℕ)) (m : List ℕ) → lane < 4 → slice_get old lane ≡ Some before
    → slice_get blocks lane ≡ Some block → IsAfter before m
    → (after : Midstate) × (slice_get new lane ≡ Some after) × IsAfter after (m ++ block.now)
