-- One-time keys (Lamport, Constructing digital signatures from a one way function, SRI 1979): a secret for either
-- value of each bit of a hash. The hash of each secret is public. A seed gives the keys of all leaves.
use Rattle.std.specs.Prelude.{ℕ, ◌-◌, ◌/◌, ◌%◌, List, [], ◌∷◌, ◌++◌, slice_index}
use Rattle.std.specs.Int.{w16, to_be_bytes, bit_at}
use Rattle.sha2.specs.Sha256.{sha256}
use Rattle.authenticator.specs.Mac.{hmac_of}
use Rattle.signing.specs.declared.secrets.TheConstants.{BITS}
use Rattle.signing.specs.Joined.{end_to_end}

-- the secret of a value, 0 or 1, of a bit, 0 to 255, under a leaf
unfoldable pub secret : List ℕ → ℕ → ℕ → ℕ → List ℕ
secret seed leaf bit value =
    hmac_of seed (to_be_bytes w16 leaf ++ to_be_bytes w16 bit ++ value ∷ [])

-- the public hash of a bit's value under a leaf, by which verifiers recognize its secret
unfoldable pub public_hash : List ℕ → ℕ → ℕ → ℕ → List ℕ
public_hash seed leaf bit value = sha256 (secret seed leaf bit value)

-- the hash of a leaf's public hashes, by bit, value 0 before 1
unfoldable pub leaf_digest : List ℕ → ℕ → List ℕ
leaf_digest seed leaf =
    sha256 (end_to_end BITS (λ bit. public_hash seed leaf bit 0 ++ public_hash seed leaf bit 1))

-- a bit of a hash: bit 0 is the highest of the first byte
unfoldable pub bit_of : List ℕ → ℕ → ℕ
bit_of hash bit = bit_at (slice_index hash (bit / 8)) (7 - bit % 8)
