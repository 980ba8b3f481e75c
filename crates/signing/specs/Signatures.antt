-- Signatures by 64 one-time keys under one public key, on lists of bytes.
use Rattle.std.specs.Prelude.{◌≡◌, ℕ, ◌+◌, ◌-◌, ◌*◌, ◌/◌, ◌^◌, ◌<◌, List, ◌∷◌, ◌++◌, length, take, drop, slice_index, Bool, ◌&&◌, nat_lt, bytes_eq, ◌==◌, if◌then◌else◌}
use Rattle.sha2.specs.Sha256.{sha256}
use Rattle.signing.specs.declared.secrets.TheConstants.{BITS}
use Rattle.signing.specs.Joined.{end_to_end}
use Rattle.signing.specs.Lamport.{secret, public_hash, leaf_digest, bit_of}
use Rattle.signing.specs.Merkle.{node, sibling, climbed}

-- the root of the six levels over a seed's leaves
abbrev pub public_key : List ℕ → List ℕ
public_key seed = node (leaf_digest seed) 6 0

-- the signature of a bit of a hash: the secret of its value, and the public hash of the other value
abbrev pub signed_bit : List ℕ → ℕ → List ℕ → ℕ → List ℕ
signed_bit seed leaf hash bit =
    secret seed leaf bit (bit_of hash bit) ++ public_hash seed leaf bit (1 - bit_of hash bit)

-- the signatures of all bits of a hash, one after another
abbrev pub signed_bits : List ℕ → ℕ → List ℕ → List ℕ
signed_bits seed leaf hash = end_to_end BITS (signed_bit seed leaf hash)

-- the digest beside a leaf's path at a level
abbrev pub sibling_digest : (ℕ → List ℕ) → ℕ → ℕ → List ℕ
sibling_digest leaves leaf level = node leaves level (sibling (leaf / 2 ^ level))

-- the digests beside the path at all levels, upwards
abbrev pub path_digests : (ℕ → List ℕ) → ℕ → List ℕ
path_digests leaves leaf = end_to_end 6 (sibling_digest leaves leaf)

-- the leaf's number in one byte, the signatures of all bits of the text's hash, and the siblings on the path, upwards
unfoldable pub signature_of : List ℕ → ℕ → List ℕ → List ℕ
signature_of seed leaf text =
    leaf ∷ signed_bits seed leaf (sha256 text) ++ path_digests (leaf_digest seed) leaf

-- ---- the parts of a signature

pub record IsSignature (signature : List ℕ) : Type 0 where
  pub whole : length signature ≡ 16577
  pub leaf : slice_index signature 0 < 64

-- a secret or a hash in a signature, at this offset
abbrev pub part : List ℕ → ℕ → List ℕ
part signature at = take 32 (drop at signature)

-- the secret that a signature shows for a bit
abbrev pub shown_secret : List ℕ → ℕ → List ℕ
shown_secret signature bit = part signature (1 + 64 * bit)

-- the public hash that a signature shows for the other value of a bit
abbrev pub shown_hash : List ℕ → ℕ → List ℕ
shown_hash signature bit = part signature (33 + 64 * bit)

-- the digest that a signature shows beside the leaf's path at a level
abbrev pub shown_sibling : List ℕ → ℕ → List ℕ
shown_sibling signature level = part signature (16385 + 32 * level)

-- ---- verifying

-- the public hashes of both values of a bit, value 0 first, from a signature of this hash
abbrev pub shown_pair : List ℕ → List ℕ → ℕ → List ℕ
shown_pair signature hash bit =
    if bit_of hash bit == 0
    then sha256 (shown_secret signature bit) ++ shown_hash signature bit
    else shown_hash signature bit ++ sha256 (shown_secret signature bit)

-- the digest of the leaf, from a signature of the text
unfoldable pub shown_digest : List ℕ → List ℕ → List ℕ
shown_digest signature text = sha256 (end_to_end BITS (shown_pair signature (sha256 text)))

-- the root, from the path of a signature
unfoldable pub shown_root : List ℕ → List ℕ → List ℕ
shown_root signature text =
    climbed (shown_sibling signature) (slice_index signature 0) (shown_digest signature text) 6

-- the bytes are a signature of the text under the public key
pub record Verifies (public text signature : List ℕ) : Type 0 where
  pub formed : IsSignature signature
  pub root : shown_root signature text ≡ public

-- the same by a test
abbrev pub verifies : List ℕ → List ℕ → List ℕ → Bool
verifies public text signature =
    (length signature == 16577) && nat_lt (slice_index signature 0) 64
    && bytes_eq (shown_root signature text) public
