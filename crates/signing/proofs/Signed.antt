-- Each signature that a signer makes verifies.
use Rattle.std.proofs.Common.{◌≡◌, ℕ, ◌+◌, ◌-◌, ◌*◌, ◌/◌, ◌<◌, List, [], ◌∷◌, ◌++◌, ◌∙◌, length, take, drop, get_or, ap, refl, inl, inr, arith, length-append}
use Rattle.std.proofs.lemmas.Bool.{cases_eq, eq-eqb, ne_eqb}
use Rattle.std.proofs.lemmas.Nat.Bits.{bit_at-lt}
use Rattle.sha2.specs.Sha256.{sha256}
use Rattle.sha2.proofs.Facts256.{length-sha256}
use Rattle.authenticator.proofs.Lengths.{length-hmac_of}
use Rattle.signing.specs.Joined.{end_to_end}
use Rattle.signing.specs.Lamport.{secret, public_hash, leaf_digest, bit_of}
use Rattle.signing.specs.Merkle.{node}
use Rattle.signing.specs.Signatures.{public_key, signed_bit, sibling_digest, signature_of, shown_secret, shown_hash, shown_sibling, shown_pair, shown_digest, shown_root, Verifies}
use Rattle.signing.proofs.Joining.{length-joined, joined-part, joined-same}
use Rattle.signing.proofs.Nodes.{length-node, climbed-node}
use Rattle.signing.proofs.Parts.{part_front, part_back, part_first, part_second}

length-secret : (seed : List ℕ) (leaf bit value : ℕ) → length (secret seed leaf bit value) ≡ 32
unfolding secret
length-secret seed leaf bit value = length-hmac_of _ _

length-public_hash : (seed : List ℕ) (leaf bit value : ℕ) → length (public_hash seed leaf bit value) ≡ 32
unfolding public_hash
length-public_hash seed leaf bit value = length-sha256 _

length-leaf_digest : (seed : List ℕ) (leaf : ℕ) → length (leaf_digest seed leaf) ≡ 32
unfolding leaf_digest
length-leaf_digest seed leaf = length-sha256 _

public_hash-secret : (seed : List ℕ) (leaf bit value : ℕ) → sha256 (secret seed leaf bit value) ≡ public_hash seed leaf bit value
unfolding public_hash
public_hash-secret seed leaf bit value = refl

bit_of-lt : (hash : List ℕ) (bit : ℕ) → bit_of hash bit < 2
unfolding bit_of
bit_of-lt hash bit = bit_at-lt _ _

module _ (seed : List ℕ) (leaf : ℕ) where
  length-signed_bit : (hash : List ℕ) (bit : ℕ) → length (signed_bit seed leaf hash bit) ≡ 64
  length-signed_bit hash bit =
      rw (length-append, length-secret seed leaf bit (bit_of hash bit), length-public_hash seed leaf bit (1 - bit_of hash bit)) refl

  length-sibling_digest : (level : ℕ) → length (sibling_digest (leaf_digest seed) leaf level) ≡ 32
  length-sibling_digest level = length-node (leaf_digest seed) (length-leaf_digest seed) level _

  length-signed_bits : (hash : List ℕ) → length (end_to_end 256 (signed_bit seed leaf hash)) ≡ 16384
  length-signed_bits hash = length-joined 256 64 _ (λ bit below. length-signed_bit hash bit)

  length-siblings : length (end_to_end 6 (sibling_digest (leaf_digest seed) leaf)) ≡ 192
  length-siblings = length-joined 6 32 _ (λ level below. length-sibling_digest level)

  length-signature_of : (text : List ℕ) → length (signature_of seed leaf text) ≡ 16577
  unfolding signature_of
  length-signature_of text =
      rw (length-append, length-signed_bits (sha256 text), length-siblings) refl

  -- ---- the parts of a signature

  module _ (text : List ℕ) where
    part-signed_bit : (bit : ℕ) → bit < 256 → take 64 (drop (64 * bit) (end_to_end 256 (signed_bit seed leaf (sha256 text)))) ≡ signed_bit seed leaf (sha256 text) bit
    part-signed_bit bit below = joined-part 256 64 _ (λ other under. length-signed_bit (sha256 text) other) bit below

    shown_secret-signature_of : (bit : ℕ) → bit < 256 → shown_secret (signature_of seed leaf text) bit ≡ secret seed leaf bit (bit_of (sha256 text) bit)
    unfolding signature_of
    shown_secret-signature_of bit below =
        let whole = length-signed_bits (sha256 text) in
        part_front leaf _ _ (64 * bit) (omega arith)
        ∙ part_first _ _ _ (64 * bit) (part-signed_bit bit below) (length-secret _ _ _ _)

    shown_hash-signature_of : (bit : ℕ) → bit < 256 → shown_hash (signature_of seed leaf text) bit ≡ public_hash seed leaf bit (1 - bit_of (sha256 text) bit)
    unfolding signature_of
    shown_hash-signature_of bit below =
        let whole = length-signed_bits (sha256 text) in
        let at : 33 + 64 * bit ≡ 1 + (32 + 64 * bit) = omega arith in
        rw at (part_front leaf _ _ (32 + 64 * bit) (omega arith)
        ∙ part_second _ _ _ (64 * bit) (part-signed_bit bit below) (length-secret _ _ _ _))

    shown_sibling-signature_of : (level : ℕ) → level < 6 → shown_sibling (signature_of seed leaf text) level ≡ sibling_digest (leaf_digest seed) leaf level
    unfolding signature_of
    shown_sibling-signature_of level below =
        let whole = length-signed_bits (sha256 text) in
        part_back leaf _ _ 16385 (32 * level) (omega arith)
        ∙ joined-part 6 32 _ (λ other under. length-sibling_digest other) level below

    leaf-signature_of : get_or (signature_of seed leaf text) 0 0 ≡ leaf
    unfolding signature_of
    leaf-signature_of = refl

    -- ---- the hashes that a signature shows

    shown_pair-signature_of : (bit : ℕ) → bit < 256 → shown_pair (signature_of seed leaf text) (sha256 text) bit ≡ public_hash seed leaf bit 0 ++ public_hash seed leaf bit 1
    shown_pair-signature_of bit below =
        let own = shown_secret-signature_of bit below in
        let other = shown_hash-signature_of bit below in
        elim (cases_eq (bit_of (sha256 text) bit) 0) [
          | inl clear ↦ rw (eq-eqb (bit_of (sha256 text) bit) 0 clear, own, other, clear, public_hash-secret) refl
          | inr set ↦
              let one : bit_of (sha256 text) bit ≡ 1 = omega (arith, bit_of-lt (sha256 text) bit) in
              rw (ne_eqb (bit_of (sha256 text) bit) 0 set, own, other, one, public_hash-secret) refl
        ]

    shown_digest-signature_of : shown_digest (signature_of seed leaf text) text ≡ leaf_digest seed leaf
    unfolding shown_digest leaf_digest
    shown_digest-signature_of = ap sha256 (joined-same 256 _ _ shown_pair-signature_of)

    shown_root-signature_of : leaf < 64 → shown_root (signature_of seed leaf text) text ≡ public_key seed
    unfolding shown_root
    shown_root-signature_of below =
        let top : leaf / 64 ≡ 0 = omega arith in
        rw (leaf-signature_of, shown_digest-signature_of)
        (climbed-node (leaf_digest seed) _ leaf 6 shown_sibling-signature_of ∙ ap (node (leaf_digest seed) 6) top)

-- A signature by a leaf verifies under the public key of its seed.
pub signature_of-verifies : (seed text : List ℕ) (leaf : ℕ) → leaf < 64 → Verifies (public_key seed) text (signature_of seed leaf text)
signature_of-verifies seed text leaf below = record {
  formed = record {
    whole = length-signature_of seed leaf text;
    leaf = rw (leaf-signature_of seed leaf text) below;
  };
  root = shown_root-signature_of seed leaf text below;
}

-- A signature, from the parts that are appended in turn.
pub signature_of-appended : (seed text hash : List ℕ) (leaf : ℕ) (first second third : List ℕ) → hash ≡ sha256 text → first ≡ leaf ∷ [] → second ≡ first ++ end_to_end 256 (signed_bit seed leaf hash) → third ≡ second ++ end_to_end 6 (sibling_digest (leaf_digest seed) leaf) → third ≡ signature_of seed leaf text
unfolding signature_of
signature_of-appended seed text hash leaf first second third hashed one two three =
    rw (three, two, one, hashed) refl
