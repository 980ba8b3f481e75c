-- Trees of hashes (Merkle, A certified digital signature, CRYPTO 1989). A node is named by its level, leaves being at
-- level 0, and its place from the left.
use Rattle.std.specs.Prelude.{ℕ, zero, suc, ◌+◌, ◌-◌, ◌*◌, ◌%◌, List, ◌++◌, ◌==◌, if◌then◌else◌}
use Rattle.std.specs.Int.{bit_at}
use Rattle.sha2.specs.Sha256.{sha256}

-- the digest of a node over leaves of these digests
unfoldable pub node : (ℕ → List ℕ) → ℕ → ℕ → List ℕ
node leaves zero place = leaves place
node leaves (suc level) place =
    sha256 (node leaves level (2 * place) ++ node leaves level (2 * place + 1))

-- the place of the other child of a node's parent
abbrev pub sibling : ℕ → ℕ
sibling place = if place % 2 == 0 then place + 1 else place - 1

-- The digest so many levels above a leaf, computed from the siblings on its path. At each level the own digest is the
-- left one if the bit of the leaf's number is 0, lowest bit first.
unfoldable pub climbed : (ℕ → List ℕ) → ℕ → List ℕ → ℕ → List ℕ
climbed siblings leaf digest zero = digest
climbed siblings leaf digest (suc level) =
    if bit_at leaf level == 0
    then sha256 (climbed siblings leaf digest level ++ siblings level)
    else sha256 (siblings level ++ climbed siblings leaf digest level)
