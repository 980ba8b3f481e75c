-- The state of a signer and of a tree of keys, apart from where it lies in memory.
use Rattle.std.specs.Prelude.{◌≡◌, ℕ, ◌+◌, ◌-◌, ◌*◌, ◌^◌, ◌<◌, ◌≤◌, List, [], ◌++◌, slice_index_or}
use Rattle.sha2.specs.Sha256.{sha256}
use Rattle.signing.specs.Merkle.{node}

-- a seed, and how many of its 64 leaves have signed
pub record SigningState : Type 0 where
  pub seed : List ℕ
  pub used : ℕ

-- the nodes of all levels over 64 leaves: that of a level and a place is at 2 ^ (6 - level) + place
abbrev pub HasNodes : (ℕ → List ℕ) → List (List ℕ) → Type 0
HasNodes leaves nodes =
    (level place : ℕ) → level ≤ 6 → place < 2 ^ (6 - level)
    → slice_index_or nodes (2 ^ (6 - level) + place) [] ≡ node leaves level place

-- the leaves are at their places
abbrev pub HasLeaves : (ℕ → List ℕ) → List (List ℕ) → Type 0
HasLeaves leaves nodes =
    (leaf : ℕ) → leaf < 64 → slice_index_or nodes (64 + leaf) [] ≡ leaves leaf

-- the digest over the children of the node at i
abbrev pub digest_over : List (List ℕ) → ℕ → List ℕ
digest_over nodes i =
    sha256 (slice_index_or nodes (2 * i) [] ++ slice_index_or nodes (2 * i + 1) [])
