-- What the lanes of vectors hold: four computations of SHA-256 (FIPS 180-4) side by side.
use Rattle.std.specs.Prelude.{◌≡◌, ℕ, ◌*◌, ◌-◌, ◌/◌, ◌%◌, ◌^◌, ◌<◌, List, [], length, map, slice_index, slice_index_or, bit_or}

-- the vector has four lanes, and lane l holds f l
pub record HasLanes (v : List ℕ) (f : ℕ → ℕ) : Type 0 where
  pub long : length v ≡ 4
  pub each : (l : ℕ) → l < 4 → slice_index v l ≡ f l

-- a word rotated to the right by 1 to 31 bits
abbrev pub rotated : ℕ → ℕ → ℕ
rotated x by = bit_or (x / 2 ^ by) (x * 2 ^ (32 - by) % 2 ^ 32)

-- the list at a place
abbrev pub at : List (List ℕ) → ℕ → List ℕ
at vs i = slice_index_or vs i []

-- so many vectors of four lanes
pub record AreVectors (n : ℕ) (vs : List (List ℕ)) : Type 0 where
  pub long : length vs ≡ n
  pub each : (i : ℕ) → i < n → length (at vs i) ≡ 4

-- the numbers in one lane of a list of vectors
abbrev pub lane : ℕ → List (List ℕ) → List ℕ
lane l vs = map (λ v. slice_index v l) vs
