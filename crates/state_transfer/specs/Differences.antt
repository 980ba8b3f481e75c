-- Definitions for the private function that compares digests.
use Rattle.std.specs.Prelude.{◌≡◌, ◌≢◌, ℕ, ◌<◌, List, [], slice_index_or}

-- The first of 32 digests that differs.
pub record IsFirstDifference (wanted held : List (List ℕ)) (i : ℕ) : Type 0 where
  pub in_range : i < 32
  pub differs : slice_index_or wanted i [] ≢ slice_index_or held i []
  pub before : (k : ℕ) → k < i → slice_index_or wanted k [] ≡ slice_index_or held k []
