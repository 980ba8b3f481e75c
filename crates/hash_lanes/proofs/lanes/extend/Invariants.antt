use Rattle.std.proofs.Common.{◌≡◌, ℕ, List, ◌<◌, slice_index}
use Rattle.sha2.specs.Sha256.{schedule}
use Rattle.hash_lanes.specs.Lanes.{AreVectors, lane}
use Rattle.hash_lanes.specs.Rounds.{HoldsBlock}
use Rattle.hash_lanes.proofs.lanes.extend.Given as goal

abbrev pub invariant-loop-t : goal.invariant-loop-t
invariant-loop-t l = record {
  shape : AreVectors 64 l.words;
  held : (n : ℕ) → n < 4 → (b : List ℕ) → HoldsBlock b (lane n l.fn.words)
      → (k : ℕ) → k < l.t → slice_index (lane n l.words) k ≡ slice_index (schedule b 48) k;
}
