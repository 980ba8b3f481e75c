use Rattle.std.proofs.Common.{◌≡◌, ℕ, ◌<◌, ◌*◌, slice_index}
use Rattle.sha2.specs.Sha256.{word_at}
use Rattle.hash_lanes.specs.Lanes.{AreVectors, lane}
use Rattle.hash_lanes.proofs.lanes.load.Given as goal

abbrev pub invariant-loop-i : goal.invariant-loop-i
invariant-loop-i l = record {
  shape : AreVectors 64 l.words;
  first : (k : ℕ) → k < l.i → slice_index (lane 0 l.words) k ≡ word_at l.p (4 * k);
  second : (k : ℕ) → k < l.i → slice_index (lane 1 l.words) k ≡ word_at l.q (4 * k);
  third : (k : ℕ) → k < l.i → slice_index (lane 2 l.words) k ≡ word_at l.r (4 * k);
  fourth : (k : ℕ) → k < l.i → slice_index (lane 3 l.words) k ≡ word_at l.s (4 * k);
}
