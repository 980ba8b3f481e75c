use Rattle.std.proofs.Common.{◌≡◌, ℕ, ◌<◌, length, slice_index}
use Rattle.sha2.specs.Sha256.{schedule}
use Rattle.hash_lanes.proofs.words.schedule.Given as goal

abbrev pub invariant-loop-i : goal.invariant-loop-i
invariant-loop-i l = record {
  long : length l.words ≡ 64;
  held : (k : ℕ) → k < l.i → slice_index l.words k ≡ slice_index (schedule l.block 48) k;
}

abbrev pub invariant-loop-t : goal.invariant-loop-t
invariant-loop-t l = record {
  long : length l.words ≡ 64;
  held : (k : ℕ) → k < l.t → slice_index l.words k ≡ slice_index (schedule l.block 48) k;
}
