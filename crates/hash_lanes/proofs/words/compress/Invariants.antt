use Rattle.std.proofs.Common.{◌≡◌, ℕ, ◌<◌, ◌*◌, length, slice_index}
use Rattle.sha2.specs.Sha256.{IsRoundsAt, word_at}
use Rattle.hash_lanes.proofs.words.compress.Given as goal

abbrev pub invariant-load : goal.invariant-load
invariant-load l = record { long : length l.window ≡ 16; held : (k : ℕ) → k < l.i → slice_index l.window k ≡ word_at l.block (4 * k) }

abbrev pub invariant-rounds : goal.invariant-rounds
invariant-rounds l = IsRoundsAt l.block l.state l.window l.v (16 * l.turn)
