use Rattle.std.proofs.Common.{ℕ, ◌<◌, ◌*◌}
use Rattle.hash_lanes.specs.Lanes.{AreVectors, lane}
use Rattle.hash_lanes.specs.Rounds.{IsAfterRounds}
use Rattle.hash_lanes.proofs.lanes.compress_same.Given as goal

abbrev pub invariant-rounds : goal.invariant-rounds
invariant-rounds l = record {
  shape : AreVectors 8 l.v;
  after : (n : ℕ) → n < 4 → IsAfterRounds (lane n l.state) l.block (8 * l.turn) (lane n l.v);
}
