use Rattle.std.proofs.Common.{ℕ, List, ◌<◌, ◌*◌}
use Rattle.hash_lanes.specs.Lanes.{AreVectors, lane}
use Rattle.hash_lanes.specs.Rounds.{HoldsSchedule, IsAfterRounds}
use Rattle.hash_lanes.proofs.lanes.compress_each.Given as goal

abbrev pub invariant-rounds : goal.invariant-rounds
invariant-rounds l = record {
  shape : AreVectors 8 l.v;
  after : (n : ℕ) → n < 4 → (b : List ℕ) → HoldsSchedule b (lane n l.words) → IsAfterRounds (lane n l.state) b (8 * l.turn) (lane n l.v);
}
