use Rattle.std.proofs.Common.{◌≡◌, ℕ, ◌<◌}
use Rattle.sha2.specs.Sha256.{hash_after}
use Rattle.hash_lanes.specs.Lanes.{AreVectors, lane}
use Rattle.hash_lanes.proofs.four.finish_level.Given as goal

abbrev pub invariant-taking : goal.invariant-taking
invariant-taking l = record {
  shape : AreVectors 8 l.state;
  taken : (n : ℕ) → n < 4 → lane n l.state ≡ hash_after (lane n l.initial.state) l.text l.i;
}
