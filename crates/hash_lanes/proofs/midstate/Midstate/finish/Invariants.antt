use Rattle.std.proofs.Common.{◌≡◌}
use Rattle.sha2.specs.Sha256.{hash_after}
use Rattle.hash_lanes.proofs.midstate.Midstate.finish.Given as goal

abbrev pub invariant-taking : goal.invariant-taking
invariant-taking l = l.words ≡ hash_after l.self.words l.text l.i
