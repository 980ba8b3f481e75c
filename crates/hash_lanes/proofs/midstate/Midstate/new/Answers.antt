use Rattle.std.proofs.Common.{refl}
use Rattle.sha2.specs.Sha256.{hash_after}
use Rattle.hash_lanes.proofs.midstate.Midstate.new.Goals as goal

pub returns : goal.returns
unfolding hash_after
returns c = record { edge = refl; words = refl; taken = refl }
