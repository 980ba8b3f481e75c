use Rattle.std.proofs.Common.{refl}
use Rattle.sha2.proofs.Schedule256.{rounds_first}
use Rattle.hash_lanes.proofs.words.first_step.Goals as goal

pub returns : goal.returns
returns c = λ b h window before. rounds_first b h c.args.window.now c.args.v c.args.t _ _ _ c.requires window before refl refl c.round.ensures
