use Rattle.std.proofs.Common.{refl}
use Rattle.hash_lanes.proofs.Finishing.{taken_block}
use Rattle.hash_lanes.proofs.midstate.Midstate.take.Goals as goal

pub returns : goal.returns
returns c = λ m after. taken_block c.args.self.now _ m c.args.block.now after c.told-block c.compress.ensures refl
