use Rattle.std.proofs.Common.{refl}
use Rattle.signing.proofs.Fours.{halves}
use Rattle.signing.proofs.hashing.block_of_pair.Goals as goal

pub returns : goal.returns
returns c = halves c.args.first.now c.args.second.now _ _ _ c.told-first refl c.copy_from_slice.ensures.after c.copy_from_slice-2.ensures.after
