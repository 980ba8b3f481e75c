use Rattle.hash_lanes.proofs.Bits.{majority}
use Rattle.hash_lanes.proofs.words.maj.Goals as goal

pub returns : goal.returns
returns c = majority c.args.x c.args.y c.args.z
