use Rattle.hash_lanes.proofs.Bits.{choice}
use Rattle.hash_lanes.proofs.words.ch.Goals as goal

pub returns : goal.returns
returns c = choice c.args.x c.args.y c.args.z c.ranges.x.fits c.ranges.y.fits c.ranges.z.fits
