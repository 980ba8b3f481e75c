use Rattle.hash_lanes.proofs.Vectors.{eight_lanes}
use Rattle.hash_lanes.proofs.four.lane_words.Goals as goal

pub returns : goal.returns
returns c = eight_lanes c.args.state.now c.args.l c.requires.shape.long
