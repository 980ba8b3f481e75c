use Rattle.protocol.proofs.Words.Standing
use Rattle.protocol.proofs.points_are_one.Goals as goal

pub returns : goal.returns
returns c = record { one = Standing.points_are_one }
