use Rattle.protocol.proofs.Points.Whole
use Rattle.protocol.proofs.points_are_linear.Goals as goal

pub returns : goal.returns
returns c = record { points = Whole.points_are_linear; linear = Whole.runs_are_linear }
