use Rattle.protocol.proofs.Points.Whole
use Rattle.protocol.proofs.safe_histories_are_linear.Goals as goal

pub returns : goal.returns
returns c = record { linear = Whole.linear_of_right }
