use Rattle.protocol.proofs.Points.Whole
use Rattle.protocol.proofs.runs_are_of_lives.Goals as goal

pub returns : goal.returns
returns c = record { lives = Whole.runs_are_of_lives }
