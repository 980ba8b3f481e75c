use Rattle.protocol.proofs.Points.Whole
use Rattle.protocol.proofs.accepted_at_levels.Goals as goal

pub returns : goal.returns
returns c = record { levels = Whole.accepted_at_levels }
