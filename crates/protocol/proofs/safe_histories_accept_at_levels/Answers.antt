use Rattle.protocol.proofs.Points.Whole
use Rattle.protocol.proofs.safe_histories_accept_at_levels.Goals as goal

pub returns : goal.returns
returns c = record { levels = Whole.levels_of_safe }
