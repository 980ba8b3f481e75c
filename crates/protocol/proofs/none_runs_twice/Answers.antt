use Rattle.protocol.proofs.Points.Twice
use Rattle.protocol.proofs.none_runs_twice.Goals as goal

pub returns : goal.returns
returns c = record { once = Twice.none_runs_twice }
