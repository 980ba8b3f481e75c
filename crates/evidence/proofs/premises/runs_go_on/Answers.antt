use Rattle.evidence.proofs.Presuming
use Rattle.evidence.proofs.premises.runs_go_on.Goals as goal

pub returns : goal.returns
returns c = record { inputs = Presuming.runs_go_on; replicas = Presuming.replicas_go_on; calls = Presuming.runs_take_calls }
