use Rattle.evidence.proofs.Presuming
use Rattle.evidence.proofs.premises.runs_have_whole_histories.Goals as goal

pub returns : goal.returns
returns c = record { replicas = Presuming.runs_have_replicas; clients = Presuming.runs_have_clients }
