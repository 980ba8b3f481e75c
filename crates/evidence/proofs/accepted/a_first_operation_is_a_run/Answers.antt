use Rattle.evidence.proofs.FirstReplicas
use Rattle.evidence.proofs.FirstRun
use Rattle.evidence.proofs.accepted.a_first_operation_is_a_run.Goals as goal

pub returns : goal.returns
returns c = record { run = FirstRun.first_operation_is_run FirstReplicas.first_replica }
