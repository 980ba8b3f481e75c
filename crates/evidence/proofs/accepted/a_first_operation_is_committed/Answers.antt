use Rattle.evidence.proofs.FirstReplicas
use Rattle.evidence.proofs.accepted.a_first_operation_is_committed.Goals as goal

pub returns : goal.returns
returns c = record { committed = FirstReplicas.first_operation_is_committed }
