use Rattle.evidence.proofs.FirstSchedule
use Rattle.evidence.proofs.accepted.a_first_operation_is_fed.Goals as goal

pub returns : goal.returns
returns c = record { fed = FirstSchedule.first_operation_is_fed }
