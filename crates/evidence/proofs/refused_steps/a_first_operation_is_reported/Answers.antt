use Rattle.evidence.proofs.RefusingSteps
use Rattle.evidence.proofs.refused_steps.a_first_operation_is_reported.Goals as goal

pub returns : goal.returns
returns c = record { reported = RefusingSteps.first_operation_is_reported }
