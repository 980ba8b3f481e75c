use Rattle.evidence.proofs.FirstRun
use Rattle.evidence.proofs.accepted.a_first_operation_is_unforged.Goals as goal

pub returns : goal.returns
returns c = record { unforged = FirstRun.first_operation_is_unforged }
