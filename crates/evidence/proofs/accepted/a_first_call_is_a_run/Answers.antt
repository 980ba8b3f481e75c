use Rattle.evidence.proofs.FirstCall
use Rattle.evidence.proofs.accepted.a_first_call_is_a_run.Goals as goal

pub returns : goal.returns
returns c = record { run = FirstCall.first_call_is_run }
