use Rattle.evidence.proofs.RefusingAgain
use Rattle.evidence.proofs.refused.requests_run_once.Goals as goal

pub returns : goal.returns
returns c = record { once = RefusingAgain.runs_once }
