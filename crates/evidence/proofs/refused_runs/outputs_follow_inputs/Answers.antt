use Rattle.evidence.proofs.RefusingRuns
use Rattle.evidence.proofs.refused_runs.outputs_follow_inputs.Goals as goal

pub returns : goal.returns
returns c = record { follow = RefusingRuns.outputs_follow }
