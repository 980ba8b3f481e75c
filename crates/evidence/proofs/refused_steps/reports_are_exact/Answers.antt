use Rattle.evidence.proofs.RefusingSteps
use Rattle.evidence.proofs.refused_steps.reports_are_exact.Goals as goal

pub returns : goal.returns
returns c = record { exist = RefusingSteps.reports_exist; all = RefusingSteps.reports_all; no_other = RefusingSteps.reports_no_other; order = RefusingSteps.reports_in_order; points = RefusingSteps.reports_are_linear }
