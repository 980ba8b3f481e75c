use Rattle.evidence.proofs.RefusingStepsAllowed
use Rattle.evidence.proofs.refused_steps.steps_are_allowed.Goals as goal

pub returns : goal.returns
returns c = record { inputs = RefusingStepsAllowed.feeds_what_may_be_fed; frames = RefusingStepsAllowed.feeds_what_may_be_made; what_may_come = RefusingStepsAllowed.allows_what_may_come; no_other = RefusingStepsAllowed.allows_no_other }
