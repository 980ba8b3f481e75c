use Rattle.evidence.proofs.RefusingStepsAllowed
use Rattle.evidence.proofs.refused_steps.made_frames_are_delivered.Goals as goal

pub returns : goal.returns
returns c = record { sealed = RefusingStepsAllowed.flush_delivers_sealed; signed = RefusingStepsAllowed.flush_delivers_signed; seals_last = RefusingStepsAllowed.sealed_is_newest; signs_last = RefusingStepsAllowed.signed_is_newest }
