use Rattle.evidence.proofs.RefusingStepsSigned
use Rattle.evidence.proofs.signed_frames_are_authentic.Goals as goal

pub returns : goal.returns
returns c = record { authentic = RefusingStepsSigned.signed_frames_are_authentic }
