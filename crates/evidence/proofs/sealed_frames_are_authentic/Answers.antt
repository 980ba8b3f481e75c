use Rattle.evidence.proofs.FirstFramesSealed
use Rattle.evidence.proofs.sealed_frames_are_authentic.Goals as goal

pub returns : goal.returns
returns c = record { authentic = FirstFramesSealed.sealed_frames_are_authentic }
