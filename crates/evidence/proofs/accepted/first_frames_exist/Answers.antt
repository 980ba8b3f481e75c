use Rattle.evidence.proofs.FirstFrames
use Rattle.evidence.proofs.accepted.first_frames_exist.Goals as goal

pub returns : goal.returns
returns c = record { exist = FirstFrames.first_frames_exist }
