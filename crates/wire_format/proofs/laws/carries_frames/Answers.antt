use Rattle.wire_format.proofs.Telling.{carries_frames, carries_all}
use Rattle.wire_format.proofs.laws.carries_frames.Goals as goal

pub returns-clause-frames : goal.returns-clause-frames
returns-clause-frames c = carries_frames

pub returns-clause-all : goal.returns-clause-all
returns-clause-all c = carries_all
