use Rattle.wire_format.proofs.Telling.{one_frame, one_body}
use Rattle.wire_format.proofs.laws.one_spelling.Goals as goal

pub returns-clause-frames : goal.returns-clause-frames
returns-clause-frames c = one_frame

pub returns-clause-bodies : goal.returns-clause-bodies
returns-clause-bodies c = one_body
