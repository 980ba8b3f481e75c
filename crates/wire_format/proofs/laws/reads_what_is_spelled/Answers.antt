use Rattle.wire_format.proofs.Saying.{reads_frames, says_what_is_spelled}
use Rattle.wire_format.proofs.Telling.{reads_bodies, reads_requests, reads_batches}
use Rattle.wire_format.proofs.laws.reads_what_is_spelled.Goals as goal

pub returns-clause-frames : goal.returns-clause-frames
returns-clause-frames c = reads_frames

pub returns-clause-bodies : goal.returns-clause-bodies
returns-clause-bodies c = reads_bodies

pub returns-clause-said : goal.returns-clause-said
returns-clause-said c = says_what_is_spelled

pub returns-clause-requests : goal.returns-clause-requests
returns-clause-requests c = reads_requests

pub returns-clause-batches : goal.returns-clause-batches
returns-clause-batches c = reads_batches
