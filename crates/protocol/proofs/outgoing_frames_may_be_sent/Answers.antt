use Rattle.protocol.proofs.Words.Outgoing
use Rattle.protocol.proofs.outgoing_frames_may_be_sent.Goals as goal

pub returns : goal.returns
returns c = record { may = Outgoing.may_send }
