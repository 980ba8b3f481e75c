use Rattle.protocol.proofs.Words.Outgoing
use Rattle.protocol.proofs.leaves_sign_once.Goals as goal

pub returns : goal.returns
returns c = record { once = Outgoing.leaves_sign_once }
