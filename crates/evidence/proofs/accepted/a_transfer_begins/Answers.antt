use Rattle.evidence.proofs.Transferring
use Rattle.evidence.proofs.accepted.a_transfer_begins.Goals as goal

pub returns : goal.returns
returns c = record { begins = Transferring.transfer_begins }
