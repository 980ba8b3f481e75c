use Rattle.evidence.proofs.FirstRead
use Rattle.evidence.proofs.clients.a_first_read_is_accepted.Goals as goal

pub returns : goal.returns
returns c = record { read = FirstRead.first_read_is_accepted }
