use Rattle.evidence.proofs.Refusing
use Rattle.evidence.proofs.refused.right_clients_wait.Goals as goal

pub returns : goal.returns
returns c = record { quorum = Refusing.accepts_at_quorum }
