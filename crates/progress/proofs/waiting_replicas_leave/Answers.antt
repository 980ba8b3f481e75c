use Rattle.progress.proofs.Leaving
use Rattle.progress.proofs.waiting_replicas_leave.Goals as goal

pub returns : goal.returns
returns c = record { leave = Leaving.waiting_replicas_leave }
