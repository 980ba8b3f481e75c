use Rattle.evidence.proofs.FirstBatch
use Rattle.evidence.proofs.accepted.a_first_batch_executes.Goals as goal

pub returns : goal.returns
returns c = record { executes = FirstBatch.first_batch_executes }
