use Rattle.progress.proofs.Ordering
use Rattle.progress.proofs.next_batches_are_executed.Goals as goal

pub returns : goal.returns
returns c = record { executed = Ordering.next_batches_are_executed }
