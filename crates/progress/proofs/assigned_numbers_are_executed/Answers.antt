use Rattle.progress.proofs.Assigned
use Rattle.progress.proofs.assigned_numbers_are_executed.Goals as goal

pub returns : goal.returns
returns c = record { executed = Assigned.assigned_numbers_are_executed }
