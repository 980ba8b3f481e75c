use Rattle.progress.proofs.FirstView
use Rattle.progress.proofs.first_numbers_are_executed.Goals as goal

pub returns : goal.returns
returns c = record { executed = FirstView.first_numbers_are_executed }
