use Rattle.progress.proofs.Redelivering
use Rattle.progress.proofs.given_numbers_are_executed.Goals as goal

pub returns : goal.returns
returns c = record { executed = Redelivering.given_numbers_are_executed }
