use Rattle.progress.proofs.Answering
use Rattle.progress.proofs.executed_calls_are_accepted.Goals as goal

pub returns : goal.returns
returns c = record { accepted = Answering.executed_calls_are_accepted }
