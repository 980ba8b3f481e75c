use Rattle.progress.proofs.SecondView
use Rattle.progress.proofs.second_calls_are_accepted.Goals as goal

pub returns : goal.returns
returns c = record { accepted = SecondView.second_calls_are_accepted }
