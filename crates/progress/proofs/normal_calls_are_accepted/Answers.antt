use Rattle.progress.proofs.Normal
use Rattle.progress.proofs.normal_calls_are_accepted.Goals as goal

pub returns : goal.returns
returns c = record { accepted = Normal.normal_calls_are_accepted }
