use Rattle.progress.proofs.GivenCalls
use Rattle.progress.proofs.first_calls_are_accepted.Goals as goal

pub returns : goal.returns
returns c = record { accepted = GivenCalls.first_calls_are_accepted }
