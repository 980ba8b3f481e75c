use Rattle.progress.proofs.GivenCalls
use Rattle.progress.proofs.given_calls_are_accepted.Goals as goal

pub returns : goal.returns
returns c = record { accepted = GivenCalls.given_calls_are_accepted }
