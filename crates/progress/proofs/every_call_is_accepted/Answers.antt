use Rattle.progress.proofs.EveryCall
use Rattle.progress.proofs.every_call_is_accepted.Goals as goal

pub returns : goal.returns
returns c = record { accepted = EveryCall.every_call_is_accepted }
