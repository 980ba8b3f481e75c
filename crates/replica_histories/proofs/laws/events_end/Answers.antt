use Rattle.replica_histories.proofs.Ending
use Rattle.replica_histories.proofs.Resting
use Rattle.replica_histories.proofs.laws.events_end.Goals as goal

pub returns : goal.returns
returns c = record { end = Ending.events_end; settled = Resting.held_are_settled }
