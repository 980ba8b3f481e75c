use Rattle.replica_histories.proofs.Resting
use Rattle.replica_histories.proofs.laws.inputs_pass.Goals as goal

pub returns : goal.returns
returns c = record { got = Resting.inputs_pass; ticked = Resting.ticks_pass }
