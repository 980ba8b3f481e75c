use Rattle.replica_histories.proofs.Entering
use Rattle.replica_histories.proofs.laws.inputs_fit.Goals as goal

pub returns : goal.returns
returns c = record { got = Entering.inputs_fit; checkpoints = Entering.checkpoints_enter; ticked = Entering.ticks_fit }
