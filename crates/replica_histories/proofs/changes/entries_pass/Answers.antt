use Rattle.replica_histories.proofs.ChangesPassing
use Rattle.replica_histories.proofs.changes.entries_pass.Goals as goal

pub returns : goal.returns
returns c = record { outputs = ChangesPassing.outputs_pass; inputs = ChangesPassing.inputs_enter }
