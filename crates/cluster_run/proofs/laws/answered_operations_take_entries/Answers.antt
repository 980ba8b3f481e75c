use Rattle.cluster_run.proofs.Taking.{answered_operations_take_entries}
use Rattle.cluster_run.proofs.laws.answered_operations_take_entries.Goals as goal

pub returns : goal.returns
returns c = record { takes = answered_operations_take_entries }
