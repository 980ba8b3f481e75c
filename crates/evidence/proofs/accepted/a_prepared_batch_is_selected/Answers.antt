use Rattle.evidence.proofs.Selecting
use Rattle.evidence.proofs.accepted.a_prepared_batch_is_selected.Goals as goal

pub returns : goal.returns
returns c = record { selected = Selecting.prepared_is_selected; empty = Selecting.empty_is_not_selected; null = Selecting.null_is_not_selected }
