use Rattle.evidence.proofs.RefusingChangesDropped
use Rattle.evidence.proofs.refused_changes.correct_replicas_drop_proposals.Goals as goal

pub returns : goal.returns
returns c = record { backups = RefusingChangesDropped.drops_pre_prepares_of_backups; inactive = RefusingChangesDropped.drops_pre_prepares_while_inactive; marks = RefusingChangesDropped.drops_pre_prepares_outside_marks; second = RefusingChangesDropped.drops_second_pre_prepares }
