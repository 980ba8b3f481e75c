use Rattle.evidence.proofs.RefusingKept
use Rattle.evidence.proofs.refused_kept.right_replicas_list_checkpoints.Goals as goal

pub returns : goal.returns
returns c = record { marks = RefusingKept.changes_from_low_mark; below = RefusingKept.lists_none_below; snapshots = RefusingKept.lists_snapshots; each = RefusingKept.lists_each_snapshot; ascending = RefusingKept.checkpoints_ascend }
