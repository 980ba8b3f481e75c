use Rattle.evidence.proofs.RefusingReasons
use Rattle.evidence.proofs.refused_changes.right_replicas_change_for_a_reason.Goals as goal

pub returns : goal.returns
returns c = record { first = RefusingReasons.no_change_at_first; frame = RefusingReasons.no_change_at_frame; enough = RefusingReasons.changes_join_enough; least = RefusingReasons.changes_join_least; ticks = RefusingReasons.ticks_move_by_one }
