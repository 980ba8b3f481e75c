use Rattle.evidence.proofs.RefusingChangesDropped
use Rattle.evidence.proofs.refused_changes.correct_replicas_drop_checkpoints.Goals as goal

pub returns : goal.returns
returns c = record { low = RefusingChangesDropped.drops_low_checkpoints; numbers = RefusingChangesDropped.drops_checkpoints_of_no_number; second = RefusingChangesDropped.drops_second_checkpoints; passed = RefusingChangesDropped.drops_passed_checkpoints }
