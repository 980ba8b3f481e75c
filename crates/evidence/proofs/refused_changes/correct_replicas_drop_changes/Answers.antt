use Rattle.evidence.proofs.RefusingChangesDropped
use Rattle.evidence.proofs.refused_changes.correct_replicas_drop_changes.Goals as goal

pub returns : goal.returns
returns c = record { low = RefusingChangesDropped.drops_low_changes; bounds = RefusingChangesDropped.drops_unbound_changes; passed = RefusingChangesDropped.drops_passed_changes; new_views = RefusingChangesDropped.drops_new_views }
