use Rattle.evidence.proofs.RefusingChangesDropped
use Rattle.evidence.proofs.refused_changes.correct_replicas_drop_requests.Goals as goal

pub returns : goal.returns
returns c = record { writes = RefusingChangesDropped.drops_writes; replicas = RefusingChangesDropped.drops_requests_of_replicas; old = RefusingChangesDropped.drops_old_requests; passed = RefusingChangesDropped.drops_passed_requests }
