use Rattle.evidence.proofs.RefusingChangesDropped
use Rattle.evidence.proofs.refused_changes.correct_replicas_drop_parts.Goals as goal

pub returns : goal.returns
returns c = record { fetches = RefusingChangesDropped.drops_fetches; low_digests = RefusingChangesDropped.drops_low_digests; low_pages = RefusingChangesDropped.drops_low_pages; roots = RefusingChangesDropped.drops_other_roots; digests = RefusingChangesDropped.drops_other_digests; pages = RefusingChangesDropped.drops_other_pages }
