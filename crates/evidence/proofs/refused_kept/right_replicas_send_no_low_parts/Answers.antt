use Rattle.evidence.proofs.RefusingKept
use Rattle.evidence.proofs.refused_kept.right_replicas_send_no_low_parts.Goals as goal

pub returns : goal.returns
returns c = record { digests = RefusingKept.gives_no_low_digests; pages = RefusingKept.gives_no_low_pages }
