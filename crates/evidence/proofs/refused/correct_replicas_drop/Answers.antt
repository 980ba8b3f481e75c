use Rattle.evidence.proofs.Refusing
use Rattle.evidence.proofs.refused.correct_replicas_drop.Goals as goal

pub returns : goal.returns
returns c = record { digests = Refusing.drops_unasked_digests; pages = Refusing.drops_unasked_pages; replies = Refusing.drops_replies; own = Refusing.drops_own_frames }
