use Rattle.evidence.proofs.Refusing
use Rattle.evidence.proofs.RefusingReplies
use Rattle.evidence.proofs.RefusingNumbers
use Rattle.evidence.proofs.refused.right_replicas_send_what_they_have.Goals as goal

pub returns : goal.returns
returns c = record { digests = Refusing.gives_kept_digests; pages = Refusing.gives_kept_pages; asked_digests = Refusing.gives_asked_digests; asked_pages = Refusing.gives_asked_pages; replies = Refusing.replies_what_ran; replies_asked = RefusingNumbers.replies_to_who_asked; replies_executed = RefusingReplies.replies_of_executed }
