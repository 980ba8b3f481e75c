use Rattle.evidence.proofs.Refusing
use Rattle.evidence.proofs.refused.right_replicas_address_all.Goals as goal

pub returns : goal.returns
returns c = record { replies = Refusing.replies_to_its_client; digests = Refusing.digests_to_who_asked; pages = Refusing.pages_to_who_asked; commits = Refusing.commits_to_all; macs = Refusing.seals_well; signatures = Refusing.signs_well; leaves = Refusing.signs_once_by_leaf; once = Refusing.sends_no_frame_twice }
