use Rattle.evidence.proofs.Certifying
use Rattle.evidence.proofs.certified.taken_views_ascend.Goals as goal

pub returns : goal.returns
returns c = record { later = Certifying.takes_later; order = Certifying.takes_in_order }
