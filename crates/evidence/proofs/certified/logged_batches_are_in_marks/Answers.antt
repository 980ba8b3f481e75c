use Rattle.evidence.proofs.Certifying
use Rattle.evidence.proofs.Gaps
use Rattle.evidence.proofs.certified.logged_batches_are_in_marks.Goals as goal

pub returns : goal.returns
returns c = record { marks = Certifying.logs_in_marks; assigned = Certifying.logs_what_begins; gaps = Gaps.leaves_no_gap }
