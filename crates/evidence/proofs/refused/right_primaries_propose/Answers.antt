use Rattle.evidence.proofs.Refusing
use Rattle.evidence.proofs.RefusingNumbers
use Rattle.evidence.proofs.refused.right_primaries_propose.Goals as goal

pub returns : goal.returns
returns c = record { primaries = Refusing.pre_prepares_as_primary; marks = Refusing.pre_prepares_in_marks; active = Refusing.no_pre_prepare_after_change; once = Refusing.one_pre_prepare; skips = RefusingNumbers.skips_no_number; back = RefusingNumbers.goes_back_to_no_number; nearby = RefusingNumbers.pre_prepares_nearby; requests = Refusing.proposes_authentic; new_views = Refusing.begins_as_primary }
