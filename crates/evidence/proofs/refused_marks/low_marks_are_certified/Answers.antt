use Rattle.evidence.proofs.RefusingMarksLow
use Rattle.evidence.proofs.refused_marks.low_marks_are_certified.Goals as goal

pub returns : goal.returns
returns c = record { lower = RefusingMarksLow.low_is_no_lower; marked = RefusingMarksLow.low_is_marked }
