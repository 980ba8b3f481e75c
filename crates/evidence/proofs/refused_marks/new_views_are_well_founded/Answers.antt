use Rattle.evidence.proofs.RefusingMarksSelected
use Rattle.evidence.proofs.refused_marks.new_views_are_well_founded.Goals as goal

pub returns : goal.returns
returns c = record { founded = RefusingMarksSelected.takes_well_founded }
