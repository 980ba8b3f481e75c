use Rattle.evidence.proofs.RefusingMarksCheckpoints
use Rattle.evidence.proofs.refused_marks.first_checkpoints_of_three_numbers_count.Goals as goal

pub returns : goal.returns
returns c = record { first = RefusingMarksCheckpoints.first_checkpoint_counts; new = RefusingMarksCheckpoints.new_checkpoint_counts; stay = RefusingMarksCheckpoints.checkpoints_stay; few = RefusingMarksCheckpoints.checkpoints_are_few; descend = RefusingMarksCheckpoints.checkpoints_descend; brought = RefusingMarksCheckpoints.checkpoints_were_brought }
