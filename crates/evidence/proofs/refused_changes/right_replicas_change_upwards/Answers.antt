use Rattle.evidence.proofs.RefusingChanges
use Rattle.evidence.proofs.refused_changes.right_replicas_change_upwards.Goals as goal

pub returns : goal.returns
returns c = record { views = RefusingChanges.changes_above_view; earlier = RefusingChanges.changes_above_earlier; numbers = RefusingChanges.changes_to_numbers; prepared_marks = RefusingChanges.batch_entries_prepared_in_marks; proposed_marks = RefusingChanges.batch_entries_proposed_in_marks; ascending = RefusingChanges.batch_entries_ascend; differing = RefusingChanges.batch_entries_differ; again = RefusingChanges.changes_again_last }
