use Rattle.replica_histories.proofs.Changing
use Rattle.replica_histories.proofs.OneChange
use Rattle.replica_histories.proofs.Reasons
use Rattle.replica_histories.proofs.views.views_change.Goals as goal

pub returns : goal.returns
returns c = record { ticks = Reasons.ticks_are_reasons; changes = Changing.view_changes_fit; one = OneChange.new_changes_are_one; again = Changing.view_changes_go_again; count = Changing.view_changes_count }
