use Rattle.replica_histories.proofs.ChangesMade
use Rattle.replica_histories.proofs.changes.changes_are_made.Goals as goal

pub returns : goal.returns
returns c = record { sent = ChangesMade.changes_are_sent; taken = ChangesMade.changes_are_taken; entered = ChangesMade.changes_follow_new_views }
