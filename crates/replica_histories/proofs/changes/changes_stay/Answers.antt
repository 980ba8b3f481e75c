use Rattle.replica_histories.proofs.ChangesPassing
use Rattle.replica_histories.proofs.changes.changes_stay.Goals as goal

pub returns : goal.returns
returns c = record { begin = ChangesPassing.changes_begin; stay = ChangesPassing.changes_stay; above = ChangesPassing.pq_sets_are_above; commits = ChangesPassing.commits_enter_p; batches = ChangesPassing.batches_enter_q }
