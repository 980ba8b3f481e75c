use Rattle.replica_histories.proofs.PqSets
use Rattle.replica_histories.proofs.PqSetsAdding
use Rattle.replica_histories.proofs.Seeing
use Rattle.replica_histories.proofs.views.pq_sets_are_kept.Goals as goal

pub returns : goal.returns
returns c = record { begin = PqSets.pq_sets_begin; grow = PqSets.pq_sets_grow; lists = PqSets.pq_sets_are_lists; no_batch = PqSetsAdding.no_batch_adds; no_commit = PqSetsAdding.no_commit_adds; batch = PqSetsAdding.batch_adds; commit = PqSetsAdding.commit_adds; seen = Seeing.logged_are_seen }
