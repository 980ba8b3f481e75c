use Rattle.replica_histories.proofs.Again
use Rattle.replica_histories.proofs.laws.own_go_again.Goals as goal

pub returns : goal.returns
returns c = record { prepares = Again.prepares_go_again; commits = Again.commits_go_again; batches = Again.batches_go_again; checkpoints = Again.checkpoints_go_again }
