use Rattle.replica_histories.proofs.Counting
use Rattle.replica_histories.proofs.laws.messages_drop.Goals as goal

pub returns : goal.returns
returns c = record { batches = Counting.batches_drop; prepares = Counting.prepares_drop; commits = Counting.commits_drop; checkpoints = Counting.checkpoints_drop; early_checkpoints = Counting.early_checkpoints_drop; others = Counting.others_drop }
