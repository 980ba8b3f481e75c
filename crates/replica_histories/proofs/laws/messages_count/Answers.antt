use Rattle.replica_histories.proofs.Counting
use Rattle.replica_histories.proofs.laws.messages_count.Goals as goal

pub returns : goal.returns
returns c = record { batches = Counting.batches_count; prepares = Counting.prepares_count; commits = Counting.commits_count; checkpoints = Counting.checkpoints_count; requests = Counting.requests_count }
