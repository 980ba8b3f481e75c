use Rattle.replica_histories.proofs.Giving
use Rattle.replica_histories.proofs.Executing
use Rattle.replica_histories.proofs.Installing
use Rattle.replica_histories.proofs.laws.outputs_fit.Goals as goal

pub returns : goal.returns
returns c = record { prepares = Giving.prepares_fit; commits = Giving.commits_fit; batches = Giving.batches_fit; executes = Executing.executes_fit; replies = Giving.replies_fit; checkpoints = Giving.checkpoints_fit; installations = Installing.installations_fit }
