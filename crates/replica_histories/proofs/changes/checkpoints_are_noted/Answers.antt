use Rattle.replica_histories.proofs.ChangesKept
use Rattle.replica_histories.proofs.OwnCheckpoints
use Rattle.replica_histories.proofs.changes.checkpoints_are_noted.Goals as goal

pub returns : goal.returns
returns c = record { noted = ChangesKept.checkpoints_are_noted; latest = OwnCheckpoints.checkpoints_are_latest }
