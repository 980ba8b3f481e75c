use Rattle.replica_histories.proofs.TransfersAnswering
use Rattle.replica_histories.proofs.Giving
use Rattle.replica_histories.proofs.laws.kept_are_one.Goals as goal

pub returns : goal.returns
returns c = record { one = TransfersAnswering.kept_are_one; snapshots = TransfersAnswering.snapshots_are_kept; each = TransfersAnswering.kept_have_snapshots; above = Giving.kept_are_above }
