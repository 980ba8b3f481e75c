use Rattle.progress.proofs.Redeliveries
use Rattle.progress.proofs.redeliveries_deliver_all.Goals as goal

pub returns : goal.returns
returns c = record { all = Redeliveries.redeliveries_deliver_all }
