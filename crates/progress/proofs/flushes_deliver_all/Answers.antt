use Rattle.progress.proofs.Flushing
use Rattle.progress.proofs.flushes_deliver_all.Goals as goal

pub returns : goal.returns
returns c = record { all = Flushing.flushes_deliver_all }
