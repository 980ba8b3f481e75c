use Rattle.cluster_run.proofs.Ending.{has_trace}
use Rattle.cluster_run.proofs.running.finish.Goals as goal

pub returns-in-Ok : goal.returns-in-Ok
returns-in-Ok g c = has_trace _ _ _ _ _ c.in-Ok.ensures.finished
