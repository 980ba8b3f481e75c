use Rattle.replica_process.proofs.Writing.{wrote_some}
use Rattle.replica_process.proofs.process.write_due.Goals as goal

pub returns-clause-some : goal.returns-clause-some
returns-clause-some g c = wrote_some c.write_out.result _ _ _ _ c.write_out.ensures.all c.write_out.ensures.none
