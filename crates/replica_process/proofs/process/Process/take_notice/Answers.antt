use Rattle.std.proofs.Common.{refl}
use Rattle.replica_process.proofs.Noticing.{links_came}
use Rattle.replica_process.proofs.process.Process.take_notice.Goals as goal

pub returns-in-Linked-clause-takes : goal.returns-in-Linked-clause-takes
returns-in-Linked-clause-takes g c =
    rw c.in-Linked.is (links_came g.M.Machine.me g.M.Machine.fits g.met.M.Machine.is_right c.in-Linked.count c.args.self.now _ c.links.ensures.fits c.links.ensures.needed refl refl)
