use Rattle.std.proofs.Common.{arith}
use Rattle.event_log.proofs.Stands.{rested}
use Rattle.event_log.proofs.log.Log.rest.Goals as goal

pub returns-clause-rests : goal.returns-clause-rests
returns-clause-rests g c owner synced held stands =
    rested g.D.Disk.seen g.D.Disk.may_leave owner _ _ _ _ synced held stands (omega arith) (c.in_ok-write_group.ensures.resting (omega arith)) (c.in_ok-write_group.ensures.syncs owner synced held stands)
