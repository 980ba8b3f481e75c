use Rattle.event_log.proofs.Stands.{stands_keeps, none_gathered}
use Rattle.event_log.proofs.log.Log.sync.Goals as goal

pub returns-then-self-eq0-clause-syncs : goal.returns-then-self-eq0-clause-syncs
returns-then-self-eq0-clause-syncs g c owner synced held stands =
    none_gathered g.D.Disk.seen g.D.Disk.may_leave owner _ _ synced held stands c.if-self-eq0.true

pub returns-then-self-eq0-clause-any_moment : goal.returns-then-self-eq0-clause-any_moment
returns-then-self-eq0-clause-any_moment g c owner synced held file stands left =
    stands_keeps g.D.Disk.seen g.D.Disk.may_leave owner _ _ synced held file stands left
