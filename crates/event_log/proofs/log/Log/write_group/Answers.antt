use Rattle.std.proofs.Common.{List, ℕ, ◌∙◌, refl, ap, arith}
use Rattle.std.proofs.lemmas.Bool.{eqb-true}
use Rattle.event_log.specs.Groups.{framed_bytes}
use Rattle.event_log.proofs.Stands.{stands_keeps, stands_synced, group_crash}
use Rattle.event_log.proofs.log.Log.write_group.Goals as goal

pub returns-in_err-group-clause-any_moment : goal.returns-in_err-group-clause-any_moment
returns-in_err-group-clause-any_moment g c owner synced held file stands left =
    stands_keeps g.D.Disk.seen g.D.Disk.may_leave owner _ _ synced held file stands left

pub returns-in_default-clause-any_moment : goal.returns-in_default-clause-any_moment
returns-in_default-clause-any_moment g c owner synced held file stands left =
    stands_keeps g.D.Disk.seen g.D.Disk.may_leave owner _ _ synced held file stands left

pub returns-in_err-write_synced-clause-any_moment : goal.returns-in_err-write_synced-clause-any_moment
returns-in_err-write_synced-clause-any_moment g c owner synced held file stands left =
    group_crash g.D.Disk.seen g.D.Disk.may_leave owner _ _ _ synced held _ stands c.write_synced.ensures.crash file left

pub returns-clause-any_moment : goal.returns-clause-any_moment
returns-clause-any_moment g c owner synced held file stands left =
    group_crash g.D.Disk.seen g.D.Disk.may_leave owner _ _ _ synced held _ stands c.write_synced.ensures.crash file left

pub returns-clause-syncs : goal.returns-clause-syncs
returns-clause-syncs g c owner synced held stands =
    stands_synced g.D.Disk.seen g.D.Disk.may_leave owner c.args.self.now _ c.args.disk.now c.write_synced.new.disk synced held c.deref-2.result.now stands
    (omega arith) (omega arith) (c.deref-2.ensures.value ∙ c.in_ok-group.ensures ∙ ap (λ (l : List ℕ). framed_bytes c.args.self.now.owner c.args.self.now.number l) c.deref.ensures.value)
    c.write_synced.ensures.torn c.in_ok-write_synced.ensures.written c.in_ok-write_synced.ensures.durable
    refl (omega arith) (omega arith) c.clear.ensures.items refl (eqb-true c.args.self.now.count 0)
