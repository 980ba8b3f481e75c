use Rattle.std.proofs.Common.{refl}
use Rattle.std.proofs.lemmas.Result.{err_from_is_err_and}
use Rattle.replica_process.specs.declared.fault.ServeFault.TheVariants.{Read}
use Rattle.replica_process.proofs.Running.{if_true, if_false, stops}
use Rattle.replica_process.proofs.process.Process.serve_records.Goals as goal

pub loop-preserved : goal.loop-preserved
loop-preserved g c k p needed bytes start here =
    if_true _ _ c.in_ok-serve_record.field-0 c.if-not-branch.false
    (c.in_ok-serve_record.ensures {u = tt} k p needed bytes start (c.loop.invariant k p needed bytes start here))

pub returns-then-not-branch : goal.returns-then-not-branch
returns-then-not-branch g c k p needed bytes start here =
    if_false _ _ c.in_ok-serve_record.field-0 c.if-not-branch.true
    (c.in_ok-serve_record.ensures {u = tt} k p needed bytes start (c.loop.invariant k p needed bytes start here))

pub returns-in_err-serve_record : goal.returns-in_err-serve_record
returns-in_err-serve_record g c k p needed bytes start here =
    let e = err_from_is_err_and c.from_residual.result c.from_residual.ensures.1 in
    rw (e.1, e.2) (c.in_err-serve_record.ensures {u = tt} k p needed bytes start (c.loop.invariant k p needed bytes start here))

pub returns : goal.returns
returns g c k p needed bytes start here =
    stops g.M.Machine.me g.M.Machine.fits g.met.M.Machine.is_right k p needed bytes start _ _ _
    (c.loop.invariant k p needed bytes start here) (Read c.from.result) _ refl
