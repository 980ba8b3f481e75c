use Rattle.std.proofs.lemmas.Result.{err_from_is_err_and}
use Rattle.client_process.specs.declared.fault.ConverseFault.TheVariants.{Read}
use Rattle.client_process.proofs.Standing.{still_open, is_over, stops_between}
use Rattle.client_process.proofs.process.Process.wait.Goals as goal

pub loop-preserved : goal.loop-preserved
loop-preserved g c =
    let served = c.in_ok-serve_record.ensures {u = tt} in
    record {
      clear = (served.none_due, served.quiet c.if-branch.false);
      along = λ o n unread told here.
          still_open g.C.Caller.me g.C.Caller.fits g.met.C.Caller.is_right o _ c.if-branch.false _ n unread _ _ _ _ _ (served.serves o n unread told (c.loop.invariant.along o n unread told here));
    }

pub returns-then-branch-clause-ends : goal.returns-then-branch-clause-ends
returns-then-branch-clause-ends g c o n unread told here =
    is_over g.C.Caller.me g.C.Caller.fits g.met.C.Caller.is_right o _ c.if-branch.true _ n unread _ _ _ _ _
    ((c.in_ok-serve_record.ensures {u = tt}).serves o n unread told (c.loop.invariant.along o n unread told here))

pub returns-in_err-serve_record-clause-ends : goal.returns-in_err-serve_record-clause-ends
returns-in_err-serve_record-clause-ends g c o n unread told here =
    let e = err_from_is_err_and c.from_residual.result c.from_residual.ensures.1 in
    rw (e.1, e.2) ((c.in_err-serve_record.ensures {u = tt}).serves o n unread told (c.loop.invariant.along o n unread told here))

pub returns-clause-ends : goal.returns-clause-ends
returns-clause-ends g c o n unread told here =
    stops_between g.C.Caller.me g.C.Caller.fits g.met.C.Caller.is_right o (Read c.from.result) tt _ n unread _ _ _ _ _ c.loop.invariant.clear.0 c.loop.invariant.clear.1 (c.loop.invariant.along o n unread told here)
