use Rattle.std.proofs.lemmas.Result.{err_from_is_err_and}
use Rattle.client_process.specs.declared.fault.ConverseFault.TheVariants.{Read}
use Rattle.client_process.proofs.Standing.{if_true, if_false, stops_between}
use Rattle.client_process.proofs.process.Process.run.Goals as goal

pub loop-number-preserved : goal.loop-number-preserved
loop-number-preserved g c =
    let served = c.in_ok-serve_line.ensures {u = tt} in
    record {
      clear = served.none_due;
      along = λ o here. if_true _ _ c.in_ok-serve_line.field-0 c.if-not-branch.false (served.serves o (c.loop-number.invariant.along o here));
    }

pub returns-then-not-branch : goal.returns-then-not-branch
returns-then-not-branch g c o here =
    if_false _ _ c.in_ok-serve_line.field-0 c.if-not-branch.true ((c.in_ok-serve_line.ensures {u = tt}).serves o (c.loop-number.invariant.along o here))

pub returns-in_err-serve_line : goal.returns-in_err-serve_line
returns-in_err-serve_line g c o here =
    let e = err_from_is_err_and c.from_residual.result c.from_residual.ensures.1 in
    rw (e.1, e.2) ((c.in_err-serve_line.ensures {u = tt}).serves o (c.loop-number.invariant.along o here))

pub returns : goal.returns
returns g c o here =
    stops_between g.C.Caller.me g.C.Caller.fits g.met.C.Caller.is_right o (Read c.from.result) tt _ _ _ _ _ _ _ _ c.loop-number.invariant.clear.0 c.loop-number.invariant.clear.1 (c.loop-number.invariant.along o here)
