use Rattle.std.proofs.Common.{Some, refl}
use Rattle.std.proofs.lemmas.Result.{err_from_is_err_and}
use Rattle.client_process.specs.declared.fault.ConverseFault.TheVariants.{NoMemory, Read}
use Rattle.client_process.proofs.Standing.{cut_line, rest_passed, rest_is, stops_between}
use Rattle.client_process.proofs.process.Process.pass.Goals as goal

pub returns-in-Refused-clause-passes : goal.returns-in-Refused-clause-passes
returns-in-Refused-clause-passes g c o xs buffer known sent fails here =
    let why = rw c.in-Refused.is at fails in
    c.refuse.ensures.refuses o why.0 (Some xs) _ known sent (xs, refl, why.1) (why.2, why.3) here

pub returns-in_err-refuse-in-RefusedEarly-clause-passes : goal.returns-in_err-refuse-in-RefusedEarly-clause-passes
returns-in_err-refuse-in-RefusedEarly-clause-passes g c o xs buffer known sent fails here =
    let why = rw c.in-RefusedEarly.is at fails in
    let e = err_from_is_err_and c.from_residual.result c.from_residual.ensures.1 in
    rw (e.1, e.2) ((c.in_err-refuse-in-RefusedEarly.ensures {u = tt}).refuses o why.0 (Some xs) _ known sent (xs, refl, cut_line why.0 xs _ why.1) (why.2, why.3) here)

pub returns-in_err-skip_rest-in-RefusedEarly-clause-passes : goal.returns-in_err-skip_rest-in-RefusedEarly-clause-passes
returns-in_err-skip_rest-in-RefusedEarly-clause-passes g c o xs buffer known sent fails here =
    let why = rw c.in-RefusedEarly.is at fails in
    let e = err_from_is_err_and c.from_residual-in_err-skip_rest-in-RefusedEarly.result c.from_residual-in_err-skip_rest-in-RefusedEarly.ensures.1 in
    let settled = c.in_ok-refuse-in-RefusedEarly.ensures {u = tt} in
    rw e.1 (stops_between g.C.Caller.me g.C.Caller.fits g.met.C.Caller.is_right o e.0 e.2 _ _ _ known _ _ _ _ settled.none_due.0 settled.none_due.1
    (settled.refuses o why.0 (Some xs) _ known sent (xs, refl, cut_line why.0 xs _ why.1) (why.2, why.3) here))

pub returns-in_ok-skip_rest-in-RefusedEarly-clause-passes : goal.returns-in_ok-skip_rest-in-RefusedEarly-clause-passes
returns-in_ok-skip_rest-in-RefusedEarly-clause-passes g c o xs buffer known sent fails here =
    let why = rw c.in-RefusedEarly.is at fails in
    rest_is g.C.Caller.me g.C.Caller.fits g.met.C.Caller.is_right o _ _ known _ _ _ _ _ _ (rest_passed why.0 xs _ _ why.1 (c.in_ok-skip_rest-in-RefusedEarly.ensures {u = tt}))
    ((c.in_ok-refuse-in-RefusedEarly.ensures {u = tt}).refuses o why.0 (Some xs) _ known sent (xs, refl, cut_line why.0 xs _ why.1) (why.2, why.3) here)

pub returns-in-NoMemory-clause-passes : goal.returns-in-NoMemory-clause-passes
returns-in-NoMemory-clause-passes g c o xs buffer known sent fails here =
    stops_between g.C.Caller.me g.C.Caller.fits g.met.C.Caller.is_right o NoMemory tt _ c.args.number (Some xs) known _ _ _ _ c.requires.none_due.0 c.requires.none_due.1 here

pub returns-in-Read-clause-passes : goal.returns-in-Read-clause-passes
returns-in-Read-clause-passes g c o xs buffer known sent fails here =
    stops_between g.C.Caller.me g.C.Caller.fits g.met.C.Caller.is_right o (Read c.in-Read.error) tt _ c.args.number (Some xs) known _ _ _ _ c.requires.none_due.0 c.requires.none_due.1 here
