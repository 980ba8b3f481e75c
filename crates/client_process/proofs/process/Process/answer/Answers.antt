use Rattle.std.proofs.Common.{◌+◌}
use Rattle.std.proofs.lemmas.Result.{err_from_is_err_and, on_ok_weaker}
use Rattle.client_process.proofs.Standing.{results_settled}
use Rattle.client_process.proofs.process.Process.answer.Goals as goal

pub returns-in_err-call-clause-answers : goal.returns-in_err-call-clause-answers
returns-in_err-call-clause-answers g c o n l unread rest brings is_line here =
    let e = err_from_is_err_and c.from_residual.result c.from_residual.ensures.1 in
    rw (e.1, e.2) ((c.in_err-call.ensures {u = tt}).calls o n l unread rest (g.W.Write.contents c.args.results.now) brings is_line here)

pub returns-clause-answers : goal.returns-clause-answers
returns-clause-answers g c o n l unread rest brings is_line here =
    results_settled g.C.Caller.me g.C.Caller.fits g.met.C.Caller.is_right o c.write_out.result _ (n + 1) rest _ _ _ _ _ _ _ _ c.write_out.ensures.all c.write_out.ensures.none
    ((c.in_ok-call.ensures {u = tt}).calls o n l unread rest (g.W.Write.contents c.args.results.now) brings is_line here)

pub returns-clause-none_due : goal.returns-clause-none_due
returns-clause-none_due g c = on_ok_weaker c.write_out.result (λ none. ((c.in_ok-call.ensures {u = tt}).none_due, none)) c.write_out.ensures.none
