use Rattle.std.proofs.Common.{◌+◌, refl}
use Rattle.std.proofs.lemmas.Result.{err_from_is_err_and, on_ok_weaker}
use Rattle.client_process.proofs.Standing.{refused_on, results_settled, stops_between}
use Rattle.client_process.proofs.process.Process.refuse.Goals as goal

pub returns-in_err-put_refusal-clause-refuses : goal.returns-in_err-put_refusal-clause-refuses
returns-in_err-put_refusal-clause-refuses g c o l unread rest known sent brings refuses here =
    let e = err_from_is_err_and c.from_residual.result c.from_residual.ensures.1 in
    rw e.1 (stops_between g.C.Caller.me g.C.Caller.fits g.met.C.Caller.is_right o e.0 e.2 _ c.args.number unread known _ _ _ _ c.requires.none_due.0 c.requires.none_due.1 here)

pub returns-clause-refuses : goal.returns-clause-refuses
returns-clause-refuses g c o l unread rest known sent brings refuses here =
    results_settled g.C.Caller.me g.C.Caller.fits g.met.C.Caller.is_right o c.write_out.result _ (c.args.number + 1) rest known _ _ sent _ _ _ _ c.write_out.ensures.all c.write_out.ensures.none
    (refused_on g.C.Caller.me g.C.Caller.fits g.met.C.Caller.is_right o c.args.fault c.args.number l unread rest known _ c.args.self.now
    (record { client = c.args.self.now.client; timer = c.args.self.now.timer; line = c.args.self.now.line; text = c.args.self.now.text; told = c.put_refusal.new.told })
    brings refuses refl refl refl (c.in_ok-put_refusal.ensures {u = tt}) here)

pub returns-clause-none_due : goal.returns-clause-none_due
returns-clause-none_due g c = on_ok_weaker c.write_out.result (λ none. (c.requires.none_due.0, none)) c.write_out.ensures.none
