use Rattle.std.proofs.Common.{◌+◌, ◌∙◌}
use Rattle.std.proofs.lemmas.Result.{err_from_is_err_and}
use Rattle.tuple_codec.specs.OperationView.{operation_of}
use Rattle.client_process.proofs.Standing.{called_on, stops_between, frames_written, frames_failed}
use Rattle.client_process.proofs.process.Process.call.Goals as goal

pub returns-in_err-begin-clause-calls : goal.returns-in_err-begin-clause-calls
returns-in_err-begin-clause-calls g c o n l unread rest told brings is_line here =
    let e = err_from_is_err_and c.from_residual.result c.from_residual.ensures.1 in
    rw (e.1, e.2) (stops_between g.C.Caller.me g.C.Caller.fits g.met.C.Caller.is_right o c.in_err-begin.field-0.0 (c.in_err-begin.ensures {u = tt}).err _ n unread _ _ _ _ _ c.requires.none_due.0 c.requires.none_due.1 here)

pub returns-in_err-write_out-clause-calls : goal.returns-in_err-write_out-clause-calls
returns-in_err-write_out-clause-calls g c o n l unread rest told brings is_line here =
    let e = err_from_is_err_and c.from_residual-in_err-write_out.result c.from_residual-in_err-write_out.ensures.1 in
    rw (e.1, e.2) (frames_failed g.C.Caller.me g.C.Caller.fits g.met.C.Caller.is_right o c.in_err-write_out.field-0.0 _ (n + 1) rest _ _ _ told _ _ _ (c.in_err-write_out.ensures {u = tt}).all
    (called_on g.C.Caller.me g.C.Caller.fits g.met.C.Caller.is_right o (operation_of c.args.op) n l unread rest _ _ c.args.self.now c.begin.new.self brings is_line here (c.in_ok-begin.ensures {u = tt}).begins))

pub returns-clause-calls : goal.returns-clause-calls
returns-clause-calls g c o n l unread rest told brings is_line here =
    c.wait.ensures.ends o (n + 1) rest told
    (frames_written g.C.Caller.me g.C.Caller.fits g.met.C.Caller.is_right o _ (n + 1) rest _ _ _ told _ _ _ _ (c.in_ok-write_out.ensures {u = tt}).none (c.in_ok-write_out.ensures {u = tt}).all
    (called_on g.C.Caller.me g.C.Caller.fits g.met.C.Caller.is_right o (operation_of c.args.op) n l unread rest _ _ c.args.self.now c.begin.new.self brings is_line here (c.in_ok-begin.ensures {u = tt}).begins))

pub wait-requires : goal.wait-requires
wait-requires g c = record { none_due = ((c.in_ok-write_out.ensures {u = tt}).none, (c.in_ok-begin.ensures {u = tt}).quiet ∙ c.requires.none_due.1) }
