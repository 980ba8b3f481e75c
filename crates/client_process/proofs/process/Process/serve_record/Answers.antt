use Rattle.std.proofs.lemmas.Result.{err_from_is_err_and}
use Rattle.client_process.proofs.Standing.{frames_written, frames_failed}
use Rattle.client_process.specs.Endings.{scene}
use Rattle.client_process.proofs.process.Process.serve_record.Goals as goal

pub returns-in_err-is_answered-clause-serves : goal.returns-in_err-is_answered-clause-serves
returns-in_err-is_answered-clause-serves g c o n unread told here =
    let e = err_from_is_err_and c.from_residual.result c.from_residual.ensures.1 in
    rw (e.1, e.2) ((c.in_err-is_answered.ensures {u = tt}).takes o n unread (scene (g.F.Write.contents c.args.frames.now) told) here)

pub returns-in_err-write_out-clause-serves : goal.returns-in_err-write_out-clause-serves
returns-in_err-write_out-clause-serves g c o n unread told here =
    let e = err_from_is_err_and c.from_residual-in_err-write_out.result c.from_residual-in_err-write_out.ensures.1 in
    rw (e.1, e.2) (frames_failed g.C.Caller.me g.C.Caller.fits g.met.C.Caller.is_right o c.in_err-write_out.field-0.0 _ n unread _ _ _ told _ _ _ (c.in_err-write_out.ensures {u = tt}).all
    ((c.in_ok-is_answered.ensures {u = tt}).takes o n unread (scene (g.F.Write.contents c.args.frames.now) told) here))

pub returns-clause-serves : goal.returns-clause-serves
returns-clause-serves g c o n unread told here =
    frames_written g.C.Caller.me g.C.Caller.fits g.met.C.Caller.is_right o _ n unread _ _ _ told _ _ _ _ (c.in_ok-write_out.ensures {u = tt}).none (c.in_ok-write_out.ensures {u = tt}).all
    ((c.in_ok-is_answered.ensures {u = tt}).takes o n unread (scene (g.F.Write.contents c.args.frames.now) told) here)
