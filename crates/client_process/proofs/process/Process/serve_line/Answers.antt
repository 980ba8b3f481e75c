use Rattle.std.proofs.Common.{Some, refl, sym}
use Rattle.std.proofs.lemmas.Result.{err_from_is_err_and}
use Rattle.client_process.proofs.Standing.{ended_here, skipped_on, gives_line, fails_line, rest_is}
use Rattle.client_process.proofs.process.Process.serve_line.Goals as goal

pub returns-in-Ok-End-clause-serves : goal.returns-in-Ok-End-clause-serves
returns-in-Ok-End-clause-serves g c o here =
    ended_here g.C.Caller.me g.C.Caller.fits g.met.C.Caller.is_right o _ c.args.number _ _ _ _ _ _ c.requires.none_due.0 c.requires.none_due.1 here
    (gives_line c.next_line.result _ _ _ c.next_line.ensures here.along.script here.along.unread_is c.in-Ok-End.field-0 _ c.in-Ok-End.is c.in-Ok-End.field-0-is)

pub returns-in-Ok-Skipped-clause-serves : goal.returns-in-Ok-Skipped-clause-serves
returns-in-Ok-Skipped-clause-serves g c o here =
    let line = gives_line c.next_line.result _ _ _ c.next_line.ensures here.along.script here.along.unread_is c.in-Ok-Skipped.field-0 _ c.in-Ok-Skipped.is c.in-Ok-Skipped.field-0-is in
    skipped_on g.C.Caller.me g.C.Caller.fits g.met.C.Caller.is_right o c.args.number line.0 _ _ _ _ c.args.self.now
    (record { client = c.args.self.now.client; timer = c.args.self.now.timer; line = c.next_line.new.line; text = c.args.self.now.text; told = c.args.self.now.told })
    (here.along.script, here.along.unread_is, line.1) line.2 refl refl refl refl here

pub returns-in_err-answer-in-Ok-Operation-clause-serves : goal.returns-in_err-answer-in-Ok-Operation-clause-serves
returns-in_err-answer-in-Ok-Operation-clause-serves g c o here =
    let line = gives_line c.next_line.result _ _ _ c.next_line.ensures here.along.script here.along.unread_is c.in-Ok-Operation.field-0 _ c.in-Ok-Operation.is c.in-Ok-Operation.field-0-is in
    let e = err_from_is_err_and c.from_residual.result c.from_residual.ensures.1 in
    rw (e.1, e.2) ((c.in_err-answer-in-Ok-Operation.ensures {u = tt}).answers o c.args.number line.0 _ _ (here.along.script, here.along.unread_is, line.1) line.2 here)

pub returns-in_ok-answer-in-Ok-Operation-clause-serves : goal.returns-in_ok-answer-in-Ok-Operation-clause-serves
returns-in_ok-answer-in-Ok-Operation-clause-serves g c o here =
    let line = gives_line c.next_line.result _ _ _ c.next_line.ensures here.along.script here.along.unread_is c.in-Ok-Operation.field-0 _ c.in-Ok-Operation.is c.in-Ok-Operation.field-0-is in
    (c.in_ok-answer-in-Ok-Operation.ensures {u = tt}).answers o c.args.number line.0 _ _ (here.along.script, here.along.unread_is, line.1) line.2 here

pub returns-in_err-pass-in-Err-clause-serves : goal.returns-in_err-pass-in-Err-clause-serves
returns-in_err-pass-in-Err-clause-serves g c o here =
    let e = err_from_is_err_and c.from_residual-in_err-pass-in-Err.result c.from_residual-in_err-pass-in-Err.ensures.1 in
    rw (e.1, e.2) ((c.in_err-pass-in-Err.ensures {u = tt}).passes o here.along.script _ _ _
    (fails_line c.next_line.result _ _ _ c.next_line.ensures here.along.script here.along.unread_is c.in-Err.no c.in-Err.is)
    (rest_is g.C.Caller.me g.C.Caller.fits g.met.C.Caller.is_right o _ _ _ _ _ _ _ _ (Some here.along.script) (sym here.along.unread_is) here))

pub returns-in_ok-pass-in-Err-clause-serves : goal.returns-in_ok-pass-in-Err-clause-serves
returns-in_ok-pass-in-Err-clause-serves g c o here =
    (c.in_ok-pass-in-Err.ensures {u = tt}).passes o here.along.script _ _ _
    (fails_line c.next_line.result _ _ _ c.next_line.ensures here.along.script here.along.unread_is c.in-Err.no c.in-Err.is)
    (rest_is g.C.Caller.me g.C.Caller.fits g.met.C.Caller.is_right o _ _ _ _ _ _ _ _ (Some here.along.script) (sym here.along.unread_is) here)
