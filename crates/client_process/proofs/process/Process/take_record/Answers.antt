use Rattle.records.specs.NoticeView.{notice_data}
use Rattle.client_process.specs.declared.fault.ConverseFault.TheVariants.{Read}
use Rattle.client_process.proofs.Standing.{known_taken, known_partial, unanswered_here, stops_between, nothing_taken, taken_on, still_quiet}
use Rattle.client_process.proofs.process.Process.take_record.Goals as goal

pub returns-in-Ok-false-clause-takes : goal.returns-in-Ok-false-clause-takes
returns-in-Ok-false-clause-takes g c o n unread now here =
    unanswered_here g.C.Caller.me g.C.Caller.fits g.met.C.Caller.is_right o c.args.self.now.timer n unread _ now _ _ _ _
    (known_partial c.advance.result c.in-Ok-false.field-0 c.in-Ok-false.is _ _ _ c.advance.ensures c.in-Ok-false.field-0-test) c.requires.none_due.0 c.requires.none_due.1 here

pub returns-in-Err-clause-takes : goal.returns-in-Err-clause-takes
returns-in-Err-clause-takes g c o n unread now here = stops_between g.C.Caller.me g.C.Caller.fits g.met.C.Caller.is_right o (Read c.in-Err.error) tt _ n unread _ now _ _ _ c.requires.none_due.0 c.requires.none_due.1 here

pub returns-in-Some-clause-takes : goal.returns-in-Some-clause-takes
returns-in-Some-clause-takes g c o n unread now here =
    taken_on g.C.Caller.me g.C.Caller.fits g.met.C.Caller.is_right o c.take.result n unread _ _ _ now c.args.self.now c.take.new.self (notice_data c.in-Some.notice)
    (known_taken c.advance.result c.in-Ok-true.field-0 c.in-Ok-true.is _ _ _ c.advance.ensures c.in-Ok-true.field-0-test) (c.in-Some.ensures {u = tt}).tells c.requires.none_due here
    c.take.ensures.takes c.take.ensures.err

pub returns-in-None-clause-takes : goal.returns-in-None-clause-takes
returns-in-None-clause-takes g c o n unread now here =
    nothing_taken g.C.Caller.me g.C.Caller.fits g.met.C.Caller.is_right o _ n unread _ _ _ now _ _ _
    (known_taken c.advance.result c.in-Ok-true.field-0 c.in-Ok-true.is _ _ _ c.advance.ensures c.in-Ok-true.field-0-test) (c.in-None.ensures {u = tt}).nothing here

pub returns-in-Some-clause-quiet : goal.returns-in-Some-clause-quiet
returns-in-Some-clause-quiet g c = still_quiet c.take.result c.take.new.self.told.items c.args.self.now.told.items c.requires.none_due.1 c.take.ensures.quiet
