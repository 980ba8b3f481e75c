use Rattle.std.proofs.Common.{◌++◌, refl, ap, ◌∙◌}
use Rattle.client_process.specs.Texts.{outputs_text}
use Rattle.client_process.proofs.Stepping.{timer_taken_on, late_taken, told_kept}
use Rattle.client_process.proofs.process.Process.end_timer.Goals as goal

pub returns-then-number-self-clause-takes : goal.returns-then-number-self-clause-takes
returns-then-number-self-clause-takes g c =
    late_taken g.C.Caller.me g.C.Caller.fits g.met.C.Caller.is_right c.args.self.now c.args.number c.if-number-self.true

pub returns-clause-takes : goal.returns-clause-takes
returns-clause-takes g c =
    timer_taken_on g.C.Caller.me g.C.Caller.fits g.met.C.Caller.is_right c.begin_timer.result c.next.result c.args.number c.args.self.now
    (record { client = c.retry.new.self; timer = c.args.self.now.timer; line = c.args.self.now.line; text = c.put_frames.new.text; told = c.args.self.now.told })
    c.begin_timer.new.self c.in_ok-outputs.outputs.items c.next.ensures c.if-number-self.false c.retry.ensures.me (c.in_ok-outputs.ensures {u = tt}).leads
    ((c.in_ok-put_frames.ensures {u = tt}) ∙ ap (λ l. c.args.self.now.text.items ++ outputs_text l) c.as_slice.ensures.value) refl c.begin_timer.ensures.begins

pub returns-clause-quiet : goal.returns-clause-quiet
returns-clause-quiet g c = told_kept c.begin_timer.result _ _ _ c.begin_timer.ensures.begins
