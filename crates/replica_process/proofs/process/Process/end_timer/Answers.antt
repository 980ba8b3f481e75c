use Rattle.std.proofs.Common.{◌++◌, refl, ap, ◌∙◌}
use Rattle.replica_process.specs.Texts.{outputs_text}
use Rattle.replica_process.proofs.Noticing.{timeout_came, timer_came}
use Rattle.replica_process.proofs.process.Process.end_timer.Goals as goal

pub returns-then-not-ends-clause-takes : goal.returns-then-not-ends-clause-takes
returns-then-not-ends-clause-takes g c =
    timer_came g.M.Machine.me g.M.Machine.fits g.met.M.Machine.is_right c.args.number c.ends.result c.standing.result c.args.self.now
    (record { machine = c.args.self.now.machine; patience = c.ends.new.self; text = c.args.self.now.text })
    c.begin_timer.new.self c.begin_timer.result c.if-not-ends.true c.standing.ensures c.ends.ensures.fits c.ends.ensures.needed
    refl refl c.begin_timer.ensures.begins

pub returns-clause-takes : goal.returns-clause-takes
returns-clause-takes g c =
    timeout_came g.M.Machine.me g.M.Machine.fits g.met.M.Machine.is_right c.args.number c.ends.result c.standing.result c.in_ok-outputs.outputs.items c.args.self.now
    (record { machine = c.time_out.new.self; patience = c.ends.new.self; text = c.put_frames.new.text })
    c.begin_timer-2.new.self c.begin_timer-2.result c.if-not-ends.false c.standing.ensures c.ends.ensures.fits c.ends.ensures.needed
    c.time_out.ensures.me
    ((c.in_ok-put_frames.ensures {u = tt}).ok ∙ ap (λ l. c.args.self.now.text.items ++ outputs_text l) c.as_slice.ensures.value)
    (c.in_ok-outputs.ensures {u = tt}).leads c.begin_timer-2.ensures.begins
