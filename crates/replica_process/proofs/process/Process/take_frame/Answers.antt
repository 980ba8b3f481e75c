use Rattle.std.proofs.Common.{◌++◌, refl, ap, ◌∙◌}
use Rattle.replica_process.specs.Texts.{outputs_text}
use Rattle.replica_process.proofs.Noticing.{frame_came}
use Rattle.replica_process.proofs.process.Process.take_frame.Goals as goal

pub returns-clause-takes : goal.returns-clause-takes
returns-clause-takes g c =
    frame_came g.M.Machine.me g.M.Machine.fits g.met.M.Machine.is_right c.args.frame.now c.in_ok-outputs.outputs.items c.args.self.now
    (record { machine = c.got.new.self; patience = c.args.self.now.patience; text = c.put_frames.new.text })
    c.begin_timer.new.self c.begin_timer.result c.got.ensures.me refl
    ((c.in_ok-put_frames.ensures {u = tt}).ok ∙ ap (λ l. c.args.self.now.text.items ++ outputs_text l) c.as_slice.ensures.value)
    (c.in_ok-outputs.ensures {u = tt}).leads c.begin_timer.ensures.begins
