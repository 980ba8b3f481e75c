use Rattle.std.proofs.Common.{◌++◌, refl, ap, ◌∙◌}
use Rattle.tuple_codec.specs.OperationView.{operation_of}
use Rattle.client_process.specs.Texts.{outputs_text}
use Rattle.client_process.proofs.Stepping.{call_begun_on, told_kept}
use Rattle.client_process.proofs.process.Process.begin.Goals as goal

pub returns-clause-begins : goal.returns-clause-begins
returns-clause-begins g c =
    call_begun_on g.C.Caller.me g.C.Caller.fits g.met.C.Caller.is_right c.begin_timer.result c.first.result c.args.self.now
    (record { client = c.call.new.self; timer = c.args.self.now.timer; line = c.args.self.now.line; text = c.put_frames.new.text; told = c.args.self.now.told })
    c.begin_timer.new.self (operation_of c.args.op) c.in_ok-outputs.outputs.items c.first.ensures c.call.ensures.me (c.in_ok-outputs.ensures {u = tt}).leads
    ((c.in_ok-put_frames.ensures {u = tt}) ∙ ap (λ l. c.args.self.now.text.items ++ outputs_text l) c.as_slice.ensures.value) refl c.begin_timer.ensures.begins

pub returns-clause-quiet : goal.returns-clause-quiet
returns-clause-quiet g c = told_kept c.begin_timer.result _ _ _ c.begin_timer.ensures.begins
