use Rattle.std.proofs.Common.{◌++◌, refl, ap, ◌∙◌}
use Rattle.tuple_codec.specs.OperationView.{outcome_of}
use Rattle.client_process.specs.Texts.{outputs_text, accepted_of}
use Rattle.client_process.proofs.Outputs.{none_accepted, one_accepted}
use Rattle.client_process.proofs.Stepping.{frame_taken, frame_accepted}
use Rattle.client_process.proofs.process.Process.take_frame.Goals as goal

pub returns-in-Some-clause-takes : goal.returns-in-Some-clause-takes
returns-in-Some-clause-takes g c =
    frame_accepted g.C.Caller.me g.C.Caller.fits g.met.C.Caller.is_right c.args.self.now _ c.args.frame.now c.in_ok-outputs.outputs.items (outcome_of c.in-Some.answer.now) c.got.ensures.me
    (c.in_ok-outputs.ensures {u = tt}).leads ((c.in_ok-put_frames.ensures {u = tt}) ∙ ap (λ l. c.args.self.now.text.items ++ outputs_text l) c.as_slice.ensures.value) (c.in_ok-put_result-in-Some.ensures {u = tt}) refl
    (one_accepted _ c.accepted.result c.in-Some.answer c.in_ok-outputs.outputs.items c.in-Some.is (c.accepted.ensures ∙ ap accepted_of c.as_slice-2.ensures.value))

pub returns-clause-takes : goal.returns-clause-takes
returns-clause-takes g c =
    frame_taken g.C.Caller.me g.C.Caller.fits g.met.C.Caller.is_right c.args.self.now _ c.args.frame.now c.in_ok-outputs.outputs.items c.got.ensures.me (c.in_ok-outputs.ensures {u = tt}).leads
    ((c.in_ok-put_frames.ensures {u = tt}) ∙ ap (λ l. c.args.self.now.text.items ++ outputs_text l) c.as_slice.ensures.value) refl refl
    (none_accepted _ c.accepted.result c.in_ok-outputs.outputs.items c.in-None.is (c.accepted.ensures ∙ ap accepted_of c.as_slice-2.ensures.value))
