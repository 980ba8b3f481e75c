use Rattle.std.proofs.Common.{◌≡◌, ℕ, suc, ◌+◌, List, Bor, map, refl, sym, ap, ◌∙◌, subst, arith}
use Rattle.wire.specs.Headers.{IsFrame}
use Rattle.wire_format.specs.Lists.{Each}
use Rattle.execution.specs.Executed.{ExecutedData, ExecutesBatchText, told}
use Rattle.execution.specs.Running.{so_far, state_with}
use Rattle.execution.proofs.Calling.{requests_are_frames}
use Rattle.execution.proofs.Leading.{executes, texts}
use Rattle.execution.proofs.executed.Executed.execute.Goals as goal

pub run_frames-requires-clause-frames : goal.run_frames-requires-clause-frames
run_frames-requires-clause-frames c =
    subst (λ (frames : List (Bor (List ℕ))). Each IsFrame (texts frames)) (sym c.as_slice.ensures.value)
    (subst (Each IsFrame) (sym c.requests-frames.ensures.frames) (requests_are_frames c.args.batch.now (λ i. omega (arith, c.type_inv.batch i))))

pub returns-clause-executed : goal.returns-clause-executed
returns-clause-executed c =
    let was = c.self.inside in
    let is = c.run_frames.new in
    let old : ExecutedData = record { state = state_with was.number.0 was.space.state was.replies.replies; clients = was.clients } in
    let new : ExecutedData = record { state = state_with (was.number.0 + 1) is.space.state is.replies.replies; clients = was.clients } in
    let next : was.number.0 + 1 ≡ suc was.number.0 = omega arith in
    subst (λ (d : ExecutedData). ExecutesBatchText d c.args.batch.now (map told is.ran.items) new) c.self.view_is
    (executes old new (was.number.0 + 1) c.args.batch.now (texts c.as_slice.result.now)
    (so_far was.space was.replies c.new-ran.result.items) (so_far is.space is.replies is.ran.items)
    refl (ap (map told) c.new-ran.ensures.items) (ap texts c.as_slice.ensures.value ∙ c.requests-frames.ensures.frames) next refl
    c.in_ok-run_frames.ensures.runs)
