use Rattle.std.proofs.Common.{ℕ, List, Bor, sym, ap, ◌∙◌, subst, arith}
use Rattle.std.specs.Prelude.{OnOk}
use Rattle.wire.specs.Headers.{IsFrame}
use Rattle.wire_format.specs.Lists.{Each}
use Rattle.points.specs.Running.{placed_so_far, PlacesAllFrames}
use Rattle.execution.proofs.Calling.{requests_are_frames}
use Rattle.points.proofs.Going.{texts}
use Rattle.points.proofs.running.run_batch.Goals as goal

pub run_frames-requires-clause-frames : goal.run_frames-requires-clause-frames
run_frames-requires-clause-frames c =
    subst (λ (frames : List (Bor (List ℕ))). Each IsFrame (texts frames)) (sym c.as_slice.ensures.value)
    (subst (Each IsFrame) (sym c.requests-frames.ensures.frames) (requests_are_frames c.args.batch.now (λ i. omega (arith, c.type_inv.batch i))))

pub returns : goal.returns
returns c =
    subst (λ (fs : List (List ℕ)). OnOk c.run_frames.result (PlacesAllFrames c.args.turn fs (placed_so_far c.args.space.now c.args.replies.now c.args.found.now.items) (placed_so_far c.run_frames.new.space c.run_frames.new.replies c.run_frames.new.found.items)))
    (ap texts c.as_slice.ensures.value ∙ c.requests-frames.ensures.frames) c.run_frames.ensures
