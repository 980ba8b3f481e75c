use Rattle.std.proofs.Common.{ℕ, List, Bor, arith}
use Rattle.std.proofs.lemmas.List.{drop_all}
use Rattle.wire.specs.Headers.{IsFrame}
use Rattle.wire_format.proofs.Appending.{each_at}
use Rattle.points.proofs.Going.{goes_on, ends}
use Rattle.points.proofs.running.run_frames.Goals as goal

pub run_frame-requires-clause-frame : goal.run_frame-requires-clause-frame
run_frame-requires-clause-frame c =
    each_at IsFrame (λ (x : Bor (List ℕ)). x.now) c.args.frames.now c.loop-frame.frame-index _ c.requires.frames c.loop-frame-test.true

pub loop-frame-preserved : goal.loop-frame-preserved
loop-frame-preserved c = goes_on c.args.turn c.args.frames.now _ _ _ c.loop-frame.frame-index _ c.loop-frame-test.true c.loop-frame.invariant c.in_ok-run_frame.ensures

pub returns : goal.returns
returns c = ends c.args.turn c.args.frames.now _ _ c.loop-frame.frame-index (drop_all c.loop-frame.frame-index c.args.frames.now (omega arith)) c.loop-frame.invariant
