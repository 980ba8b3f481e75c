use Rattle.std.proofs.Common.{ℕ, List, Bor, arith}
use Rattle.std.proofs.lemmas.List.{drop_all}
use Rattle.wire.specs.Headers.{IsFrame}
use Rattle.wire_format.proofs.Appending.{each_at}
use Rattle.execution.proofs.Leading.{goes_on, ends, changes_on}
use Rattle.execution.proofs.running.run_frames.Goals as goal

pub run_frame-requires-clause-frame : goal.run_frame-requires-clause-frame
run_frame-requires-clause-frame c =
    each_at IsFrame (λ (x : Bor (List ℕ)). x.now) c.args.frames.now c.loop-frame.frame-index _ c.requires.frames c.loop-frame-test.true

pub loop-frame-preserved : goal.loop-frame-preserved
loop-frame-preserved c = record {
  left = goes_on c.args.clients c.args.number.0 c.args.frames.now _ _ _ c.loop-frame.frame-index _ c.loop-frame-test.true c.loop-frame.invariant.left c.in_ok-run_frame.ensures.runs;
  births = omega (arith, c.loop-frame.invariant.births, c.in_ok-run_frame.ensures.births);
  changes = changes_on _ _ _ _ _ _ c.loop-frame.invariant.changes c.in_ok-run_frame.ensures.changes;
}

pub returns-clause-runs : goal.returns-clause-runs
returns-clause-runs c = ends c.args.clients c.args.number.0 c.args.frames.now _ _ c.loop-frame.frame-index (drop_all c.loop-frame.frame-index c.args.frames.now (omega arith)) c.loop-frame.invariant.left
