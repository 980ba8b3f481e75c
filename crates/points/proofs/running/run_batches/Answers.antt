use Rattle.std.proofs.Common.{reverse, ap}
use Rattle.points.specs.Batching.{numbered_of}
use Rattle.points.proofs.Going.{batch_goes_on, going_begins, going_ends, each_above}
use Rattle.points.proofs.running.run_batches.Goals as goal

pub loop-number-init : goal.loop-number-init
loop-number-init c =
    let is = c.into_iter-number-iterator.ensures.into_iter_gives.0 in (
      going_begins c.args.clients (reverse c.args.places.now.rises.items) _ _ _ _ _ c.new-space.ensures.state c.new-replies.ensures.replies c.new-found.ensures.items (ap numbered_of is),
      each_above _ _ (ap numbered_of is) c.requires.ascends,
    )

pub loop-number-preserved : goal.loop-number-preserved
loop-number-preserved c =
    let is = ap numbered_of (c.in-Some.ensures {u = tt}).steps in
    batch_goes_on _ (reverse c.args.places.now.rises.items) _ _ _ _ _ _ c.first.ensures is c.loop-number.invariant.1 c.loop-number.invariant.0 c.in_ok-run_batch.ensures

pub returns : goal.returns
returns c = going_ends c.args.clients (reverse c.args.places.now.rises.items) _ _ _ (ap numbered_of (c.in-None.ensures {u = tt}).steps.0) c.loop-number.invariant.0
