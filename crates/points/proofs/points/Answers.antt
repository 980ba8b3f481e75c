use Rattle.std.proofs.Common.{◌≡◌, List, reverse, sym, subst, Vec, Global}
use Rattle.std.specs.Prelude.{IfOk}
use Rattle.protocol.specs.Space.Linear.{Item}
use Rattle.points.specs.declared.point.Point.{Point}
use Rattle.points.specs.PointView.{items_of}
use Rattle.points.proofs.Whole.{points_of_trace}
use Rattle.points.proofs.points.Goals as goal

pub returns : goal.returns
returns c =
    subst (λ (items : List Item). IfOk c.points_of.result (λ (found : Vec Point Global). items_of found.items ≡ items))
    (points_of_trace c.args.config.now c.clients.ensures.valid (reverse c.args.trace.now) (reverse c.in_ok-places.places.rises.items) c.in_ok-places.ensures
    _ c.in_ok-batches.ensures _ _ c.in_ok-reads.reads c.in_ok-reads.ensures (c.in_ok-ordered.ensures c.args.config.now (sym c.clients.ensures.value)) c.in_ok-sorted.ensures)
    c.points_of.ensures

pub run_batches-requires-clause-ascends : goal.run_batches-requires-clause-ascends
run_batches-requires-clause-ascends c = c.in_ok-batches.ensures.ascends

pub with_ordered-requires : goal.with_ordered-requires
with_ordered-requires c = c.in_ok-reads.ensures.ranked
