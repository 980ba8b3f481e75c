use Rattle.std.proofs.Common.{sym, ap, subst, ◌∙◌}
use Rattle.std.specs.List.{All}
use Rattle.picture.specs.Lanes.{TakePart, TakesPart}
use Rattle.picture.proofs.Taking.{all_more}
use Rattle.picture.proofs.lanes.Lanes.of.Goals as goal
use Rattle.picture.proofs.lanes.Lanes.of.Goals.{then-ne+in_ok-push+in_ok-push-2, else-ne}

pub loop-number-preserved : goal.loop-number-preserved
loop-number-preserved c = elim c.if-ne.branch [
  | then-ne+in_ok-push+in_ok-push-2 w ↦
      all_more (TakesPart c.args.rows c.args.run.trace.now c.args.arrows.now c.args.run.points.now) c.loop-number.parties.items c.if-ne.parties.items _ c.loop-number.invariant
      (subst (All (TakesPart c.args.rows c.args.run.trace.now c.args.arrows.now c.args.run.points.now)) (sym c.as_slice-number-items.ensures.value) c.in_ok-numbers.ensures c.loop-number.number-index _ c.loop-number-test.true)
      (ap (λ v. v.items) w.parties-is ∙ w.in_ok-push.ensures.items)
  | else-ne w ↦ subst (λ v. TakePart c.args.rows c.args.run.trace.now c.args.arrows.now c.args.run.points.now v.items) (sym w.parties-is) c.loop-number.invariant
]
