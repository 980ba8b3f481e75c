use Rattle.std.proofs.Common.{sym, ap, subst, ◌∙◌}
use Rattle.picture.specs.Lanes.{AddsOnly, HasPoint}
use Rattle.picture.proofs.Taking.{one_added}
use Rattle.picture.proofs.lanes.add_points.Goals as goal
use Rattle.picture.proofs.lanes.add_points.Goals.{then-has+in_ok-push, else-has}

pub loop-point-preserved : goal.loop-point-preserved
loop-point-preserved c = elim c.if-has.branch [
  | then-has+in_ok-push w ↦
      one_added (HasPoint c.args.rows c.args.points.now) c.args.numbers.now.items c.loop-point.numbers.items c.if-has.numbers.items w.number.result c.loop-point.invariant
      (c.point-item.result, (c.loop-point.point-index, c.loop-point-test.true, sym c.point-item.is), sym c.has.ensures ∙ w.if-has.true, sym w.number.ensures)
      (ap (λ v. v.items) w.numbers-is ∙ w.in_ok-push.ensures.items)
  | else-has w ↦ subst (λ v. AddsOnly (HasPoint c.args.rows c.args.points.now) c.args.numbers.now.items v.items) (sym w.numbers-is) c.loop-point.invariant
]
