use Rattle.std.proofs.Common.{sym, ap, subst, ◌∙◌}
use Rattle.picture.specs.Lanes.{AddsOnly, HasArrow}
use Rattle.picture.proofs.Taking.{begins_at, one_added}
use Rattle.picture.proofs.lanes.add_arrows.Goals as goal
use Rattle.picture.proofs.lanes.add_arrows.Goals.{in-Some+in_ok-push, in_default}

pub loop-arrow-preserved : goal.loop-arrow-preserved
loop-arrow-preserved c = elim c.match-party.branch [
  | in-Some+in_ok-push w ↦
      one_added (HasArrow c.args.arrows.now) c.args.numbers.now.items c.loop-arrow.numbers.items c.match-party.numbers.items w.in-Some.party c.loop-arrow.invariant
      (begins_at c.args.arrows.now c.loop-arrow.arrow-index _ w.in-Some.party c.loop-arrow-test.true (sym c.party.ensures ∙ w.in-Some.is))
      (ap (λ v. v.items) w.numbers-is ∙ w.in_ok-push.ensures.items)
  | in_default w ↦ subst (λ v. AddsOnly (HasArrow c.args.arrows.now) c.args.numbers.now.items v.items) (sym w.numbers-is) c.loop-arrow.invariant
]
