use Rattle.picture.specs.Lanes.{AddsOnly, HasArrow}
use Rattle.picture.proofs.lanes.add_arrows.Given as goal

abbrev pub invariant-loop-arrow : goal.invariant-loop-arrow
invariant-loop-arrow l = AddsOnly (HasArrow l.fn.arrows) l.fn.numbers.items l.numbers.items
