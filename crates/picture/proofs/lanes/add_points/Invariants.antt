use Rattle.picture.specs.Lanes.{AddsOnly, HasPoint}
use Rattle.picture.proofs.lanes.add_points.Given as goal

abbrev pub invariant-loop-point : goal.invariant-loop-point
invariant-loop-point l = AddsOnly (HasPoint l.rows l.fn.points) l.fn.numbers.items l.numbers.items
