use Rattle.std.proofs.Common.{◌≡◌, ◌++◌, map}
use Rattle.points.specs.PointView.{items_of}
use Rattle.points.specs.Sorting.{sorted_of}
use Rattle.points.proofs.sorting.points_of.Given as goal

-- the points that were taken, and the rest
abbrev pub invariant-loop-placed : goal.invariant-loop-placed
invariant-loop-placed l = items_of l.points.items ++ map (λ x. x.item) (sorted_of l.placed-iterator) ≡ map (λ x. x.item) (sorted_of l.fn.sorted.entries)
