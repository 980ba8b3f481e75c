use Rattle.std.proofs.Common.{◌≡◌, ◌-◌, slice_get}
use Rattle.tuple_tree.specs.Items.{as_list}
use Rattle.tuple_tree.proofs.tuples.Tuple.get.Given as goal

abbrev pub invariant-loop-passed : goal.invariant-loop-passed
invariant-loop-passed g l = slice_get (as_list l.values) (l.i - l._passed) ≡ slice_get (as_list l.fn.self) l.i
