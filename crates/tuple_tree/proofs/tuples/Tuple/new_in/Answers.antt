use Rattle.tuple_tree.specs.Values.{is_wide}
use Rattle.tuple_tree.proofs.Leaves.{datum_leaves}
use Rattle.tuple_tree.proofs.Flat.{items_are, closed, empty}
use Rattle.tuple_tree.proofs.tuples.Tuple.new_in.Goals as goal

pub invariant_of-result : goal.invariant_of-result
invariant_of-result g c = closed datum_leaves (empty c.new.result.items c.new.ensures.items)

pub returns : goal.returns
returns g c = items_are datum_leaves {is_wide = is_wide} (empty c.new.result.items c.new.ensures.items)
