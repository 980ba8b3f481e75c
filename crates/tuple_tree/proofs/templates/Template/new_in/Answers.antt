use Rattle.std.proofs.Common.{refl}
use Rattle.tuple_tree.specs.Values.{is_wide_slot}
use Rattle.tuple_tree.proofs.Leaves.{slot_leaves}
use Rattle.tuple_tree.proofs.Flat.{items_are, empty}
use Rattle.tuple_tree.proofs.Fixing.{closed_template}
use Rattle.tuple_tree.proofs.templates.Template.new_in.Goals as goal

pub invariant_of-result : goal.invariant_of-result
invariant_of-result g c = closed_template (empty c.new.result.items c.new.ensures.items, refl)

pub returns : goal.returns
returns g c = items_are slot_leaves {is_wide = is_wide_slot} (empty c.new.result.items c.new.ensures.items)
