use Rattle.std.proofs.Common.{◌-◌, arith}
use Rattle.tuple_tree.specs.Loose.{loose_slot_at}
use Rattle.tuple_tree.proofs.Seeing.{nested_items}
use Rattle.tuple_tree.proofs.Steps.{inner_there}
use Rattle.tuple_tree.proofs.fields.read_nested.Goals as goal

pub invariant_of-nested : goal.invariant_of-nested
invariant_of-nested c =
    (nested_items loose_slot_at (c.args.levels - 1) c.in_ok-count.count c.args.bytes.now c.in_ok-count.fields.now c.in_ok-after.after.now (c.in_ok-count.ensures {u = tt}) (c.in_ok-after.ensures {u = tt})).0

pub returns : goal.returns
returns c =
    inner_there loose_slot_at c.args.levels c.args.bytes.now c.in_ok-after.after.now _ (omega arith)
    (nested_items loose_slot_at (c.args.levels - 1) c.in_ok-count.count c.args.bytes.now c.in_ok-count.fields.now c.in_ok-after.after.now (c.in_ok-count.ensures {u = tt}) (c.in_ok-after.ensures {u = tt})).1
