use Rattle.std.proofs.Common.{◌+◌, ◌-◌, ◌*◌}
use Rattle.tuple_tree.specs.Values.{slot_length}
use Rattle.tuple_text.specs.Reading.{item_at, items_at, kept_with, no_room, begins_slot, slot}
use Rattle.tuple_text.proofs.Steps.{SoFar}
use Rattle.tuple_text.proofs.reader.Reader.+field.Given as goal

abbrev pub decreases-add_next_field : goal.decreases-add_next_field
decreases-add_next_field g l = 2 * l.levels

abbrev pub decreases-fields : goal.decreases-fields
decreases-fields g l = 2 * l.levels + 1

abbrev pub invariant-fields-loop-template : goal.invariant-fields-loop-template
invariant-fields-loop-template g l =
    SoFar (no_room begins_slot l.levels) (kept_with slot_length) (item_at slot_length begins_slot slot l.levels) l.count l.free l.template l.self.rest.now (items_at slot_length begins_slot slot l.levels l.initial.self.rest.now)

abbrev pub decreases-fields-loop-template : goal.decreases-fields-loop-template
decreases-fields-loop-template g l = 33 - l.count
