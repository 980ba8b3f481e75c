use Rattle.std.proofs.Common.{◌≡◌, ◌+◌, ◌-◌, ◌*◌}
use Rattle.tuple_tree.specs.Items.{none, with_last}
use Rattle.tuple_tree.specs.Reading.{rest_of, more, item_at}
use Rattle.tuple_tree.specs.Loose.{loose_slot_at}
use Rattle.tuple_tree.proofs.skip.+skip_fields.Given as goal

abbrev pub invariant-skip_fields-loop-i : goal.invariant-skip_fields-loop-i
invariant-skip_fields-loop-i l =
    rest_of (more (item_at loose_slot_at l.levels) with_last (l.count - l._i) none l.rest) ≡ rest_of (more (item_at loose_slot_at l.levels) with_last l.count none l.initial.rest)

abbrev pub decreases-skip_field : goal.decreases-skip_field
decreases-skip_field l = 2 * l.levels

abbrev pub decreases-skip_fields : goal.decreases-skip_fields
decreases-skip_fields l = 2 * l.levels + 1
