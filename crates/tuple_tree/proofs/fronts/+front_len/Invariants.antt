use Rattle.std.proofs.Common.{◌≡◌, ◌+◌, ◌*◌, ◌≤◌, length}
use Rattle.tuple_tree.specs.Fronts.{is_open, front_of}
use Rattle.tuple_tree.specs.Items.{how_many, levels_in, item_levels, length_in, has_leaf}
use Rattle.tuple_tree.specs.Seen.{seen_field}
use Rattle.tuple_tree.specs.Values.{slot_length}
use Rattle.tuple_tree.proofs.fronts.+front_len.Given as goal

-- The fields so far are not open, and their bytes belong to the front.
abbrev pub invariant-front_len-loop-field : goal.invariant-front_len-loop-field
invariant-front_len-loop-field l = record {
  front : l.len + length (front_of l.left) ≡ length (front_of l.fn.fields);
  open_left : has_leaf is_open l.left ≡ has_leaf is_open l.fn.fields;
  bound : l.len + length_in slot_length l.left ≤ length_in slot_length l.fn.fields;
  levels : levels_in l.left ≤ levels_in l.fn.fields;
}

abbrev pub decreases-front_len-loop-field : goal.decreases-front_len-loop-field
decreases-front_len-loop-field l = how_many l.left

abbrev pub decreases-front_len : goal.decreases-front_len
decreases-front_len l = 3 * levels_in l.fields + 2

abbrev pub decreases-field_front_len : goal.decreases-field_front_len
decreases-field_front_len l = 3 * item_levels (seen_field l.field) + 1
