use Rattle.std.proofs.Common.{◌≡◌, ◌+◌, ◌-◌, ◌*◌, ◌≤◌}
use Rattle.tuple_tree.specs.Values.{is_wide_slot}
use Rattle.tuple_tree.specs.Reading.{slot_at}
use Rattle.tuple_tree.specs.Judging.{items_judged}
use Rattle.tuple_tree.proofs.Telling.{combine}
use Rattle.tuple_tree.proofs.judging.+judge_template.Given as goal

-- A fact on all fields is one on the fields so far and on those that are left.
abbrev pub invariant-judge_fields-loop-i : goal.invariant-judge_fields-loop-i
invariant-judge_fields-loop-i l = record {
  judged : combine l.below l.wide (items_judged is_wide_slot slot_at l.levels (l.count - l._i) l.rest) ≡ items_judged is_wide_slot slot_at l.levels l.count l.bytes;
  bound : l.below ≤ l.levels;
}

abbrev pub decreases-judge_template : goal.decreases-judge_template
decreases-judge_template l = 3 * l.levels + 2

abbrev pub decreases-judge_fields : goal.decreases-judge_fields
decreases-judge_fields l = 3 * l.levels + 1

abbrev pub decreases-judge_field : goal.decreases-judge_field
decreases-judge_field l = 3 * l.levels
