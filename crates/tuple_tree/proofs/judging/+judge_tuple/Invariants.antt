use Rattle.std.proofs.Common.{◌≡◌, ◌+◌, ◌-◌, ◌*◌, ◌≤◌}
use Rattle.tuple_tree.specs.Values.{is_wide}
use Rattle.tuple_tree.specs.Reading.{datum_at}
use Rattle.tuple_tree.specs.Judging.{items_judged}
use Rattle.tuple_tree.proofs.Telling.{combine}
use Rattle.tuple_tree.proofs.judging.+judge_tuple.Given as goal

-- A fact on all values is one on the values so far and on those that are left.
abbrev pub invariant-judge_values-loop-i : goal.invariant-judge_values-loop-i
invariant-judge_values-loop-i l = record {
  judged : combine l.below l.wide (items_judged is_wide datum_at l.levels (l.count - l._i) l.rest) ≡ items_judged is_wide datum_at l.levels l.count l.bytes;
  bound : l.below ≤ l.levels;
}

abbrev pub decreases-judge_tuple : goal.decreases-judge_tuple
decreases-judge_tuple l = 3 * l.levels + 2

abbrev pub decreases-judge_values : goal.decreases-judge_values
decreases-judge_values l = 3 * l.levels + 1

abbrev pub decreases-judge_value : goal.decreases-judge_value
decreases-judge_value l = 3 * l.levels
