use Rattle.std.proofs.Common.{◌≡◌, ◌+◌, ◌-◌, ◌*◌}
use Rattle.tuple_tree.specs.Items.{none, with_last}
use Rattle.tuple_tree.specs.Reading.{rest_of, more, item_at}
use Rattle.tuple_tree.specs.Loose.{loose_at}
use Rattle.tuple_tree.proofs.skip.+skip_values.Given as goal

abbrev pub invariant-skip_values-loop-i : goal.invariant-skip_values-loop-i
invariant-skip_values-loop-i l =
    rest_of (more (item_at loose_at l.levels) with_last (l.count - l._i) none l.rest) ≡ rest_of (more (item_at loose_at l.levels) with_last l.count none l.initial.rest)

abbrev pub decreases-skip_value : goal.decreases-skip_value
decreases-skip_value l = 2 * l.levels

abbrev pub decreases-skip_values : goal.decreases-skip_values
decreases-skip_values l = 2 * l.levels + 1
