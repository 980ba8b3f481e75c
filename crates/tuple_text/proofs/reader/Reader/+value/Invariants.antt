use Rattle.std.proofs.Common.{◌+◌, ◌-◌, ◌*◌}
use Rattle.tuple_tree.specs.Values.{datum_length}
use Rattle.tuple_text.specs.Reading.{item_at, items_at, kept_with, no_room, begins_datum, datum}
use Rattle.tuple_text.proofs.Steps.{SoFar}
use Rattle.tuple_text.proofs.reader.Reader.+value.Given as goal

abbrev pub decreases-add_next_value : goal.decreases-add_next_value
decreases-add_next_value g l = 2 * l.levels

abbrev pub decreases-values : goal.decreases-values
decreases-values g l = 2 * l.levels + 1

abbrev pub invariant-values-loop-tuple : goal.invariant-values-loop-tuple
invariant-values-loop-tuple g l =
    SoFar (no_room begins_datum l.levels) (kept_with datum_length) (item_at datum_length begins_datum datum l.levels) l.count l.free l.tuple l.self.rest.now (items_at datum_length begins_datum datum l.levels l.initial.self.rest.now)

abbrev pub decreases-values-loop-tuple : goal.decreases-values-loop-tuple
decreases-values-loop-tuple g l = 33 - l.count
