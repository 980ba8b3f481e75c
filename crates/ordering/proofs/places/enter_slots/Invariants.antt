use Rattle.std.proofs.Common.{◌≡◌, ◌+◌, ◌*◌, ◌++◌, drop, take, map, length}
use Rattle.ordering.specs.Log.{entered_row}
use Rattle.ordering.proofs.places.enter_slots.Given as goal

abbrev pub invariant-loop-at : goal.invariant-loop-at
invariant-loop-at l = record { entered : l.slots.items ≡ map (entered_row l.faults (3 * l.faults + 1) l.me.0) (take l.at l.initial.slots.items) ++ drop l.at l.initial.slots.items; long : length l.slots.items ≡ length l.initial.slots.items }
