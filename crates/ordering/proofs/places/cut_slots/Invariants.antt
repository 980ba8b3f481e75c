use Rattle.std.proofs.Common.{◌≡◌, ◌++◌, drop, replicate, length}
use Rattle.ordering.specs.Log.{no_row}
use Rattle.ordering.proofs.places.cut_slots.Given as goal

abbrev pub invariant-loop-at : goal.invariant-loop-at
invariant-loop-at l = record { cleared : l.slots.items ≡ replicate l.at no_row ++ drop l.at l.initial.slots.items; long : length l.slots.items ≡ length l.initial.slots.items }
