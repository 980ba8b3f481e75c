use Rattle.std.proofs.Common.{◌≡◌, replicate}
use Rattle.ordering.specs.Log.{no_row}
use Rattle.ordering.proofs.places.no_slots.Given as goal

abbrev pub invariant-loop-at : goal.invariant-loop-at
invariant-loop-at l = l.slots.items ≡ replicate l._at no_row
