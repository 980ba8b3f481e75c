use Rattle.picture.specs.Lanes.{AddsOnly, HasEntry}
use Rattle.picture.proofs.lanes.add_entries.Given as goal

abbrev pub invariant-loop-position : goal.invariant-loop-position
invariant-loop-position l = AddsOnly (HasEntry l.rows l.trace) l.fn.numbers.items l.numbers.items
