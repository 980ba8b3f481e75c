use Rattle.std.proofs.Common.{◌≡◌, drop, map}
use Rattle.wire_format.specs.Views.{checkpoint_entry_data}
use Rattle.ordering.specs.Checkpoints.{root_at}
use Rattle.ordering.proofs.checkpoints.Checkpoints.root_at.Given as goal

abbrev pub invariant-loop-entry : goal.invariant-loop-entry
invariant-loop-entry l = root_at l.self l.number.0 ≡ root_at (map checkpoint_entry_data (drop l.entry-index l.entry-items)) l.number.0
