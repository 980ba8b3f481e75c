use Rattle.std.proofs.Common.{map, take}
use Rattle.wire_format.specs.Lists.{Each}
use Rattle.wire_format.specs.Spelling.{IsCheckpointEntry}
use Rattle.wire_format.specs.Views.{checkpoint_entry_data}
use Rattle.pq_sets.proofs.entries.note_checkpoints.Given as goal

abbrev pub invariant-loop-entry : goal.invariant-loop-entry
invariant-loop-entry l = Each IsCheckpointEntry (map checkpoint_entry_data (take l.entry-index l.entries))
