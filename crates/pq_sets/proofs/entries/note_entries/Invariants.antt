use Rattle.std.proofs.Common.{map, take}
use Rattle.wire_format.specs.Lists.{Each}
use Rattle.wire_format.specs.Spelling.{IsBatchEntry}
use Rattle.wire_format.specs.Views.{batch_entry_data}
use Rattle.pq_sets.proofs.entries.note_entries.Given as goal

abbrev pub invariant-loop-entry : goal.invariant-loop-entry
invariant-loop-entry l = Each IsBatchEntry (map batch_entry_data (take l.entry-index l.entries))
