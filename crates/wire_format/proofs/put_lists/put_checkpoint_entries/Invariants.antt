use Rattle.std.proofs.Common.{◌≡◌, ◌++◌, drop, map}
use Rattle.wire_format.specs.Lists.{each_spelling}
use Rattle.wire_format.specs.Views.{checkpoint_entry_data}
use Rattle.wire_format.specs.Spelling.{checkpoint_entry_spelling, checkpoint_entries_spelling}
use Rattle.wire_format.proofs.put_lists.put_checkpoint_entries.Given as goal

abbrev pub invariant-loop-entry : goal.invariant-loop-entry
invariant-loop-entry l = l.out.items ++ each_spelling checkpoint_entry_spelling (map checkpoint_entry_data (drop l.entry-index l.entries)) ≡ l.fn.out.items ++ checkpoint_entries_spelling (map checkpoint_entry_data l.entries)
