use Rattle.std.proofs.Common.{◌≡◌, ◌++◌, drop, map}
use Rattle.wire_format.specs.Lists.{each_spelling}
use Rattle.wire_format.specs.Views.{batch_entry_data}
use Rattle.wire_format.specs.Spelling.{batch_entry_spelling, batch_entries_spelling}
use Rattle.wire_format.proofs.put_lists.put_batch_entries.Given as goal

abbrev pub invariant-loop-entry : goal.invariant-loop-entry
invariant-loop-entry l = l.out.items ++ each_spelling batch_entry_spelling (map batch_entry_data (drop l.entry-index l.entries)) ≡ l.fn.out.items ++ batch_entries_spelling (map batch_entry_data l.entries)
