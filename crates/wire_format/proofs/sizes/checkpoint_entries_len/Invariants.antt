use Rattle.std.proofs.Common.{◌≡◌, ◌<◌, ◌+◌, ◌-◌, ◌^◌, min, drop, map, length}
use Rattle.wire_format.specs.Lists.{each_spelling}
use Rattle.wire_format.specs.Views.{checkpoint_entry_data}
use Rattle.wire_format.specs.Spelling.{checkpoint_entry_spelling, checkpoint_entries_spelling}
use Rattle.wire_format.proofs.sizes.checkpoint_entries_len.Given as goal

abbrev pub invariant-loop-entry : goal.invariant-loop-entry
invariant-loop-entry l = record {
  total : min (l.len + length (each_spelling checkpoint_entry_spelling (map checkpoint_entry_data (drop l.entry-index l.entries)))) (2 ^ 64 - 1) ≡ min (length (checkpoint_entries_spelling (map checkpoint_entry_data l.entries))) (2 ^ 64 - 1);
  fits : l.len < 2 ^ 64;
}
