use Rattle.std.proofs.Common.{◌≡◌, ◌-◌, [], map}
use Rattle.wire_format.specs.Views.{checkpoint_entry_data}
use Rattle.wire_format.specs.Spelling.{checkpoint_entry_before}
use Rattle.wire_format.specs.Reading.{more_at, comes_after, checkpoint_entry_at}
use Rattle.wire.proofs.changes.read_checkpoint_entries.Given as goal

abbrev pub invariant-loop-i : goal.invariant-loop-i
invariant-loop-i l =
    more_at checkpoint_entry_at (comes_after checkpoint_entry_before) (l.count - l._i) (map checkpoint_entry_data l.entries.items) l.rest ≡ more_at checkpoint_entry_at (comes_after checkpoint_entry_before) l.count [] l.initial.rest
