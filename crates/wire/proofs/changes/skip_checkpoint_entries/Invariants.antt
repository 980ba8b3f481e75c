use Rattle.std.proofs.Common.{◌≡◌, ◌-◌, []}
use Rattle.tuple_tree.specs.Reading.{rest_of}
use Rattle.wire_format.specs.Lists.{listed}
use Rattle.wire_format.specs.Views.{checkpoint_entry_data}
use Rattle.wire_format.specs.Spelling.{checkpoint_entry_before}
use Rattle.wire_format.specs.Reading.{more_at, comes_after, checkpoint_entry_at}
use Rattle.wire.proofs.changes.skip_checkpoint_entries.Given as goal

abbrev pub invariant-loop-i : goal.invariant-loop-i
invariant-loop-i l =
    rest_of (more_at checkpoint_entry_at (comes_after checkpoint_entry_before) (l.count - l._i) (listed checkpoint_entry_data l.last) l.rest) ≡ rest_of (more_at checkpoint_entry_at (comes_after checkpoint_entry_before) l.count [] l.initial.rest)
