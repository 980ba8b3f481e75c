use Rattle.std.proofs.Common.{◌≡◌, ◌-◌, [], map}
use Rattle.wire.specs.Orders.{order_of}
use Rattle.wire_format.specs.Views.{batch_entry_data}
use Rattle.wire_format.specs.Reading.{more_at, comes_after, batch_entry_at}
use Rattle.wire.proofs.changes.read_batch_entries.Given as goal

abbrev pub invariant-loop-i : goal.invariant-loop-i
invariant-loop-i l =
    more_at batch_entry_at (comes_after (order_of l.order)) (l.count - l._i) (map batch_entry_data l.entries.items) l.rest ≡ more_at batch_entry_at (comes_after (order_of l.order)) l.count [] l.initial.rest
