use Rattle.std.proofs.Common.{◌≡◌, ◌-◌, []}
use Rattle.tuple_tree.specs.Reading.{rest_of}
use Rattle.wire_format.specs.Lists.{listed}
use Rattle.wire.specs.Orders.{order_of}
use Rattle.wire_format.specs.Views.{batch_entry_data}
use Rattle.wire_format.specs.Reading.{more_at, comes_after, batch_entry_at}
use Rattle.wire.proofs.changes.skip_batch_entries.Given as goal

abbrev pub invariant-loop-i : goal.invariant-loop-i
invariant-loop-i l =
    rest_of (more_at batch_entry_at (comes_after (order_of l.order)) (l.count - l._i) (listed batch_entry_data l.last) l.rest) ≡ rest_of (more_at batch_entry_at (comes_after (order_of l.order)) l.count [] l.initial.rest)
