use Rattle.std.proofs.Common.{◌≡◌, map, take}
use Rattle.wire_format.specs.Views.{batch_entry_data}
use Rattle.pq_sets.specs.PqSetsView.{pq_entries_of}
use Rattle.pq_sets.proofs.pq_sets.entries.Given as goal

abbrev pub invariant-loop-pq_entry : goal.invariant-loop-pq_entry
invariant-loop-pq_entry l = map batch_entry_data l.entries.items ≡ pq_entries_of (take l.pq_entry-index l.pq_set)
