use Rattle.std.proofs.Common.{◌≡◌, ◌+◌, drop}
use Rattle.wire_format.specs.Views.{batch_entry_data}
use Rattle.pq_sets.specs.PqSetsView.{pq_entries_of}
use Rattle.pq_sets.specs.Places.{place_in}
use Rattle.pq_sets.proofs.pq_sets.place_of.Given as goal

abbrev pub invariant-loop-place : goal.invariant-loop-place
invariant-loop-place l = place_in l.order (batch_entry_data l.entry) (pq_entries_of l.pq_set) ≡ l.place + place_in l.order (batch_entry_data l.entry) (pq_entries_of (drop l.place l.pq_set))
