use Rattle.std.proofs.Common.{◌≡◌, drop, map}
use mathlib.Core.List.{reverse_aux}
use Rattle.wire_format.specs.Views.{checkpoint_entries_data}
use Rattle.replica_histories.specs.Views.{entries_of}
use Rattle.desk.specs.SnapshotsView.{kept_data}
use Rattle.desk.proofs.Listing.{listed}
use Rattle.desk.proofs.snapshots.Snapshots.entries.Given as goal

abbrev pub invariant-loop-state : goal.invariant-loop-state
invariant-loop-state l = reverse_aux (map listed (drop l.state-index l.state-items)) (checkpoint_entries_data l.entries) ≡ entries_of (map kept_data l.state-items)
