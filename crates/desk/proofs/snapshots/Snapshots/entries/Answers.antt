use Rattle.std.proofs.Common.{List, map, drop, ap, ◌∙◌}
use mathlib.Core.List.{reverse_aux}
use Rattle.wire_format.specs.declared.messages.CheckpointEntry.{CheckpointEntry}
use Rattle.wire_format.specs.Views.{checkpoint_entry_data}
use Rattle.desk.proofs.Listing.{listed, none_listed}
use Rattle.std.proofs.Common.{IsTrue, subst}
use Rattle.replica_histories.specs.Desk.{Snapshot}
use Rattle.replica_histories.specs.Views.{entries_of}
use Rattle.desk.specs.Keeping.{is_ascending}
use Rattle.desk.specs.SnapshotsView.{snapshots_data}
use Rattle.desk.proofs.Newest.{listed_ascend}
use Rattle.desk.proofs.snapshots.Snapshots.entries.Goals as goal

pub loop-state-init : goal.loop-state-init
loop-state-init c =
    ap (λ (xs : List CheckpointEntry). reverse_aux (map listed (drop 0 c.deref-state-items.result.now)) (map checkpoint_entry_data xs)) c.new-entries.ensures.items ∙ none_listed c.deref-state-items.result.now

pub returns-in_err-insert-clause-order : goal.returns-in_err-insert-clause-order
returns-in_err-insert-clause-order c =
    subst (λ (xs : List Snapshot). IsTrue (is_ascending (entries_of xs))) c.self.view_is (listed_ascend (snapshots_data c.self.inside) c.self.invariant)

pub returns-clause-order : goal.returns-clause-order
returns-clause-order c =
    subst (λ (xs : List Snapshot). IsTrue (is_ascending (entries_of xs))) c.self.view_is (listed_ascend (snapshots_data c.self.inside) c.self.invariant)
