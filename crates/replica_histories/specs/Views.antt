-- How a replica moves from view to view: it leaves its view by a view change, and a new view that it takes or sends
-- begins a later one (Castro and Liskov, TOCS 2002, on view changes).
use Rattle.std.specs.Prelude.{◌≡◌, ◌≢◌, ℕ, suc, ◌<◌, ◌⊎◌, true, List, [], ◌∷◌, map, reverse, nat_lt, if◌then◌else◌, Some, None}
use Rattle.terms.specs.declared.state.Level.TheVariants as levels
use Rattle.partition_tree.specs.Digests.{root_of as root_of_pages}
use Rattle.wire_format.specs.Messages.{MessageData as Message, ViewChangeData, NewViewData, CheckpointEntryData as CheckpointEntry, view_change as ViewChange, new_view as NewView, fetch as Fetch}
use Rattle.wire_format.specs.Words.{carried, said}
use Rattle.wire_format.specs.Lists.{Each}
use Rattle.signing.specs.AuthenticBody.{authentic}
use Rattle.ordering.specs.Log as logs
use Rattle.ordering.specs.Log.{LogData}
use Rattle.protocol.specs.System.Configuration.{Configuration, primary, is_number, members}
use Rattle.protocol.specs.System.Frames.{IsOutgoing}
use Rattle.protocol.specs.System.Trace.{Entry, Once}
use Rattle.protocol.specs.System.Trace.Entry.{Got, Tick, Sent}
use Rattle.protocol.specs.Replica.Selection.{is_within}
use Rattle.protocol.specs.Replica.Certificates.{view, target, taken, latest_change}
use Rattle.protocol.specs.Replica.RightReplica.{Point, HasSeen, SentBefore, HasOwnLeaf, IsPreparedList, IsPrePreparedList, TimesOut, JoinsOthers, sought_view, HistoryReaches, IsNewViewChange, kept_states}
use Rattle.protocol.specs.Replica.Owed.{SendsMessage, Counts}
use Rattle.pq_sets.specs.PqSetsView.{PqSetsData}
use Rattle.replica_histories.specs.PqSets.{FitsPqSets}
use Rattle.replica_histories.specs.Desk.{Desk, Snapshot, desk_from, snapshot_of}
use Rattle.replica_histories.specs.Logs.{FitsLog}
use Rattle.replica_histories.specs.Transfers.{TransferMayAsk, AsksNext, transfer_to, open_number}
use Rattle.replica_histories.specs.Events.{Start, after_outputs, BothFitWithinEvent, BothFitBetweenEvents, start_at}

-- ---- leaving a view

-- how a view change lists kept states: their numbers and roots, ascending
abbrev pub checkpoint_entry_of : Snapshot → CheckpointEntry
checkpoint_entry_of snapshot = record { number = snapshot.number; digest = root_of_pages snapshot.pages }

abbrev pub entries_of : List Snapshot → List CheckpointEntry
entries_of snapshots = reverse (map checkpoint_entry_of snapshots)

-- The view change is that of the history, for a view above the current one and above the views of earlier view changes.
-- It has a reason.
pub record IsChange (c : Configuration) (me : ℕ) (desk : Desk) (log : LogData) (history : List Entry)
    (vc : ViewChangeData) : Type 0 where
  pub above : log.view < vc.view
  pub newer : target history < vc.view
  pub is_view : is_number vc.view ≡ true
  pub low : vc.low ≡ log.low
  pub checkpoints : vc.checkpoints ≡ entries_of desk.snapshots
  pub prepared : IsPreparedList c me history vc.prepared
  pub pre_prepared : IsPrePreparedList c me history vc.pre_prepared
  pub reason : TimesOut c me history desk.waiting vc.view ⊎ JoinsOthers c me history vc.view

-- If a tick began the event, and a request waits or the replica was inactive, it has a reason to move to the next view.
abbrev pub TicksAreReasons : Type 0
TicksAreReasons =
    (c : Configuration) (me v : ℕ) (s : Start) (desk : Desk) (log : LogData) (due : List Message) (outputs : List Entry)
    → s.input ≡ Tick me → (desk.waiting ≢ []) ⊎ (view c s.before < target s.before) → v ≡ suc (sought_view c s.before)
    → BothFitWithinEvent c me s desk log due outputs → TimesOut c me (after_outputs s outputs) desk.waiting v

-- If the log asks for no commit, the replica may send such a view change, by a leaf of its own, and leaves its view.
abbrev pub ViewChangesFit : Type 0
ViewChangesFit =
    (c : Configuration) (me : ℕ) (s : Start) (desk : Desk) (log : LogData) (due : List Message) (outputs : List Entry)
    (vc : ViewChangeData) (bytes : List ℕ)
    → ((i : ℕ) → logs.due_commit log i ≡ None)
    → IsChange c me desk log (after_outputs s outputs) vc
    → IsOutgoing c me (ViewChange vc) [] bytes → HasOwnLeaf bytes (after_outputs s outputs)
    → BothFitWithinEvent c me s desk log due outputs
    → BothFitWithinEvent c me s desk (logs.left log) due (Sent me bytes ∷ outputs)

-- A new view change that a frame spells has the replica's own data.
abbrev pub NewChangesAreOne : Type 0
NewChangesAreOne =
    (c : Configuration) (me : ℕ) (desk : Desk) (log : LogData) (history : List Entry) (point now : Point)
    (pq_sets : PqSetsData) (sender : ℕ) (vc : ViewChangeData) (bytes : List ℕ)
    → FitsLog c me log history → HistoryReaches c me history now → ((i : ℕ) → logs.due_commit log i ≡ None)
    → map snapshot_of (kept_states log.low point.snapshots) ≡ desk.snapshots → FitsPqSets c me history pq_sets
    → IsNewViewChange c me history point vc
    → said bytes ≡ Some (record { sender = sender; message = ViewChange vc })
    → vc ≡ record {
      view = vc.view;
      low = log.low;
      checkpoints = entries_of desk.snapshots;
      prepared = pq_sets.prepared;
      pre_prepared = pq_sets.logged;
    }

-- An inactive replica may send its last view change again, if the event has not sent it.
abbrev pub ViewChangesGoAgain : Type 0
ViewChangesGoAgain =
    (c : Configuration) (me : ℕ) (s : Start) (desk : Desk) (log : LogData) (due : List Message) (outputs : List Entry)
    (vc : ViewChangeData) (bytes : List ℕ)
    → log.view < target (after_outputs s outputs) → vc.view ≡ target (after_outputs s outputs)
    → SentBefore bytes (after_outputs s outputs) → (SendsMessage me (ViewChange vc) outputs → ⊥)
    → IsOutgoing c me (ViewChange vc) [] bytes
    → BothFitWithinEvent c me s desk log due outputs → BothFitWithinEvent c me s desk log due (Sent me bytes ∷ outputs)

-- ---- beginning a view

-- the batches from a number on are logged, as far as they are within the marks
abbrev pub with_batches : LogData → ℕ → List (List ℕ) → LogData
with_batches log i [] = log
with_batches log i (batch ∷ batches) =
    with_batches (if logs.is_in_marks log i then logs.with_batch log i batch else log) (suc i) batches

-- the log when a new view begins: in its view, cut at its start, with its batches
abbrev pub entered_log : LogData → NewViewData → LogData
entered_log log new = with_batches (logs.cut_to (logs.entered log new.view) new.start) (suc new.start) new.batches

-- The fetch of the state at its start is due, if that is above the executed state and the open transfer.
abbrev pub start_due : Desk → NewViewData → List Message
start_due desk new =
    if nat_lt (open_number desk.state.number desk.transfer) new.start then Fetch new.start levels.Root 0 ∷ [] else []

-- A received new view that the replica takes begins an event.
abbrev pub NewViewsEnter : Type 0
NewViewsEnter =
    (c : Configuration) (me : ℕ) (desk : Desk) (log : LogData) (past : List Entry) (s : ℕ) (new : NewViewData)
    (bytes : List ℕ) (held : BothFitBetweenEvents c me desk log past)
    → authentic (members c me) me bytes ≡ Some (record { sender = s; message = NewView new })
    → taken c past (Got me bytes) ≡ Some new
    → BothFitWithinEvent c me (start_at c me desk log past held (Got me bytes))
    (desk_from (entered_log log new).low desk) (entered_log log new) (start_due desk new) []

-- The primary of a view may send a new view that it would take if it received it. The new view is over view changes and
-- requests that it has seen, and has a leaf of its own. Nothing is due, the log asks for no commit, and no batch is
-- committed for the next number.
abbrev pub NewViewsFit : Type 0
NewViewsFit =
    (c : Configuration) (me : ℕ) (s : Start) (desk : Desk) (log : LogData) (outputs : List Entry) (new : NewViewData)
    (bytes : List ℕ)
    → ((i : ℕ) → logs.due_commit log i ≡ None) → logs.committed_batch log (suc desk.state.number) ≡ None
    → primary c new.view ≡ me
    → taken c (after_outputs s outputs) (Sent me bytes) ≡ Some new
    → Each (λ frame. Once (HasSeen frame) (after_outputs s outputs)) (carried (NewView new))
    → IsOutgoing c me (NewView new) [] bytes → HasOwnLeaf bytes (after_outputs s outputs)
    → BothFitWithinEvent c me s desk log [] outputs
    → BothFitWithinEvent c me s (desk_from (entered_log log new).low desk) (entered_log log new) (start_due desk new)
    (Sent me bytes ∷ outputs)

-- It may send it again while it is active in its view, if the event has not sent it.
abbrev pub NewViewsGoAgain : Type 0
NewViewsGoAgain =
    (c : Configuration) (me : ℕ) (s : Start) (desk : Desk) (log : LogData) (due : List Message) (outputs : List Entry)
    (new : NewViewData) (bytes : List ℕ)
    → log.active ≡ true → new.view ≡ log.view → primary c new.view ≡ me
    → SentBefore bytes (after_outputs s outputs) → (SendsMessage me (NewView new) outputs → ⊥)
    → IsOutgoing c me (NewView new) [] bytes
    → BothFitWithinEvent c me s desk log due outputs → BothFitWithinEvent c me s desk log due (Sent me bytes ∷ outputs)

-- Then a new transfer, or the open one, moved, may fetch the state at the start.
abbrev pub StartsMayAsk : Type 0
StartsMayAsk =
    (c : Configuration) (me : ℕ) (s : Start) (desk : Desk) (log : LogData) (due : List Message) (outputs : List Entry)
    (new : NewViewData) (pages : List (List ℕ))
    → Once (λ past e. taken c past e ≡ Some new) (after_outputs s outputs)
    → open_number desk.state.number desk.transfer < new.start
    → BothFitWithinEvent c me s desk log due outputs
    → TransferMayAsk c me (transfer_to desk.transfer new.start new.root pages) desk.state.number
    (after_outputs s outputs)
    × AsksNext c me (transfer_to desk.transfer new.start new.root pages) desk.state (after_outputs s outputs)

-- ---- which messages count

-- A view change counts if it is above the current view, within its bounds, and newer than its sender's last.
abbrev pub ViewChangesCount : Type 0
ViewChangesCount =
    (c : Configuration) (me : ℕ) (log : LogData) (past : List Entry) (point : Point) (s : ℕ) (vc : ViewChangeData)
    (bytes : List ℕ)
    → FitsLog c me log past → log.view < vc.view → is_within c vc ≡ true → latest_change c past s < vc.view
    → Counts c me past point bytes s (ViewChange vc)
