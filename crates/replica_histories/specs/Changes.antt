-- A replica's view-change data, and how entries change them (Castro and Liskov, TOCS 2002, on view changes).
use Rattle.std.specs.Prelude.{◌≡◌, ◌≢◌, ℕ, suc, ◌+◌, ◌≤◌, ◌<◌, ◌⊎◌, true, false, List, [], ◌∷◌, length, replicate, if◌then◌else◌, Option, Some, None, ⊤}
use Rattle.std.specs.Option.{ForSome}
use Rattle.wire_format.specs.Messages.{BodyData as Body, MessageData as Message, BatchEntryData as PqEntry, ViewChangeData, NewViewData, CheckpointEntryData as CheckpointEntry, pre_prepare as PrePrepare, commit as Commit, checkpoint as Checkpoint, view_change as ViewChange, new_view as NewView}
use Rattle.wire_format.specs.Spelling.{is_signed}
use Rattle.wire_format.specs.Words.{said}
use Rattle.wire_format.specs.Lists.{Each}
use Rattle.signing.specs.AuthenticBody.{authentic}
use Rattle.ordering.specs.Log as logs
use Rattle.ordering.specs.Log.{LogData}
use Rattle.protocol.specs.System.Configuration.{Configuration, primary, replicas, is_number, members, span}
use Rattle.protocol.specs.System.Frames.{IsOutgoing, leaf_of}
use Rattle.protocol.specs.System.Trace.{Entry, Once}
use Rattle.protocol.specs.System.Trace.Entry.{Got, Sent, Executed, Installed, Tick}
use Rattle.protocol.specs.Replica.Selection.{signed_change}
use Rattle.protocol.specs.Replica.Certificates.{brought, view, target, taken, logged, commit_of, latest_change}
use Rattle.protocol.specs.Replica.RightReplica.{Point, HistoryReaches, SendsBytes, SentBefore, HasOwnLeaf, MayCheckpoint}
use Rattle.protocol.specs.Replica.Owed.{AreKeysSpent, latest_checkpoint}
use Rattle.pq_sets.specs.PqSetsView.{PqSetsData, empty_pq_sets, pq_entry_of, IsAmongTexts}
use Rattle.pq_sets.specs.Recording.{with_prepared, with_logged, with_all, above_mark}
use Rattle.view_change.specs.ReceivedData.{HeldData, held_of, view_change_refusal, with_held}
use Rattle.replica_histories.specs.Desk.{Desk}
use Rattle.replica_histories.specs.Logs.{FitsLog}
use Rattle.replica_histories.specs.Events.{Start, after_outputs, BothFitWithinEvent, BothFitBetweenEvents, start_at}
use Rattle.replica_histories.specs.PqSets.{FitsPqSets}
use Rattle.replica_histories.specs.Received.{FitsReceived}
use Rattle.replica_histories.specs.Views.{entered_log}

-- target: the greatest view that the replica sent a view change for. assigned: the greatest number that the current
-- view's new view assigned, 0 if there is none. new_view: the frame of that new view, if the replica made it. pq_sets:
-- the sets P and Q. held: the stored view changes, one place for each replica. Then the last checkpoint that the
-- replica sent, and the number of leaves that have signed.
pub record Changes : Type 0 where
  pub target : ℕ
  pub assigned : ℕ
  pub new_view : Option (List ℕ)
  pub pq_sets : PqSetsData
  pub held : List (Option HeldData)
  pub last_checkpoint : Option CheckpointEntry
  pub spent : ℕ

abbrev pub first_changes : Configuration → Changes
first_changes c = record {
  target = 0;
  assigned = 0;
  new_view = None;
  pq_sets = empty_pq_sets;
  held = replicate (replicas c) None;
  last_checkpoint = None;
  spent = 0;
}

-- ---- leaves

-- each leaf that signed a sent frame is below the number
abbrev pub AreLeavesBelow : ℕ → List Entry → Type 0
AreLeavesBelow spent history =
    (sent : List ℕ) (leaf : ℕ) → leaf_of sent ≡ Some leaf → SentBefore sent history → leaf < spent

-- and each leaf below the number signed a sent frame
abbrev pub AreLeavesSent : ℕ → List Entry → Type 0
AreLeavesSent spent history =
    (leaf : ℕ) → leaf < spent → (sent : List ℕ) × (leaf_of sent ≡ Some leaf) × SentBefore sent history

-- The number of spent leaves after the entry: it does not fall, it is above the leaf of each frame that the entry
-- sends, and every new leaf signed such a frame.
abbrev pub SpendsLeaves : ℕ → ℕ → List Entry → Entry → Type 0
SpendsLeaves old new past e =
    (old ≤ new) × ((sent : List ℕ) (leaf : ℕ) → leaf_of sent ≡ Some leaf → SendsBytes sent past e → leaf < new)
    × ((leaf : ℕ) → leaf < new
    → (leaf < old) ⊎ ((sent : List ℕ) × (leaf_of sent ≡ Some leaf) × SendsBytes sent past e))

-- ---- data that fit

-- the replica's own view change is stored, was sent in its frame, and is for the target
pub record HasOwnChange (c : Configuration) (me : ℕ) (x : Changes) (history : List Entry) : Type 0 where
  pub own : HeldData
  pub held : held_of x.held me ≡ Some own
  pub view : own.change.view ≡ x.target
  pub sent : SentBefore own.frame history
  pub is_outgoing : IsOutgoing c me (ViewChange own.change) [] own.frame

-- the replica sent this frame of its own new view of the view
pub record IsOwnView (c : Configuration) (me v : ℕ) (history : List Entry) (frame : List ℕ) : Type 0 where
  pub new : NewViewData
  pub view : new.view ≡ v
  pub primary : primary c new.view ≡ me
  pub sent : SentBefore frame history
  pub is_outgoing : IsOutgoing c me (NewView new) [] frame

-- a new view began the view, with batches up to the number
abbrev pub IsAssignedUpTo : Configuration → ℕ → ℕ → List Entry → Type 0
IsAssignedUpTo c v i history =
    (new : NewViewData) × Once (λ past e. taken c past e ≡ Some new) history × (new.view ≡ v)
    × (i ≡ new.start + length new.batches)

-- The data are those of the history: the target; P and Q; the view changes of others; how far the new view of the
-- log's view goes; the latest checkpoint; and the number of spent leaves. An inactive replica has its own view change,
-- which is never for a view above the target. The primary of a view that a new view began has that new view.
pub record FitsChanges (c : Configuration) (me : ℕ) (log : LogData) (x : Changes) (history : List Entry) : Type 0 where
  pub target : target history ≡ x.target
  pub pq_sets : FitsPqSets c me history x.pq_sets
  pub received : FitsReceived c me history x.held
  pub places : length x.held ≡ replicas c
  pub assigned : (new : NewViewData) → Once (λ past e. taken c past e ≡ Some new) history → new.view ≡ log.view
      → new.start + length new.batches ≤ x.assigned
  pub assigned_by : (x.assigned ≡ 0) ⊎ IsAssignedUpTo c log.view x.assigned history
  pub own_change : log.active ≡ false → HasOwnChange c me x history
  pub own_latest : (own : HeldData) → held_of x.held me ≡ Some own → own.change.view ≤ x.target
  pub own_view : ForSome x.new_view (IsOwnView c me log.view history)
  pub own_begins : primary c log.view ≡ me → (log.view ≡ 0) ⊎ ((frame : List ℕ) × (x.new_view ≡ Some frame))
  pub latest : latest_checkpoint c me history ≡ x.last_checkpoint
  pub leaves : AreLeavesBelow x.spent history
  pub signed : AreLeavesSent x.spent history

-- ---- one entry more

-- The logs fit the histories before and after the entry, and the replica came to both.
pub record LogPassesEntry (c : Configuration) (me : ℕ) (past : List Entry) (e : Entry) (log after : LogData) : Type 0
  where
    pub old : Point
    pub new : Point
    pub leaves : HistoryReaches c me past old
    pub goes : HistoryReaches c me (e ∷ past) new
    pub fits : FitsLog c me log past
    pub fits_behind : FitsLog c me after (e ∷ past)

-- The same at each output of an event, and at its input.
abbrev pub OutputsPass : Type 0
OutputsPass =
    (c : Configuration) (me : ℕ) (s : Start) (desk later : Desk) (log after : LogData) (due rest : List Message)
    (outputs : List Entry) (e : Entry)
    → BothFitWithinEvent c me s desk log due outputs → BothFitWithinEvent c me s later after rest (e ∷ outputs)
    → LogPassesEntry c me (after_outputs s outputs) e log after

abbrev pub InputsEnter : Type 0
InputsEnter =
    (c : Configuration) (me : ℕ) (desk later : Desk) (log after : LogData) (due : List Message) (past : List Entry)
    (input : Entry) (held : BothFitBetweenEvents c me desk log past)
    → BothFitWithinEvent c me (start_at c me desk log past held input) later after due []
    → LogPassesEntry c me past input log after

-- the log is in the same view, and active or inactive as before
pub record IsSameView (old new : LogData) : Type 0 where
  pub view : new.view ≡ old.view
  pub active : new.active ≡ old.active

-- ---- entries that change nothing

-- The entry takes no view, sends no later view change, logs nothing, and is no new own commit. It brings no newer view
-- change of others. A signed frame that it sends was sent before.
pub record KeepsViews (c : Configuration) (me : ℕ) (past : List Entry) (e : Entry) : Type 0 where
  pub none : taken c past e ≡ None
  pub target : target (e ∷ past) ≡ target past
  pub logged : (v i : ℕ) → logged c me (e ∷ past) v i ≡ logged c me past v i
  pub commits : (v i : ℕ) → commit_of c me (e ∷ past) v i me ≡ commit_of c me past v i me
  pub changes : (s : ℕ) → s ≢ me → latest_change c (e ∷ past) s ≡ latest_change c past s
  pub leaves : (sent : List ℕ) (leaf : ℕ) → leaf_of sent ≡ Some leaf → SendsBytes sent past e → SentBefore sent past

-- And the replica's latest checkpoint stays.
pub record KeepsChanges (c : Configuration) (me : ℕ) (past : List Entry) (e : Entry) : Type 0 where
  pub views : KeepsViews c me past e
  pub checkpoint : latest_checkpoint c me (e ∷ past) ≡ latest_checkpoint c me past

-- a sent message says nothing new for view changes
abbrev pub IsNoNews : Configuration → ℕ → List Entry → Message → Type 0
IsNoNews c me past message = elim message [
  | PrePrepare v i batch ↦ (text : List ℕ) × (logged c me past v i ≡ Some text)
  | Commit v i digest ↦ (other : List ℕ) × (commit_of c me past v i me ≡ Some other)
  | Checkpoint k root ↦ latest_checkpoint c me past ≡ Some (record { number = k; digest = root })
  | ViewChange vc ↦ vc.view ≤ target past
  | NewView new ↦ new.view ≤ view c past
  | _ ↦ ⊤
]

abbrev pub SentKeep : Type 0
SentKeep =
    (c : Configuration) (me : ℕ) (past : List Entry) (message : Message) (bytes : List ℕ)
    → said bytes ≡ Some (record { sender = me; message = message }) → IsNoNews c me past message
    → (is_signed message ≡ true → SentBefore bytes past)
    → KeepsChanges c me past (Sent me bytes)

-- an execution, an installation or a tick
abbrev pub IsSilent : Entry → Type 0
IsSilent e = elim e [ Executed p k batch ↦ ⊤ | Installed p k root ↦ ⊤ | Tick p ↦ ⊤ | _ ↦ ⊥ ]

abbrev pub SilentKeep : Type 0
SilentKeep = (c : Configuration) (me : ℕ) (past : List Entry) (e : Entry) → IsSilent e → KeepsChanges c me past e

-- Received bytes keep the data if the log takes no batch of them and they bring no view change.
abbrev pub GotKeep : Type 0
GotKeep =
    (c : Configuration) (me : ℕ) (past : List Entry) (bytes : List ℕ) (log after : LogData)
    → LogPassesEntry c me past (Got me bytes) log after → IsSameView log after → taken c past (Got me bytes) ≡ None
    → ((i : ℕ) → logs.is_in_marks log i ≡ true → logs.logged_batch after i ≡ logs.logged_batch log i)
    → ((s : ℕ) → s ≢ me → latest_change c (Got me bytes ∷ past) s ≡ latest_change c past s)
    → KeepsChanges c me past (Got me bytes)

-- The same of received bytes that are no pre-prepare, wherever the marks move.
abbrev pub IsNoBatch : Option Body → Type 0
IsNoBatch None = ⊤
IsNoBatch (Some body) = elim body.message [ PrePrepare v i batch ↦ ⊥ | _ ↦ ⊤ ]

abbrev pub ReceivedKeep : Type 0
ReceivedKeep =
    (c : Configuration) (me : ℕ) (past : List Entry) (bytes : List ℕ)
    → taken c past (Got me bytes) ≡ None → IsNoBatch (authentic (members c me) me bytes)
    → ((s : ℕ) → s ≢ me → latest_change c (Got me bytes ∷ past) s ≡ latest_change c past s)
    → KeepsChanges c me past (Got me bytes)

-- Bytes that are no view change bring none.
abbrev pub IsNoChange : Option Body → Type 0
IsNoChange None = ⊤
IsNoChange (Some body) = elim body.message [ ViewChange vc ↦ ⊥ | _ ↦ ⊤ ]

abbrev pub OthersBringNone : Type 0
OthersBringNone =
    (c : Configuration) (me s : ℕ) (past : List Entry) (bytes : List ℕ)
    → IsNoChange (authentic (members c me) me bytes) → s ≢ me
    → latest_change c (Got me bytes ∷ past) s ≡ latest_change c past s

-- The sender of a received view change signed it, and is another replica. The replica signs its own ones.
abbrev pub ReceivedAreSigned : Type 0
ReceivedAreSigned =
    (c : Configuration) (me s : ℕ) (vc : ViewChangeData) (bytes : List ℕ)
    → authentic (members c me) me bytes ≡ Some (record { sender = s; message = ViewChange vc })
    → (signed_change c bytes ≡ Some (s, vc)) × (s ≢ me) × (s < replicas c)

abbrev pub OwnAreSigned : Type 0
OwnAreSigned =
    (c : Configuration) (me : ℕ) (vc : ViewChangeData) (bytes : List ℕ)
    → me < replicas c → IsOutgoing c me (ViewChange vc) [] bytes → signed_change c bytes ≡ Some (me, vc)

-- ---- the sets P and Q

-- the entries above the low mark
pub record CutsPqSets (low : ℕ) (old new : PqSetsData) : Type 0 where
  pub prepared : new.prepared ≡ above_mark low old.prepared
  pub logged : new.logged ≡ above_mark low old.logged
  pub texts : Each (IsAmongTexts old.texts) new.texts

-- one more logged batch
pub record AddsLogged (number view : ℕ) (text : List ℕ) (old new : PqSetsData) : Type 0 where
  pub prepared : new.prepared ≡ old.prepared
  pub logged : new.logged ≡ with_logged (pq_entry_of number view text) old.logged
  pub texts : Each (IsAmongTexts (text ∷ old.texts)) new.texts

-- the entries of batches from a number on, as far as they are within the log's marks
abbrev pub pq_entries_from : LogData → ℕ → ℕ → List (List ℕ) → List PqEntry
pq_entries_from log view i [] = []
pq_entries_from log view i (batch ∷ batches) =
    if logs.is_in_marks log i then pq_entry_of i view batch ∷ pq_entries_from log view (suc i) batches else
    pq_entries_from log view (suc i) batches

-- and their texts
abbrev pub texts_in_marks : LogData → ℕ → List (List ℕ) → List (List ℕ)
texts_in_marks log i [] = []
texts_in_marks log i (batch ∷ batches) =
    if logs.is_in_marks log i then batch ∷ texts_in_marks log (suc i) batches else texts_in_marks log (suc i) batches

-- Q with these batches
pub record AddsBatches (log : LogData) (view first : ℕ) (batches : List (List ℕ)) (old new : PqSetsData) : Type 0 where
  pub prepared : new.prepared ≡ old.prepared
  pub logged : new.logged ≡ with_all with_logged (pq_entries_from log view first batches) old.logged
  pub texts : Each (λ text. IsAmongTexts old.texts text
      ⊎ IsAmongTexts (texts_in_marks log first batches) text) new.texts

-- P and Q when a new view begins: the entries above the new low mark, and its batches
pub record BeginsPqSets (log : LogData) (new : NewViewData) (old after : PqSetsData) : Type 0 where
  pub mid : PqSetsData
  pub cuts : CutsPqSets (logs.cut_to (logs.entered log new.view) new.start).low old mid
  pub adds : AddsBatches (logs.cut_to (logs.entered log new.view) new.start) new.view (suc new.start) new.batches mid
      after

-- All entries of P and Q that fit are above the low mark.
abbrev pub PqSetsAreAbove : Type 0
PqSetsAreAbove =
    (c : Configuration) (me : ℕ) (log : LogData) (history : List Entry) (pq_sets : PqSetsData)
    → FitsLog c me log history → FitsPqSets c me history pq_sets → CutsPqSets log.low pq_sets pq_sets

-- ---- laws

abbrev pub ChangesBegin : Type 0
ChangesBegin =
    (c : Configuration) (me : ℕ) → FitsChanges c me (logs.new_log me c.faults (span c)) (first_changes c) []

-- An entry that changes nothing leaves the data. If the low mark moves, the entries up to it are dropped.
abbrev pub ChangesStay : Type 0
ChangesStay =
    (c : Configuration) (me : ℕ) (past : List Entry) (e : Entry) (log after : LogData) (x : Changes)
    (pq_sets : PqSetsData)
    → LogPassesEntry c me past e log after → IsSameView log after → KeepsChanges c me past e
    → CutsPqSets after.low x.pq_sets pq_sets → FitsChanges c me log x past
    → FitsChanges c me after (record x { pq_sets = pq_sets }) (e ∷ past)

-- If the replica sends a checkpoint that is its latest then, the data note it.
abbrev pub CheckpointsAreNoted : Type 0
CheckpointsAreNoted =
    (c : Configuration) (me : ℕ) (past : List Entry) (log after : LogData) (x : Changes) (pq_sets : PqSetsData)
    (entry : CheckpointEntry) (bytes : List ℕ)
    → LogPassesEntry c me past (Sent me bytes) log after → IsSameView log after
    → said bytes ≡ Some (record { sender = me; message = Checkpoint entry.number entry.digest })
    → latest_checkpoint c me (Sent me bytes ∷ past) ≡ Some entry
    → CutsPqSets after.low x.pq_sets pq_sets → FitsChanges c me log x past
    → FitsChanges c me after (record x { pq_sets = pq_sets; last_checkpoint = Some entry }) (Sent me bytes ∷ past)

-- The checkpoint of the executed state is the latest once the replica sends it.
abbrev pub CheckpointsAreLatest : Type 0
CheckpointsAreLatest =
    (c : Configuration) (me : ℕ) (past : List Entry) (point : Point) (entry : CheckpointEntry) (bytes : List ℕ)
    → HistoryReaches c me past point → MayCheckpoint c past point entry.number entry.digest
    → entry.number ≡ point.state.number → is_number entry.number ≡ true
    → said bytes ≡ Some (record { sender = me; message = Checkpoint entry.number entry.digest })
    → latest_checkpoint c me (Sent me bytes ∷ past) ≡ Some entry

-- The batch whose commit the log asks for enters P.
abbrev pub CommitsEnterP : Type 0
CommitsEnterP =
    (c : Configuration) (me : ℕ) (past : List Entry) (log after : LogData) (x : Changes) (i : ℕ) (digest bytes : List ℕ)
    → LogPassesEntry c me past (Sent me bytes) log after → IsSameView log after → after.low ≡ log.low
    → logs.due_commit log i ≡ Some digest
    → said bytes ≡ Some (record { sender = me; message = Commit log.view i digest })
    → FitsChanges c me log x past
    → FitsChanges c me after (record x {
      pq_sets = record x.pq_sets {
        prepared = with_prepared (record { number = i; digest = digest; view = log.view }) x.pq_sets.prepared;
      };
    }) (Sent me bytes ∷ past)

-- The batch of a sent or taken pre-prepare enters Q.
abbrev pub BatchesEnterQ : Type 0
BatchesEnterQ =
    (c : Configuration) (me : ℕ) (past : List Entry) (e : Entry) (log : LogData) (x : Changes) (pq_sets : PqSetsData)
    (s i : ℕ) (text : List ℕ)
    → LogPassesEntry c me past e log (logs.with_batch log i text) → logs.is_in_marks log i ≡ true
    → logs.logged_batch log i ≡ None
    → brought c e ≡ Some (record { sender = s; message = PrePrepare log.view i text })
    → AddsLogged i log.view text x.pq_sets pq_sets → FitsChanges c me log x past
    → FitsChanges c me (logs.with_batch log i text) (record x { pq_sets = pq_sets }) (e ∷ past)

-- The replica stores its own view change once it sends it.
abbrev pub ChangesAreSent : Type 0
ChangesAreSent =
    (c : Configuration) (me spent : ℕ) (past : List Entry) (log : LogData) (x : Changes) (own : HeldData)
    → LogPassesEntry c me past (Sent me own.frame) log (logs.left log) → me < replicas c → own.sender ≡ me
    → IsOutgoing c me (ViewChange own.change) [] own.frame → target past < own.change.view
    → SpendsLeaves x.spent spent past (Sent me own.frame) → FitsChanges c me log x past
    → FitsChanges c me (logs.left log)
    (record x { target = own.change.view; held = with_held own x.held; spent = spent }) (Sent me own.frame ∷ past)

-- It stores another's view change that it takes.
abbrev pub ChangesAreTaken : Type 0
ChangesAreTaken =
    (c : Configuration) (me : ℕ) (past : List Entry) (log : LogData) (x : Changes) (s : ℕ) (vc : ViewChangeData)
    (bytes : List ℕ)
    → LogPassesEntry c me past (Got me bytes) log log
    → authentic (members c me) me bytes ≡ Some (record { sender = s; message = ViewChange vc })
    → view_change_refusal c log.view x.held (s, vc) ≡ None → FitsChanges c me log x past
    → FitsChanges c me log (record x {
      held = with_held (record { sender = s; change = vc; frame = bytes }) x.held;
    }) (Got me bytes ∷ past)

-- the frame of the new view, if the replica made it; else the view is another primary's
abbrev pub IsOwnFrame : Configuration → ℕ → Entry → NewViewData → Option (List ℕ) → Type 0
IsOwnFrame c me e new None = primary c new.view ≢ me
IsOwnFrame c me e new (Some frame) =
    (e ≡ Sent me frame) × (primary c new.view ≡ me) × IsOutgoing c me (NewView new) [] frame

-- A new view that the replica takes or sends begins its view.
abbrev pub ChangesFollowNewViews : Type 0
ChangesFollowNewViews =
    (c : Configuration) (me : ℕ) (past : List Entry) (e : Entry) (log : LogData) (x : Changes) (new : NewViewData)
    (frame : Option (List ℕ)) (pq_sets : PqSetsData) (s spent : ℕ)
    → LogPassesEntry c me past e log (entered_log log new) → taken c past e ≡ Some new
    → brought c e ≡ Some (record { sender = s; message = NewView new })
    → BeginsPqSets log new x.pq_sets pq_sets → IsOwnFrame c me e new frame → SpendsLeaves x.spent spent past e
    → FitsChanges c me log x past
    → FitsChanges c me (entered_log log new)
    (record x { assigned = new.start + length new.batches; new_view = frame; pq_sets = pq_sets; spent = spent })
    (e ∷ past)

-- If 64 leaves are spent, the keys are spent.
abbrev pub AllAreSpent : Type 0
AllAreSpent =
    (c : Configuration) (me : ℕ) (log : LogData) (x : Changes) (history : List Entry) → x.spent ≡ 64
    → FitsChanges c me log x history → AreKeysSpent history

-- A frame by the next leaf has a leaf of its own.
abbrev pub NextLeafIsOwn : Type 0
NextLeafIsOwn =
    (bytes : List ℕ) (spent : ℕ) (history : List Entry) → leaf_of bytes ≡ Some spent → AreLeavesBelow spent history
    → HasOwnLeaf bytes history
