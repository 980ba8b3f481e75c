-- What the replica sends again when a waiting request comes again, in words of its own data.
use Rattle.std.specs.Prelude.{◌≡◌, ℕ, ◌+◌, ◌≤◌, ◌<◌, true, false, List, Some}
use Rattle.wire_format.specs.Messages.{CheckpointEntryData as CheckpointEntry, pre_prepare as PrePrepare, prepare as Prepare, commit as Commit, checkpoint as Checkpoint}
use Rattle.ordering.specs.Log as logs
use Rattle.ordering.specs.Log.{LogData}
use Rattle.protocol.specs.System.Configuration.{Configuration}
use Rattle.protocol.specs.System.Trace.{Entry, Has, Receives}
use Rattle.protocol.specs.System.Trace.Entry.{Sent}
use Rattle.protocol.specs.Replica.State.{Call, last_time}
use Rattle.protocol.specs.Replica.RightReplica.{Point, HistoryReaches}
use Rattle.protocol.specs.Replica.Owed.{SendsMessage}
use Rattle.view_change.specs.ReceivedData.{HeldData, held_of}
use Rattle.replica_histories.specs.Desk.{Desk}
use Rattle.replica_histories.specs.Events.{BothFitBetweenEvents}
use Rattle.replica_histories.specs.Questions.{AnswersInput, ordered_from}
use Rattle.replica_histories.specs.Changes.{Changes, FitsChanges}

-- this very frame is sent
abbrev pub FrameGoes : ℕ → List ℕ → List Entry → Type 0
FrameGoes me frame outputs = Has (λ e. e ≡ Sent me frame) outputs

-- The replica sends the log's own prepare and commit of a number, and the primary's batch, if it is above those of the
-- new view.
pub record RowGoes (me : ℕ) (log : LogData) (assigned i : ℕ) (outputs : List Entry) : Type 0 where
  pub batch : (batch : List ℕ) → logs.primary log log.view ≡ me → assigned < i → logs.logged_batch log i ≡ Some batch
      → SendsMessage me (PrePrepare log.view i batch) outputs
  pub prepare : (digest : List ℕ) → logs.prepare_of log i me ≡ Some digest
      → SendsMessage me (Prepare log.view i digest) outputs
  pub commit : (digest : List ℕ) → logs.commit_of log i me ≡ Some digest
      → SendsMessage me (Commit log.view i digest) outputs

-- It does so for the numbers above the executed one, and sends its own new view and its last checkpoint.
pub record ViewGoes (me : ℕ) (log : LogData) (x : Changes) (executed : ℕ) (outputs : List Entry) : Type 0 where
  pub new_view : (frame : List ℕ) → x.new_view ≡ Some frame → FrameGoes me frame outputs
  pub rows : (i : ℕ) → executed < i → i ≤ log.low + log.span → RowGoes me log x.assigned i outputs
  pub checkpoint : (m : CheckpointEntry) → x.last_checkpoint ≡ Some m
      → SendsMessage me (Checkpoint m.number m.digest) outputs

-- An active replica does so, and an inactive one sends its own view change.
pub record AllGoes (me : ℕ) (log : LogData) (x : Changes) (executed : ℕ) (outputs : List Entry) : Type 0 where
  pub active : log.active ≡ true → ViewGoes me log x executed outputs
  pub inactive : log.active ≡ false → (own : HeldData) → held_of x.held me ≡ Some own → FrameGoes me own.frame outputs

-- ---- laws

-- If it sends all that, it owes no more to a request that comes again.
abbrev pub ResendingSuffices : Type 0
ResendingSuffices =
    (c : Configuration) (me : ℕ) (desk : Desk) (log : LogData) (past : List Entry) (input : Entry)
    (outputs : List Entry) (x : Changes) (call : Call) (executed : ℕ) (held : BothFitBetweenEvents c me desk log past)
    → FitsChanges c me log x past → Receives c me (ordered_from call) past input
    → AllGoes me log x desk.state.number outputs → AnswersInput c me past input outputs held.of_desk.point executed

-- A waiting request has a timestamp above its client's last.
abbrev pub WaitingAreNew : Type 0
WaitingAreNew =
    (c : Configuration) (me : ℕ) (history : List Entry) (point : Point) (call : Call)
    → HistoryReaches c me history point
    → Has (λ x. x ≡ call) point.waiting → last_time point.state call.client < call.timestamp
