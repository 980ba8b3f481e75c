-- How each output changes desk and log, and when the replica may emit it (Castro and Liskov, TOCS 2002, on normal-case
-- operation, garbage collection and state transfer). The log's own answers ask for outputs.
use Rattle.std.specs.Prelude.{◌≡◌, ℕ, suc, ◌%◌, ◌^◌, ◌≤◌, ◌<◌, true, List, [], ◌∷◌, ◌++◌, map, ◌==◌, if◌then◌else◌, Some, None, AllPairs}
use Rattle.terms.specs.Parties.{client_party}
use Rattle.terms.specs.declared.parties.TheConstants.{MAX_CLIENTS}
use Rattle.partition_tree.specs.Digests.{root_of as root_of_pages}
use Rattle.wire_format.specs.Messages.{MessageData as Message, CheckpointEntryData as CheckpointEntry, pre_prepare as PrePrepare, prepare as Prepare, commit as Commit, checkpoint as Checkpoint}
use Rattle.wire_format.specs.Words.{requests_of}
use Rattle.wire_format.specs.Lists.{Each}
use Rattle.reply_cache.specs.Replies.{Kept}
use Rattle.ordering.specs.declared.votes.Vote.{Vote}
use Rattle.ordering.specs.Log as logs
use Rattle.ordering.specs.Log.{LogData}
use Rattle.protocol.specs.System.Configuration.{Configuration}
use Rattle.protocol.specs.System.Frames.{IsOutgoing}
use Rattle.protocol.specs.System.Trace.{Entry, Once, Has}
use Rattle.protocol.specs.System.Trace.Entry.{Executed, Installed, Sent}
use Rattle.protocol.specs.Replica.State.{State, IsReplicatedState, Ran, last_time, execute, ran_in, root_of, pages_of}
use Rattle.protocol.specs.Replica.RightReplica.{others, IsFree, reply_of, still_waiting}
use Rattle.protocol.specs.Replica.Owed.{IsSending, SendsMessage, HasRequest, IsNumbered, AreDifferent, IsAssignedBelow}
use Rattle.state_transfer.specs.Transfer.{TransferData}
use Rattle.replica_histories.specs.Desk.{Desk, Snapshot, snapshot_of, kept_from, desk_from}
use Rattle.replica_histories.specs.Marks.{checked_log}
use Rattle.replica_histories.specs.Transfers.{RestsOnState, TransferMayAsk, still_open}
use Rattle.replica_histories.specs.Events.{Start, after_outputs, BothFitWithinEvent}

-- ---- votes

-- The prepare that the log asks for.
abbrev pub PreparesFit : Type 0
PreparesFit =
    (c : Configuration) (me : ℕ) (s : Start) (desk : Desk) (log : LogData) (due : List Message) (outputs : List Entry)
    (i : ℕ) (digest bytes : List ℕ) (vote : Vote)
    → logs.due_prepare log i ≡ Some digest → vote.sender.0 ≡ me → vote.digest ≡ digest
    → IsOutgoing c me (Prepare log.view i digest) (others c me) bytes
    → BothFitWithinEvent c me s desk log due outputs
    → BothFitWithinEvent c me s desk (logs.with_prepare log i vote) due (Sent me bytes ∷ outputs)

-- The commit that the log asks for.
abbrev pub CommitsFit : Type 0
CommitsFit =
    (c : Configuration) (me : ℕ) (s : Start) (desk : Desk) (log : LogData) (due : List Message) (outputs : List Entry)
    (i : ℕ) (digest bytes : List ℕ) (vote : Vote)
    → logs.due_commit log i ≡ Some digest → vote.sender.0 ≡ me → vote.digest ≡ digest
    → IsOutgoing c me (Commit log.view i digest) (others c me) bytes
    → BothFitWithinEvent c me s desk log due outputs
    → BothFitWithinEvent c me s desk (logs.with_commit log i vote) due (Sent me bytes ∷ outputs)

-- ---- a batch of the primary's own

-- The number is the next one of the active primary. The batch is of different stored requests, none of which has a
-- number.
pub record MayNumber (c : Configuration) (me : ℕ) (desk : Desk) (log : LogData) (history : List Entry) (i : ℕ)
    (batch : List ℕ) : Type 0 where
  pub within : logs.is_in_marks log i ≡ true
  pub active : log.active ≡ true
  pub own : logs.primary log log.view ≡ log.me
  pub free : IsFree c me history desk.state.number log.view i
  pub held : Each (λ frame. Has (λ x. x ≡ frame) desk.frames) (requests_of batch)
  pub differ : AllPairs (AreDifferent c) (requests_of batch)
  pub fresh : (client timestamp : ℕ) → HasRequest c client timestamp batch
      → IsNumbered c me history log.view client timestamp → ⊥

-- The pre-prepare of such a batch.
abbrev pub BatchesFit : Type 0
BatchesFit =
    (c : Configuration) (me : ℕ) (s : Start) (desk : Desk) (log : LogData) (due : List Message) (outputs : List Entry)
    (i : ℕ) (batch bytes : List ℕ)
    → MayNumber c me desk log (after_outputs s outputs) i batch
    → IsOutgoing c me (PrePrepare log.view i batch) (others c me) bytes
    → BothFitWithinEvent c me s desk log due outputs
    → BothFitWithinEvent c me s desk (logs.with_batch log i batch) due (Sent me bytes ∷ outputs)

-- ---- executions and replies

-- the replies to the requests that ran
abbrev pub replies_to : List Ran → List Message
replies_to ran = map (λ r. reply_of r.call.client r.kept) ran

-- the checkpoint of a state, if it is kept
abbrev pub checkpoint_due : Configuration → State → List Message
checkpoint_due c st = if st.number % c.period == 0 then Checkpoint st.number (root_of st) ∷ [] else []

-- the kept snapshots after a state
abbrev pub snapshots_behind : Configuration → State → List Snapshot → List Snapshot
snapshots_behind c st snapshots = if st.number % c.period == 0 then snapshot_of st ∷ snapshots else snapshots

-- the desk after an execution, with these frames still stored; a transfer that the execution reaches is closed
abbrev pub executed_desk : Configuration → Desk → List ℕ → List (List ℕ) → Desk
executed_desk c desk batch frames = record {
  state = execute c desk.state batch;
  snapshots = snapshots_behind c (execute c desk.state batch) desk.snapshots;
  waiting = still_waiting (execute c desk.state batch) desk.waiting;
  frames = frames;
  transfer = still_open (execute c desk.state batch).number desk.transfer;
}

-- The replica may execute the batch that the log has committed for the next number, once nothing is due. Then the
-- replies are due, and the checkpoint of the new state. A state has a place for each client's reply, so no request runs
-- twice.
abbrev pub ExecutesFit : Type 0
ExecutesFit =
    (c : Configuration) (me : ℕ) (s : Start) (desk : Desk) (log : LogData) (outputs : List Entry)
    (batch : List ℕ) (frames : List (List ℕ))
    → IsReplicatedState desk.state → c.clients ≤ MAX_CLIENTS
    → logs.committed_batch log (suc desk.state.number) ≡ Some batch
    → ((frame : List ℕ) → Has (λ x. x ≡ frame) frames → Has (λ x. x ≡ frame) desk.frames)
    → BothFitWithinEvent c me s desk log [] outputs
    → BothFitWithinEvent c me s (executed_desk c desk batch frames) log
    (replies_to (ran_in c (suc desk.state.number) desk.state (requests_of batch))
    ++ checkpoint_due c (execute c desk.state batch))
    (Executed me (suc desk.state.number) batch ∷ outputs)

-- The replica may send the first due reply.
abbrev pub RepliesFit : Type 0
RepliesFit =
    (c : Configuration) (me : ℕ) (s : Start) (desk : Desk) (log : LogData) (rest : List Message) (outputs : List Entry)
    (k : ℕ) (kept : Kept) (bytes : List ℕ)
    → IsOutgoing c me (reply_of k kept) (client_party k ∷ []) bytes
    → BothFitWithinEvent c me s desk log (reply_of k kept ∷ rest) outputs
    → BothFitWithinEvent c me s desk log rest (Sent me bytes ∷ outputs)

-- ---- checkpoints

-- The replica may send the checkpoint that is the first due message, if the log asks for no vote. The log counts it,
-- and is cut if that makes it stable; the snapshots below the low mark are dropped.
abbrev pub CheckpointsFit : Type 0
CheckpointsFit =
    (c : Configuration) (me : ℕ) (s : Start) (desk : Desk) (log : LogData) (rest : List Message) (outputs : List Entry)
    (entry : CheckpointEntry) (bytes : List ℕ)
    → ((i : ℕ) → logs.due_prepare log i ≡ None) → ((i : ℕ) → logs.due_commit log i ≡ None)
    → IsOutgoing c me (Checkpoint entry.number entry.digest) (others c me) bytes
    → BothFitWithinEvent c me s desk log (Checkpoint entry.number entry.digest ∷ rest) outputs
    → BothFitWithinEvent c me s (desk_from (checked_log log me entry).low desk) (checked_log log me entry) rest
    (Sent me bytes ∷ outputs)

-- ---- installations

-- the desk after an installation, with these frames still stored; no transfer is open any more
abbrev pub installed_desk : Desk → State → List (List ℕ) → Desk
installed_desk desk st frames = record {
  state = st;
  snapshots = kept_from st.number (snapshot_of st ∷ desk.snapshots);
  waiting = still_waiting st desk.waiting;
  frames = frames;
  transfer = None;
}

-- The replica may install the state of a transfer's pages under these conditions: the transfer may ask, the pages have
-- the wanted root, nothing is due, and the log asks for no vote. No client's last timestamp falls. The log is cut at
-- the state's number.
abbrev pub InstallationsFit : Type 0
InstallationsFit =
    (c : Configuration) (me : ℕ) (s : Start) (desk : Desk) (log : LogData) (outputs : List Entry) (t : TransferData)
    (st : State) (frames : List (List ℕ))
    → TransferMayAsk c me t desk.state.number (after_outputs s outputs) → RestsOnState t desk.state
    → root_of_pages t.held ≡ t.root
    → IsReplicatedState st → st.number ≡ t.number → pages_of st ≡ t.held → t.number < 2 ^ 48
    → ((client : ℕ) → last_time desk.state client ≤ last_time st client)
    → ((i : ℕ) → logs.due_prepare log i ≡ None)
    → ((i : ℕ) → logs.due_commit log i ≡ None)
    → ((frame : List ℕ) → Has (λ x. x ≡ frame) frames → Has (λ x. x ≡ frame) desk.frames)
    → BothFitWithinEvent c me s desk log [] outputs
    → BothFitWithinEvent c me s (installed_desk desk st frames) (logs.cut_to log t.number) []
    (Installed me t.number t.root ∷ outputs)

-- ---- what the replica sends again

-- An active replica may send again its own prepare of a number, its own commit, and its own batch, which no new view
-- assigned. It may always send again a checkpoint that it sent. The event has not sent the message. None of these
-- changes anything.
abbrev pub PreparesGoAgain : Type 0
PreparesGoAgain =
    (c : Configuration) (me : ℕ) (s : Start) (desk : Desk) (log : LogData) (due : List Message) (outputs : List Entry)
    (i : ℕ) (digest bytes : List ℕ)
    → log.active ≡ true → logs.prepare_of log i me ≡ Some digest
    → (SendsMessage me (Prepare log.view i digest) outputs → ⊥)
    → IsOutgoing c me (Prepare log.view i digest) (others c me) bytes
    → BothFitWithinEvent c me s desk log due outputs → BothFitWithinEvent c me s desk log due (Sent me bytes ∷ outputs)

abbrev pub CommitsGoAgain : Type 0
CommitsGoAgain =
    (c : Configuration) (me : ℕ) (s : Start) (desk : Desk) (log : LogData) (due : List Message) (outputs : List Entry)
    (i : ℕ) (digest bytes : List ℕ)
    → log.active ≡ true → logs.commit_of log i me ≡ Some digest
    → (SendsMessage me (Commit log.view i digest) outputs → ⊥)
    → IsOutgoing c me (Commit log.view i digest) (others c me) bytes
    → BothFitWithinEvent c me s desk log due outputs → BothFitWithinEvent c me s desk log due (Sent me bytes ∷ outputs)

abbrev pub BatchesGoAgain : Type 0
BatchesGoAgain =
    (c : Configuration) (me : ℕ) (s : Start) (desk : Desk) (log : LogData) (due : List Message) (outputs : List Entry)
    (i : ℕ) (batch bytes : List ℕ)
    → log.active ≡ true → logs.primary log log.view ≡ me → logs.logged_batch log i ≡ Some batch
    → IsAssignedBelow c log.view i (after_outputs s outputs)
    → (SendsMessage me (PrePrepare log.view i batch) outputs → ⊥)
    → IsOutgoing c me (PrePrepare log.view i batch) (others c me) bytes
    → BothFitWithinEvent c me s desk log due outputs → BothFitWithinEvent c me s desk log due (Sent me bytes ∷ outputs)

abbrev pub CheckpointsGoAgain : Type 0
CheckpointsGoAgain =
    (c : Configuration) (me : ℕ) (s : Start) (desk : Desk) (log : LogData) (outputs : List Entry)
    (k : ℕ) (root bytes : List ℕ)
    → Once (λ earlier e. IsSending me (Checkpoint k root) e) (after_outputs s outputs)
    → (SendsMessage me (Checkpoint k root) outputs → ⊥)
    → IsOutgoing c me (Checkpoint k root) (others c me) bytes
    → BothFitWithinEvent c me s desk log [] outputs → BothFitWithinEvent c me s desk log [] (Sent me bytes ∷ outputs)
