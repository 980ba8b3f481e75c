-- How an input changes a replica's desk and log, and which messages count (Castro and Liskov, TOCS 2002, on normal-case
-- operation). The log's faults decide which ordering messages it takes.
use Rattle.std.specs.Prelude.{◌≡◌, ℕ, ◌+◌, ◌*◌, ◌<◌, ◌⊎◌, true, false, ◌&&◌, List, [], ◌∷◌, nat_le, nat_lt, ◌==◌, if◌then◌else◌, Option, Some, None, is_some, ⊤}
use Rattle.std.specs.Option.{option_map_or}
use Rattle.terms.specs.declared.parties.TheConstants.{FIRST_CLIENT}
use Rattle.terms.specs.Parties.{client_number, client_party}
use Rattle.tuple_codec.specs.Operations.{Operation}
use Rattle.terms.specs.declared.order.Mode.{Mode}
use Rattle.terms.specs.declared.order.Mode.TheVariants as modes
use Rattle.terms.specs.declared.state.Level.TheVariants as levels
use Rattle.wire_format.specs.Messages.{BodyData as Body, MessageData as Message, request as Request, CheckpointEntryData as CheckpointEntry, pre_prepare as PrePrepare, prepare as Prepare, commit as Commit, checkpoint as Checkpoint, fetch as Fetch}
use Rattle.signing.specs.AuthenticBody.{authentic}
use Rattle.reply_cache.specs.Replies.{Kept}
use Rattle.ordering.specs.declared.votes.Vote.{Vote}
use Rattle.state_transfer.specs.Transfer.{TransferData}
use Rattle.ordering.specs.declared.dropped.Dropped.{Dropped}
use Rattle.ordering.specs.Log as logs
use Rattle.ordering.specs.Log.{LogData}
use Rattle.ordering.specs.Checkpoints.{lists_checkpoint}
use Rattle.ordering.specs.Taking.{preprepare_fault, prepare_fault, commit_fault, checkpoint_fault}
use Rattle.protocol.specs.System.Configuration.{Configuration, members}
use Rattle.protocol.specs.System.Trace.{Entry, Has}
use Rattle.protocol.specs.System.Trace.Entry.{Got, Tick}
use Rattle.protocol.specs.Replica.Certificates.{taken, are_genuine}
use Rattle.protocol.specs.Replica.State.{State, kept_of, last_time}
use Rattle.protocol.specs.Replica.RightReplica.{Point, reply_of, waiting_after}
use Rattle.protocol.specs.Replica.Owed.{IsNoOlder, Counts}
use Rattle.replica_histories.specs.Desk.{Desk, point_of, desk_from}
use Rattle.replica_histories.specs.Logs.{FitsLog, LogTakesBody}
use Rattle.replica_histories.specs.Marks.{checked_log}
use Rattle.replica_histories.specs.Transfers.{open_number}
use Rattle.replica_histories.specs.Questions.{AnswersInput}
use Rattle.replica_histories.specs.Events.{BothFitWithinEvent, LeavesNoView, BothFitBetweenEvents, start_at}

-- ---- what a request asks for

-- the kept reply, if it has this timestamp
abbrev pub again_for : ℕ → ℕ → Option Kept → List Message
again_for k timestamp kept = option_map_or (λ x. if x.timestamp == timestamp then reply_of k x ∷ [] else []) kept []

abbrev pub asked_in : State → ℕ → ℕ → Mode → List Message
asked_in st sender timestamp modes.Ordered =
    if nat_le FIRST_CLIENT sender then again_for (client_number sender) timestamp
    (kept_of st (client_number sender)) else []
asked_in st sender timestamp modes.ReadOnly = []

-- the messages due at once after a received one: an ordered request of its client's last timestamp gets the kept reply
-- again
abbrev pub asked_by : State → Body → List Message
asked_by st body = elim body.message [ Request timestamp mode op ↦ asked_in st body.sender timestamp mode | _ ↦ [] ]

abbrev pub replies_again : State → Option Body → List Message
replies_again st said = option_map_or (asked_by st) said []

-- ---- an event begins

-- How received bytes change desk and log, and which messages are due at once.
pub record BytesEnter (c : Configuration) (me : ℕ) (bytes : List ℕ) (desk new : Desk) (log after : LogData)
    (due : List Message) : Type 0 where
  pub takes : LogTakesBody c me (authentic (members c me) me bytes) log after
  pub state : new.state ≡ desk.state
  pub snapshots : new.snapshots ≡ desk.snapshots
  pub waiting : new.waiting ≡ waiting_after c me (point_of desk [] []) bytes
  pub transfer : new.transfer ≡ desk.transfer
  pub frames : (frame : List ℕ) → Has (λ x. x ≡ frame) new.frames
      → Has (λ x. x ≡ frame) desk.frames ⊎ ((frame ≡ bytes) × (is_some (authentic (members c me) me bytes) ≡ true))
  pub due_is : due ≡ replies_again desk.state (authentic (members c me) me bytes)

-- Received bytes begin an event, if they bring no new view and move no mark.
abbrev pub InputsFit : Type 0
InputsFit =
    (c : Configuration) (me : ℕ) (desk new : Desk) (log after : LogData) (due : List Message) (past : List Entry)
    (bytes : List ℕ) (held : BothFitBetweenEvents c me desk log past)
    → taken c past (Got me bytes) ≡ None → BytesEnter c me bytes desk new log after due
    → BothFitWithinEvent c me (start_at c me desk log past held (Got me bytes)) new after due []

-- A fetch is due if a quorum without the replica itself has sent the checkpoint, and its number is above the executed
-- state and the open transfer.
abbrev pub fetch_due : Desk → LogData → CheckpointEntry → List Message
fetch_due desk log entry =
    if logs.is_stable log entry then [] else
    if nat_le (2 * log.faults + 1) (logs.count_checkpoints log entry)
    && nat_lt (open_number desk.state.number desk.transfer) entry.number
    then Fetch entry.number levels.Root 0 ∷ [] else []

-- A checkpoint without a fault begins an event. The log counts it, and is cut if that makes it stable; the snapshots
-- below the low mark are dropped. If a quorum has sent it then and it is ahead, the fetch of its state is due.
abbrev pub CheckpointsEnter : Type 0
CheckpointsEnter =
    (c : Configuration) (me : ℕ) (desk : Desk) (log : LogData) (past : List Entry) (s : ℕ) (entry : CheckpointEntry)
    (bytes : List ℕ) (held : BothFitBetweenEvents c me desk log past)
    → authentic (members c me) me bytes ≡ Some (record { sender = s; message = Checkpoint entry.number entry.digest })
    → checkpoint_fault log s entry.number entry.digest ≡ None
    → BothFitWithinEvent c me (start_at c me desk log past held (Got me bytes))
    (desk_from (checked_log log s entry).low desk)
    (checked_log log s entry) (fetch_due desk (logs.with_checkpoint_of log s entry) entry) []

-- The fetch of an open transfer's place is due again.
abbrev pub again_due : Option TransferData → List Message
again_due transfer = option_map_or (λ t. Fetch t.number t.asked.level t.asked.index ∷ []) transfer []

-- A tick begins an event, and alone changes nothing. It makes the last fetch due again.
abbrev pub TicksFit : Type 0
TicksFit =
    (c : Configuration) (me : ℕ) (desk : Desk) (log : LogData) (past : List Entry)
    (held : BothFitBetweenEvents c me desk log past)
    → BothFitWithinEvent c me (start_at c me desk log past held (Tick me)) desk log (again_due desk.transfer) []

-- ---- which messages count

-- An ordering message without a fault counts, and the log takes it.
abbrev pub BatchesCount : Type 0
BatchesCount =
    (c : Configuration) (me : ℕ) (log : LogData) (past : List Entry) (point : Point) (s v i : ℕ) (batch bytes : List ℕ)
    → FitsLog c me log past
    → authentic (members c me) me bytes ≡ Some (record { sender = s; message = PrePrepare v i batch })
    → preprepare_fault log s v i batch ≡ None → are_genuine c me batch ≡ true
    → Counts c me past point bytes s (PrePrepare v i batch)
    × LogTakesBody c me (authentic (members c me) me bytes) log (logs.with_batch log i batch)

abbrev pub PreparesAreCounted : Type 0
PreparesAreCounted =
    (c : Configuration) (me : ℕ) (log : LogData) (past : List Entry) (point : Point) (s v i : ℕ)
    (digest bytes : List ℕ) (vote : Vote)
    → FitsLog c me log past
    → authentic (members c me) me bytes ≡ Some (record { sender = s; message = Prepare v i digest })
    → prepare_fault log s v i digest ≡ None → vote.sender.0 ≡ s → vote.digest ≡ digest
    → Counts c me past point bytes s (Prepare v i digest)
    × LogTakesBody c me (authentic (members c me) me bytes) log (logs.with_prepare log i vote)

abbrev pub CommitsAreCounted : Type 0
CommitsAreCounted =
    (c : Configuration) (me : ℕ) (log : LogData) (past : List Entry) (point : Point) (s v i : ℕ)
    (digest bytes : List ℕ) (vote : Vote)
    → FitsLog c me log past
    → authentic (members c me) me bytes ≡ Some (record { sender = s; message = Commit v i digest })
    → commit_fault log s v i digest ≡ None → vote.sender.0 ≡ s → vote.digest ≡ digest
    → Counts c me past point bytes s (Commit v i digest)
    × LogTakesBody c me (authentic (members c me) me bytes) log (logs.with_commit log i vote)

-- A checkpoint without a fault counts, if it is one of its sender's latest then.
abbrev pub CheckpointsCount : Type 0
CheckpointsCount =
    (c : Configuration) (me : ℕ) (log : LogData) (past : List Entry) (point : Point) (s : ℕ) (entry : CheckpointEntry)
    (bytes : List ℕ) → FitsLog c me log past
    → authentic (members c me) me bytes ≡ Some (record { sender = s; message = Checkpoint entry.number entry.digest })
    → checkpoint_fault log s entry.number entry.digest ≡ None
    → lists_checkpoint entry (logs.checkpoints_of (logs.with_checkpoint_of log s entry) s) ≡ true
    → Counts c me past point bytes s (Checkpoint entry.number entry.digest)

-- A client's request counts if its reply is kept, or if it is newer than the client's last executed one and not older
-- than its waiting one.
abbrev pub RequestsCount : Type 0
RequestsCount =
    (c : Configuration) (me : ℕ) (desk : Desk) (log : LogData) (past : List Entry) (bytes : List ℕ) (k timestamp : ℕ)
    (op : Operation) (held : BothFitBetweenEvents c me desk log past)
    → ((kept : Kept) × (kept_of desk.state k ≡ Some kept) × (kept.timestamp ≡ timestamp))
    ⊎ ((last_time desk.state k < timestamp) × IsNoOlder desk.waiting k timestamp op)
    → Counts c me past held.of_desk.point bytes (client_party k) (Request timestamp modes.Ordered op)

-- ---- which messages the log drops

-- A message with a fault changes nothing, nor does a batch with a request that isn't authentic.
abbrev pub BatchesDrop : Type 0
BatchesDrop =
    (c : Configuration) (me : ℕ) (log : LogData) (past : List Entry) (s v i : ℕ) (batch bytes : List ℕ)
    → FitsLog c me log past
    → authentic (members c me) me bytes ≡ Some (record { sender = s; message = PrePrepare v i batch })
    → ((fault : Dropped) × (preprepare_fault log s v i batch ≡ Some fault)) ⊎ (are_genuine c me batch ≡ false)
    → LogTakesBody c me (authentic (members c me) me bytes) log log

abbrev pub PreparesDrop : Type 0
PreparesDrop =
    (c : Configuration) (me : ℕ) (log : LogData) (past : List Entry) (s v i : ℕ) (digest bytes : List ℕ)
    (fault : Dropped) → FitsLog c me log past
    → authentic (members c me) me bytes ≡ Some (record { sender = s; message = Prepare v i digest })
    → prepare_fault log s v i digest ≡ Some fault → LogTakesBody c me (authentic (members c me) me bytes) log log

abbrev pub CommitsDrop : Type 0
CommitsDrop =
    (c : Configuration) (me : ℕ) (log : LogData) (past : List Entry) (s v i : ℕ) (digest bytes : List ℕ)
    (fault : Dropped) → FitsLog c me log past
    → authentic (members c me) me bytes ≡ Some (record { sender = s; message = Commit v i digest })
    → commit_fault log s v i digest ≡ Some fault → LogTakesBody c me (authentic (members c me) me bytes) log log

abbrev pub CheckpointsDrop : Type 0
CheckpointsDrop =
    (c : Configuration) (me : ℕ) (log : LogData) (past : List Entry) (s : ℕ) (entry : CheckpointEntry) (bytes : List ℕ)
    (fault : Dropped) → FitsLog c me log past
    → authentic (members c me) me bytes ≡ Some (record { sender = s; message = Checkpoint entry.number entry.digest })
    → checkpoint_fault log s entry.number entry.digest ≡ Some fault
    → LogTakesBody c me (authentic (members c me) me bytes) log log

-- A checkpoint that isn't one of its sender's latest leaves the log as it is.
abbrev pub EarlyCheckpointsDrop : Type 0
EarlyCheckpointsDrop =
    (c : Configuration) (me : ℕ) (log : LogData) (past : List Entry) (s : ℕ) (entry : CheckpointEntry) (bytes : List ℕ)
    → FitsLog c me log past
    → authentic (members c me) me bytes ≡ Some (record { sender = s; message = Checkpoint entry.number entry.digest })
    → lists_checkpoint entry (logs.checkpoints_of (logs.with_checkpoint_of log s entry) s) ≡ false
    → (logs.with_checkpoint_of log s entry ≡ log) × LogTakesBody c me (authentic (members c me) me bytes) log log

-- the bytes are no authentic pre-prepare, prepare, commit or checkpoint
abbrev pub IsBesideLog : Option Body → Type 0
IsBesideLog None = ⊤
IsBesideLog (Some body) = elim body.message [
  | PrePrepare v i batch ↦ ⊥
  | Prepare v i digest ↦ ⊥
  | Commit v i digest ↦ ⊥
  | Checkpoint k root ↦ ⊥
  | _ ↦ ⊤
]

-- A message that orders nothing leaves the log.
abbrev pub OthersDrop : Type 0
OthersDrop =
    (c : Configuration) (me : ℕ) (log : LogData) (past : List Entry) (bytes : List ℕ) → FitsLog c me log past
    → IsBesideLog (authentic (members c me) me bytes) → LogTakesBody c me (authentic (members c me) me bytes) log log

-- ---- inputs that pass

-- Bytes that change neither desk nor log, make nothing due and fetch nothing kept leave both fitting, without an
-- output. So does a tick on which the replica need not move, if no transfer is open.
abbrev pub InputsPass : Type 0
InputsPass =
    (c : Configuration) (me : ℕ) (desk : Desk) (log : LogData) (past : List Entry) (bytes : List ℕ)
    (held : BothFitBetweenEvents c me desk log past)
    → taken c past (Got me bytes) ≡ None → BytesEnter c me bytes desk desk log log []
    → AnswersInput c me past (Got me bytes) [] held.of_desk.point desk.state.number
    → LeavesNoView c me (Got me bytes ∷ past)
    → BothFitBetweenEvents c me desk log (Got me bytes ∷ past)

abbrev pub TicksPass : Type 0
TicksPass =
    (c : Configuration) (me : ℕ) (desk : Desk) (log : LogData) (past : List Entry)
    (held : BothFitBetweenEvents c me desk log past) → desk.transfer ≡ None
    → AnswersInput c me past (Tick me) [] held.of_desk.point desk.state.number → LeavesNoView c me (Tick me ∷ past)
    → BothFitBetweenEvents c me desk log (Tick me ∷ past)
