-- What a desk does within an event.
use Rattle.std.specs.Prelude.{◌≡◌, ℕ, suc, ◌%◌, ◌<◌, ◌≤◌, ◌==◌, Bool, true, false, if◌then◌else◌, List, [], ◌∷◌, ◌++◌, map, Option, Some, None, option_and_then, nat_lt, Vec}
use Rattle.std.specs.declared.alloc.Global.{Global}
use Rattle.std.specs.Bool.{then_some}
use Rattle.terms.specs.declared.parties.TheConstants.{MAX_CLIENTS}
use Rattle.terms.specs.declared.parties.ClientId.{ClientId}
use Rattle.terms.specs.declared.parties.Party.TheVariants as parties
use Rattle.terms.specs.declared.order.Timestamp.{Timestamp}
use Rattle.wire_format.specs.Messages.{MessageData as Message, CheckpointEntryData as CheckpointEntry}
use Rattle.wire_format.specs.declared.messages.Message.TheVariants as messages
use Rattle.wire_format.specs.declared.messages.Reply.{Reply}
use Rattle.wire_format.specs.Lists.{Each}
use Rattle.wire_format.specs.Views.{message_data}
use Rattle.authenticator.specs.Membership.{Membership}
use Rattle.partition_tree.specs.Digests.{root_of as root_of_pages}
use Rattle.reply_cache.specs.Replies.{Kept}
use Rattle.frame_endpoint.specs.Endpoint.{SealsForOne}
use Rattle.events.specs.declared.output.Output.{Output}
use Rattle.events.specs.Outputs.{entry_of}
use Rattle.execution.specs.Executed.{ExecutesBatchText, told}
use Rattle.execution.specs.declared.running.Ran.{Ran}
use Rattle.protocol.specs.System.Trace.Entry.{Executed}
use Rattle.protocol.specs.Replica.State.{State, IsReplicatedState, opening, kept_of}
use Rattle.protocol.specs.Replica.RightReplica.{reply_of}
use Rattle.replica_histories.specs.Desk.{Snapshot, snapshot_of, kept_from}
use Rattle.replica_histories.specs.Inputs.{again_for}
use Rattle.desk.specs.Keeping.{AreDue, AreFew, newest_with}
use Rattle.desk.specs.State.{OpenData, DeskData, IsDesk}
use Rattle.desk.specs.Waiting.{none_waiting, forgotten, with_request, without_client}

-- the opening state, which is kept; nothing waits
abbrev pub IsNewDesk : Membership → ℕ → ℕ → DeskData → Type 0
IsNewDesk m period me d = d ≡ record {
  me = me;
  membership = m;
  period = period;
  executed = record { state = opening; clients = m.clients };
  snapshots = snapshot_of opening ∷ [];
  transfer = None;
  waiting = none_waiting;
}

-- The client's request in this frame waits after all others, and no other one of this client.
abbrev pub RequestWaits : ClientId → Timestamp → List ℕ → DeskData → DeskData → Type 0
RequestWaits client timestamp frame old new =
    (text : Vec ℕ Global) × (text.items ≡ frame)
    × (new ≡ record old { waiting = with_request client timestamp text (without_client client.number old.waiting) })

-- ---- replies

-- the message of a reply
abbrev pub message_of : Reply → Message
message_of reply = message_data (messages.Reply reply)

-- the message goes to the client, after the earlier outputs
pub record SendsToClient (d : DeskData) (client : ClientId) (message : Message)
    (before after : List Output) : Type 0 where
  pub output : Output
  pub sends_frame : SealsForOne d.membership d.me message (parties.Client client) output
  pub given_is : after ≡ before ++ output ∷ []

-- so does the kept reply
abbrev pub SendsReply : DeskData → ClientId → Kept → List Output → List Output → Type 0
SendsReply d client kept before after = SendsToClient d client (reply_of client.number kept) before after

-- Each request that ran gets its reply, one after another.
abbrev pub RepliesToAll : DeskData → List Ran → List Output → List Output → Type 0
RepliesToAll d [] before after = after ≡ before
RepliesToAll d (ran ∷ rest) before after = (between : List Output)
    × SendsReply d ran.client (told ran).1 before between × RepliesToAll d rest between after

-- The kept reply to the client's last request, of this timestamp, goes again.
abbrev pub RepliesAgain : DeskData → ClientId → Timestamp → List Output → List Output → Type 0
RepliesAgain d client timestamp before after =
    (kept : Kept) × (kept_of d.executed.state client.number ≡ Some kept) × (kept.timestamp ≡ timestamp.0)
    × SendsReply d client kept before after

-- whether there is one
abbrev pub HasReply : DeskData → ClientId → Timestamp → Bool → Type 0
HasReply d client timestamp true =
    (kept : Kept) × (kept_of d.executed.state client.number ≡ Some kept) × (kept.timestamp ≡ timestamp.0)
HasReply d client timestamp false =
    again_for client.number timestamp.0 (kept_of d.executed.state client.number) ≡ []

-- ---- executions

-- the state is kept if it is to have a checkpoint
abbrev pub snapshots_with : ℕ → State → List Snapshot → List Snapshot
snapshots_with period st snapshots =
    if st.number % period == 0 then newest_with (snapshot_of st) snapshots else snapshots

-- a transfer of a reached state is closed
abbrev pub above_number : ℕ → Option OpenData → Option OpenData
above_number number transfer = option_and_then (λ o. then_some (nat_lt number o.transfer.number) o) transfer

-- what each desk holds: a replicated state for at most 256 clients, and few kept states
pub record HoldsState (d : DeskData) : Type 0 where
  pub is : IsDesk d
  pub is_state : IsReplicatedState d.executed.state
  pub clients : d.executed.clients ≤ MAX_CLIENTS
  pub few : AreFew d.snapshots

-- The desk executes the batch of the next number, and tells it. It forgets only requests that ran, or are older.
pub record RunsBatch (old : DeskData) (text : List ℕ) (before : List Output) (new : DeskData) (ran : List Ran)
    (after : List Output) : Type 0 where
  pub held : HoldsState old
  pub same : new ≡ record old {
    executed = new.executed;
    snapshots = snapshots_with old.period new.executed.state old.snapshots;
    transfer = above_number new.executed.state.number old.transfer;
    waiting = forgotten new.executed.state old.waiting;
  }
  pub number : new.executed.state.number ≡ suc old.executed.state.number
  pub executes : ExecutesBatchText old.executed text (map told ran) new.executed
  pub output : Output
  pub entry_is : entry_of old.me output ≡ Executed old.me (suc old.executed.state.number) text
  pub given_is : after ≡ before ++ output ∷ []

-- It replies to the requests that ran, too.
pub record RunsWhole (old : DeskData) (text : List ℕ) (before : List Output) (new : DeskData) (after : List Output)
    : Type 0 where
  pub ran : List Ran
  pub between : List Output
  pub runs : RunsBatch old text before new ran between
  pub replies : RepliesToAll new ran between after

-- the executed state is kept; or only if it is to have a checkpoint
abbrev pub keeping_state : DeskData → DeskData
keeping_state d = record d { snapshots = newest_with (snapshot_of d.executed.state) d.snapshots }

-- The desk may keep the state: it is above all kept ones, and its number is a multiple of the period, unless no state
-- is kept yet.
pub record MayKeep (d : DeskData) : Type 0 where
  pub newer : Each (λ x. x.number < d.executed.state.number) d.snapshots
  pub due : AreDue d.period (snapshot_of d.executed.state ∷ d.snapshots)

abbrev pub checkpoint_is_due : DeskData → Bool
checkpoint_is_due d = d.executed.state.number % d.period == 0

abbrev pub keeping_due : DeskData → DeskData
keeping_due d = if checkpoint_is_due d then keeping_state d else d

-- the number and root of the newest kept state; or of the executed state, if it is to have a checkpoint
abbrev pub newest_entry : List Snapshot → Option CheckpointEntry
newest_entry [] = None
newest_entry (snapshot ∷ older) = Some (record { number = snapshot.number; digest = root_of_pages snapshot.pages })

abbrev pub due_entry : DeskData → Option CheckpointEntry
due_entry d = if checkpoint_is_due d then newest_entry d.snapshots else None

-- the kept states below a low mark are dropped
abbrev pub desk_above : ℕ → DeskData → DeskData
desk_above low d = record d { snapshots = kept_from low d.snapshots }
