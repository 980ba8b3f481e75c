-- What an orderer multicasts to the other replicas.
use Rattle.std.specs.Prelude.{◌≡◌, ◌≢◌, ℕ, ◌+◌, ◌*◌, ◌≤◌, ◌<◌, Bool, true, List, [], ◌∷◌, ◌++◌, length, Some, None}
use Rattle.wire_format.specs.Messages.{MessageData as Message, CheckpointEntryData as CheckpointEntry, pre_prepare as PrePrepare, prepare as Prepare, commit as Commit, checkpoint as Checkpoint, new_view as NewView}
use Rattle.wire_format.specs.Lists.{Each}
use Rattle.wire_format.specs.Words.{requests_of}
use Rattle.events.specs.declared.output.Output.{Output}
use Rattle.events.specs.Outputs.{entry_of}
use Rattle.frame_endpoint.specs.Endpoint.{SendsMessageToOthers}
use Rattle.ordering.specs.Log as logs
use Rattle.ordering.specs.Log.{with_batch}
use Rattle.ordering.specs.declared.votes.Phase.{Phase}
use Rattle.ordering.specs.declared.votes.Phase.TheVariants as phases
use Rattle.ordering.specs.declared.votes.Vote.{Vote}
use Rattle.protocol.specs.System.Configuration.{Configuration, members}
use Rattle.protocol.specs.System.Trace.{Entry, Has}
use Rattle.protocol.specs.System.Trace.Entry.{Sent}
use Rattle.protocol.specs.Replica.Owed.{IsSending}
use Rattle.view_change.specs.ReceivedData.{HeldData, held_of}
use Rattle.replica_histories.specs.Desk.{Desk}
use Rattle.replica_histories.specs.Events.{Start, after_outputs}
use Rattle.replica_histories.specs.Outputs.{MayNumber}
use Rattle.desk.specs.DeskOf.{SpellCalls}
use Rattle.orderer.specs.State.{OrdererData}
use Rattle.desk.specs.Waiting.{WaitingData, texts, unnumbered, with_numbered}
use Rattle.orderer.specs.Fitting.{given, FitsEvent}
use Rattle.orderer.specs.Going.{KeepsFitting, NoVoteIsDue, IsSameOrderer}

-- the orderer sends the message to the other replicas, after the earlier outputs
pub record Multicasts (o : OrdererData) (message : Message) (before after : List Output) : Type 0 where
  pub output : Output
  pub sends_frame : SendsMessageToOthers o.endpoint message output
  pub given_is : after ≡ before ++ output ∷ []

-- the message by which a replica votes in a phase
abbrev pub vote_message : Phase → ℕ → ℕ → List ℕ → Message
vote_message phases.Prepare view number digest = Prepare view number digest
vote_message phases.Commit view number digest = Commit view number digest

-- the replica's own vote for a digest is counted
pub record AddsVote (phase : Phase) (number : ℕ) (digest : List ℕ) (old new : OrdererData) : Type 0 where
  pub vote : Vote
  pub sender : vote.sender.0 ≡ old.log.me
  pub digest_is : vote.digest ≡ digest
  pub new_is : new ≡ record old { log = logs.with_vote_in phase old.log number vote }

-- The orderer goes on, and the log asks for no more votes for numbers but this one.
pub record MulticastsVote (number : ℕ) (old : OrdererData) (before : List Output) (new : OrdererData)
    (after : List Output) : Type 0 where
  pub goes : KeepsFitting old before new after
  pub same : IsSameOrderer old new
  pub low : new.log.low ≡ old.log.low
  pub used : new.used ≡ old.used
  pub others : (i : ℕ) → i ≢ number → NoVoteIsDue old.log i → NoVoteIsDue new.log i

-- The same, and the log asks for the prepare of the number no more; or for the commit.
pub record MulticastsPrepare (number : ℕ) (old : OrdererData) (before : List Output) (new : OrdererData)
    (after : List Output) : Type 0 where
  pub says : MulticastsVote number old before new after
  pub said : logs.due_prepare new.log number ≡ None

pub record MulticastsCommit (number : ℕ) (old : OrdererData) (before : List Output) (new : OrdererData)
    (after : List Output) : Type 0 where
  pub says : MulticastsVote number old before new after
  pub said : logs.due_commit new.log number ≡ None
  pub prepared : logs.due_prepare new.log number ≡ logs.due_prepare old.log number

-- The same, and the log asks for no vote of the number any more.
pub record MulticastsVotes (number : ℕ) (old : OrdererData) (before : List Output) (new : OrdererData)
    (after : List Output) : Type 0 where
  pub says : MulticastsVote number old before new after
  pub said : NoVoteIsDue new.log number

-- ---- messages that are sent again

-- The order of messages that are sent again: first the replica's new view, then for each number its batch, its prepare
-- and its commit.
abbrev pub row_place : ℕ → ℕ
row_place number = 3 * number + 1

-- A vote comes so many places behind its batch.
abbrev pub vote_place : Phase → ℕ
vote_place phases.Prepare = 1
vote_place phases.Commit = 2

-- The message comes before a place in that order. A checkpoint comes last. A view change goes again alone.
abbrev pub IsBelow : ℕ → Message → Type 0
IsBelow place message = elim message [
  | NewView new ↦ 0 < place
  | PrePrepare v i batch ↦ row_place i < place
  | Prepare v i digest ↦ row_place i + vote_place phases.Prepare < place
  | Commit v i digest ↦ row_place i + vote_place phases.Commit < place
  | _ ↦ ⊥
]

-- So do all messages of these outputs.
abbrev pub AreBelow : ℕ → ℕ → List Entry → Type 0
AreBelow me place outputs = Each (λ e. (message : Message) → IsSending me message e → IsBelow place message) outputs

-- An active replica multicasts again what it sent before. Nothing changes, and nothing else is due. The earlier outputs
-- come before the first place, and all come before the end then.
pub record MulticastsAgain (first end : ℕ) (old : OrdererData) (before : List Output) (new : OrdererData)
    (after : List Output) : Type 0 where
  pub goes : old.log.active ≡ true → (c : Configuration) (s : Start) (desk : Desk) (w : WaitingData)
      → members c old.endpoint.me ≡ old.endpoint.membership
      → AreBelow old.endpoint.me first (given old.endpoint.me before)
      → FitsEvent c old.endpoint.me s old desk w [] before
      → FitsEvent c old.endpoint.me s new desk w [] after × AreBelow old.endpoint.me end (given old.endpoint.me after)
  pub same : new ≡ old
  pub more : List Output
  pub given_is : after ≡ before ++ more

-- If a history fits the earlier outputs, which come before the place, it fits the later ones. Nothing else is due.
abbrev pub GoesAgain : ℕ → OrdererData → List Output → OrdererData → List Output → Type 0
GoesAgain place old before new after =
    (c : Configuration) (s : Start) (desk : Desk) (w : WaitingData)
    → members c old.endpoint.me ≡ old.endpoint.membership
    → AreBelow old.endpoint.me place (given old.endpoint.me before)
    → FitsEvent c old.endpoint.me s old desk w [] before → FitsEvent c old.endpoint.me s new desk w [] after

-- The last message is sent again by an active replica, or by an inactive one.
pub record MulticastsLastAgain (active : Bool) (place : ℕ) (old : OrdererData) (before : List Output)
    (new : OrdererData)
    (after : List Output) : Type 0 where
  pub goes : old.log.active ≡ active → GoesAgain place old before new after
  pub same : new ≡ old
  pub more : List Output
  pub given_is : after ≡ before ++ more

-- And this holds of all outputs then.
abbrev pub MulticastsAlso :
    ℕ → ℕ → (OrdererData → List Output → Type 0) → OrdererData → List Output → OrdererData → List Output → Type 0
MulticastsAlso first end P old before new after = MulticastsAgain first end old before new after × P old after

abbrev pub MulticastsLastAlso :
    Bool → ℕ → (OrdererData → List Output → Type 0) → OrdererData → List Output → OrdererData → List Output → Type 0
MulticastsLastAlso active place P old before new after = MulticastsLastAgain active place old before new after
    × P old after

-- the outputs have the message to the other replicas, or this very frame
abbrev pub OutputsHave : OrdererData → Message → List Output → Type 0
OutputsHave o message outs = Has (λ output. SendsMessageToOthers o.endpoint message output) outs

abbrev pub OutputsHaveFrame : OrdererData → List ℕ → List Output → Type 0
OutputsHaveFrame o frame outs = Has (λ output. entry_of o.endpoint.me output ≡ Sent o.endpoint.me frame) outs

-- the outputs have the primary's batch of a number, if it is above those of the new view
abbrev pub OutputsHaveBatch : ℕ → OrdererData → List Output → Type 0
OutputsHaveBatch number o outs =
    (text : List ℕ) → o.log.me ≡ logs.primary o.log o.log.view → o.assigned < number
    → logs.logged_batch o.log number ≡ Some text → OutputsHave o (PrePrepare o.log.view number text) outs

-- the outputs have the replica's own vote that the log has
abbrev pub OutputsHaveVote : Phase → ℕ → OrdererData → List Output → Type 0
OutputsHaveVote phase number o outs =
    (digest : List ℕ) → logs.vote_of phase o.log number o.log.me ≡ Some digest
    → OutputsHave o (vote_message phase o.log.view number digest) outs

-- all three of a number
abbrev pub OutputsHaveRow : ℕ → OrdererData → List Output → Type 0
OutputsHaveRow number o outs =
    OutputsHaveBatch number o outs × OutputsHaveVote phases.Prepare number o outs
    × OutputsHaveVote phases.Commit number o outs

-- the replica's new view, its last checkpoint, and its view change
abbrev pub OutputsHaveNewView : OrdererData → List Output → Type 0
OutputsHaveNewView o outs = (frame : List ℕ) → o.new_view ≡ Some frame → OutputsHaveFrame o frame outs

abbrev pub OutputsHaveCheckpoint : OrdererData → List Output → Type 0
OutputsHaveCheckpoint o outs =
    (entry : CheckpointEntry) → o.last_checkpoint ≡ Some entry
    → OutputsHave o (Checkpoint entry.number entry.digest) outs

abbrev pub OutputsHaveViewChange : OrdererData → List Output → Type 0
OutputsHaveViewChange o outs =
    (held : HeldData) → held_of o.received.held o.log.me ≡ Some held → OutputsHaveFrame o held.frame outs

-- all that an active replica multicasts again: for the numbers above the executed one, up to the end of the marks
pub record OutputsHaveAll (executed : ℕ) (o : OrdererData) (outs : List Output) : Type 0 where
  pub new_view : OutputsHaveNewView o outs
  pub rows : (i : ℕ) → executed < i → i ≤ o.log.low + o.log.span → OutputsHaveRow i o outs
  pub checkpoint : OutputsHaveCheckpoint o outs

-- ---- a batch

-- The primary multicasts its own batch of this text. If it may assign the number, and the batch is of the oldest
-- requests without one, these have it then.
pub record MulticastsOwnBatch (number : ℕ) (text : List ℕ) (old : OrdererData) (before : List Output)
    (new : OrdererData)
    (after : List Output) : Type 0 where
  pub endpoint : new.endpoint ≡ old.endpoint
  pub log : new.log ≡ with_batch old.log number text
  pub target : new.target ≡ old.target
  pub goes : (c : Configuration) (s : Start) (desk : Desk) (w : WaitingData) (due : List Message)
      → members c old.endpoint.me ≡ old.endpoint.membership → SpellCalls c w.requests
      → requests_of text ≡ texts (unnumbered w)
      → MayNumber c old.endpoint.me desk old.log (after_outputs s (given old.endpoint.me before)) number text
      → FitsEvent c old.endpoint.me s old desk w due before
      → FitsEvent c old.endpoint.me s new desk (with_numbered (length (unnumbered w)) w) due after
