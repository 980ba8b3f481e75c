-- How an orderer goes on within an event.
use Rattle.std.specs.Prelude.{◌≡◌, ◌≢◌, ℕ, ◌≤◌, false, List, Some, None}
use Rattle.wire_format.specs.Messages.{MessageData as Message, BatchEntryData as PqEntry}
use Rattle.events.specs.declared.output.Output.{Output}
use Rattle.ordering.specs.Log as logs
use Rattle.ordering.specs.Log.{LogData}
use Rattle.protocol.specs.System.Configuration.{Configuration, members}
use Rattle.protocol.specs.System.Trace.{Has}
use Rattle.replica_histories.specs.Desk.{Desk}
use Rattle.replica_histories.specs.Events.{Start}
use Rattle.orderer.specs.State.{OrdererData}
use Rattle.desk.specs.Waiting.{WaitingData}
use Rattle.orderer.specs.Fitting.{FitsEvent}

-- If a history fits the earlier outputs, with the earlier orderer, it fits the later outputs with the later orderer.
abbrev pub KeepsFitting : OrdererData → List Output → OrdererData → List Output → Type 0
KeepsFitting old before new after =
    (c : Configuration) (s : Start) (desk : Desk) (w : WaitingData) (due : List Message)
    → members c old.endpoint.me ≡ old.endpoint.membership
    → FitsEvent c old.endpoint.me s old desk w due before → FitsEvent c old.endpoint.me s new desk w due after

-- the log asks for no vote for the number
abbrev pub NoVoteIsDue : LogData → ℕ → Type 0
NoVoteIsDue log i = (logs.due_prepare log i ≡ None) × (logs.due_commit log i ≡ None)

-- nor for any number but this one
abbrev pub IsVotedBut : ℕ → LogData → Type 0
IsVotedBut number log = (i : ℕ) → i ≢ number → NoVoteIsDue log i

abbrev pub IsVotedAll : LogData → Type 0
IsVotedAll log = (i : ℕ) → NoVoteIsDue log i

-- both logs are of the same replica and view; the low mark doesn't fall
pub record IsSameLog (old new : LogData) : Type 0 where
  pub me : new.me ≡ old.me
  pub faults : new.faults ≡ old.faults
  pub span : new.span ≡ old.span
  pub view : new.view ≡ old.view
  pub active : new.active ≡ old.active
  pub low : old.low ≤ new.low

-- batches are committed for no more numbers than before
abbrev pub CommitsNoMore : LogData → LogData → Type 0
CommitsNoMore old new =
    (i : ℕ) (text : List ℕ) → logs.committed_batch new i ≡ Some text → logs.committed_batch old i ≡ Some text

-- A primary has no more choice for a new view: the stored view changes are the same, Q has no more, and it used no
-- key.
pub record KeepsChoice (old new : OrdererData) : Type 0 where
  pub received : new.received ≡ old.received
  pub spent : new.spent ≡ old.spent
  pub logged : (pq_entry : PqEntry) → Has (λ x. x ≡ pq_entry) new.pq_sets.logged
      → Has (λ x. x ≡ pq_entry) old.pq_sets.logged

-- both are the same replica's, and judge view changes by the same sizes
pub record KeepsParty (old new : OrdererData) : Type 0 where
  pub endpoint : new.endpoint ≡ old.endpoint
  pub sizes : new.received.sizes ≡ old.received.sizes

pub record IsSameOrderer (old new : OrdererData) : Type 0 where
  pub endpoint : new.endpoint ≡ old.endpoint
  pub log : IsSameLog old.log new.log
  pub target : new.target ≡ old.target
  pub choice : old.log.active ≡ false → KeepsChoice old new
