-- How a replica goes on within an event.
use Rattle.std.specs.Prelude.{◌≡◌, ℕ, suc, ◌≤◌, Bool, true, false, List, [], None}
use Rattle.events.specs.declared.output.Output.{Output}
use Rattle.ordering.specs.Log as logs
use Rattle.ordering.specs.Log.{LogData}
use Rattle.protocol.specs.System.Configuration.{Configuration}
use Rattle.replica_histories.specs.Events.{Start}
use Rattle.orderer.specs.Going.{IsVotedAll, IsVotedBut, CommitsNoMore, IsSameOrderer}
use Rattle.replica.specs.State.{BothPartsData, Gives}
use Rattle.desk.specs.State.{DeskData}
use Rattle.desk.specs.Waiting.{count_unnumbered}
use Rattle.replica.specs.Desks.{PartsFitEvent}

-- both are the same party
pub record IsOneParty (old new : BothPartsData) : Type 0 where
  pub endpoint : new.orderer.endpoint ≡ old.orderer.endpoint
  pub me : new.desk.me ≡ old.desk.me
  pub membership : new.desk.membership ≡ old.desk.membership

-- and in the same view
pub record IsSameParty (old new : BothPartsData) : Type 0 where
  pub orderer : IsSameOrderer old.orderer new.orderer
  pub me : new.desk.me ≡ old.desk.me
  pub membership : new.desk.membership ≡ old.desk.membership

-- what stands with the earlier outputs, stands with the later ones
abbrev pub FitIsKept : BothPartsData → List Output → BothPartsData → List Output → Type 0
FitIsKept old before new after =
    (c : Configuration) (s : Start) → Gives c old.orderer → PartsFitEvent c s old.orderer old.desk [] before
    → PartsFitEvent c s new.orderer new.desk [] after

-- no batch is committed for the next number
abbrev pub AllIsExecuted : LogData → DeskData → Type 0
AllIsExecuted log d = logs.committed_batch log (suc d.executed.state.number) ≡ None

-- no message is left to send, and no batch to execute
abbrev pub NothingIsLeft : BothPartsData → Type 0
NothingIsLeft r = IsVotedAll r.orderer.log × AllIsExecuted r.orderer.log r.desk

-- If the log asks for no vote, the replica executes the next batch and sends its checkpoint; or no batch is committed,
-- and nothing changes.
pub record ExecutesNextBatch (old : BothPartsData) (before : List Output) (new : BothPartsData)
    (after : List Output) : Type 0
  where
    pub proceeds : IsVotedAll old.orderer.log → FitIsKept old before new after
    pub party : IsSameParty old new
    pub used : new.orderer.used ≡ old.orderer.used
    pub number : new.desk.executed.state.number ≡ suc old.desk.executed.state.number
    pub within : old.orderer.log.low ≤ old.desk.executed.state.number
    pub voted : IsVotedAll old.orderer.log → IsVotedAll new.orderer.log
    pub commits : CommitsNoMore old.orderer.log new.orderer.log
    pub waiting : count_unnumbered new.desk.waiting ≤ count_unnumbered old.desk.waiting

abbrev pub ExecutesTurn : BothPartsData → List Output → BothPartsData → List Output → Bool → Type 0
ExecutesTurn old before new after true = ExecutesNextBatch old before new after
ExecutesTurn old before new after false = (new ≡ old) × (after ≡ before) × AllIsExecuted old.orderer.log old.desk

-- If the log asks for no vote, the replica executes the committed batches, one after another.
pub record ExecutesAll (old : BothPartsData) (before : List Output) (new : BothPartsData) (after : List Output) : Type 0
  where
    pub proceeds : IsVotedAll old.orderer.log → FitIsKept old before new after
    pub party : IsSameParty old new
    pub rises : old.desk.executed.state.number ≤ new.desk.executed.state.number
    pub used : new.orderer.used ≡ old.orderer.used
    pub waiting : count_unnumbered new.desk.waiting ≤ count_unnumbered old.desk.waiting
    pub rests : IsVotedAll old.orderer.log → NothingIsLeft new

-- The replica sends all votes that the log asks for, for one number, and executes the batches that are committed then.
pub record GoesOnWith (number : ℕ) (old : BothPartsData) (before : List Output) (new : BothPartsData)
    (after : List Output) : Type 0 where
  pub proceeds : IsVotedBut number old.orderer.log → FitIsKept old before new after
  pub party : IsSameParty old new
  pub rises : old.desk.executed.state.number ≤ new.desk.executed.state.number
  pub used : new.orderer.used ≡ old.orderer.used
  pub waiting : count_unnumbered new.desk.waiting ≤ count_unnumbered old.desk.waiting
  pub rests : IsVotedBut number old.orderer.log → NothingIsLeft new
