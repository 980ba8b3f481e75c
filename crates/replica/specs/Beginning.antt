-- New views (Castro and Liskov, TOCS 2002, on view changes).
use Rattle.std.specs.Prelude.{◌≡◌, ◌⊎◌, true, false, List, []}
use Rattle.events.specs.declared.output.Output.{Output}
use Rattle.protocol.specs.System.Configuration.{Configuration}
use Rattle.ordering.specs.Log as logs
use Rattle.replica_histories.specs.Events.{Start}
use Rattle.replica_histories.specs.Primaries.{SelectsNothing}
use Rattle.replica.specs.declared.taking.DueWork.{DueWork}
use Rattle.replica.specs.declared.taking.DueWork.TheVariants as due_work
use Rattle.orderer.specs.State.{OrdererData}
use Rattle.replica.specs.State.{BothPartsData, Gives}
use Rattle.replica.specs.Desks.{PartsFitEvent}
use Rattle.orderer.specs.Going.{IsVotedAll}
use Rattle.replica.specs.Going.{IsOneParty, NothingIsLeft}

-- The orderer can't begin the view that it moves to: it is active, or not that view's primary; or its keys are spent;
-- or it has no selection over the stored view changes with its Q.
abbrev pub CannotBegin : Configuration → OrdererData → Type 0
CannotBegin c o = o.log.active ≡ false → logs.primary o.log o.target ≡ o.log.me
    → SelectsNothing c o.target o.received.held o.pq_sets ⊎ (o.spent ≡ 64)

-- It can't in any configuration that gives the replica what it knows and its period of checkpoints.
abbrev pub HasNoView : BothPartsData → Type 0
HasNoView r = (c : Configuration) → Gives c r.orderer → c.period ≡ r.desk.period → CannotBegin c r.orderer

-- The replica begins a view by its own new view. What stood still stands, and all votes that its log asks for are sent.
pub record BeginsView (old : BothPartsData) (before : List Output) (new : BothPartsData) (after : List Output) : Type 0
  where
    pub stands : (c : Configuration) (s : Start) → Gives c old.orderer → NothingIsLeft old
        → PartsFitEvent c s old.orderer old.desk [] before → PartsFitEvent c s new.orderer new.desk [] after
    pub party : IsOneParty old new
    pub target : new.orderer.target ≡ old.orderer.target
    pub active : new.orderer.log.active ≡ true
    pub voted : NothingIsLeft old → IsVotedAll new.orderer.log

-- It begins the view and touches it; or it can't, and nothing changes.
abbrev pub MayBegin : BothPartsData → List Output → DueWork → BothPartsData → List Output → Type 0
MayBegin old before due_work.View new after = BeginsView old before new after
MayBegin old before due_work.Nothing new after = (new ≡ old) × (after ≡ before) × HasNoView old
MayBegin old before _ new after = ⊥
