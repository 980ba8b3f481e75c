-- How a replica with joined parts, within an event, fits a history.
use Rattle.std.specs.Prelude.{ℕ, List}
use Rattle.events.specs.Outputs.{after_event, AreSentAsMeant}
use Rattle.events.specs.declared.output.Output.{Output}
use Rattle.protocol.specs.System.Configuration.{Configuration}
use Rattle.protocol.specs.System.Trace.{Entry}
use Rattle.replica_histories.specs.Events as histories
use Rattle.protocol.specs.Replica.Owed.{IsReplica}
use Rattle.replica_histories.specs.Changes.{FitsChanges}
use Rattle.replica.specs.declared.replica.Event.{Event}
use Rattle.replica.specs.Inputs.{input_of}
use Rattle.replica.specs.State.{BothPartsData, Gives}
use Rattle.desk.specs.DeskOf.{desk_of, IsDeskOf}
use Rattle.orderer.specs.State.{OrdererData}
use Rattle.desk.specs.State.{DeskData}
use Rattle.replica.specs.Beginning.{CannotBegin}
use Rattle.orderer.specs.Fitting.{FitsWaiting, WasSent, changes_held}
use Rattle.replica.specs.Numbering.{IsAllNumbered}

-- a replica of these parts
abbrev pub both_parts : OrdererData → DeskData → BothPartsData
both_parts o d = record { orderer = o; desk = d }

-- the replica's number
abbrev pub me_of : BothPartsData → ℕ
me_of r = r.orderer.endpoint.me

-- what the replica holds of its history
pub record BothPartsMatchHistory (c : Configuration) (r : BothPartsData) (history : List Entry) : Type 0 where
  pub is_desk : IsDeskOf c r.desk
  pub holds : histories.BothFitBetweenEvents c (me_of r) (desk_of c r.desk) r.orderer.log history
  pub numbers : FitsWaiting c (me_of r) r.orderer r.desk.waiting (desk_of c r.desk) history
  pub said : WasSent (me_of r) r.orderer.last_checkpoint history
  pub changes : FitsChanges c (me_of r) r.orderer.log (changes_held r.orderer) history
  pub all : IsAllNumbered r
  pub nothing_begins : CannotBegin c r.orderer

-- The history is that of a replica that orders requests, and the replica holds what the history says.
pub record BothPartsFitHistory (c : Configuration) (r : BothPartsData) (history : List Entry) : Type 0 where
  pub members_are : Gives c r.orderer
  pub right : IsReplica c (me_of r) history
  pub runs : BothPartsMatchHistory c r history

-- If the replica fits a history before the event, it then fits the history with the event. Each frame that it sends
-- goes exactly to the parties for whom it is.
abbrev pub BothPartsStayRight : BothPartsData → Entry → List Output → BothPartsData → Type 0
BothPartsStayRight old input outs new =
    (c : Configuration) (history : List Entry) → BothPartsFitHistory c old history
    → BothPartsFitHistory c new (after_event (me_of old) input outs history) × AreSentAsMeant c (me_of old) outs

-- the event of a step leads to its outputs
abbrev pub BothPartsEventLead : BothPartsData → Event → List Output → BothPartsData → Type 0
BothPartsEventLead old event outs new = BothPartsStayRight old (input_of (me_of old) event) outs new
