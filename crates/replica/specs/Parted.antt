-- A replica in two parts, and how each fits the history: the desk the whole history, the orderer the history without
-- reads (Castro and Liskov, TOCS 2002, on read-only operations).
use Rattle.std.specs.Prelude.{◌≡◌, ℕ, ◌<◌, ◌≤◌, true, List, [], Some, None, is_some}
use Rattle.std.specs.Option.{ForSome}
use Rattle.events.specs.Outputs.{after_event, AreSentAsMeant}
use Rattle.events.specs.declared.output.Output.{Output}
use Rattle.protocol.specs.System.Configuration.{Configuration, members, primary}
use Rattle.protocol.specs.System.Reads.{without_reads}
use Rattle.protocol.specs.System.Trace.{Entry}
use Rattle.protocol.specs.System.Trace.Entry.{Got}
use Rattle.protocol.specs.Replica.Certificates.{view, low, logged}
use Rattle.protocol.specs.Replica.Owed.{IsReplica}
use Rattle.replica_histories.specs.Events as histories
use Rattle.replica_histories.specs.Changes.{FitsChanges}
use Rattle.replica.specs.declared.replica.Event.{Event}
use Rattle.replica.specs.State.{OrdererPart, DeskPart, AreOne, member_of}
use Rattle.desk.specs.DeskOf.{desk_of, waiting_calls, IsDeskOf}
use Rattle.orderer.specs.State.{OrdererData}
use Rattle.desk.specs.State.{DeskData}
use Rattle.orderer.specs.Flags.{FitsFlags}
use Rattle.replica.specs.Beginning.{CannotBegin}
use Rattle.orderer.specs.Fitting.{WasSent, changes_held}
use Rattle.replica.specs.Inputs.{input_of}
use Rattle.replica.specs.BothParts.{BothPartsEventLead, both_parts}
use Rattle.orderer.specs.ViewChangeOut.{AreChanges}

-- ---- what a running part holds

-- The flags of the waiting requests are right, for some greatest assigned number.
abbrev pub HasFlags : Configuration → ℕ → DeskData → List Entry → Type 0
HasFlags c me d history = (used : ℕ)
    × FitsFlags c me (view c history) used d.waiting d.executed.state (waiting_calls c d.waiting.requests) history

-- The desk holds a point of the whole history. At the primary of the view it has the right flags of the waiting
-- requests.
pub record DeskMatchesHistory (c : Configuration) (me : ℕ) (d : DeskData) (history : List Entry) : Type 0 where
  pub is_desk : IsDeskOf c d
  pub holds : histories.DeskFitsBetweenEvents c me (desk_of c d) history
  pub low : histories.LowMarkIsReached c me (low c me history) d.executed.state.number [] history
  pub flags : primary c (view c history) ≡ me → HasFlags c me d history

-- Each number above the low mark up to `used` has a batch, and none above it has one.
pub record IsUsed (c : Configuration) (me v used : ℕ) (history : List Entry) : Type 0 where
  pub free : (j : ℕ) → used < j → logged c me history v j ≡ None
  pub full : (j : ℕ) → low c me history < j → j ≤ used → is_some (logged c me history v j) ≡ true

-- The orderer holds what the entries of ordering certify. It knows no point and no state.
pub record OrdererMatchesHistory (c : Configuration) (me : ℕ) (o : OrdererData) (history : List Entry) : Type 0 where
  pub holds : histories.LogFitsBetweenEvents c me o.log history
  pub used : primary c (view c history) ≡ me → IsUsed c me (view c history) o.used history
  pub said : WasSent me o.last_checkpoint history
  pub changes : FitsChanges c me o.log (changes_held o) history
  pub period : c.period ≡ o.received.sizes.period
  pub nothing_begins : CannotBegin c o

-- ---- what fits

-- The desk is the replica's, and the history a correct one's. Unless the desk stopped, it holds the history's point.
pub record DeskFitsHistory (c : Configuration) (me : ℕ) (d : DeskPart) (history : List Entry) : Type 0 where
  pub me_is : d.member.me ≡ me
  pub member_is : member_of (members c me) me ≡ d.member
  pub right : IsReplica c me history
  pub running : ForSome d.holds (λ x. DeskMatchesHistory c me x history)

-- The orderer is the replica's. Unless it stopped, it knows what the configuration gives that, and holds what the
-- entries of ordering certify.
pub record OrdererFitsHistory (c : Configuration) (me : ℕ) (o : OrdererPart) (ordering : List Entry) : Type 0 where
  pub me_is : o.member.me ≡ me
  pub member_is : member_of (members c me) me ≡ o.member
  pub members_are : ForSome o.holds (λ x. members c me ≡ x.endpoint.membership)
  pub running : ForSome o.holds (λ x. OrdererMatchesHistory c me x ordering)

-- both fit one history
abbrev pub FitBoth : Configuration → ℕ → OrdererPart → DeskPart → List Entry → Type 0
FitBoth c me o d history = DeskFitsHistory c me d history × OrdererFitsHistory c me o (without_reads history)

-- ---- which parts go together

-- Both are of one replica, with the same period of checkpoints, and neither has stopped.
pub record AreTogether (o : OrdererPart) (d : DeskPart) : Type 0 where
  pub member : o.member ≡ d.member
  pub orderer : OrdererData
  pub desk : DeskData
  pub orders : o.holds ≡ Some orderer
  pub answers : d.holds ≡ Some desk
  pub period : orderer.received.sizes.period ≡ desk.period

-- ---- what a call leads to

-- If both fit a history before the event, they then fit the history with the event.
abbrev pub BothLead : OrdererPart → DeskPart → Event → List Output → OrdererPart → DeskPart → Type 0
BothLead o d event outs later_o later_d =
    (c : Configuration) (me : ℕ) (history : List Entry) → FitBoth c me o d history
    → FitBoth c me later_o later_d (after_event me (input_of me event) outs history)

-- If the desk fits a history before the read, it then fits the history with the read. The entries of ordering are the
-- same.
abbrev pub ReadLeads : DeskPart → List ℕ → List Output → DeskPart → Type 0
ReadLeads d bytes outs later =
    (c : Configuration) (me : ℕ) (history : List Entry) → DeskFitsHistory c me d history
    → DeskFitsHistory c me later (after_event me (Got me bytes) outs history)
    × (without_reads (after_event me (Got me bytes) outs history) ≡ without_reads history)

-- If both fit some history, each frame among the outputs goes exactly to the parties for whom it is.
abbrev pub BothSendAsMeant : OrdererPart → DeskPart → List Output → Type 0
BothSendAsMeant o d outs =
    (c : Configuration) (me : ℕ) (history : List Entry) → FitBoth c me o d history → AreSentAsMeant c me outs

-- So does each frame among the outputs of a read, if the desk fits some history.
abbrev pub ReadSendsAsMeant : DeskPart → List Output → Type 0
ReadSendsAsMeant d outs =
    (c : Configuration) (me : ℕ) (history : List Entry) → DeskFitsHistory c me d history → AreSentAsMeant c me outs

-- A part that stopped fits any history; the desk only one of a correct replica.
abbrev pub DeskStops : DeskPart → DeskPart → Type 0
DeskStops d stopped =
    (c : Configuration) (me : ℕ) (history other : List Entry) → DeskFitsHistory c me d history → IsReplica c me other
    → DeskFitsHistory c me stopped other

abbrev pub OrdererStops : OrdererPart → OrdererPart → Type 0
OrdererStops o stopped =
    (c : Configuration) (me : ℕ) (ordering other : List Entry) → OrdererFitsHistory c me o ordering
    → OrdererFitsHistory c me stopped other

-- ---- of private functions

-- the outputs of both in an event, when they are joined
pub record PartsReact (o : OrdererData) (d : DeskData) (event : Event) (outs : List Output) (later_o : OrdererData)
    (later_d : DeskData) : Type 0 where
  pub leads : BothPartsEventLead (both_parts o d) event outs (both_parts later_o later_d)
  pub one : AreOne later_o later_d
  pub changes : AreChanges later_o.received.held
  pub endpoint : later_o.endpoint ≡ o.endpoint
