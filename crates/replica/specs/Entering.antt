-- What a replica does with the bytes of an event.
use Rattle.std.specs.Prelude.{◌≡◌, ◌≤◌, ◌⊎◌, ℕ, false, List, [], Some}
use Rattle.terms.specs.Parties.{client_party}
use Rattle.tuple_codec.specs.Operations.{Operation}
use Rattle.terms.specs.declared.parties.ClientId.{ClientId}
use Rattle.terms.specs.declared.parties.ReplicaId.{ReplicaId}
use Rattle.terms.specs.declared.order.Mode.TheVariants as modes
use Rattle.terms.specs.declared.order.Timestamp.{Timestamp}
use Rattle.wire_format.specs.Messages.{MessageData as Message, request as Request}
use Rattle.events.specs.declared.output.Output.{Output}
use Rattle.protocol.specs.System.Configuration.{Configuration}
use Rattle.protocol.specs.System.Trace.{Entry}
use Rattle.protocol.specs.System.Trace.Entry.{Got, Tick}
use Rattle.protocol.specs.Replica.Certificates.{target}
use Rattle.replica_histories.specs.Questions.{AnswersInput, brings_question}
use Rattle.replica_histories.specs.Events as histories
use Rattle.replica_histories.specs.Events.{Start, after_outputs, IsTaken}
use Rattle.desk.specs.DeskOf.{desk_of}
use Rattle.replica.specs.declared.taking.DueWork.{DueWork}
use Rattle.replica.specs.declared.taking.DueWork.TheVariants as due_work
use Rattle.replica.specs.State.{BothPartsData, Gives, heard}
use Rattle.replica.specs.Beginning.{CannotBegin}
use Rattle.orderer.specs.Fitting.{given}
use Rattle.replica.specs.Desks.{PartsFitEvent}
use Rattle.orderer.specs.Going.{IsVotedBut, IsVotedAll}
use Rattle.replica.specs.Going.{IsOneParty, NothingIsLeft}
use Rattle.replica.specs.Numbering.{IsAllNumbered}
use Rattle.replica.specs.BothParts.{BothPartsMatchHistory, me_of}

-- the event in which a running replica has this input
abbrev pub event_with : (c : Configuration) (r : BothPartsData) (past : List Entry)
    → BothPartsMatchHistory c r past → Entry → Start
event_with c r past runs input = histories.start_at c (me_of r) (desk_of c r.desk) r.orderer.log past runs.holds input

-- the event in which it gets the bytes
abbrev pub event_of : (c : Configuration) (r : BothPartsData) (past : List Entry)
    → BothPartsMatchHistory c r past → List ℕ → Start
event_of c r past runs bytes = event_with c r past runs (Got (me_of r) bytes)

-- a rule takes the input, which asks nothing and is no part of a fetched state
abbrev pub IsTakenBeside : Configuration → ℕ → Start → Type 0
IsTakenBeside c me s = IsTaken c me s × (brings_question c me s.input ≡ false)

-- The event answers its input, whatever its outputs, if it ends at this executed number or above.
abbrev pub InputIsAnswered : Configuration → ℕ → Start → ℕ → Type 0
InputIsAnswered c me s number =
    (outputs : List Entry) (executed : ℕ) → number ≤ executed
    → AnswersInput c me s.before s.input outputs s.old executed

-- a rule takes the input, and the event answers it, whatever its outputs
abbrev pub IsTakenAlone : Configuration → ℕ → Start → Type 0
IsTakenAlone c me s = IsTaken c me s
    × ((outputs : List Entry) (executed : ℕ) → AnswersInput c me s.before s.input outputs s.old executed)

-- A rule takes the input, and the event answers it, whatever its outputs, if the target is then the replica's.
abbrev pub IsTakenAnswered : Configuration → BothPartsData → Start → Type 0
IsTakenAnswered c r s = IsTaken c (me_of r) s
    × ((outputs : List Entry) (executed : ℕ) → target (after_outputs s outputs) ≡ r.orderer.target
    → AnswersInput c (me_of r) s.before s.input outputs s.old executed)

-- The work that is left, by the parts that the event touched: nothing, since the answer is sent; numbers for waiting
-- requests; votes for one number, and what follows; or executions, after a state was installed or a view began. An
-- input that touches anything, or has an output, is taken.
abbrev pub IsLeftToDo : Configuration → Start → DueWork → BothPartsData → List Output → Type 0
IsLeftToDo c s due_work.Nothing r outs = NothingIsLeft r × IsAllNumbered r
    × AnswersInput c (me_of r) s.before s.input (given (me_of r) outs) s.old r.desk.executed.state.number
    × ((outs ≡ []) ⊎ IsTaken c (me_of r) s)
IsLeftToDo c s due_work.Waiting r outs = NothingIsLeft r × IsTakenAlone c (me_of r) s
IsLeftToDo c s (due_work.Row number) r outs = IsVotedBut number.0 r.orderer.log × IsTakenBeside c (me_of r) s
IsLeftToDo c s due_work.State r outs = IsVotedAll r.orderer.log × IsTaken c (me_of r) s
    × InputIsAnswered c (me_of r) s r.desk.executed.state.number
IsLeftToDo c s due_work.View r outs = IsVotedAll r.orderer.log × IsTakenAnswered c r s

-- In an event with this input, what fits the past fits the event with these outputs. No new view is left that the
-- replica could send.
pub record TakesInput (input : Entry) (old : BothPartsData) (due_work : DueWork) (new : BothPartsData)
    (outs : List Output) : Type 0 where
  pub party : IsOneParty old new
  pub begins : (c : Configuration) (past : List Entry) (runs : BothPartsMatchHistory c old past)
      → Gives c old.orderer
      → PartsFitEvent c (event_with c old past runs input) new.orderer new.desk [] outs
      × IsLeftToDo c (event_with c old past runs input) due_work new outs × CannotBegin c new.orderer

-- the same of bytes, or of a timeout
abbrev pub TakesBytes : List ℕ → BothPartsData → DueWork → BothPartsData → List Output → Type 0
TakesBytes bytes old due_work new outs = TakesInput (Got (me_of old) bytes) old due_work new outs

abbrev pub TakesTick : BothPartsData → DueWork → BothPartsData → List Output → Type 0
TakesTick old due_work new outs = TakesInput (Tick (me_of old)) old due_work new outs

-- The same, if the bytes are the client's ordered request.
abbrev pub TakesRequest :
    ClientId → Timestamp → List ℕ → BothPartsData → DueWork → BothPartsData → List Output → Type 0
TakesRequest client timestamp bytes old due_work new outs =
    (op : Operation)
    → heard old.orderer bytes
    ≡ Some (record { sender = client_party client.number; message = Request timestamp.0 modes.Ordered op })
    → TakesBytes bytes old due_work new outs

-- And if they are this message of the replica's.
abbrev pub TakesMessage : ReplicaId → Message → BothPartsData → DueWork → BothPartsData → List Output → Type 0
TakesMessage sender message old due_work new outs =
    (bytes : List ℕ)
    → heard old.orderer bytes ≡ Some (record { sender = sender.0; message = message })
    → TakesBytes bytes old due_work new outs
