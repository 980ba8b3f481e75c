-- The replica that answers: it sends parts of its kept snapshots to replicas that fetch them, and answers reads from
-- the executed state (Castro and Liskov, TOCS 2002, on state transfer and on read-only operations).
use Rattle.std.specs.Prelude.{◌≡◌, ℕ, true, false, List, ◌∷◌, []}
use Rattle.tuple_codec.specs.Operations.{Operation}
use Rattle.space.specs.Applying.{is_read_only}
use Rattle.terms.specs.declared.state.Level.{Level}
use Rattle.wire_format.specs.Messages.{MessageData as Message, fetch as Fetch}
use Rattle.ordering.specs.Log.{LogData}
use Rattle.protocol.specs.System.Configuration.{Configuration}
use Rattle.protocol.specs.System.Frames.{IsOutgoing}
use Rattle.protocol.specs.System.Trace.{Entry, Once, Has, Receives}
use Rattle.protocol.specs.System.Trace.Entry.{Sent}
use Rattle.protocol.specs.Replica.RightReplica.{WasAsked}
use Rattle.protocol.specs.Replica.Owed.{SendsMessage, SendsMessageTo, Counts}
use Rattle.replica_histories.specs.Desk.{Desk, Snapshot}
use Rattle.replica_histories.specs.TransfersAnswers.{answer_by}
use Rattle.replica_histories.specs.Questions.{AnswersInput, read_from, read_reply}
use Rattle.replica_histories.specs.Events.{Start, after_outputs, BothFitWithinEvent, BothFitBetweenEvents}

-- The requested part of a kept snapshot may go to whoever asked, if the event has not sent it.
abbrev pub PartsFit : Type 0
PartsFit =
    (c : Configuration) (me : ℕ) (s : Start) (desk : Desk) (log : LogData) (due : List Message) (outputs : List Entry)
    (snapshot : Snapshot) (asker index : ℕ) (level : Level) (bytes : List ℕ)
    → Has (λ x. x ≡ snapshot) desk.snapshots
    → WasAsked c me (after_outputs s outputs) asker snapshot.number level index
    → (SendsMessage me (answer_by snapshot.pages snapshot.number level index) outputs → ⊥)
    → IsOutgoing c me (answer_by snapshot.pages snapshot.number level index) (asker ∷ []) bytes
    → BothFitWithinEvent c me s desk log due outputs → BothFitWithinEvent c me s desk log due (Sent me bytes ∷ outputs)

-- A fetch of a kept snapshot's number counts.
abbrev pub KeptFetchesCount : Type 0
KeptFetchesCount =
    (c : Configuration) (me : ℕ) (desk : Desk) (log : LogData) (past : List Entry) (bytes : List ℕ) (asker k index : ℕ)
    (level : Level) (held : BothFitBetweenEvents c me desk log past)
    → Has (λ x. x.number ≡ k) desk.snapshots → Counts c me past held.of_desk.point bytes asker (Fetch k level index)

-- If the replica sends the snapshot's part, it owes nothing more to the fetch. If no snapshot has the number, it owes
-- nothing.
abbrev pub PartsSuffice : Type 0
PartsSuffice =
    (c : Configuration) (me : ℕ) (desk : Desk) (log : LogData) (past : List Entry) (input : Entry)
    (outputs : List Entry) (snapshot : Snapshot) (asker index executed : ℕ) (level : Level)
    (held : BothFitBetweenEvents c me desk log past)
    → Has (λ x. x ≡ snapshot) desk.snapshots
    → Receives c me (record { sender = asker; message = Fetch snapshot.number level index }) past input
    → SendsMessageTo me asker (answer_by snapshot.pages snapshot.number level index) outputs
    → AnswersInput c me past input outputs held.of_desk.point executed

abbrev pub OtherNumbersOweNone : Type 0
OtherNumbersOweNone =
    (c : Configuration) (me : ℕ) (desk : Desk) (log : LogData) (past : List Entry) (input : Entry)
    (outputs : List Entry) (asker k index executed : ℕ) (level : Level) (held : BothFitBetweenEvents c me desk log past)
    → Receives c me (record { sender = asker; message = Fetch k level index }) past input
    → (Has (λ x. x.number ≡ k) desk.snapshots → ⊥)
    → AnswersInput c me past input outputs held.of_desk.point executed

-- The reply to an authentic read, from the executed state, may go, if the event has not sent it.
abbrev pub ReadsFit : Type 0
ReadsFit =
    (c : Configuration) (me : ℕ) (s : Start) (desk : Desk) (log : LogData) (due : List Message) (outputs : List Entry)
    (client timestamp : ℕ) (op : Operation) (bytes : List ℕ)
    → Once (Receives c me (read_from client timestamp op)) (after_outputs s outputs) → is_read_only op ≡ true
    → (SendsMessage me (read_reply desk.state client timestamp op) outputs → ⊥)
    → IsOutgoing c me (read_reply desk.state client timestamp op) (client ∷ []) bytes
    → BothFitWithinEvent c me s desk log due outputs → BothFitWithinEvent c me s desk log due (Sent me bytes ∷ outputs)

-- If the replica sends it, it owes nothing more to the read. It owes nothing to an operation that is no read.
abbrev pub ReadsSuffice : Type 0
ReadsSuffice =
    (c : Configuration) (me : ℕ) (desk : Desk) (log : LogData) (past : List Entry) (input : Entry)
    (outputs : List Entry) (client timestamp executed : ℕ) (op : Operation)
    (held : BothFitBetweenEvents c me desk log past)
    → Receives c me (read_from client timestamp op) past input
    → SendsMessage me (read_reply desk.state client timestamp op) outputs
    → AnswersInput c me past input outputs held.of_desk.point executed

abbrev pub OtherOperationsOweNone : Type 0
OtherOperationsOweNone =
    (c : Configuration) (me : ℕ) (desk : Desk) (log : LogData) (past : List Entry) (input : Entry)
    (outputs : List Entry) (client timestamp executed : ℕ) (op : Operation)
    (held : BothFitBetweenEvents c me desk log past)
    → Receives c me (read_from client timestamp op) past input → is_read_only op ≡ false
    → AnswersInput c me past input outputs held.of_desk.point executed
