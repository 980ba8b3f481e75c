-- What the private functions of a client's process speak of.
use Rattle.std.specs.Prelude.{◌≡◌, ◌≢◌, ℕ, ◌+◌, Bool, true, false, MatchBool, List, [], ◌∷◌, ◌++◌, Option, Some, None, Result, MatchResult, map}
use Rattle.std.specs.Option.{option_or}
use Rattle.std.specs.Str.Lines.{lines}
use Rattle.std.specs.Io.KnownBytes.{Appends}
use Rattle.terms.specs.Parties.{party_number}
use Rattle.tuple_codec.specs.Operations.{Operation, Outcome}
use Rattle.tuple_codec.specs.OperationView.{outcome_of}
use Rattle.tuple_text.specs.Lines.{IsLine}
use Rattle.tuple_text.specs.Faults.{RefusesLine}
use Rattle.tuple_text.specs.declared.faults.LineFault.{LineFault}
use Rattle.tuple_text.specs.declared.faults.LineFault.TheVariants.{NoMemory}
use Rattle.wire_format.specs.Lists.{Each}
use Rattle.events.specs.declared.output.Output.{Output}
use Rattle.events.specs.declared.output.Output.TheVariants as outputs
use Rattle.protocol.specs.System.Configuration.{Configuration}
use Rattle.protocol.specs.System.Trace.{Entry}
use Rattle.party_runs.specs.Interleavings.{IsEventOf, trace_after, trace_of}
use Rattle.records.specs.Records.{NoticeData, TellNotices, frame_record}
use Rattle.one_space.specs.NextLines.{IsNextLine}
use Rattle.client_process.specs.Serving.{Ending, Turn, idle, waits, complete, Serves, timer_text}
use Rattle.client_process.specs.Endings.{Scene, Writes, StopsBy, EndsConversing}
use Rattle.client_process.specs.Faults.{IsWriteFault}
use Rattle.client_process.specs.declared.timer.Timer.{Timer}
use Rattle.client_process.specs.declared.fault.ConverseFault.{ConverseFault}
use Rattle.client_process.specs.declared.process.Process.{Process}

-- the record of an output, if it is a frame; and those of the frames among the outputs
abbrev pub output_text : Output → List ℕ
output_text (outputs.Send receivers frame) = frame_record (map party_number receivers.items) frame
output_text _ = []

abbrev pub outputs_text : List Output → List ℕ
outputs_text [] = []
outputs_text (out ∷ outs) = output_text out ++ outputs_text outs

-- the answer that an output accepts, if it accepts one; and that among the outputs
abbrev pub answer_in : Output → Option Outcome
answer_in (outputs.Accepted timestamp answer) = Some (outcome_of answer)
answer_in _ = None

abbrev pub accepted_of : List Output → Option Outcome
accepted_of [] = None
accepted_of (out ∷ outs) = option_or (answer_in out) (accepted_of outs)

-- ---- writing

-- A front of these bytes was appended, and these are left.
pub record FrontIsWritten (old new : Option (List ℕ)) (bytes left : List ℕ) : Type 0 where
  pub front : List ℕ
  pub split : front ++ left ≡ bytes
  pub wrote : Appends old new front

-- Writing failed behind some front of the bytes.
abbrev pub FailsToWrite : Option (List ℕ) → Option (List ℕ) → List ℕ → ConverseFault → Type 0
FailsToWrite old new bytes fault = IsWriteFault fault × ((left : List ℕ) × FrontIsWritten old new bytes left)

-- All of the bytes are written, or writing failed.
abbrev pub WritesAll : {V : Type 0} → Result V ConverseFault → Option (List ℕ) → Option (List ℕ) → List ℕ → Type 0
WritesAll result old new bytes = MatchResult result (λ _. Appends old new bytes) (FailsToWrite old new bytes)

-- ---- a step

-- nothing is left to write
abbrev pub IsClear : {C : Type 0} → Process C → Type 0
IsClear process = (process.text.items ≡ []) × (process.told.items ≡ [])

-- the turn behind a notice: no call is open if it was answered
abbrev pub turn_after : Bool → Timer → Turn
turn_after true timer = idle timer.number
turn_after false timer = waits timer

-- the client of this party has this history, of a life that begins above the timestamp start
pub record Holds {C : Type 0} (me : C → ℕ) (fits : C → Configuration → ℕ → List Entry → Type 0) (c : Configuration)
    (start p : ℕ) (history : List Entry) (client : C) : Type 0 where
  pub me_is : me client ≡ p
  pub held : fits client c start history

-- These lines were taken, of which the first has number n, and these notices: the client has these events more, and
-- these texts are appended to those that are due. Any course over what follows makes a course with them.
pub record Advances {C : Type 0} (me : C → ℕ) (fits : C → Configuration → ℕ → List Entry → Type 0) (c : Configuration)
    (start p : ℕ) (history : List Entry) (before after : Turn) (n m : ℕ) (taken : List (List ℕ))
    (heard : List NoticeData) (old new : Process C) : Type 0 where
  pub events : List (List Entry)
  pub sent : List ℕ
  pub told : List ℕ
  pub each : Each (IsEventOf p) events
  pub holds : Holds me fits c start p (trace_after history events) new.client
  pub sends : new.text.items ≡ old.text.items ++ sent
  pub tells : new.told.items ≡ old.told.items ++ told
  pub leads : (lines : List (List ℕ)) (notices : List NoticeData) (later : List (List Entry)) (sent_later told_later : List ℕ)
      (ending : Ending) → Serves c p after m lines notices later sent_later told_later ending
      → Serves c p before n (taken ++ lines) (heard ++ notices) (events ++ later) (sent ++ sent_later)
      (told ++ told_later) ending

-- the notice was taken, and answered says whether it answered the open call
abbrev pub TakesNotice : {C : Type 0} → (C → ℕ) → (C → Configuration → ℕ → List Entry → Type 0) → NoticeData → Bool
    → Process C → Process C → Type 0
TakesNotice me fits notice answered old new =
    (c : Configuration) (start p n : ℕ) (history : List Entry) → Holds me fits c start p history old.client
    → Advances me fits c start p history (waits old.timer) (turn_after answered new.timer) n n [] (notice ∷ []) old new

-- the call of a line with this operation began
abbrev pub BeginsCall : {C : Type 0} → (C → ℕ) → (C → Configuration → ℕ → List Entry → Type 0) → Operation
    → Process C → Process C → Type 0
BeginsCall me fits op old new =
    (c : Configuration) (start p n : ℕ) (history : List Entry) (l : List ℕ) → IsLine op l
    → Holds me fits c start p history old.client
    → Advances me fits c start p history (idle old.timer.number) (waits new.timer) n (n + 1) (l ∷ []) [] old new

-- The timer begins, and its record is due. Nothing else changes.
pub record BeginsTimer {C : Type 0} (timer : Timer) (old new : Process C) : Type 0 where
  pub client_is : new.client ≡ old.client
  pub timer_is : new.timer ≡ timer
  pub text_is : new.text.items ≡ old.text.items ++ timer_text timer
  pub told_is : new.told.items ≡ old.told.items

-- The line is refused by the fault, which isn't a want of memory.
abbrev pub Refuses : LineFault → List ℕ → Type 0
Refuses fault l = (fault ≢ NoMemory) × RefusesLine fault l

-- ---- a course so far

-- what a session began with: the configuration, the client's party, the timestamp above which its life begins, both
-- inputs, and the bytes that the writers had
pub record Opening : Type 0 where
  pub c : Configuration
  pub me : ℕ
  pub above : ℕ
  pub script : List ℕ
  pub records : List ℕ
  pub start : Scene

-- The inputs so far, and the events and the texts for them. Any course over what follows makes a course over all.
-- n: the number of the next line. unsent, untold: the ends of the texts, which are not written yet.
pub record Along (o : Opening) (history : List Entry) (turn : Turn) (n : ℕ) (unread known : Option (List ℕ))
    (now : Scene) (unsent untold : List ℕ) : Type 0 where
  pub script : List ℕ
  pub unread_is : unread ≡ Some script
  pub front : List ℕ
  pub rest : List ℕ
  pub split : o.records ≡ front ++ rest
  pub known_is : known ≡ Some rest
  pub events : List (List Entry)
  pub sent : List ℕ
  pub told : List ℕ
  pub wrote_records : Appends o.start.sent now.sent sent
  pub wrote_results : Appends o.start.told now.told told
  pub history_is : history ≡ trace_of events
  pub each : Each (IsEventOf o.me) events
  pub leads : (more : List ℕ) (notices : List NoticeData) (later : List (List Entry)) (sent_later told_later : List ℕ)
      (ending : Ending) → TellNotices more notices
      → Serves o.c o.me turn n (lines script) notices later sent_later told_later ending
      → (all : List NoticeData) × TellNotices (front ++ more) all
      × Serves o.c o.me (idle 0) 1 (lines o.script) all (events ++ later) ((sent ++ unsent) ++ sent_later)
      ((told ++ untold) ++ told_later) ending

-- The process is between two inputs.
pub record Stands {C : Type 0} (me : C → ℕ) (fits : C → Configuration → ℕ → List Entry → Type 0) (o : Opening)
    (turn : Turn) (n : ℕ) (unread known : Option (List ℕ)) (now : Scene) (client : C) (unsent untold : List ℕ) : Type 0
  where
    pub history : List Entry
    pub holds : Holds me fits o.c o.above o.me history client
    pub along : Along o history turn n unread known now unsent untold

abbrev pub IsAt : {C : Type 0} → (C → ℕ) → (C → Configuration → ℕ → List Entry → Type 0) → Opening → Turn → ℕ
    → Option (List ℕ) → Option (List ℕ) → Scene → Process C → Type 0
IsAt me fits o turn n unread known now process =
    Stands me fits o turn n unread known now process.client process.text.items process.told.items

-- l is the next of the lines that are left, and these bytes are left behind it
abbrev pub BringsLine : List ℕ → Option (List ℕ) → Option (List ℕ) → Type 0
BringsLine l unread rest = (xs : List ℕ) × (unread ≡ Some xs) × IsNextLine l xs rest

-- ---- how the private functions end

-- It stopped by the fault.
abbrev pub HasStopped : Opening → ConverseFault → Scene → Type 0
HasStopped o fault now = StopsBy o.c o.me o.above fault o.script o.records o.start now

-- It served the whole script.
abbrev pub HasEnded : Opening → Scene → Type 0
HasEnded o now = Writes o.c o.me o.above o.script o.records complete o.start now

-- The process is at the next input, or it stopped by the fault.
abbrev pub GoesOn : {C : Type 0} → (C → ℕ) → (C → Configuration → ℕ → List Entry → Type 0)
    → Result (Unit {0}) ConverseFault → Opening → Turn → ℕ → Option (List ℕ) → Option (List ℕ) → Scene → Process C
    → Type 0
GoesOn me fits result o turn n unread known now process =
    MatchResult result (λ _. IsAt me fits o turn n unread known now process) (λ fault. HasStopped o fault now)

-- The same, or no line was left.
abbrev pub ServesLine : {C : Type 0} → (C → ℕ) → (C → Configuration → ℕ → List Entry → Type 0)
    → Result Bool ConverseFault → Opening → Turn → ℕ → Option (List ℕ) → Option (List ℕ) → Scene → Process C → Type 0
ServesLine me fits result o turn n unread known now process =
    MatchResult result
    (λ more. MatchBool more (IsAt me fits o turn n unread known now process) (HasEnded o now))
    (λ fault. HasStopped o fault now)

-- The next record was served, and answered says whether it answered the open call. Or the process stopped.
abbrev pub ServesRecord : {C : Type 0} → (C → ℕ) → (C → Configuration → ℕ → List Entry → Type 0)
    → Result Bool ConverseFault → Opening → ℕ → Option (List ℕ) → Option (List ℕ) → Scene → Process C → Type 0
ServesRecord me fits result o n unread known now process =
    MatchResult result
    (λ answered. IsAt me fits o (turn_after answered process.timer) n unread known now process)
    (λ fault. HasStopped o fault now)

abbrev pub EndsSession : Result (Unit {0}) ConverseFault → Opening → Scene → Type 0
EndsSession result o now = EndsConversing o.c o.me o.above result o.script o.records o.start now
