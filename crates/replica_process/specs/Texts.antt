-- What the private functions of a process speak of.
use Rattle.std.specs.Prelude.{◌≡◌, ℕ, Bool, MatchBool, List, [], ◌∷◌, ◌++◌, Option, Some, Result, MatchResult, map}
use Rattle.std.specs.Io.KnownBytes.{Appends}
use Rattle.terms.specs.Parties.{party_number}
use Rattle.wire_format.specs.Lists.{Each}
use Rattle.events.specs.declared.output.Output.{Output}
use Rattle.events.specs.declared.output.Output.TheVariants as outputs
use Rattle.protocol.specs.System.Configuration.{Configuration}
use Rattle.protocol.specs.System.Trace.{Entry}
use Rattle.party_runs.specs.Interleavings.{IsEventOf, trace_after, trace_of}
use Rattle.records.specs.Records.{NoticeData, TellNotices, IsPartial, frame_record}
use Rattle.patience.specs.Moments.{Moment}
use Rattle.patience.specs.PatienceView.{Fits}
use Rattle.patience.specs.declared.patience.Timer.{Timer}
use Rattle.replica_process.specs.Serving.{Serves, AsksFor, timer_text}
use Rattle.replica_process.specs.Endings.{WritesFront, ServesBytes}
use Rattle.replica_process.specs.declared.fault.ServeFault.{ServeFault}
use Rattle.replica_process.specs.declared.fault.ServeFault.TheVariants.{NoMemory, TooLarge, Read, Write}
use Rattle.replica_process.specs.declared.process.Process.{Process}

-- the records of the frames among the outputs
abbrev pub outputs_text : List Output → List ℕ
outputs_text [] = []
outputs_text (outputs.Send receivers frame ∷ outs) =
    frame_record (map party_number receivers.items) frame ++ outputs_text outs
outputs_text (_ ∷ outs) = outputs_text outs

-- ---- writing

-- Records are held back only if the next one has come whole.
abbrev pub HeldForRecord : List ℕ → List ℕ → Type 0
HeldForRecord at_hand held = IsPartial at_hand → held ≡ []

abbrev pub IsWriteFault : ServeFault → Type 0
IsWriteFault NoMemory = ⊥
IsWriteFault TooLarge = ⊥
IsWriteFault (Read error) = ⊥
IsWriteFault (Write error) = Unit {0}

-- A front of these bytes was appended, and these are left.
pub record FrontIsWritten (old new : Option (List ℕ)) (bytes left : List ℕ) : Type 0 where
  pub front : List ℕ
  pub split : front ++ left ≡ bytes
  pub wrote : Appends old new front

-- Writing failed behind some front of the bytes.
abbrev pub FailsToWrite : Option (List ℕ) → Option (List ℕ) → List ℕ → ServeFault → Type 0
FailsToWrite old new bytes fault = IsWriteFault fault × ((left : List ℕ) × FrontIsWritten old new bytes left)

-- All of the bytes are written, or writing failed.
abbrev pub WritesAll : {V : Type 0} → Result V ServeFault → Option (List ℕ) → Option (List ℕ) → List ℕ → Type 0
WritesAll result old new bytes = MatchResult result (λ _. Appends old new bytes) (FailsToWrite old new bytes)

-- Some of the bytes are written, or none, or writing failed.
abbrev pub WritesSome : Result (Unit {0}) ServeFault → Option (List ℕ) → Option (List ℕ) → List ℕ → List ℕ → Type 0
WritesSome result old new bytes left =
    MatchResult result (λ _. FrontIsWritten old new bytes left) (FailsToWrite old new bytes)

-- ---- one notice

-- The replica of this number, which gets timeouts only while so many others are linked, has this history behind these
-- moments.
pub record Holds {M : Type 0} (me : M → ℕ) (fits : M → Configuration → List Entry → Type 0) (c : Configuration)
    (p needed : ℕ) (history : List Entry) (past : List Moment) (process : Process M) : Type 0 where
  pub me_is : me process.machine ≡ p
  pub needed_is : process.patience.needed ≡ needed
  pub held : fits process.machine c history
  pub patient : Fits process.patience past

-- The timer began for which the patience asks, if for one, and its record is appended.
pub record MayBeginTimer {M : Type 0} (me : M → ℕ) (fits : M → Configuration → List Entry → Type 0) (c : Configuration)
    (p needed : ℕ) (history : List Entry) (past : List Moment) (old new : Process M) : Type 0 where
  pub timer : Option Timer
  pub now : List Moment
  pub asks : AsksFor c p history past timer now
  pub holds : Holds me fits c p needed history now new
  pub text : new.text.items ≡ old.text.items ++ timer_text timer

-- The notice was taken: the replica has these events more, and this text is appended. Any course over what follows
-- makes a course with it.
pub record TakesNotice {M : Type 0} (me : M → ℕ) (fits : M → Configuration → List Entry → Type 0) (c : Configuration)
    (p needed : ℕ) (history : List Entry) (past : List Moment) (notice : NoticeData) (old new : Process M) : Type 0
  where
    pub events : List (List Entry)
    pub now : List Moment
    pub added : List ℕ
    pub each : Each (IsEventOf p) events
    pub holds : Holds me fits c p needed (trace_after history events) now new
    pub text : new.text.items ≡ old.text.items ++ added
    pub leads : (notices : List NoticeData) (later : List (List Entry)) (written : List ℕ)
        → Serves c p needed (trace_after history events) now notices later written
        → Serves c p needed history past (notice ∷ notices) (events ++ later) (added ++ written)

-- ---- a course so far

-- The bytes so far, and the events and the text for them. Any course over what follows makes a course over all.
pub record Along (c : Configuration) (p needed : ℕ) (bytes : List ℕ) (known old new : Option (List ℕ))
    (history : List Entry) (past : List Moment) (pending : List ℕ) : Type 0 where
  pub front : List ℕ
  pub rest : List ℕ
  pub split : bytes ≡ front ++ rest
  pub known_is : known ≡ Some rest
  pub events : List (List Entry)
  pub done : List ℕ
  pub wrote : Appends old new done
  pub history_is : history ≡ trace_of events
  pub each : Each (IsEventOf p) events
  pub leads : (more : List ℕ) (notices : List NoticeData) (later : List (List Entry)) (written : List ℕ)
      → TellNotices more notices → Serves c p needed history past notices later written
      → (all : List NoticeData) × TellNotices (front ++ more) all
      × Serves c p needed [] [] all (events ++ later) ((done ++ pending) ++ written)

-- The process is at a record of these bytes.
pub record IsAt {M : Type 0} (me : M → ℕ) (fits : M → Configuration → List Entry → Type 0) (c : Configuration)
    (p needed : ℕ) (bytes : List ℕ) (start known written : Option (List ℕ)) (process : Process M) : Type 0 where
  pub history : List Entry
  pub past : List Moment
  pub holds : Holds me fits c p needed history past process
  pub along : Along c p needed bytes known start written history past process.text.items

-- It served these bytes, and all but the pending part of the text is written.
abbrev pub HasServed : Configuration → ℕ → ℕ → List ℕ → Option (List ℕ) → Option (List ℕ) → List ℕ → Type 0
HasServed c p needed bytes start written pending =
    (events : List (List Entry)) × (done : List ℕ)
    × ServesBytes c p needed bytes events (done ++ pending) × Appends start written done

-- It stopped, and served a front of the bytes.
abbrev pub HasStopped : Configuration → ℕ → ℕ → ServeFault → List ℕ → Option (List ℕ) → Option (List ℕ) → List ℕ → Type 0
HasStopped c p needed (Write error) bytes start written pending = WritesFront c p needed bytes start written
HasStopped c p needed _ bytes start written pending =
    (front left : List ℕ) × (bytes ≡ front ++ left) × HasServed c p needed front start written pending

-- It served the next record, or there is none, or it stopped.
abbrev pub ServesNext : {M : Type 0} → (M → ℕ) → (M → Configuration → List Entry → Type 0) → Configuration → ℕ → ℕ
    → Result Bool ServeFault → List ℕ → Option (List ℕ) → Option (List ℕ) → Option (List ℕ) → Process M → Type 0
ServesNext me fits c p needed result bytes start known written process =
    MatchResult result
    (λ more. MatchBool more (IsAt me fits c p needed bytes start known written process)
    (HasServed c p needed bytes start written process.text.items))
    (λ fault. HasStopped c p needed fault bytes start written process.text.items)
