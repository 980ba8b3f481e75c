-- Definitions for the private functions of a run: the run between two lines.
use Rattle.std.specs.Prelude.{◌≡◌, ◌⊎◌, ℕ, ◌+◌, ◌-◌, ◌^◌, Bool, true, MatchBool, List, [], ◌∷◌, ◌++◌, length, min}
use Rattle.std.specs.Prelude.{Option, IfSome, Result, Err, OnOk, MatchResult, Vec}
use Rattle.std.specs.Io.BufRead.{DropsThrough}
use Rattle.std.specs.Io.KnownBytes.{Appends}
use Rattle.std.specs.declared.alloc.Global.{Global}
use Rattle.tuple_codec.specs.Operations.{Operation}
use Rattle.tuple_codec.specs.OperationView.{operation_of}
use Rattle.tuple_codec.specs.declared.operations.Op.{Op}
use Rattle.space.specs.Applying.{Contents, outcome, tuples_after}
use Rattle.space.specs.Births.{SpaceState, tuples_of}
use Rattle.tuple_text.specs.declared.faults.LineFault.{LineFault}
use Rattle.tuple_text.specs.declared.faults.LineFault.TheVariants.{TooLong}
use Rattle.one_space.specs.Complaints.{Says, refusal_line}
use Rattle.one_space.specs.declared.input.NoLine.{NoLine}
use Rattle.one_space.specs.declared.input.NoLine.TheVariants as no
use Rattle.one_space.specs.Endings.{FrontIsWritten, Gives, Left, Runs, Scene, StopsBy}
use Rattle.one_space.specs.Reading.{ReadSoFar}
use Rattle.one_space.specs.Run.{IsHelp, PassesOver, Refusal, complete, refusal, result_line}
use Rattle.one_space.specs.declared.session.Held.{Held}
use Rattle.one_space.specs.declared.session.LocalFault.{LocalFault}
use Rattle.one_space.specs.declared.session.LocalFault.TheVariants.{Refused, NoMemory, Read, Write}
use Rattle.one_space.specs.declared.session.Manner.{Manner}
use Rattle.one_space.specs.declared.session.Manner.TheVariants.{Strict, KeepsGoing, Talks}
use Rattle.one_space.specs.declared.session.Session.{Session}
use Rattle.one_space.specs.declared.session.Turn.{Turn}

abbrev pub left_with : SpaceState → Held → Left
left_with space held = record { tuples = tuples_of space; refused = held.refused; pending = held.results.items }

abbrev pub left_of : Session → Left
left_of session = left_with session.space session.held

-- The run over the bytes, which began with this scene, is at its line of number n: these bytes are unread.
pub record IsAt (manner : Manner) (first : Contents) (bytes : List ℕ) (start : Scene) (n : ℕ)
    (unread : Option (List ℕ)) (now : Scene) (left : Left) : Type 0 where
  pub ops : List Operation
  pub refusals : List Refusal
  pub so_far : ReadSoFar manner bytes unread n ops refusals
  pub gives : Gives first start now ops refusals left
  pub count : left.refused ≡ min (length refusals) (2 ^ 64 - 1)

-- The line was run, or there is none, or the run stopped.
abbrev pub RunsLine : Result Bool LocalFault → Turn
    → Option (List ℕ) → Scene → Left → Option (List ℕ) → Scene → Left → Type 0
RunsLine result turn unread old before rest new after =
    (first : Contents) (bytes : List ℕ) (start : Scene)
    → IsAt turn.manner first bytes start turn.number unread old before
    → MatchResult result
    (λ more. MatchBool more
    (IsAt turn.manner first bytes start (turn.number + 1) rest new after)
    (Runs turn.manner first bytes complete start new after))
    (λ fault. StopsBy fault turn.manner first bytes start new after.pending)

-- The run ends after the last possible line.
abbrev pub EndsLines : Result (Unit {0}) LocalFault → Manner
    → Option (List ℕ) → Scene → Left → Scene → Left → Type 0
EndsLines result manner unread old before new after =
    (first : Contents) (bytes : List ℕ) (start : Scene)
    → IsAt manner first bytes start (2 ^ 48) unread old before
    → MatchResult result
    (λ _. Runs manner first bytes complete start new after)
    (λ fault. StopsBy fault manner first bytes start new after.pending)

-- A run over all lines that began with this space, whatever it still holds.
abbrev pub EndsSome : Result (Unit {0}) LocalFault → Manner → SpaceState → Option (List ℕ) → Scene → Scene → Left
    → Type 0
EndsSome result manner space known old new left =
    IfSome known (λ bytes. MatchResult result
    (λ _. Runs manner (tuples_of space) bytes complete old new left)
    (λ fault. StopsBy fault manner (tuples_of space) bytes old new left.pending))

-- The same, and nothing is held.
abbrev pub EndsAll : Result (Unit {0}) LocalFault → Manner → SpaceState → Option (List ℕ) → Scene → Scene → Left
    → Type 0
EndsAll result manner space known old new left =
    IfSome known (λ bytes. MatchResult result
    (λ _. Runs manner (tuples_of space) bytes complete old new (record left { pending = [] }))
    (λ fault. StopsBy fault manner (tuples_of space) bytes old new []))

-- ---- refused lines

-- A run in this manner goes on after refused lines.
abbrev pub GoesOn : Manner → Type 0
GoesOn Strict = ⊥
GoesOn KeepsGoing = Unit {0}
GoesOn Talks = Unit {0}

-- What was held is written, the console was told these lines, and so many more lines are refused.
pub record Settles (old new : Scene) (before after : Held) (lines : List (List ℕ)) (more : ℕ) : Type 0 where
  pub wrote : Appends old.written new.written before.results.items
  pub none : after.results.items ≡ []
  pub told : Says old.said new.said lines
  pub count : after.refused ≡ min (before.refused + more) (2 ^ 64 - 1)

-- What was held is written, and no line is told as refused.
pub record Quiets (old new : Scene) (before after : Held) : Type 0 where
  pub wrote : Appends old.written new.written before.results.items
  pub none : after.results.items ≡ []
  pub told : Says old.said new.said []
  pub same : after.refused ≡ before.refused

-- The line of this number is told as refused.
abbrev pub TellsLine : ℕ → LineFault → Scene → Scene → Held → Held → Type 0
TellsLine number fault old new before after =
    Settles old new before after (refusal_line (refusal number fault) ∷ []) 1

-- A strict run ends at a refused line that was told, by this fault.
abbrev pub EndsStrictly : LocalFault → Turn → LineFault → Scene → Scene → Held → Held → Type 0
EndsStrictly (Refused line why) turn fault old new before after =
    (line ≡ turn.number) × (why ≡ fault) × (turn.manner ≡ Strict)
    × TellsLine turn.number fault old new before after
EndsStrictly NoMemory turn fault old new before after = ⊥
EndsStrictly (Read error) turn fault old new before after = ⊥
EndsStrictly (Write error) turn fault old new before after = Unit {0}

-- The refused line was told. The run goes on, or it ended there.
abbrev pub RefusesSo : Result (Unit {0}) LocalFault → Turn → LineFault → Scene → Scene → Held → Held → Type 0
RefusesSo result turn fault old new before after =
    MatchResult result
    (λ _. GoesOn turn.manner × TellsLine turn.number fault old new before after)
    (λ why. EndsStrictly why turn fault old new before after)

-- The line is one that asks for help, or the run goes on after it.
abbrev pub HelpsOrPasses : Turn → LineFault → List ℕ → Scene → Scene → Held → Held → Type 0
HelpsOrPasses turn fault line old new before after =
    ((turn.manner ≡ Talks) × IsHelp line × Quiets old new before after)
    ⊎ (PassesOver turn.manner line × TellsLine turn.number fault old new before after)

-- What came of a refused line, which the buffer has.
abbrev pub Passes : Result Bool LocalFault → Turn → LineFault → List ℕ → Scene → Scene → Held → Held → Type 0
Passes result turn fault line old new before after =
    MatchResult result
    (λ more. (more ≡ true) × HelpsOrPasses turn fault line old new before after)
    (λ why. EndsStrictly why turn fault old new before after)

-- A line that is refused by its first bytes was told, and its rest was passed; or the run ended by this fault.
abbrev pub EndsEarly : LocalFault → Turn → LineFault → Scene → Scene → Held → Held → Type 0
EndsEarly (Refused line why) turn fault old new before after =
    EndsStrictly (Refused line why) turn fault old new before after
EndsEarly NoMemory turn fault old new before after =
    GoesOn turn.manner × TellsLine turn.number fault old new before after
EndsEarly (Read error) turn fault old new before after =
    GoesOn turn.manner × TellsLine turn.number fault old new before after
EndsEarly (Write error) turn fault old new before after = Unit {0}

abbrev pub PassesEarly : Result Bool LocalFault → Turn → LineFault → Option (List ℕ) → Option (List ℕ)
    → Scene → Scene → Held → Held → Type 0
PassesEarly result turn fault unread rest old new before after =
    MatchResult result
    (λ more. (more ≡ true) × DropsThrough unread rest 10 × GoesOn turn.manner
    × TellsLine turn.number fault old new before after)
    (λ why. EndsEarly why turn fault old new before after)

-- What came of a line that wasn't read.
abbrev pub PassesRead : Result Bool LocalFault → Turn → NoLine → List ℕ → Option (List ℕ) → Option (List ℕ)
    → Scene → Scene → Held → Held → Type 0
PassesRead result turn (no.Refused fault) line unread rest old new before after =
    Passes result turn fault line old new before after × (rest ≡ unread)
PassesRead result turn (no.RefusedEarly fault) line unread rest old new before after =
    PassesEarly result turn fault unread rest old new before after
PassesRead result turn no.NoMemory line unread rest old new before after =
    (result ≡ Err NoMemory) × (new ≡ old) × (after ≡ before)
PassesRead result turn (no.Read error) line unread rest old new before after =
    (result ≡ Err (Read error)) × (new ≡ old) × (after ≡ before)

-- The first line that is one too many was told as refused, or it couldn't be.
abbrev pub EndsLate : LocalFault → Scene → Scene → Held → Held → Type 0
EndsLate (Refused line why) old new before after =
    (line ≡ 2 ^ 48) × (why ≡ TooLong) × TellsLine (2 ^ 48) TooLong old new before after
EndsLate NoMemory old new before after = ⊥
EndsLate (Read error) old new before after = ⊥
EndsLate (Write error) old new before after = Unit {0}

-- ---- operations

-- The operation ran, and its result is pending. Or memory ran out, and no result was added.
abbrev pub RunsOperation : Result Bool LocalFault → Operation → Left → Left → Type 0
RunsOperation result o before after =
    MatchResult result
    (λ more. (more ≡ true) × (after.tuples ≡ tuples_after before.tuples 0 o)
    × (after.pending ≡ before.pending ++ result_line (outcome before.tuples 0 o)) × (after.refused ≡ before.refused))
    (λ fault. (fault ≡ NoMemory) × (after.pending ≡ before.pending))

-- The result line of the operation is appended.
abbrev pub AddsResult : {A : Type 0} → Op A → SpaceState → Vec ℕ Global → Vec ℕ Global → Type 0
AddsResult op s old new = new.items ≡ old.items ++ result_line (outcome (tuples_of s) 0 (operation_of op))

-- Some results, or none, went to the writer.
abbrev pub WritesDue : {W E : Type 0} → (W → Option (List ℕ)) → Result (Unit {0}) E
    → W → W → Vec ℕ Global → Vec ℕ Global → Type 0
WritesDue contents result old new held left =
    OnOk result (FrontIsWritten (contents old) (contents new) held.items left.items)

-- All these bytes went to the writer.
abbrev pub WritesAll : {W E : Type 0} → (W → Option (List ℕ)) → Result (Unit {0}) E → W → W → List ℕ → Type 0
WritesAll contents result old new bytes = OnOk result (Appends (contents old) (contents new) bytes)
