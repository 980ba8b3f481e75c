-- Definitions for the private functions that read lines.
use Rattle.std.specs.Prelude.{◌≡◌, ℕ, ◌+◌, ◌^◌, Bool, MatchBool, List, [], ◌∷◌, ◌++◌, Option, None, Some, IfSome, IfOk, OnOk, Result, MatchResult, ⊤}
use Rattle.std.specs.Str.Lines.{lines}
use Rattle.tuple_text.specs.Lines.{IsSkipped}
use Rattle.one_space.specs.NextLines.{IsNextLine, BeginsWith}
use Rattle.one_space.specs.Pieces.{NoLineFeed}
use Rattle.one_space.specs.declared.pieces.ReadFault.{ReadFault}
use Rattle.one_space.specs.declared.pieces.ReadFault.TheVariants as read
use Rattle.protocol.specs.System.Schedule as schedules
use Rattle.schedule_text.specs.declared.step.Step.{Step}
use Rattle.schedule_text.specs.Judged.{IsNone}
use Rattle.schedule_text.specs.Steps.{IsStepLine}
use Rattle.schedule_text.specs.StepView.{step_of}
use Rattle.schedule_lines.specs.Lines.{Ending, LinesSay}
use Rattle.schedule_lines.specs.declared.reading.LineRefusal.{LineRefusal}
use Rattle.schedule_lines.specs.Schedules.{steps_in, IsRead}
use Rattle.schedule_lines.specs.declared.lines.NextLine.{NextLine}
use Rattle.schedule_lines.specs.declared.lines.NextLine.TheVariants as next
use Rattle.schedule_lines.specs.declared.lines.NoLine.{NoLine}
use Rattle.schedule_lines.specs.declared.lines.NoLine.TheVariants as no
use Rattle.schedule_lines.specs.declared.reading.Schedule.{Schedule}

-- ---- one line

-- the judgement of one line
abbrev pub IsJudged : NextLine → List ℕ → Type 0
IsJudged next.End l = ⊥
IsJudged next.Skipped l = IsSkipped l
IsJudged (next.Step step) l = IsStepLine (step_of step) l

abbrev pub IsRefused : NoLine → List ℕ → Type 0
IsRefused (no.Refused byte reason) l = IsNone l
IsRefused no.NoMemory l = ⊤
IsRefused (no.Read error) l = ⊥

abbrev pub JudgesLine : Result NextLine NoLine → List ℕ → Type 0
JudgesLine result l = MatchResult result (λ given. IsJudged given l) (λ failed. IsRefused failed l)

-- the first line of the bytes xs, and the bytes that are left after it
abbrev pub ReturnsLine : NextLine → List ℕ → Option (List ℕ) → Type 0
ReturnsLine next.End xs left = lines xs ≡ []
ReturnsLine next.Skipped xs left = (l : List ℕ) × IsNextLine l xs left × IsSkipped l
ReturnsLine (next.Step step) xs left = (l : List ℕ) × IsNextLine l xs left × IsStepLine (step_of step) l

abbrev pub NextLineFails : NoLine → List ℕ → Type 0
NextLineFails (no.Refused byte reason) xs = BeginsWith IsNone xs
NextLineFails no.NoMemory xs = ⊤
NextLineFails (no.Read error) xs = ⊤

-- The first line of the bytes xs is read, or the fault says why not.
abbrev pub ReadsLine : Result NextLine NoLine → List ℕ → Option (List ℕ) → Type 0
ReadsLine result xs left =
    MatchResult result (λ given. ReturnsLine given xs left) (λ failed. NextLineFails failed xs)

-- the same of the bytes that are left, if they are known
abbrev pub ReadsNext : Result NextLine NoLine → Option (List ℕ) → Option (List ℕ) → Type 0
ReadsNext result known left = IfSome known (λ xs. ReadsLine result xs left)

-- The line that begins with this piece is read on, if the bytes left are known.
abbrev pub ReadsOn : Result NextLine NoLine → List ℕ → Option (List ℕ) → Option (List ℕ) → Type 0
ReadsOn result piece known left = IfSome known (λ ys. NoLineFeed piece → ReadsLine result (piece ++ ys) left)

abbrev pub no_line_of : ReadFault → NoLine
no_line_of read.NoMemory = no.NoMemory
no_line_of (read.Read error) = no.Read error

-- ---- all lines

abbrev pub IsUnread : Schedule → Type 0
IsUnread s = (s.steps.items ≡ []) × (s.numbers.items ≡ []) × (s.refused ≡ None)

-- One more step is kept, with the number of its line.
abbrev pub KeepsStep : Step → ℕ → Schedule → Schedule → Type 0
KeepsStep step number old new =
    (new.steps.items ≡ old.steps.items ++ step ∷ []) × (new.numbers.items ≡ old.numbers.items ++ number ∷ [])
    × (new.refused ≡ old.refused)

-- The line of this number is refused.
abbrev pub RefusesAt : ℕ → LineRefusal → Schedule → Schedule → Type 0
RefusesAt number reason old new =
    (new.steps ≡ old.steps) × (new.numbers ≡ old.numbers)
    × (new.refused ≡ Some (record { number = number; reason = reason }))

-- These steps, and those of the remaining lines from number n on, are the steps of all lines.
pub record ReadSoFar (bytes : List ℕ) (known : Option (List ℕ)) (n : ℕ) (s : Schedule) : Type 0 where
  pub rest : List ℕ
  pub known_is : known ≡ Some rest
  pub none : s.refused ≡ None
  pub leads : (numbers : List ℕ) (steps : List schedules.Step) (ending : Ending)
      → LinesSay n (lines rest) numbers steps ending
      → LinesSay 1 (lines bytes) (s.numbers.items ++ numbers) (steps_in s ++ steps) ending

-- The line of this number was read, or the lines end there.
abbrev pub ReadsStepLine : {E : Type 0} → Result Bool E → ℕ
    → Option (List ℕ) → Schedule → Option (List ℕ) → Schedule → Type 0
ReadsStepLine result n known old left new =
    (bytes : List ℕ) → ReadSoFar bytes known n old
    → IfOk result (λ more. MatchBool more (ReadSoFar bytes left (n + 1) new) (IsRead bytes new))

-- The lines end after the last possible one.
abbrev pub EndsLines : {E : Type 0} → Result (Unit {0}) E → Option (List ℕ) → Schedule → Schedule → Type 0
EndsLines result known old new =
    (bytes : List ℕ) → ReadSoFar bytes known (2 ^ 48) old → OnOk result (IsRead bytes new)
