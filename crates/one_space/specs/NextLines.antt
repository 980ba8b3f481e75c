-- The results of reading a line, by the bytes that were left.
use Rattle.std.specs.Prelude.{◌≡◌, ◌≢◌, ◌⊎◌, ℕ, ◌≤◌, Bool, MatchBool, List, [], ◌∷◌, length, Option, Some, IfSome}
use Rattle.std.specs.Prelude.{Result, MatchResult}
use Rattle.std.specs.Io.BufRead.{drop_through}
use Rattle.std.specs.Str.Lines.{lines}
use Rattle.tuple_codec.specs.OperationView.{operation_of}
use Rattle.tuple_text.specs.Lines.{IsLine, IsSkipped}
use Rattle.tuple_text.specs.Faults.{RefusesLine}
use Rattle.tuple_text.specs.declared.faults.LineFault.TheVariants.{NoMemory}
use Rattle.one_space.specs.declared.pieces.ReadFault.{ReadFault}
use Rattle.one_space.specs.declared.pieces.ReadFault.TheVariants as read
use Rattle.one_space.specs.declared.input.NextLine.{NextLine}
use Rattle.one_space.specs.declared.input.NextLine.TheVariants as next
use Rattle.one_space.specs.declared.input.NoLine.{NoLine}
use Rattle.one_space.specs.declared.input.NoLine.TheVariants as no

-- l is the first line of the bytes xs, and these bytes are left after it
pub record IsNextLine (l xs : List ℕ) (left : Option (List ℕ)) : Type 0 where
  pub rest : List ℕ
  pub split : lines xs ≡ l ∷ lines rest
  pub left_is : left ≡ Some rest

-- l is the first line of the bytes xs, and the end of this line and all others are left
pub record IsCutLine (l xs : List ℕ) (left : Option (List ℕ)) : Type 0 where
  pub rest : List ℕ
  pub split : lines xs ≡ l ∷ lines (drop_through 10 rest)
  pub left_is : left ≡ Some rest

-- The buffer has the line, or nothing of a line that is too long.
abbrev pub HoldsLine : List ℕ → List ℕ → Type 0
HoldsLine buffer l = (buffer ≡ l) ⊎ ((buffer ≡ []) × (65537 ≤ length l))

-- P holds of the first line of the bytes xs
pub record BeginsWith (P : List ℕ → Type 0) (xs : List ℕ) : Type 0 where
  pub first : List ℕ
  pub others : List (List ℕ)
  pub split : lines xs ≡ first ∷ others
  pub holds : P first

abbrev pub ReturnsLine : {A : Type 0} → NextLine A → List ℕ → Option (List ℕ) → Type 0
ReturnsLine next.End xs left = lines xs ≡ []
ReturnsLine next.Skipped xs left = (l : List ℕ) × IsNextLine l xs left × IsSkipped l
ReturnsLine (next.Operation op) xs left = (l : List ℕ) × IsNextLine l xs left × IsLine (operation_of op) l

-- Why the first line of the bytes xs isn't read. A refused line stands in the buffer, if it isn't too long.
abbrev pub NextLineFails : NoLine → List ℕ → Option (List ℕ) → List ℕ → Type 0
NextLineFails (no.Refused fault) xs left buffer =
    (l : List ℕ) × IsNextLine l xs left × (fault ≢ NoMemory) × RefusesLine fault l × HoldsLine buffer l
NextLineFails (no.RefusedEarly fault) xs left buffer =
    (l : List ℕ) × IsCutLine l xs left × (fault ≢ NoMemory) × RefusesLine fault l × (65537 ≤ length l)
NextLineFails no.NoMemory xs left buffer = Unit {0}
NextLineFails (no.Read error) xs left buffer = Unit {0}

-- The first line of the bytes xs is read, or the fault says why not.
abbrev pub ReadsLine : {A : Type 0} → Result (NextLine A) NoLine → List ℕ → Option (List ℕ) → List ℕ → Type 0
ReadsLine result xs left buffer =
    MatchResult result (λ next. ReturnsLine next xs left) (λ no. NextLineFails no xs left buffer)

-- the same of the bytes that are left, if they are known
abbrev pub ReadsNext : {A : Type 0} → Result (NextLine A) NoLine → Option (List ℕ) → Option (List ℕ) → List ℕ → Type 0
ReadsNext result known left buffer = IfSome known (λ xs. ReadsLine result xs left buffer)

-- whether the bytes xs have a line
abbrev pub TellsLine : Bool → List ℕ → Type 0
TellsLine more xs = MatchBool more (BeginsWith (λ _. Unit {0}) xs) (lines xs ≡ [])

abbrev pub no_line_of : ReadFault → NoLine
no_line_of read.NoMemory = no.NoMemory
no_line_of (read.Read error) = no.Read error

-- the judgement of one line
abbrev pub IsJudged : {A : Type 0} → NextLine A → List ℕ → Type 0
IsJudged next.End l = ⊥
IsJudged next.Skipped l = IsSkipped l
IsJudged (next.Operation op) l = IsLine (operation_of op) l

abbrev pub IsRefused : NoLine → List ℕ → Type 0
IsRefused (no.Refused fault) l = (fault ≢ NoMemory) × RefusesLine fault l
IsRefused (no.RefusedEarly fault) l = ⊥
IsRefused no.NoMemory l = Unit {0}
IsRefused (no.Read error) l = ⊥

abbrev pub JudgesNextLine : {A : Type 0} → Result (NextLine A) NoLine → List ℕ → Type 0
JudgesNextLine result l = MatchResult result (λ next. IsJudged next l) (λ no. IsRefused no l)
