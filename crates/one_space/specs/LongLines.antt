-- Definitions for the private functions that read a line of more than one piece.
use Rattle.std.specs.Prelude.{◌≡◌, ℕ, ◌-◌, ◌≤◌, Bool, MatchBool, List, ◌++◌, length, take, drop, Option, IfSome, Result}
use Rattle.std.specs.Prelude.{Err}
use Rattle.tuple_text.specs.Texts.{AreBlanks}
use Rattle.one_space.specs.NextLines.{ReadsLine, JudgesNextLine}
use Rattle.one_space.specs.Pieces.{NoLineFeed}
use Rattle.one_space.specs.declared.input.NextLine.{NextLine}
use Rattle.one_space.specs.declared.input.NoLine.{NoLine}
use Rattle.one_space.specs.declared.input.NoLine.TheVariants as no

-- The line that begins with this piece is read on, if the bytes left are known.
abbrev pub ReadsOn : {A : Type 0} → Result (NextLine A) NoLine → List ℕ → Option (List ℕ) → Option (List ℕ) → List ℕ
    → Type 0
ReadsOn result piece known left buffer =
    IfSome known (λ ys. NoLineFeed piece → ReadsLine result (piece ++ ys) left buffer)

-- The same, after more blanks than a line may have.
abbrev pub ReadsBlanks : {A : Type 0} → Result (NextLine A) NoLine → List ℕ → Option (List ℕ) → Option (List ℕ)
    → List ℕ → Type 0
ReadsBlanks result piece known left buffer =
    IfSome known (λ ys.
    (blanks : List ℕ) → AreBlanks blanks → 65537 ≤ length blanks → NoLineFeed piece
    → ReadsLine result (blanks ++ (piece ++ ys)) left buffer)

-- A whole line is judged: l after more blanks than a line may have.
abbrev pub JudgesBlanks : {A : Type 0} → Result (NextLine A) NoLine → List ℕ → Type 0
JudgesBlanks result l =
    (blanks : List ℕ) → AreBlanks blanks → 65537 ≤ length blanks → JudgesNextLine result (blanks ++ l)

-- all bytes but the last, and the last alone
abbrev pub but_last : List ℕ → List ℕ
but_last bytes = take (length bytes - 1) bytes

abbrev pub last_byte_of : List ℕ → List ℕ
last_byte_of bytes = drop (length bytes - 1) bytes

-- All but the last are dropped if they are blanks, and the result tells whether they are.
abbrev pub DropsBlanks : Bool → List ℕ → List ℕ → Type 0
DropsBlanks dropped old new =
    MatchBool dropped (AreBlanks (but_last old) × (new ≡ last_byte_of old)) (AreBlanks (but_last old) → ⊥)

-- a judgement of a front of a line, for the line
abbrev pub JudgesEarly : {A : Type 0} → Result (NextLine A) NoLine → Result (NextLine A) NoLine → Type 0
JudgesEarly (Err (no.Refused fault)) result = result ≡ Err (no.RefusedEarly fault)
JudgesEarly judged result = result ≡ judged
