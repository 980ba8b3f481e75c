-- What the lines of a script say, and what comes of it on one space, as operations of client 0.
use Rattle.std.specs.Prelude.{◌≡◌, ◌≢◌, ℕ, ◌+◌, ◌^◌, ◌<◌, ◌≤◌, List, [], ◌∷◌, ◌++◌, length, codes}
use Rattle.tuple_codec.specs.Operations.{Operation, Outcome}
use Rattle.tuple_text.specs.Texts.{AreBlanks}
use Rattle.tuple_text.specs.Lines.{IsLine, IsSkipped}
use Rattle.tuple_text.specs.Faults.{RefusesLine}
use Rattle.tuple_text.specs.Written.{outcome_text}
use Rattle.tuple_text.specs.declared.faults.LineFault.{LineFault}
use Rattle.tuple_text.specs.declared.faults.LineFault.TheVariants.{NoMemory, TooLong}
use Rattle.space.specs.Applying.{Contents, outcome, tuples_after}
use Rattle.one_space.specs.declared.session.Manner.{Manner}
use Rattle.one_space.specs.declared.session.Manner.TheVariants.{Strict, KeepsGoing, Talks}

-- a refused line: its number, from 1, and why it is refused
pub record Refusal : Type 0 where
  pub line : ℕ
  pub fault : LineFault

-- the refusal of the line of this number
abbrev pub refusal : ℕ → LineFault → Refusal
refusal line fault = record { line = line; fault = fault }

-- A run ends after the last line, at a refused line of this number, or is cut short before some line.
pub data Ending : Type 0 where
  complete : Ending
  refused_at : ℕ → LineFault → Ending
  cut_short : Ending

-- The line is `help`, with blanks at both ends or without, and it isn't too long.
pub record IsHelp (l : List ℕ) : Type 0 where
  pub lead : List ℕ
  pub trail : List ℕ
  pub whole : l ≡ lead ++ (codes "help" ++ trail)
  pub blanks : AreBlanks lead × AreBlanks trail
  pub short : length l ≤ 65536

-- A run in this manner goes on after a refused line. Where someone talks, a line that asks for help isn't among these.
abbrev pub PassesOver : Manner → List ℕ → Type 0
PassesOver Strict l = ⊥
PassesOver KeepsGoing l = Unit {0}
PassesOver Talks l = IsHelp l → ⊥

-- These lines say these operations and have these refusals, up to this ending. The first line has number n. Numbers of
-- lines stay below 2 to the power of 48.
pub data LinesSay (manner : Manner) : ℕ → List (List ℕ) → List Operation → List Refusal → Ending → Type 0 where
  at_end : {n : ℕ} → LinesSay manner n [] [] [] complete
  stops : {n : ℕ} {ls : List (List ℕ)} → LinesSay manner n ls [] [] cut_short
  skips : {n : ℕ} {l : List ℕ} {ls : List (List ℕ)} {os : List Operation} {rs : List Refusal} {ending : Ending}
      → n < 2 ^ 48 → IsSkipped l → LinesSay manner (n + 1) ls os rs ending → LinesSay manner n (l ∷ ls) os rs ending
  calls : {n : ℕ} {l : List ℕ} {ls : List (List ℕ)} {os : List Operation} {rs : List Refusal} {ending : Ending}
      → (o : Operation) → n < 2 ^ 48 → IsLine o l → LinesSay manner (n + 1) ls os rs ending
      → LinesSay manner n (l ∷ ls) (o ∷ os) rs ending
  refuses : {n : ℕ} {l : List ℕ} {ls : List (List ℕ)} {fault : LineFault}
      → manner ≡ Strict → n < 2 ^ 48 → fault ≢ NoMemory → RefusesLine fault l
      → LinesSay manner n (l ∷ ls) [] (refusal n fault ∷ []) (refused_at n fault)
  passes : {n : ℕ} {l : List ℕ} {ls : List (List ℕ)} {os : List Operation} {rs : List Refusal} {ending : Ending}
      {fault : LineFault}
      → PassesOver manner l → n < 2 ^ 48 → fault ≢ NoMemory → RefusesLine fault l
      → LinesSay manner (n + 1) ls os rs ending → LinesSay manner n (l ∷ ls) os (refusal n fault ∷ rs) ending
  helps : {n : ℕ} {l : List ℕ} {ls : List (List ℕ)} {os : List Operation} {rs : List Refusal} {ending : Ending}
      → (fault : LineFault) → manner ≡ Talks → IsHelp l → n < 2 ^ 48 → RefusesLine fault l
      → LinesSay manner (n + 1) ls os rs ending → LinesSay manner n (l ∷ ls) os rs ending
  is_late : {n : ℕ} {l : List ℕ} {ls : List (List ℕ)}
      → 2 ^ 48 ≤ n → LinesSay manner n (l ∷ ls) [] (refusal n TooLong ∷ []) (refused_at n TooLong)

-- the text of an answer, and a line feed
abbrev pub result_line : Outcome → List ℕ
result_line r = outcome_text r ++ 10 ∷ []

-- the result lines of operations, one after another, on a space that held these tuples
abbrev pub results_of : Contents → List Operation → List ℕ
results_of ts [] = []
results_of ts (o ∷ os) = result_line (outcome ts 0 o) ++ results_of (tuples_after ts 0 o) os

-- the tuples that these operations leave there
abbrev pub left_by : Contents → List Operation → Contents
left_by ts [] = ts
left_by ts (o ∷ os) = left_by (tuples_after ts 0 o) os
