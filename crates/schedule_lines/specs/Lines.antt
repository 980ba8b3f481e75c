-- The steps that the lines of a schedule say.
use Rattle.std.specs.Prelude.{ℕ, ◌+◌, ◌^◌, ◌<◌, ◌≤◌, List, [], ◌∷◌}
use Rattle.tuple_text.specs.Lines.{IsSkipped}
use Rattle.protocol.specs.System.Schedule.{Step}
use Rattle.schedule_text.specs.Steps.{IsStepLine}
use Rattle.schedule_text.specs.Judged.{IsNone}

-- The lines are read to their end, or up to the line of this number, which is none of a step.
pub data Ending : Type 0 where
  complete : Ending
  refused_at : ℕ → Ending

-- These lines, the first of them of number n, say these steps up to this ending. Beside each step stands the number of
-- its line. Numbers of lines stay below 2 to the power of 48.
pub data LinesSay : ℕ → List (List ℕ) → List ℕ → List Step → Ending → Type 0 where
  at_end : {n : ℕ} → LinesSay n [] [] [] complete
  skips : {n : ℕ} {l : List ℕ} {ls : List (List ℕ)} {numbers : List ℕ} {steps : List Step} {ending : Ending}
      → n < 2 ^ 48 → IsSkipped l → LinesSay (n + 1) ls numbers steps ending
      → LinesSay n (l ∷ ls) numbers steps ending
  says : {n : ℕ} {l : List ℕ} {ls : List (List ℕ)} {numbers : List ℕ} {steps : List Step} {ending : Ending}
      → (s : Step) → n < 2 ^ 48 → IsStepLine s l → LinesSay (n + 1) ls numbers steps ending
      → LinesSay n (l ∷ ls) (n ∷ numbers) (s ∷ steps) ending
  refuses : {n : ℕ} {l : List ℕ} {ls : List (List ℕ)}
      → n < 2 ^ 48 → IsNone l → LinesSay n (l ∷ ls) [] [] (refused_at n)
  is_late : {n : ℕ} {l : List ℕ} {ls : List (List ℕ)}
      → 2 ^ 48 ≤ n → LinesSay n (l ∷ ls) [] [] (refused_at n)
