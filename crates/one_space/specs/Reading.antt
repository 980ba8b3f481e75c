-- The lines of a reader's bytes, read so far. The contracts of private functions use these.
use Rattle.std.specs.Prelude.{◌≡◌, ℕ, List, ◌++◌, Option, Some}
use Rattle.std.specs.Str.Lines.{lines}
use Rattle.tuple_codec.specs.Operations.{Operation}
use Rattle.one_space.specs.Run.{Ending, LinesSay, Refusal}
use Rattle.one_space.specs.declared.session.Manner.{Manner}

-- These operations and refusals, and those of the lines that are left, from number n on, are those of all lines.
pub record ReadSoFar (manner : Manner) (bytes : List ℕ) (left : Option (List ℕ)) (n : ℕ) (os : List Operation)
    (rs : List Refusal) : Type 0 where
  pub rest : List ℕ
  pub left_is : left ≡ Some rest
  pub leads : (more : List Operation) (later : List Refusal) (ending : Ending)
      → LinesSay manner n (lines rest) more later ending
      → LinesSay manner 1 (lines bytes) (os ++ more) (rs ++ later) ending
