-- The result of reading bytes: a value and the bytes left, or the reason to stop and the bytes from the one that
-- stopped it.
use Rattle.std.specs.Prelude.{ℕ, List}
use Rattle.tuple_text.specs.declared.reader.Stop.{Stop}

pub data Read (V : Type 0) : Type 0 where
  got : V → List ℕ → Read V
  stop : Stop → List ℕ → Read V

abbrev pub Reading : Type 0 → Type 0
Reading V = List ℕ → Read V
