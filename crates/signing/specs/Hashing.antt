-- The texts that a hasher takes in.
use Rattle.std.specs.Prelude.{ℕ, List, ◌++◌}
use Rattle.sha2.specs.Hashers.{Holds256}
use Rattle.sha2.specs.declared.Sha256.{Sha256}

-- the hasher takes in a text after those it held
abbrev pub TakesIn : List ℕ → Sha256 → Sha256 → Type 0
TakesIn text old new = (m : List ℕ) → Holds256 old m → Holds256 new (m ++ text)
