-- How a function appends bytes to others.
use Rattle.std.specs.Prelude.{◌≡◌, ℕ, List, ◌++◌, Vec, Result, OnOk}

-- The text follows the old bytes, unless the function fails.
abbrev pub Appends : {A U E : Type 0} → List ℕ → Vec ℕ A → Vec ℕ A → Result U E → Type 0
Appends text old new result = OnOk result (new.items ≡ old.items ++ text)
