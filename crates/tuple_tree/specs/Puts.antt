-- How a function appends bytes to others.
use Rattle.std.specs.Prelude.{◌≡◌, ℕ, ◌+◌, ◌≤◌, List, ◌++◌, length, take, Result, Ok, Err, Vec, vec_len, vec_capacity}

-- The text follows the old bytes. After an error a part of it may, and the old bytes stand as they were.
abbrev pub PutsText : {U E : Type 0} → List ℕ → List ℕ → List ℕ → Result U E → Type 0
PutsText text old new (Ok _) = new ≡ old ++ text
PutsText text old new (Err _) = take (length old) new ≡ old

-- There is room for so many bytes more.
abbrev pub HasRoom : {Z : Type 0} → Vec ℕ Z → ℕ → Type 0
HasRoom out n = vec_len out + n ≤ vec_capacity out

-- The text follows the old bytes, and only its own room is gone.
abbrev pub FillsRoom : {Z : Type 0} → List ℕ → Vec ℕ Z → Vec ℕ Z → Type 0
FillsRoom text old new =
    (new.items ≡ old.items ++ text) × (vec_len new ≡ vec_len old + length text) × (vec_capacity old ≤ vec_capacity new)
