-- Spellings can be told apart from the front.
use Rattle.std.specs.Prelude.{◌≡◌, ℕ, List, ◌++◌}
use Rattle.tuple_codec.specs.Spelling.{Spells}

-- If two spellings stand at the front of the same bytes, they are the same, and so are their values.
abbrev pub HasOneSpelling : {V : Type 0} → (V → Type 0) → (V → List ℕ) → Type 0
HasOneSpelling {V = V} IsValue spelling =
    (a b x y : List ℕ) (v w : V) → Spells IsValue spelling a v → Spells IsValue spelling b w → a ++ x ≡ b ++ y
    → (a ≡ b) × (v ≡ w)
