-- The words of a line, which blanks separate.
use Rattle.std.specs.Prelude.{◌≡◌, ◌≢◌, ℕ, ◌==◌, if◌then◌else◌, List, [], ◌∷◌}

-- without the blanks in front
abbrev pub trimmed : List ℕ → List ℕ
trimmed [] = []
trimmed (b ∷ bs) = if b == 32 then trimmed bs else b ∷ bs

-- up to the first blank, and from it on
abbrev pub before_blank : List ℕ → List ℕ
before_blank [] = []
before_blank (b ∷ bs) = if b == 32 then [] else b ∷ before_blank bs

abbrev pub from_blank : List ℕ → List ℕ
from_blank [] = []
from_blank (b ∷ bs) = if b == 32 then b ∷ bs else from_blank bs

-- the first word of a line, and the rest after it and the blanks that follow it
abbrev pub first_word : List ℕ → List ℕ
first_word line = before_blank (trimmed line)

abbrev pub after_word : List ℕ → List ℕ
after_word line = trimmed (from_blank (trimmed line))

-- The line has these words and no more.
abbrev pub HasWords : List (List ℕ) → List ℕ → Type 0
HasWords [] line = trimmed line ≡ []
HasWords (w ∷ ws) line = (w ≢ []) × (first_word line ≡ w) × HasWords ws (after_word line)
