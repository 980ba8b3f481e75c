-- Texts of several things, with a separator between them.
use Rattle.std.specs.Prelude.{List, ℕ, [], ◌∷◌, ◌++◌, flat_map}

-- the separator, if something stands before it
abbrev pub gap_behind : {X : Type 0} → List ℕ → List X → List ℕ
gap_behind gap [] = []
gap_behind gap (x ∷ xs) = gap

-- the texts, with the separator before each but the first
abbrev pub separated : {X : Type 0} → List ℕ → (X → List ℕ) → List X → List ℕ
separated gap text [] = []
separated gap text (x ∷ xs) = text x ++ flat_map (λ y. gap ++ text y) xs

-- the same, or another text if there are none
abbrev pub separated_or : {X : Type 0} → List ℕ → List ℕ → (X → List ℕ) → List X → List ℕ
separated_or gap none text [] = none
separated_or gap none text (x ∷ xs) = separated gap text (x ∷ xs)
