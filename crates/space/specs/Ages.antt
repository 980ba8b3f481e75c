-- Births in order of age.
use Rattle.std.specs.Prelude.{ℕ, ◌<◌, ◌==◌, List, AllPairs, refl}
use Rattle.std.specs.Coded.{Coded, code_by, coded×, coded_list, coded_ℕ}
use Rattle.space.specs.Applying.{without_first}

-- the births without this one
abbrev pub births_without : ℕ → List ℕ → List ℕ
births_without birth births = without_first (λ other. other == birth) births

-- each birth is above those before it
abbrev pub AreRising : List ℕ → Type 0
AreRising births = AllPairs (λ a b. a < b) births

-- births, the oldest first, and how many more fit after them
pub record ListedBirths : Type 0 where
  pub births : List ℕ
  pub room : ℕ

-- listed births as the pair of their fields
abbrev pub listed_code : Coded ListedBirths
listed_code =
    code_by (List ℕ × ℕ) (coded× (coded_list coded_ℕ) coded_ℕ)
    (λ l. (l.births, l.room)) (λ p. record { births = p.0; room = p.1 }) (λ _. refl)
