-- Drills, as the words name them.
use Rattle.std.specs.Prelude.{◌≡◌, ◌<◌, ℕ, ◌+◌, List, [], ◌∷◌, codes, slice_get, Option, Some, None, MatchOption}
use Rattle.command_line.specs.declared.drills.DrillKind.{DrillKind}
use Rattle.command_line.specs.declared.drills.DrillKind.TheVariants.{Silent, Stale}
use Rattle.command_line.specs.declared.drills.Drilled.{Drilled}
use Rattle.command_line.specs.declared.drills.Drills.{Drills}

abbrev pub kind_text : DrillKind → List ℕ
kind_text Silent = codes "silent"
kind_text Stale = codes "stale"

-- the number of a replica in one digit, and its drill, as `3=silent`
abbrev pub drill_text : Drilled → List ℕ
drill_text drilled = (48 + drilled.replica) ∷ 61 ∷ kind_text drilled.kind

-- The drill that a text names, or none if it names none.
abbrev pub IsDrillOf : List ℕ → Option Drilled → Type 0
IsDrillOf text None = (drilled : Drilled) → drilled.replica < 10 → text ≡ drill_text drilled → ⊥
IsDrillOf text (Some drilled) = text ≡ drill_text drilled

-- The drill that the value at this place names, if there is one.
abbrev pub IsDrillAt : List (List ℕ) → ℕ → Option Drilled → Type 0
IsDrillAt values at drill = MatchOption (slice_get values at) (drill ≡ None) (λ text. IsDrillOf text drill)

-- the drills that the first four values name
abbrev pub AreDrills : List (List ℕ) → Drills → Type 0
AreDrills values drills = (at : ℕ) → at < 4 → (drill : Option Drilled)
    → slice_get drills.0 at ≡ Some drill → IsDrillAt values at drill
