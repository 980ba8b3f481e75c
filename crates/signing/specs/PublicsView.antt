-- Public keys, known or given by a seed.
use Rattle.std.specs.Prelude.{ℕ, List}
use Rattle.std.specs.Arc.{arc_value}
use Rattle.signing.specs.declared.public_keys.Origin.{Origin}
use Rattle.signing.specs.declared.public_keys.Origin.TheVariants as origin
use Rattle.signing.specs.Publics.{derived_publics}

abbrev pub publics_of : Origin → List (List ℕ)
publics_of (origin.Dealt dealt) = derived_publics (arc_value dealt).seed (arc_value dealt).faults
publics_of (origin.Known keys) = (arc_value keys).items
