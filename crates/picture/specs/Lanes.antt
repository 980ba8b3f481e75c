-- What the private functions that give lanes to parties speak of.
use Rattle.std.specs.Prelude.{◌≡◌, ℕ, ◌⊎◌, Bool, ◌&&◌, nat_le, nat_lt, IsTrue, List, ◌++◌, Option, Some, None, slice_get}
use Rattle.std.specs.List.{All, Contains}
use Rattle.terms.specs.Parties.{client_party}
use Rattle.protocol.specs.System.Trace.{Entry, party_of}
use Rattle.points.specs.declared.point.Point.{Point}
use Rattle.picture.specs.declared.run.Rows.{Rows}
use Rattle.picture.specs.declared.arrows.Arrow.{Arrow}
use Rattle.picture.specs.declared.arrows.Origin.{Origin}
use Rattle.picture.specs.declared.arrows.Origin.TheVariants.{Sending, Faulty, Nowhere}

-- whether the entry at the position is drawn
abbrev pub is_drawn : Rows → ℕ → Bool
is_drawn rows position = nat_le rows.first position && nat_lt position rows.end

-- the party at whose lane an arrow begins
abbrev pub party_at : Origin → Option ℕ
party_at (Sending party position) = Some party
party_at (Faulty party) = Some party
party_at Nowhere = None

-- An entry that is drawn is the party's own.
abbrev pub HasEntry : Rows → List Entry → ℕ → Type 0
HasEntry rows trace party =
    (position : ℕ) × (entry : Entry) × IsTrue (is_drawn rows position) × (slice_get trace position ≡ Some entry)
    × (party_of entry ≡ party)

-- An arrow begins at the party's lane.
abbrev pub HasArrow : List Arrow → ℕ → Type 0
HasArrow arrows party = (arrow : Arrow) × Contains arrows arrow × (party_at arrow.origin ≡ Some party)

-- The party is a client, an operation of which acts at an entry that is drawn.
abbrev pub HasPoint : Rows → List Point → ℕ → Type 0
HasPoint rows points party =
    (point : Point) × Contains points point × IsTrue (is_drawn rows point.position)
    × (client_party point.client.number ≡ party)

-- The party takes part in what is drawn.
abbrev pub TakesPart : Rows → List Entry → List Arrow → List Point → ℕ → Type 0
TakesPart rows trace arrows points party =
    HasEntry rows trace party ⊎ (HasArrow arrows party ⊎ HasPoint rows points party)

-- Each of the parties does.
abbrev pub TakePart : Rows → List Entry → List Arrow → List Point → List ℕ → Type 0
TakePart rows trace arrows points parties = All (TakesPart rows trace arrows points) parties

-- Numbers with the property follow the old ones.
abbrev pub AddsOnly : (ℕ → Type 0) → List ℕ → List ℕ → Type 0
AddsOnly P old new = (more : List ℕ) × (new ≡ old ++ more) × All P more
