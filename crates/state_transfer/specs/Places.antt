-- The places in the tree over the 1,024 pages of a state, and their depth-first order (Castro and Liskov, Practical
-- Byzantine fault tolerance and proactive recovery, TOCS 2002, on hierarchical state partitions).
use Rattle.std.specs.Prelude.{ℕ, ◌*◌, ◌/◌, ◌<◌, List, [], ◌∷◌, map}
use Rattle.std.specs.List.{flat_map, range_with_len}
use Rattle.terms.specs.declared.state.Level.{Level}
use Rattle.terms.specs.declared.state.Level.TheVariants.{Root, Inner, Page}
use Rattle.state_transfer.specs.declared.place.Place.{Place}

abbrev pub root_place : Place
root_place = record { level = Root; index = 0 }

abbrev pub inner_place : ℕ → Place
inner_place part = record { level = Inner; index = part }

abbrev pub page_place : ℕ → Place
page_place page = record { level = Page; index = page }

-- How many places a level has.
abbrev pub places_at : Level → ℕ
places_at Root = 1
places_at Inner = 32
places_at Page = 1024

abbrev pub IsPlace : Place → Type 0
IsPlace place = place.index < places_at place.level

-- The parts that a place lies in, from the root down, and the place itself.
abbrev pub path_at : Level → ℕ → List Place
path_at Root index = root_place ∷ []
path_at Inner index = root_place ∷ inner_place index ∷ []
path_at Page index = root_place ∷ inner_place (index / 32) ∷ page_place index ∷ []

abbrev pub path : Place → List Place
path place = path_at place.level place.index

-- An inner part, and its pages.
unfoldable pub part_places : ℕ → List Place
part_places part = inner_place part ∷ map page_place (range_with_len (32 * part) 32)

-- All places, depth first.
unfoldable pub places : List Place
places = root_place ∷ flat_map part_places (range_with_len 0 32)
