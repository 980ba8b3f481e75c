-- What the private functions that mark pages speak of.
use Rattle.std.specs.Prelude.{◌≡◌, ℕ, ◌%◌, Bool, true, List, fold, slice_set}
use Rattle.space.specs.declared.births.TheConstants.{PAGES}
use Rattle.tuple_codec.specs.Operations.{Operation}
use Rattle.space.specs.Births.{SpaceState}
use Rattle.space.specs.Watching.{changed_births}

-- a set of pages with those of these births
abbrev pub with_pages : List Bool → List ℕ → List Bool
with_pages pages births = fold (λ set birth. slice_set set (birth % PAGES) true) pages births

-- Just the pages that the client's operation may change otherwise than by a new tuple are added to a set of pages.
abbrev pub MarksChanged : SpaceState → ℕ → Operation → List Bool → List Bool → Type 0
MarksChanged s client o old new = new ≡ with_pages old (changed_births s client o)
