-- The parts of each level, and their children.
use Rattle.std.specs.Prelude.{ℕ, List, []}
use Rattle.partition_tree.specs.Digests.{inner_digests, page_digests}
use Rattle.terms.specs.declared.state.Level.{Level}
use Rattle.terms.specs.declared.state.Level.TheVariants.{Root, Inner, Page}

-- How many parts with children a level has.
abbrev pub parts_at : Level → ℕ
parts_at Root = 1
parts_at Inner = 32
parts_at Page = 0

-- The digests of a part's children.
abbrev pub children_of : List (List ℕ) → Level → ℕ → List (List ℕ)
children_of pages Root index = inner_digests pages
children_of pages Inner index = page_digests pages index
children_of pages Page index = []
