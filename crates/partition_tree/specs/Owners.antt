-- Definitions for the private fields and functions that share inner parts.
use Rattle.std.specs.Prelude.{◌≡◌, ℕ, Bool, List, length, map, slice_set}
use Rattle.std.specs.Arc.{arc_value}
use Rattle.std.specs.declared.alloc.Global.{Global}
use Rattle.std.specs.declared.sync.Arc.{Arc}
use Rattle.partition_tree.specs.Changes.{UnmarkedPartsStay, pages_with}
use Rattle.partition_tree.specs.Digests.{digest_of_children}
use Rattle.partition_tree.specs.Parts.{AreFull, pages_held, parts_held, part_digest}
use Rattle.partition_tree.specs.declared.page.Page.{Page}

-- The owner of an inner part.
abbrev pub Owner : Type 0
Owner = Arc (List (List ℕ)) Global

-- There are 32 full parts, their digests, and the root's.
abbrev pub IsTree : List Owner → List (List ℕ) → List ℕ → Type 0
IsTree owners inner root =
    (length owners ≡ 32) × AreFull (parts_held owners)
    × (inner ≡ map part_digest (parts_held owners)) × (root ≡ digest_of_children inner)

-- The text of one page of a part is set.
abbrev pub SetsText : Owner → Owner → ℕ → List ℕ → Type 0
SetsText old new child text = arc_value new ≡ slice_set (arc_value old) child text

-- The part has the same pages.
abbrev pub KeepsPart : Owner → Owner → Type 0
KeepsPart old new = arc_value new ≡ arc_value old

-- These texts are set, one after another.
abbrev pub SetsPages : List Page → List Owner → List Owner → Type 0
SetsPages pages old new = pages_held new ≡ pages_with pages (pages_held old)

-- Each part without a mark of change is the same.
abbrev pub KeepsOthers : List Bool → List Owner → List Owner → Type 0
KeepsOthers changed old new = UnmarkedPartsStay changed (parts_held old) (parts_held new)
