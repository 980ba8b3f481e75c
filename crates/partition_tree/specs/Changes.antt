-- Changes of pages.
use Rattle.std.specs.Prelude.{◌≡◌, ℕ, ◌<◌, Bool, false, List, [], ◌∷◌, slice_index_or, slice_set}
use Rattle.partition_tree.specs.Parts.{part_digest}
use Rattle.partition_tree.specs.declared.page.Page.{Page}

-- The pages after these texts are set in order. Of two texts for one page the later counts.
abbrev pub pages_with : List Page → List (List ℕ) → List (List ℕ)
pages_with [] pages = pages
pages_with (page ∷ more) pages = pages_with more (slice_set pages page.index page.text.items)

-- Each part without a mark of change is the same.
abbrev pub UnmarkedPartsStay : List Bool → List (List (List ℕ)) → List (List (List ℕ)) → Type 0
UnmarkedPartsStay changed old new =
    (j : ℕ) → j < 32 → slice_index_or changed j false ≡ false
    → slice_index_or new j [] ≡ slice_index_or old j []

-- The digest of each part without a mark of change is known.
abbrev pub AreKnown : List Bool → List (List ℕ) → List (List (List ℕ)) → Type 0
AreKnown changed known parts =
    (j : ℕ) → j < 32 → slice_index_or changed j false ≡ false
    → slice_index_or known j [] ≡ part_digest (slice_index_or parts j [])
