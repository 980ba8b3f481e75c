-- Which pages a root determines. Two pages that differ may have one digest, so the texts at hand have to be told apart
-- by theirs. A digest is SHA-256 (FIPS 180-4), and pages are the list of their texts.
use Rattle.std.specs.Prelude.{◌≡◌, ℕ, ◌<◌, List, [], length, slice_index_or}
use Rattle.std.specs.List.{concat}
use Rattle.sha2.specs.Sha256.{sha256}
use Rattle.partition_tree.specs.Digests.{page_digests, inner_digests, root_of}

-- The texts that are hashed in the tree over these pages: each page, the digests of the pages of each inner part, and
-- those of all inner parts.
pub data IsHashed (pages : List (List ℕ)) : List ℕ → Type 0 where
  page : (i : ℕ) → i < 1024 → IsHashed pages (slice_index_or pages i [])
  inner : (j : ℕ) → j < 32 → IsHashed pages (concat (page_digests pages j))
  top : IsHashed pages (concat (inner_digests pages))

-- Where a text over the pages and one over the others have the same digest, they are the same text.
abbrev pub DoNotCollide : List (List ℕ) → List (List ℕ) → Type 0
DoNotCollide pages others =
    (x y : List ℕ) → IsHashed pages x → IsHashed others y → sha256 x ≡ sha256 y → x ≡ y

-- Each state's pages with this root are these pages, unless texts collide.
abbrev pub AreThePagesOf : List ℕ → List (List ℕ) → Type 0
AreThePagesOf root pages =
    (others : List (List ℕ)) → length others ≡ 1024 → root_of others ≡ root → DoNotCollide pages others
    → pages ≡ others
