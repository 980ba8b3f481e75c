-- The digests of a partition tree of 1,024 pages in 32 inner parts (Castro and Liskov, Practical Byzantine fault
-- tolerance and proactive recovery, TOCS 2002, on hierarchical state partitions). A digest is SHA-256 (FIPS 180-4), and
-- the pages are the list of their texts.
use Rattle.std.specs.Prelude.{ℕ, ◌*◌, List, [], map, take, drop, replicate}
use Rattle.std.specs.List.{concat, range_with_len}
use Rattle.partition_tree.specs.declared.tree.TheConstants.{PAGES}
use Rattle.sha2.specs.Sha256.{sha256}

-- The digest of a part: that of its children's digests in order, one after another.
abbrev pub digest_of_children : List (List ℕ) → List ℕ
digest_of_children digests = sha256 (concat digests)

-- The digests of the 32 pages of the inner part j, which are the pages 32 * j to 32 * j + 31.
unfoldable pub page_digests : List (List ℕ) → ℕ → List (List ℕ)
page_digests pages j = map sha256 (take 32 (drop (32 * j) pages))

-- The digest of the inner part j.
abbrev pub inner_digest : List (List ℕ) → ℕ → List ℕ
inner_digest pages j = digest_of_children (page_digests pages j)

-- The digests of the 32 inner parts.
unfoldable pub inner_digests : List (List ℕ) → List (List ℕ)
inner_digests pages = map (inner_digest pages) (range_with_len 0 32)

-- The digest of the root.
abbrev pub root_of : List (List ℕ) → List ℕ
root_of pages = digest_of_children (inner_digests pages)

-- The pages of a new tree.
unfoldable pub empty_pages : List (List ℕ)
empty_pages = replicate PAGES []
