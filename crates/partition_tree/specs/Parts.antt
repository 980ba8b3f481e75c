-- The inner parts of a tree, each the list of its 32 pages' texts.
use Rattle.std.specs.Prelude.{◌≡◌, ℕ, List, length, map}
use Rattle.std.specs.Arc.{arc_value}
use Rattle.std.specs.List.{All, flat_map}
use Rattle.std.specs.declared.alloc.Global.{Global}
use Rattle.std.specs.declared.sync.Arc.{Arc}
use Rattle.sha2.specs.Sha256.{sha256}
use Rattle.partition_tree.specs.Digests.{digest_of_children}

-- The pages of all parts, one part after another.
abbrev pub pages_in : {A : Type 0} → List (List A) → List A
pages_in parts = flat_map (λ part. part) parts

-- Each part has 32 pages.
abbrev pub AreFull : {A : Type 0} → List (List A) → Type 0
AreFull parts = All (λ part. length part ≡ 32) parts

-- The digest of a part.
abbrev pub part_digest : List (List ℕ) → List ℕ
part_digest texts = digest_of_children (map sha256 texts)

-- The parts that these owners hold.
abbrev pub parts_held : List (Arc (List (List ℕ)) Global) → List (List (List ℕ))
parts_held owners = map arc_value owners

-- The pages of the parts that these owners hold.
abbrev pub pages_held : List (Arc (List (List ℕ)) Global) → List (List ℕ)
pages_held owners = pages_in (parts_held owners)
