-- The texts of pages. Each has an owner, which others may share.
use Rattle.std.specs.Prelude.{◌≡◌, ℕ, List, length, map}
use Rattle.std.specs.Arc.{arc_value}
use Rattle.std.specs.declared.alloc.Global.{Global}
use Rattle.std.specs.declared.sync.Arc.{Arc}
use Rattle.sha2.specs.Sha256.{sha256}

abbrev pub texts_of : List (Arc (List ℕ) Global) → List (List ℕ)
texts_of pages = map arc_value pages

-- A part has 32 texts, and their digests.
abbrev pub IsPart : List (Arc (List ℕ) Global) → List (List ℕ) → Type 0
IsPart texts digests = (length texts ≡ 32) × (digests ≡ map sha256 (texts_of texts))
