-- The text that stands at the front of bytes behind its length.
use Rattle.std.specs.Prelude.{◌≡◌, ◌≢◌, ℕ, ◌<◌, ◌^◌, List, ◌++◌, length}
use Rattle.wire_format.specs.Spelling.{piece}

-- If the bytes begin with a length and so many bytes, front are those.
abbrev pub IsFrontPiece : List ℕ → List ℕ → Type 0
IsFrontPiece bytes front =
    (text rest : List ℕ) → length text < 2 ^ 32 → bytes ≡ piece text ++ rest → front ≡ text

-- The bytes don't begin with a length and so many bytes.
abbrev pub HasNoFrontPiece : List ℕ → Type 0
HasNoFrontPiece bytes = (text rest : List ℕ) → length text < 2 ^ 32 → bytes ≢ piece text ++ rest
