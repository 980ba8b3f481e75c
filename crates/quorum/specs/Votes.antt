-- Values that are given or not, as votes are.
use Rattle.std.specs.Prelude.{ℕ, Bool, false, List, Option, Some, None, bytes_eq}

-- the first of the two that is given
abbrev pub or_else : {A : Type 0} → Option A → Option A → Option A
or_else (Some x) later = Some x
or_else None later = later

-- whether a vote is given, and for this digest
abbrev pub has_digest : List ℕ → Option (List ℕ) → Bool
has_digest digest None = false
has_digest digest (Some d) = bytes_eq digest d
