-- The refusals of a call of C.
use Rattle.std.specs.Prelude.{ℕ, Bool, ◌||◌, ◌==◌}

-- Whether the number is that of a refusal: memory ran out, malformed, too large, stopped, no such version, and closed.
abbrev pub is_refusal : ℕ → Bool
is_refusal n = n == 4 || n == 5 || n == 7 || n == 21 || n == 25 || n == 27
