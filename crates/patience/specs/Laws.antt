-- How long timeouts take.
use Rattle.std.specs.Prelude.{ℕ, ◌+◌, ◌≤◌, List, [], ◌∷◌}
use Rattle.patience.specs.Moments.{Moment, timed_out, costly, lasts}

-- how many milliseconds the timers lasted at whose ends the replica got timeouts
abbrev pub waited : List Moment → ℕ
waited [] = 0
waited (timed_out may_sign ∷ past) = lasts past + waited past
waited (_ ∷ past) = waited past

-- Whatever happened: 64 timeouts that may cost a signature took timers of 524,280,000 milliseconds.
abbrev pub TimeoutsTakeTime : Type 0
TimeoutsTakeTime = (past : List Moment) → 64 ≤ costly past → 524280000 ≤ waited past
