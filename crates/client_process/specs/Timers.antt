-- The timers of a client's calls.
use Rattle.std.specs.Prelude.{ℕ, suc, ◌*◌, ◌%◌, ◌^◌, min}
use Rattle.client_process.specs.declared.timer.TheConstants.{FIRST, LONGEST}
use Rattle.client_process.specs.declared.timer.Timer.{Timer}

-- The number after this one. Numbers have eight bytes.
abbrev pub next_number : ℕ → ℕ
next_number number = suc number % 2 ^ 64

-- A call's first timer, behind one of this number: it lasts half a second.
abbrev pub first_timer : ℕ → Timer
first_timer number = record { number = next_number number; milliseconds = FIRST }

-- The next timer of the same call: it lasts twice as long, up to eight seconds.
abbrev pub next_timer : Timer → Timer
next_timer timer = record { number = next_number timer.number; milliseconds = min (2 * timer.milliseconds) LONGEST }
