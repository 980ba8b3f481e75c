-- Moments, by how long they come after the beginning of 1970.
use Rattle.std.specs.Prelude.{ℕ, ◌+◌, ◌*◌, ◌/◌, min}
use Rattle.std.specs.declared.time.Duration.{Duration}

-- the whole milliseconds of a span of time
abbrev pub milliseconds_of : Duration → ℕ
milliseconds_of span = (span.secs * 1_000_000_000 + min span.nanos 999_999_999) / 1_000_000
