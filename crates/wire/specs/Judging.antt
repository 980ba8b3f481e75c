-- The results of judging bytes, for the contracts of private functions.
use Rattle.std.specs.Prelude.{◌≡◌, ℕ, Bool, true, false, ◌==◌, List, length, Option, Some, None, option_map, Result, Ok, Err}
use Rattle.wire_format.specs.declared.fault.NoFrame.{NoFrame}
use Rattle.wire_format.specs.declared.fault.NoFrame.TheVariants as faults
use Rattle.wire.specs.declared.headers.Header.{Header}
use Rattle.wire_format.specs.Messages.{FrameData}
use Rattle.wire.specs.Headers.{header_data, header_of}

-- the value was read up to the end of the bytes
abbrev pub ends : Option (List ℕ) → Bool
ends None = false
ends (Some rest) = length rest == 0

abbrev pub FailsJudged : NoFrame → Option FrameData → Bool → Type 0
FailsJudged faults.Malformed read over = (read ≡ None) × (over ≡ false)
FailsJudged faults.TooLarge read over = over ≡ true

-- The header is that of the frame that was read. The fault is TooLarge if the bytes or a view change in them are too
-- long.
abbrev pub JudgesFrame : Result Header NoFrame → Option FrameData → Bool → Type 0
JudgesFrame (Ok header) read over = option_map header_of read ≡ Some (header_data header)
JudgesFrame (Err fault) read over = FailsJudged fault read over
