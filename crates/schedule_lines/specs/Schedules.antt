-- A schedule that was read.
use Rattle.std.specs.Prelude.{List, ℕ, map, Option, None, Some}
use Rattle.std.specs.Str.Lines.{lines}
use Rattle.protocol.specs.System.Schedule as schedules
use Rattle.schedule_text.specs.StepView.{step_of}
use Rattle.schedule_lines.specs.Lines.{Ending, complete, refused_at, LinesSay}
use Rattle.schedule_lines.specs.declared.reading.RefusedLine.{RefusedLine}
use Rattle.schedule_lines.specs.declared.reading.Schedule.{Schedule}

abbrev pub ending_of : Option RefusedLine → Ending
ending_of None = complete
ending_of (Some refused) = refused_at refused.number

abbrev pub steps_in : Schedule → List schedules.Step
steps_in s = map step_of s.steps.items

-- The lines of the bytes say the steps that were read.
abbrev pub IsRead : List ℕ → Schedule → Type 0
IsRead bytes s = LinesSay 1 (lines bytes) s.numbers.items (steps_in s) (ending_of s.refused)
