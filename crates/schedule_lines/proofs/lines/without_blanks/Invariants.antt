use Rattle.std.proofs.Common.{◌≡◌, length}
use Rattle.schedule_text.specs.Words.{trimmed}
use Rattle.schedule_lines.proofs.lines.without_blanks.Given as goal

-- only blanks were passed
abbrev pub invariant-loop-rest : goal.invariant-loop-rest
invariant-loop-rest l = trimmed l.rest ≡ trimmed l.line

abbrev pub decreases-loop-rest : goal.decreases-loop-rest
decreases-loop-rest l = length l.rest
