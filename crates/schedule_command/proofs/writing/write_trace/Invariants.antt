use Rattle.std.proofs.Common.{◌++◌, take}
use Rattle.one_space.specs.Endings.{FrontIsWritten}
use Rattle.schedule_command.specs.Texts.{numbered_lines}
use Rattle.schedule_command.proofs.writing.write_trace.Given as goal

-- the lines of the first entries follow the held text
abbrev pub invariant-loop-position : goal.invariant-loop-position
invariant-loop-position g l =
    FrontIsWritten (g.W.Write.contents l.initial.writer) (g.W.Write.contents l.writer) (l.initial.text.items ++ numbered_lines 0 (take l.position l.trace)) l.text.items
