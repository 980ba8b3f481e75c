use Rattle.std.proofs.Common.{IfSome}
use Rattle.std.specs.Io.Buffered.{reader_remaining}
use Rattle.schedule_lines.specs.Reading.{ReadSoFar}
use Rattle.schedule_lines.proofs.reading.Schedule.read_lines.Given as goal

-- Any steps that the lines that are left say go on from here.
abbrev pub invariant-loop-number : goal.invariant-loop-number
invariant-loop-number g l = IfSome (reader_remaining g.R.Read.remaining l.initial.reader) (λ bytes.
    ReadSoFar bytes (reader_remaining g.R.Read.remaining l.reader) l.number l.self)
