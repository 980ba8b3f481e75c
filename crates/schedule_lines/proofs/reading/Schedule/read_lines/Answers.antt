use Rattle.std.proofs.Common.{OnOk, subst, arith}
use Rattle.std.specs.Io.Buffered.{reader_remaining}
use Rattle.schedule_lines.specs.Reading.{ReadSoFar}
use Rattle.schedule_lines.specs.Schedules.{IsRead}
use Rattle.schedule_lines.proofs.SoFar.{starts, each_known}
use Rattle.schedule_lines.proofs.reading.Schedule.read_lines.Goals as goal

pub loop-number-init : goal.loop-number-init
loop-number-init g c = starts (reader_remaining g.R.Read.remaining c.args.reader.now) c.args.self.now c.requires

pub returns : goal.returns
returns g c =
    each_known (λ bytes. ReadSoFar bytes (reader_remaining g.R.Read.remaining c.loop-number.reader) c.loop-number.number c.loop-number.self)
    (λ bytes. OnOk c.end_lines.result (IsRead bytes c.end_lines.new.self)) (reader_remaining g.R.Read.remaining c.args.reader.now)
    (λ bytes so_far.
    c.end_lines.ensures bytes
    (subst (λ n. ReadSoFar bytes (reader_remaining g.R.Read.remaining c.loop-number.reader) n c.loop-number.self) (omega (arith, c.loop-number.auto.number-end, c.loop-number-test.false)) so_far))
    c.loop-number.invariant
