use Rattle.schedule_command.proofs.Limited.{front_read, says_all, tells_refused}
use Rattle.schedule_command.proofs.settings.read_settings.Goals as goal

pub returns-in-Ok : goal.returns-in-Ok
returns-in-Ok g c =
    says_all (g.R.Read.remaining c.args.reader) c.read_to_end.new.buf.items c.in-Ok.settings.config c.in-Ok.settings.journal
    (front_read (g.R.Read.remaining c.args.reader) 65537 c.read_to_end.new.buf.items
    (rw (c.in_default.is, c.new-text.ensures.items, c.take-front.ensures.limit, c.take-front.ensures.inner) at c.read_to_end.ensures.bytes))
    (rw (c.as_slice.ensures.value, c.in-Ok.is) at c.read_config.ensures)

pub returns : goal.returns
returns g c =
    tells_refused (g.R.Read.remaining c.args.reader) c.read_to_end.new.buf.items c.in-Err-read_config.fault c.fault_of.result
    (front_read (g.R.Read.remaining c.args.reader) 65537 c.read_to_end.new.buf.items
    (rw (c.in_default.is, c.new-text.ensures.items, c.take-front.ensures.limit, c.take-front.ensures.inner) at c.read_to_end.ensures.bytes))
    c.fault_of.ensures (rw (c.as_slice.ensures.value, c.in-Err-read_config.is) at c.read_config.ensures)
