use Rattle.keys_file.proofs.Keys.{front_read}
use Rattle.keys_file.proofs.reading.read_text.Goals as goal

pub returns-in-Ok : goal.returns-in-Ok
returns-in-Ok g c =
    front_read (g.R.Read.remaining c.args.file) 65537 c.read_to_end.new.buf.items
    (rw (c.in-Ok.is, c.new-text.ensures.items, c.take-front.ensures.limit, c.take-front.ensures.inner) at c.read_to_end.ensures.bytes)
