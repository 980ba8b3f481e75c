use Rattle.keys_file.proofs.Keys.{refuses, tells}
use Rattle.keys_file.proofs.reading.read_keys.Goals as goal

pub returns-in-Ok : goal.returns-in-Ok
returns-in-Ok g c =
    tells (g.R.Read.remaining c.args.file) c.in_ok-text.text.items c.in-Ok.keys (c.in_ok-text.ensures {u = tt})
    (rw (c.as_slice.ensures.value, c.in-Ok.is) at c.read_file.ensures)

pub returns : goal.returns
returns g c =
    refuses (g.R.Read.remaining c.args.file) c.in_ok-text.text.items c.in-Err.fault c.fault_of.result (c.in_ok-text.ensures {u = tt}) c.fault_of.ensures
    (rw (c.as_slice.ensures.value, c.in-Err.is) at c.read_file.ensures)
