use Rattle.replica.specs.BothPartsView.{both_parts_data}
use Rattle.replica.proofs.ReadsCome.{answers_bytes}
use Rattle.replica.proofs.both_parts.BothParts.on_read.Goals as goal

pub returns-clause-ok : goal.returns-clause-ok
returns-clause-ok c =
    rw (c.in_ok-read.ensures.same, ← c.self.view_is)
    (answers_bytes (both_parts_data c.self.inside) c.args.bytes.now c.read.new.outputs.items c.self.invariant (rw (← c.requires.first) c.in_ok-read.ensures.ok))
