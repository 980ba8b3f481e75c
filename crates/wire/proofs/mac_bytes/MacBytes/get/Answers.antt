use Rattle.std.proofs.Common.{◌∙◌, Some, slice_get, length, ap, sym, arith}
use Rattle.wire.specs.Macs.{mac_in}
use Rattle.wire.proofs.Entries.{macs_count, entry_there}
use Rattle.wire.proofs.mac_bytes.MacBytes.get.Goals as goal

pub returns : goal.returns
returns c =
    let m = c.self.inside in
    ap (λ ms. slice_get ms c.args.i) (sym c.self.view_is)
    ∙ entry_there m.count c.args.i m.entries.now (omega (arith, c.requires, ap length c.self.view_is, macs_count m.count m.entries.now))
    ∙ ap (λ bs. Some (mac_in bs)) (sym c.split_at.ensures.back) ∙ ap Some (sym c.read_entry.ensures)
