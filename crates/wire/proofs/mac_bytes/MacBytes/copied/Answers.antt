use Rattle.std.proofs.Common.{◌∙◌, ◌∷◌, [], ◌++◌, ap, sym, length, length-append, map, arith}
use Rattle.std.proofs.lemmas.List.{take_all, map_push}
use Rattle.wire_format.specs.Views.{mac_data}
use Rattle.wire.proofs.Entries.{take_more}
use Rattle.wire.proofs.mac_bytes.MacBytes.copied.Goals as goal

pub loop-i-preserved : goal.loop-i-preserved
loop-i-preserved c = record {
  read =
      ap (map mac_data) c.push.ensures.items ∙ map_push mac_data c.loop-i.macs.items c.get.result ∙ ap (λ xs. xs ++ mac_data c.get.result ∷ []) c.loop-i.invariant.read
      ∙ sym (take_more c.args.self.now c.loop-i.i (mac_data c.get.result) c.get.ensures);
  number = omega (arith, ap length c.push.ensures.items, length-append c.loop-i.macs.items (c.get.result ∷ []), c.loop-i.invariant.number);
}

pub returns : goal.returns
returns c = c.loop-i.invariant.read ∙ take_all c.loop-i.i c.args.self.now (omega (arith, c.len-i-end.ensures.value))
