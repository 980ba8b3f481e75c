use Rattle.std.proofs.Common.{◌∙◌, sym, true, false, arith}
use Rattle.wire_format.specs.Views.{mac_data}
use Rattle.authenticator.proofs.Entries.{has_mac-step, has_mac-end}
use Rattle.authenticator.proofs.sealed.has_mac.Goals as goal

pub returns-then-is_mac_for : goal.returns-then-is_mac_for
returns-then-is_mac_for c =
    sym (c.loop-i.invariant ∙ has_mac-step c.args.party c.args.mac.now c.args.entries.now c.loop-i.i (mac_data c.get.result) true
    c.get.ensures (sym c.if-is_mac_for.true ∙ c.is_mac_for.ensures))

pub loop-i-preserved : goal.loop-i-preserved
loop-i-preserved c =
    c.loop-i.invariant ∙ has_mac-step c.args.party c.args.mac.now c.args.entries.now c.loop-i.i (mac_data c.get.result) false
    c.get.ensures (sym c.if-is_mac_for.false ∙ c.is_mac_for.ensures)

pub returns : goal.returns
returns c = sym (c.loop-i.invariant ∙ has_mac-end c.args.party c.args.mac.now c.args.entries.now c.loop-i.i (omega (arith, c.len-i-end.ensures.value)))
