use Rattle.std.proofs.Common.{ℕ, true, refl, sym, subst}
use Rattle.std.proofs.lemmas.Result.{on_ok_weaker}
use Rattle.replica.specs.State.{BothPartsData}
use Rattle.replica.specs.BothPartsView.{both_parts_data}
use Rattle.orderer.specs.Multicasting.{OutputsHaveAll, MulticastsLastAlso}
use Rattle.replica.specs.Numbering.{AllAgain}
use Rattle.replica.proofs.GoingOn.{all_again, change_only}
use Rattle.replica.proofs.both_parts.BothParts.multicast_all_again.Goals as goal

pub returns-then-not-is_active-clause-ok : goal.returns-then-not-is_active-clause-ok
returns-then-not-is_active-clause-ok c =
    let o = c.multicast_view_change_again.new.self in
    let before = c.args.outputs.now.items in
    let after = c.multicast_view_change_again.new.outputs.items in
    let new : BothPartsData = both_parts_data (record c.self.inside { orderer = o }) in
    on_ok_weaker c.multicast_view_change_again.result
    (λ says. subst (λ (r : BothPartsData). AllAgain r before new after) c.self.view_is
    (change_only (both_parts_data c.self.inside) new o before after
    (sym c.if-not-is_active.ensures) says refl))
    c.multicast_view_change_again.ensures.ok

pub returns-clause-ok : goal.returns-clause-ok
returns-clause-ok c =
    let o = c.multicast_again.new.self in
    let before = c.args.outputs.now.items in
    let after = c.multicast_again.new.outputs.items in
    let new : BothPartsData = both_parts_data (record c.self.inside { orderer = o }) in
    on_ok_weaker c.multicast_again.result
    (λ says. subst (λ (r : BothPartsData). AllAgain r before new after) c.self.view_is
    (all_again (both_parts_data c.self.inside) new o before after
    (sym c.if-not-is_active.ensures)
    (subst (λ (n : ℕ). MulticastsLastAlso true 0 (OutputsHaveAll n) (both_parts_data c.self.inside).orderer before o after)
    c.number-executed.ensures.value says) refl))
    c.multicast_again.ensures.ok
