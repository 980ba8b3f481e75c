use Rattle.std.proofs.Common.{Bor, ℕ, List, option_map, sym, ap, ◌∙◌, subst}
use Rattle.std.proofs.lemmas.Result.{on_ok_weaker}
use Rattle.view_change.specs.ReceivedData.{HeldData, held_of}
use Rattle.orderer.specs.State.{OrdererData, IsOrderer}
use Rattle.orderer.proofs.ChangingViews.{change_again, no_change_again}
use Rattle.orderer.proofs.orderer.Orderer.multicast_view_change_again.Goals as goal

pub returns-in-None-clause-ok : goal.returns-in-None-clause-ok
returns-in-None-clause-ok c =
    no_change_again c.args.self.now c.args.outputs.now.items
    (ap (λ (o : OrdererData). option_map (λ (h : HeldData). h.frame) (held_of o.received.held o.log.me)) (sym c.this.view_is)
    ∙ ap (λ (m : ℕ). option_map (λ (h : HeldData). h.frame) (held_of c.this.inside.received.held m)) (sym c.me.ensures)
    ∙ sym c.frame_of.ensures ∙ ap (option_map (λ (b : Bor (List ℕ)). b.now)) c.in-None.is)

pub returns-in-Some-clause-ok : goal.returns-in-Some-clause-ok
returns-in-Some-clause-ok c =
    on_ok_weaker c.multicast_frame.result
    (λ says. change_again c.args.self.now c.in-Some.frame.now c.args.outputs.now.items c.multicast_frame.new.outputs.items (subst IsOrderer c.this.view_is c.this.invariant)
    (ap (λ (o : OrdererData). option_map (λ (h : HeldData). h.frame) (held_of o.received.held o.log.me)) (sym c.this.view_is)
    ∙ ap (λ (m : ℕ). option_map (λ (h : HeldData). h.frame) (held_of c.this.inside.received.held m)) (sym c.me.ensures)
    ∙ sym c.frame_of.ensures ∙ ap (option_map (λ (b : Bor (List ℕ)). b.now)) c.in-Some.is) says)
    c.multicast_frame.ensures
