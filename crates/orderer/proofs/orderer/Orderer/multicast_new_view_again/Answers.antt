use Rattle.std.proofs.Common.{Some, sym, ap, ◌∙◌, option_map}
use Rattle.std.proofs.lemmas.Result.{on_ok_weaker}
use Rattle.orderer.specs.State.{OrdererData}
use Rattle.orderer.proofs.EnteringViews.{view_again, no_view_again}
use Rattle.orderer.proofs.orderer.Orderer.multicast_new_view_again.Goals as goal

pub returns-in-None-clause-ok : goal.returns-in-None-clause-ok
returns-in-None-clause-ok c = no_view_again c.args.self.now c.args.outputs.now.items (ap (λ (o : OrdererData). o.new_view) (sym c.own.view_is) ∙ ap (option_map (λ f. f.items)) c.in-None.is)

pub returns-in-Some-clause-ok : goal.returns-in-Some-clause-ok
returns-in-Some-clause-ok c =
    on_ok_weaker c.multicast_frame.result
    (λ k. view_again c.deref.result.now c.args.self.now c.args.outputs.now.items c.multicast_frame.new.outputs.items
    (ap (λ (o : OrdererData). o.new_view) (sym c.own.view_is) ∙ ap (option_map (λ f. f.items)) c.in-Some.is ∙ ap Some (sym c.deref.ensures.value)) k)
    c.multicast_frame.ensures
