use Rattle.std.proofs.Common.{rules, ◌≡◌, ◌<◌, true, Some, sym, ◌∙◌, ap, eqb-true}
use Rattle.std.proofs.lemmas.Bool.{eq-eqb}
use Rattle.std.proofs.lemmas.Result.{on_ok_weaker}
use Rattle.ordering.specs.Log as logs
use Rattle.ordering.specs.RowView.{batch_lent}
use Rattle.orderer.specs.State.{OrdererData}
use Rattle.orderer.proofs.Again.{batch_again, no_batch_again, other_batch_again}
use Rattle.orderer.proofs.orderer.Orderer.multicast_batch_again.Goals as goal

pub returns-then-not-is_primary-clause-ok : goal.returns-then-not-is_primary-clause-ok
returns-then-not-is_primary-clause-ok c =
    other_batch_again c.args.number.0 c.args.self.now c.args.outputs.now.items
    (λ own above.
    let primary : c.is_primary.result ≡ true = c.is_primary.ensures ∙ eq-eqb c.args.self.now.log.me (logs.primary c.args.self.now.log c.args.self.now.log.view) own in
    search rules)

pub returns-in_default-clause-ok : goal.returns-in_default-clause-ok
returns-in_default-clause-ok c =
    no_batch_again c.args.number.0 c.args.self.now c.args.outputs.now.items
    (ap (λ (o : OrdererData). logs.logged_batch o.log c.args.number.0) (sym c.self.view_is) ∙ sym c.logged_batch.ensures ∙ ap batch_lent c.in_default.is)

pub returns-clause-ok : goal.returns-clause-ok
returns-clause-ok c =
    let primary : c.is_primary.result ≡ true = search rules in
    let above : c.args.self.now.assigned < c.args.number.0 = search rules in
    on_ok_weaker c.multicast_pre_prepare.result
    (λ k. batch_again c.args.number.0 c.text.result.now c.args.self.now c.multicast_pre_prepare.new.self c.args.outputs.now.items c.multicast_pre_prepare.new.outputs.items c.keeps.ensures.own
    (eqb-true c.args.self.now.log.me (logs.primary c.args.self.now.log c.args.self.now.log.view) (sym c.is_primary.ensures ∙ primary))
    above
    (ap (λ (o : OrdererData). logs.logged_batch o.log c.args.number.0) (sym c.self.view_is) ∙ sym c.logged_batch.ensures ∙ ap batch_lent c.in-Some.is
    ∙ ap Some (sym (c.text.ensures ∙ c.deref.ensures ∙ c.in_ok-batch.ensures)))
    k c.multicast_pre_prepare.ensures.same)
    c.multicast_pre_prepare.ensures.said
