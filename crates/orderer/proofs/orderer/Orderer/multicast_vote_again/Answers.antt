use Rattle.std.proofs.Common.{sym, ap, ◌∙◌}
use Rattle.std.proofs.lemmas.Result.{on_ok_weaker}
use Rattle.ordering.specs.Log as logs
use Rattle.orderer.specs.State.{OrdererData}
use Rattle.orderer.proofs.Again.{vote_again, no_vote_again}
use Rattle.orderer.proofs.orderer.Orderer.multicast_vote_again.Goals as goal

pub returns-in-None-clause-ok : goal.returns-in-None-clause-ok
returns-in-None-clause-ok c =
    no_vote_again c.args.phase c.args.number.0 c.args.self.now c.args.outputs.now.items
    (ap (λ (o : OrdererData). logs.vote_of c.args.phase o.log c.args.number.0 o.log.me) (sym c.self.view_is) ∙ ap (logs.vote_of c.args.phase c.self.inside.log c.args.number.0) (sym c.me-me.ensures) ∙ sym c.vote_of.ensures ∙ c.in-None.is)

pub returns-in-Some-clause-ok : goal.returns-in-Some-clause-ok
returns-in-Some-clause-ok c =
    on_ok_weaker c.multicast_vote.result
    (λ k. vote_again c.args.phase c.args.number.0 c.in-Some.digest c.args.self.now c.multicast_vote.new.self c.args.outputs.now.items c.multicast_vote.new.outputs.items c.keeps.ensures.own
    (ap (λ (o : OrdererData). logs.vote_of c.args.phase o.log c.args.number.0 o.log.me) (sym c.self.view_is) ∙ ap (logs.vote_of c.args.phase c.self.inside.log c.args.number.0) (sym c.me-me.ensures) ∙ sym c.vote_of.ensures ∙ c.in-Some.is) k c.multicast_vote.ensures.same)
    c.multicast_vote.ensures.said
