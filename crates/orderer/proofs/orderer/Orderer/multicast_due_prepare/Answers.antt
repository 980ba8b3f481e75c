use Rattle.std.proofs.Common.{sym, ap, ◌∙◌, subst}
use Rattle.ordering.specs.declared.votes.Phase.TheVariants as phases
use Rattle.ordering.specs.Log.{due_prepare}
use Rattle.orderer.specs.State.{OrdererData}
use Rattle.orderer.specs.Multicasting.{AddsVote}
use Rattle.orderer.proofs.Voting.{says_prepare}
use Rattle.orderer.proofs.orderer.Orderer.multicast_due_prepare.Goals as goal

pub returns-clause-ok : goal.returns-clause-ok
returns-clause-ok c =
    says_prepare c.args.number.0 c.in-Some.digest c.args.self.now c.add_vote.new.self c.args.outputs.now.items c.multicast_vote.new.outputs.items c.keeps.ensures.log c.keeps.ensures.own
    (ap (λ (o : OrdererData). due_prepare o.log c.args.number.0) (sym c.self.view_is) ∙ sym c.due_vote.ensures ∙ c.in-Some.is) c.in_ok-multicast_vote.ensures.said
    (subst (λ (x : OrdererData). AddsVote phases.Prepare c.args.number.0 c.in-Some.digest x c.add_vote.new.self) c.in_ok-multicast_vote.ensures.same c.add_vote.ensures)
