use Rattle.orderer.specs.OrdererView.{orderer_data}
use Rattle.orderer.proofs.Batches.{vote_added}
use Rattle.std.proofs.Common.{◌≡◌, true, sym, subst}
use Rattle.ordering.specs.Keeping.{IsLog}
use Rattle.ordering.specs.Log as logs
use Rattle.orderer.specs.State.{OrdererData}
use Rattle.orderer.proofs.orderer.Orderer.add_vote.Goals as goal

pub invariant_of-self : goal.invariant_of-self
invariant_of-self c =
    vote_added c.args.phase (orderer_data c.self.inside) c.args.number.0 _ c.add_vote.new.self c.self.invariant
    (subst (λ (x : OrdererData). IsLog x.log) (sym c.self.view_is) c.keeps.ensures.log)
    (subst (λ (x : OrdererData). logs.is_in_marks x.log c.args.number.0 ≡ true) (sym c.self.view_is) c.requires) c.add_vote.ensures
