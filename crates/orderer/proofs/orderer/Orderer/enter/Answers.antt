use Rattle.orderer.specs.OrdererView.{orderer_data}
use Rattle.orderer.proofs.Batches.{view_entered}
use Rattle.orderer.proofs.orderer.Orderer.enter.Goals as goal

pub invariant_of-self : goal.invariant_of-self
invariant_of-self c = view_entered (orderer_data c.self.inside) c.args.view.0 c.args.last.0 c.enter.new.self c.self.invariant c.keeps.ensures c.enter.ensures
