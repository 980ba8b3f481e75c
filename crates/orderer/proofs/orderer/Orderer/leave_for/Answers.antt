use Rattle.orderer.specs.OrdererView.{orderer_data}
use Rattle.orderer.proofs.Batches.{view_left}
use Rattle.orderer.proofs.orderer.Orderer.leave_for.Goals as goal

pub invariant_of-self : goal.invariant_of-self
invariant_of-self c = view_left (orderer_data c.self.inside) c.leave.new.self c.self.invariant c.leave.ensures
