use Rattle.orderer.specs.OrdererView.{orderer_data}
use Rattle.orderer.proofs.Batches.{prepare_taken}
use Rattle.orderer.proofs.orderer.Orderer.take_prepare.Goals as goal

pub invariant_of-self : goal.invariant_of-self
invariant_of-self c =
    prepare_taken (orderer_data c.self.inside) c.args.sender c.args.message.now c.on_prepare.new.self c.on_prepare.result c.self.invariant c.keeps.ensures c.on_prepare.ensures
