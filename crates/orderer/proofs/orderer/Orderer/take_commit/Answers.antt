use Rattle.orderer.specs.OrdererView.{orderer_data}
use Rattle.orderer.proofs.Batches.{commit_taken}
use Rattle.orderer.proofs.orderer.Orderer.take_commit.Goals as goal

pub invariant_of-self : goal.invariant_of-self
invariant_of-self c =
    commit_taken (orderer_data c.self.inside) c.args.sender c.args.message.now c.on_commit.new.self c.on_commit.result c.self.invariant c.keeps.ensures c.on_commit.ensures
