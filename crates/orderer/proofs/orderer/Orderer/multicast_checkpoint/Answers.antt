use Rattle.orderer.specs.OrdererView.{orderer_data}
use Rattle.orderer.proofs.Batches.{checkpoint_counted}
use Rattle.wire_format.specs.Views.{checkpoint_entry_data}
use Rattle.orderer.proofs.orderer.Orderer.multicast_checkpoint.Goals as goal
use Rattle.orderer.proofs.orderer.Orderer.multicast_checkpoint.Goals as goal

pub invariant_of-self : goal.invariant_of-self
invariant_of-self c = checkpoint_counted (orderer_data c.self.inside) c.me-me.result.0 (checkpoint_entry_data c.args.entry) c.add_checkpoint.new.self c.self.invariant c.add_checkpoint.ensures
