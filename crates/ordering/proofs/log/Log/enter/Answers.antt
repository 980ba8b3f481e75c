use Rattle.ordering.specs.LogView.{log_data}
use Rattle.ordering.proofs.Keeping.{log_entered}
use Rattle.ordering.proofs.log.Log.enter.Goals as goal

pub invariant_of-self : goal.invariant_of-self
invariant_of-self c = log_entered (log_data c.self.inside) c.args.view.0 c.enter_slots.new.slots.items c.self.invariant c.enter_slots.ensures
