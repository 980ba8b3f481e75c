use Rattle.desk.specs.DeskView.{desk_data}
use Rattle.desk.proofs.Newest.{desk_drops}
use Rattle.desk.proofs.desk.Desk.drop_below.Goals as goal

pub invariant_of-self : goal.invariant_of-self
invariant_of-self c = desk_drops (desk_data c.self.inside) c.args.low.0 c.drop_below.new.self c.self.invariant c.drop_below.ensures
