use Rattle.std.proofs.Common.{◌<◌, ◌∙◌, arith, length, refl}
use Rattle.space_node.proofs.NewParties.{without_first}
use Rattle.space_node.proofs.Orders.{first_new, first_party, removed, some_order}
use Rattle.space_node.proofs.parties.take_order.Goals as goal

pub remove-order-requires : goal.remove-order-requires
remove-order-requires g c =
    let below : c.args.replica.0 < 256 = omega arith in
    let some : 0 < length c.args.orders.now.items = some_order c.args.replica.0 c.args.orders.now.items (c.requires.first below) in
    omega (arith, some, c.args.orders.now.ok.0)

pub returns : goal.returns
returns g c =
    let orders = c.args.orders.now.items in
    let below : c.args.replica.0 < 256 = omega arith in
    let first = c.requires.first below in
    record {
      party = first_party c.args.replica.0 orders c.remove-order.result first c.remove-order.ensures.value;
      new = first_new orders c.remove-order.result (some_order c.args.replica.0 orders first) c.remove-order.ensures.value c.requires.new;
      left = c.remove-order.ensures.items ∙ removed orders;
      others = rw c.remove-order.ensures.items (without_first orders 0 refl c.requires.new);
    }
