use Rattle.std.proofs.Common.{◌≡◌, ◌<◌, ◌≤◌, arith, subst, sym}
use Rattle.space_node.specs.Places.{IsFirstShareOf}
use Rattle.space_node.proofs.Orders.{after_client, after_replica, no_client}
use Rattle.space_node.proofs.parties.add_party.Goals as goal

pub take_order-order-requires-clause-first : goal.take_order-order-requires-clause-first
take_order-order-requires-clause-first g c = subst (λ p. IsFirstShareOf p c.args.orders.now.items) (sym c.in-Replica.ensures.value) c.requires.first

pub returns-in_ok-push-in-Replica-clause-left : goal.returns-in_ok-push-in-Replica-clause-left
returns-in_ok-push-in-Replica-clause-left g c =
    let who : c.in-Replica.replica.0 ≡ c.args.share.party = c.in-Replica.ensures.value in
    let below : c.args.share.party < 256 = omega arith in
    after_replica c.args.share.party c.args.orders.now.items c.take_order-order.new.orders.items below c.take_order-order.ensures.left

pub returns-in_ok-push-in-Replica-clause-clients : goal.returns-in_ok-push-in-Replica-clause-clients
returns-in_ok-push-in-Replica-clause-clients g c =
    let who : c.in-Replica.replica.0 ≡ c.args.share.party = c.in-Replica.ensures.value in
    let below : c.args.share.party < 256 = omega arith in
    no_client c.args.share.party _ below

pub returns-in_ok-push-in-Client-2-clause-left : goal.returns-in_ok-push-in-Client-2-clause-left
returns-in_ok-push-in-Client-2-clause-left g c =
    let high : 256 ≤ c.args.share.party = omega (arith, c.in-Client.ensures.value) in
    after_client c.args.share.party c.args.orders.now.items high
