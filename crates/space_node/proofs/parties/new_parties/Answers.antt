use Rattle.std.proofs.Common.{rules, ◌+◌, length, subst, sym}
use Rattle.std.proofs.lemmas.Iterator.Adapters.{YieldsList-from_vec}
use Rattle.std.proofs.lemmas.Iterator.Consumers.{YieldsList-turn}
use Rattle.std.proofs.lemmas.List.{length_push}
use Rattle.space_node.proofs.NewHandles.{share_more}
use Rattle.space_node.proofs.Orders.{AreLeft, are_left, is_first}
use Rattle.space_node.proofs.parties.new_parties.Goals as goal

pub loop-share-init : goal.loop-share-init
loop-share-init g c = (c.requires.new_orders, search rules, c.requires.orders_are)

pub add_party-requires-clause-first : goal.add_party-requires-clause-first
add_party-requires-clause-first g c =
    let source = YieldsList-from_vec {s = c.into_iter-share-iterator.result} c.args.shares.items (cc) (cc) in
    let t = YieldsList-turn source c.loop-share.yielded _ c.loop-share.yielded_by _ c.next.new.self c.in-Some.share c.in-Some.is c.next.ensures.steps in
    is_first c.args.shares.items c.loop-share.orders.items (length c.loop-share.yielded) c.in-Some.share t.0 t.1 c.loop-share.invariant.2

pub loop-share-preserved : goal.loop-share-preserved
loop-share-preserved g c =
    let source = YieldsList-from_vec {s = c.into_iter-share-iterator.result} c.args.shares.items (cc) (cc) in
    let t = YieldsList-turn source c.loop-share.yielded _ c.loop-share.yielded_by _ c.next.new.self c.in-Some.share c.in-Some.is c.next.ensures.steps in
    let left : AreLeft c.args.shares.items c.add_party.new.orders.items (length c.loop-share.yielded + 1) =
    are_left c.args.shares.items c.loop-share.orders.items (length c.loop-share.yielded) c.in-Some.share t.0 t.1 c.loop-share.invariant.2 c.add_party.new.orders.items
    c.in_ok-add_party.ensures.left in (
      c.add_party.ensures.new_orders,
      share_more c.loop-share.yielded c.in-Some.share _ _ c.loop-share.invariant.1 c.in_ok-add_party.ensures.clients,
      subst (AreLeft c.args.shares.items c.add_party.new.orders.items) (sym (length_push c.loop-share.yielded c.in-Some.share)) left,
    )
