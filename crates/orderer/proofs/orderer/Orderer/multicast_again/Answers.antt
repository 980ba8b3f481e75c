use Rattle.std.proofs.Common.{rules, ◌<◌, ◌+◌, arith}
use Rattle.std.proofs.lemmas.Result.{on_ok_weaker}
use Rattle.orderer.specs.Multicasting.{row_place}
use Rattle.orderer.proofs.Again.{rows_begin, one_row, all_said}
use Rattle.orderer.proofs.orderer.Orderer.multicast_again.Goals as goal

pub loop-number-init : goal.loop-number-init
loop-number-init c = rows_begin (c.args.executed.0 + 1) _ _ _ _ (omega arith) c.in_ok-multicast_new_view_again.ensures.ok

pub loop-number-preserved : goal.loop-number-preserved
loop-number-preserved c = one_row (c.args.executed.0 + 1) c.loop-number.number _ _ _ _ _ _ c.loop-number.invariant c.in_ok-multicast_row_again.ensures.ok

pub returns-clause-ok : goal.returns-clause-ok
returns-clause-ok c =
    let whole : c.args.self.now.log.low + c.args.self.now.log.span < c.loop-number.number = search rules in
    on_ok_weaker c.multicast_checkpoint_again.result
    (λ k. all_said c.args.executed.0 c.loop-number.number c.args.self.now _ _ _ _ _ whole c.loop-number.invariant (k (row_place c.loop-number.number)))
    c.multicast_checkpoint_again.ensures.ok
