use Rattle.std.proofs.Common.{length, arith}
use Rattle.event_log.proofs.Counting.{one_more, count_fits, rest_are_none, some_left}
use Rattle.event_log.proofs.events.count_events.Goals as goal

pub loop-behind-preserved : goal.loop-behind-preserved
loop-behind-preserved c =
    one_more c.args.bytes.now _ c.loop-behind.rest.now c.in-Some.behind.now c.loop-behind.count c.loop-behind.invariant c.in-Some.ensures

pub overflow_add-count : goal.overflow_add-count
overflow_add-count c = omega (arith, count_fits c.args.bytes.now c.loop-behind.rest.now c.loop-behind.count c.loop-behind.invariant)

pub returns-else-is_empty : goal.returns-else-is_empty
returns-else-is_empty c =
    rest_are_none c.args.bytes.now c.loop-behind.rest.now c.loop-behind.count c.loop-behind.invariant c.in_default.ensures
    (some_left (length c.loop-behind.rest.now) c.is_empty.result c.is_empty.ensures c.if-is_empty.false)
