use Rattle.std.proofs.Common.{◌∙◌, ap, sym, arith}
use Rattle.tuple_tree.specs.Reading.{rest_of}
use Rattle.wire_format.specs.Lists.{listed}
use Rattle.wire.specs.Orders.{order_of}
use Rattle.wire_format.specs.Views.{batch_entry_data}
use Rattle.wire_format.specs.Reading.{batch_entry_at}
use Rattle.wire.proofs.Steps.{batch_entries_from}
use Rattle.wire.proofs.Skipping.{skip_goes_on, skip_ends, skip_refuses, skip_done, batch_entries_uncounted}
use Rattle.wire.proofs.changes.skip_batch_entries.Goals as goal

pub returns-in_err-count : goal.returns-in_err-count
returns-in_err-count c = rw c.from_residual.ensures (batch_entries_uncounted (order_of c.args.order) c.args.bytes.now (c.in_err-count.ensures {u = tt}))

pub returns-in_err-entry : goal.returns-in_err-entry
returns-in_err-entry c =
    rw c.from_residual-in_err-entry.ensures
    (ap rest_of (batch_entries_from (order_of c.args.order) c.args.bytes.now c.in_ok-count.front.now c.in_ok-count.count c.in_ok-count.ensures) ∙ sym c.loop-i.invariant ∙ skip_ends batch_entry_at (order_of c.args.order) _ _ (listed batch_entry_data c.loop-i.last) c.loop-i.rest.now (omega arith) (c.in_err-entry.ensures {u = tt}))

pub returns-then-not-batch_entry_comes_next : goal.returns-then-not-batch_entry_comes_next
returns-then-not-batch_entry_comes_next c =
    ap rest_of (batch_entries_from (order_of c.args.order) c.args.bytes.now c.in_ok-count.front.now c.in_ok-count.count c.in_ok-count.ensures) ∙ sym c.loop-i.invariant
    ∙ skip_refuses batch_entry_at (order_of c.args.order) _ _ (listed batch_entry_data c.loop-i.last) (batch_entry_data c.in_ok-entry.entry) c.loop-i.rest.now c.in_ok-entry.after.now (omega arith) c.in_ok-entry.ensures (sym c.batch_entry_comes_next.ensures ∙ c.if-not-batch_entry_comes_next.true)

pub loop-i-preserved : goal.loop-i-preserved
loop-i-preserved c =
    skip_goes_on batch_entry_at (order_of c.args.order) _ _ (listed batch_entry_data c.loop-i.last) (batch_entry_data c.in_ok-entry.entry) c.loop-i.rest.now c.in_ok-entry.after.now (omega arith) c.in_ok-entry.ensures (sym c.batch_entry_comes_next.ensures ∙ c.if-not-batch_entry_comes_next.false)
    ∙ c.loop-i.invariant

pub returns : goal.returns
returns c = ap rest_of (batch_entries_from (order_of c.args.order) c.args.bytes.now c.in_ok-count.front.now c.in_ok-count.count c.in_ok-count.ensures) ∙ sym c.loop-i.invariant ∙ skip_done batch_entry_at (order_of c.args.order) _ _ (listed batch_entry_data c.loop-i.last) c.loop-i.rest.now (omega arith)
