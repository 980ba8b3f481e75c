use Rattle.std.proofs.Common.{◌-◌, length, ◌∙◌, ap, sym, arith}
use Rattle.std.specs.List.{slice_get}
use Rattle.wire.specs.Orders.{order_of}
use Rattle.wire_format.specs.Views.{batch_entry_data}
use Rattle.wire_format.specs.Reading.{comes_after, batch_entry_at}
use Rattle.wire.proofs.Steps.{goes_on, none_comes, out_of_order, follows_listed, batch_entries_from}
use Rattle.wire.proofs.Skipping.{batch_entries_short}
use Rattle.wire.proofs.changes.read_batch_entries.Goals as goal

pub returns-then-front-count : goal.returns-then-front-count
returns-then-front-count c = batch_entries_short (order_of c.args.order) c.args.bytes.now c.in-Some.front.now c.in-Some.count (λ i. omega (arith, c.type_inv.bytes i)) c.in-Some.ensures (omega arith)

pub returns-in_default-read_batch_entry : goal.returns-in_default-read_batch_entry
returns-in_default-read_batch_entry c =
    batch_entries_from (order_of c.args.order) c.args.bytes.now c.in-Some.front.now c.in-Some.count c.in-Some.ensures ∙ sym c.loop-i.invariant
    ∙ none_comes batch_entry_at (comes_after (order_of c.args.order)) batch_entry_data _ _ c.loop-i.entries.items _ (omega arith) c.in_default-read_batch_entry.ensures

pub returns-then-not-batch_entry_comes_next : goal.returns-then-not-batch_entry_comes_next
returns-then-not-batch_entry_comes_next c =
    let is_last = c.copied.ensures ∙ c.last.ensures.value ∙ ap (λ xs. slice_get xs (length xs - 1)) c.deref.ensures.value in
    batch_entries_from (order_of c.args.order) c.args.bytes.now c.in-Some.front.now c.in-Some.count c.in-Some.ensures ∙ sym c.loop-i.invariant
    ∙ out_of_order batch_entry_at (comes_after (order_of c.args.order)) batch_entry_data _ _ c.loop-i.entries.items c.in-Some-read_batch_entry.entry _ c.in-Some-read_batch_entry.after.now (omega arith) c.in-Some-read_batch_entry.ensures
    (follows_listed (order_of c.args.order) batch_entry_data c.loop-i.entries.items _ (batch_entry_data c.in-Some-read_batch_entry.entry) is_last ∙ sym c.batch_entry_comes_next.ensures ∙ c.if-not-batch_entry_comes_next.true)

pub loop-i-preserved : goal.loop-i-preserved
loop-i-preserved c =
    let is_last = c.copied.ensures ∙ c.last.ensures.value ∙ ap (λ xs. slice_get xs (length xs - 1)) c.deref.ensures.value in
    goes_on batch_entry_at (comes_after (order_of c.args.order)) batch_entry_data _ _ c.loop-i.entries.items _ c.in-Some-read_batch_entry.entry _ _ (omega arith) c.in-Some-read_batch_entry.ensures
    (follows_listed (order_of c.args.order) batch_entry_data c.loop-i.entries.items _ (batch_entry_data c.in-Some-read_batch_entry.entry) is_last ∙ sym c.batch_entry_comes_next.ensures ∙ c.if-not-batch_entry_comes_next.false) c.in_ok-push.ensures.items ∙ c.loop-i.invariant
