use Rattle.std.proofs.Common.{ap, sym, ◌∙◌, subst}
use Rattle.std.specs.Prelude.{codes}
use Rattle.tuple_text.specs.Written.{WritesText}
use Rattle.tuple_text.proofs.Writing.{second_part}
use Rattle.wire_format.specs.Views.{checkpoint_entry_data, batch_entry_data}
use Rattle.trace_text.specs.Lists.{separated_or}
use Rattle.trace_text.specs.Frames.{shown_checkpoint_entry, shown_batch_entry}
use Rattle.trace_text.proofs.Chained.{then_more, then_same}
use Rattle.trace_text.proofs.Joined.{listed_view}
use Rattle.trace_text.proofs.frames.put_view_change.Goals as goal

pub returns : goal.returns
returns c =
    let old = c.args.out.now.items in
    let checkpoints =
    ap (separated_or (codes ",") (codes "-") (λ e. shown_checkpoint_entry (checkpoint_entry_data e))) c.as_slice.ensures.value
    ∙ sym (listed_view (codes ",") shown_checkpoint_entry (codes "-") checkpoint_entry_data c.args.change.now.checkpoints.items) in
    let prepared =
    ap (separated_or (codes ",") (codes "-") (λ e. shown_batch_entry (batch_entry_data e))) c.as_slice-2.ensures.value
    ∙ sym (listed_view (codes ",") shown_batch_entry (codes "-") batch_entry_data c.args.change.now.prepared.items) in
    let pre_prepared =
    ap (separated_or (codes ",") (codes "-") (λ e. shown_batch_entry (batch_entry_data e))) c.as_slice-3.ensures.value
    ∙ sym (listed_view (codes ",") shown_batch_entry (codes "-") batch_entry_data c.args.change.now.pre_prepared.items) in
    let first = then_same old c.put_changed.new.out.items c.put_checkpoints.new.out.items _ _ _ c.in_ok-put_changed.ensures c.in_ok-put_checkpoints.ensures checkpoints in
    let second = then_more old c.put_checkpoints.new.out.items c.append.new.out.items _ (codes " prepared ") first c.in_ok-append.ensures in
    let third = then_same old c.append.new.out.items c.put_entries.new.out.items _ _ _ second c.in_ok-put_entries.ensures prepared in
    let fourth = then_more old c.put_entries.new.out.items c.append-2.new.out.items _ (codes " pre-prepared ") third c.in_ok-append-2.ensures in
    second_part c.put_entries-2.result old c.append-2.new.out.items _ _ c.put_entries-2.new.out.items fourth
    (subst (λ t. WritesText c.put_entries-2.result c.append-2.new.out.items t c.put_entries-2.new.out.items) pre_prepared c.put_entries-2.ensures)
