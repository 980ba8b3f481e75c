use Rattle.std.proofs.Common.{ℕ, List, ◌++◌, ap, sym, ◌∙◌, subst}
use Rattle.std.specs.Prelude.{codes}
use Rattle.std.specs.Fmt.{decimal}
use Rattle.tuple_text.specs.Written.{WritesText}
use Rattle.tuple_text.proofs.Writing.{second_part}
use Rattle.wire_format.specs.Views.{batch_text}
use Rattle.trace_text.specs.Lists.{separated_or}
use Rattle.trace_text.specs.Frames.{short, new_view_words, sender_text, batch_in_brackets}
use Rattle.trace_text.specs.Shown.{name_text}
use Rattle.trace_text.proofs.Chained.{then_more}
use Rattle.trace_text.proofs.Joined.{listed_view}
use Rattle.trace_text.proofs.frames.put_new_view.Goals as goal

pub returns : goal.returns
returns c =
    let old = c.args.out.now.items in
    let new = c.args.new.now in
    let front : List ℕ → List ℕ = λ senders. new_view_words (name_text c.args.sender) new.view.0 ++ senders ++ codes " start " ++ decimal new.start.0 ++ codes " root " in
    let senders = sym (listed_view (codes ",") sender_text (codes "-") (λ frame. frame.items) new.changes.items) in
    let batches =
    ap (separated_or (codes " ") (codes "-") (λ batch. batch_in_brackets (batch_text batch))) c.as_slice.ensures.value
    ∙ sym (listed_view (codes " ") batch_in_brackets (codes "-") batch_text new.batches.items) in
    let first = c.in_ok-put_started.ensures ∙ ap (λ t. old ++ front t) senders in
    let second = then_more old c.put_started.new.out.items c.put_short.new.out.items _ (short new.root) first c.in_ok-put_short.ensures in
    let third = then_more old c.put_short.new.out.items c.append.new.out.items _ (codes " batches ") second c.in_ok-append.ensures in
    second_part c.put_batches.result old c.append.new.out.items _ _ c.put_batches.new.out.items third
    (subst (λ t. WritesText c.put_batches.result c.append.new.out.items t c.put_batches.new.out.items) batches c.put_batches.ensures)
