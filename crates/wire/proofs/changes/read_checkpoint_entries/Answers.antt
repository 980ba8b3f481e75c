use Rattle.std.proofs.Common.{◌-◌, length, ◌∙◌, ap, sym, arith}
use Rattle.std.specs.List.{slice_get}
use Rattle.wire_format.specs.Views.{checkpoint_entry_data}
use Rattle.wire_format.specs.Spelling.{checkpoint_entry_before}
use Rattle.wire_format.specs.Reading.{comes_after, checkpoint_entry_at}
use Rattle.wire.proofs.Steps.{goes_on, none_comes, out_of_order, follows_listed, checkpoint_entries_from}
use Rattle.wire.proofs.changes.read_checkpoint_entries.Goals as goal

pub returns-in_default-read_checkpoint_entry : goal.returns-in_default-read_checkpoint_entry
returns-in_default-read_checkpoint_entry c =
    checkpoint_entries_from c.args.bytes.now c.in-Some.front.now c.in-Some.count c.in-Some.ensures (omega arith) ∙ sym c.loop-i.invariant
    ∙ none_comes checkpoint_entry_at (comes_after checkpoint_entry_before) checkpoint_entry_data _ _ c.loop-i.entries.items _ (omega arith) c.in_default-read_checkpoint_entry.ensures

pub returns-then-not-checkpoint_entry_comes_next : goal.returns-then-not-checkpoint_entry_comes_next
returns-then-not-checkpoint_entry_comes_next c =
    let is_last = c.copied.ensures ∙ c.last.ensures.value ∙ ap (λ xs. slice_get xs (length xs - 1)) c.deref.ensures.value in
    checkpoint_entries_from c.args.bytes.now c.in-Some.front.now c.in-Some.count c.in-Some.ensures (omega arith) ∙ sym c.loop-i.invariant
    ∙ out_of_order checkpoint_entry_at (comes_after checkpoint_entry_before) checkpoint_entry_data _ _ c.loop-i.entries.items c.in-Some-read_checkpoint_entry.entry _ c.in-Some-read_checkpoint_entry.after.now (omega arith) c.in-Some-read_checkpoint_entry.ensures
    (follows_listed checkpoint_entry_before checkpoint_entry_data c.loop-i.entries.items _ (checkpoint_entry_data c.in-Some-read_checkpoint_entry.entry) is_last ∙ sym c.checkpoint_entry_comes_next.ensures ∙ c.if-not-checkpoint_entry_comes_next.true)

pub loop-i-preserved : goal.loop-i-preserved
loop-i-preserved c =
    let is_last = c.copied.ensures ∙ c.last.ensures.value ∙ ap (λ xs. slice_get xs (length xs - 1)) c.deref.ensures.value in
    goes_on checkpoint_entry_at (comes_after checkpoint_entry_before) checkpoint_entry_data _ _ c.loop-i.entries.items _ c.in-Some-read_checkpoint_entry.entry _ _ (omega arith) c.in-Some-read_checkpoint_entry.ensures
    (follows_listed checkpoint_entry_before checkpoint_entry_data c.loop-i.entries.items _ (checkpoint_entry_data c.in-Some-read_checkpoint_entry.entry) is_last ∙ sym c.checkpoint_entry_comes_next.ensures ∙ c.if-not-checkpoint_entry_comes_next.false) c.in_ok-push.ensures.items ∙ c.loop-i.invariant
