use Rattle.std.proofs.Common.{◌∙◌, ◌++◌, ap, map}
use Rattle.std.proofs.lemmas.Result.{on_ok_weaker}
use Rattle.wire_format.specs.Views.{checkpoint_entry_data, batch_entry_data}
use Rattle.wire_format.specs.Spelling.{checkpoint_entries_spelling, batch_entries_spelling}
use Rattle.wire_format.proofs.Appending.{five}
use Rattle.wire_format.proofs.put_lists.put_view_change.Goals as goal

pub returns : goal.returns
returns c = on_ok_weaker c.put_batch_entries-2.result
    (λ e. five _ _ _ _ _ _ _ _ _ _ _ c.in_ok-put_u64.ensures c.in_ok-put_u64-2.ensures
    (c.in_ok-put_checkpoint_entries.ensures ∙ ap (λ ms. c.put_u64-2.new.out.items ++ checkpoint_entries_spelling (map checkpoint_entry_data ms)) c.deref.ensures.value)
    (c.in_ok-put_batch_entries.ensures ∙ ap (λ cs. c.put_checkpoint_entries.new.out.items ++ batch_entries_spelling (map batch_entry_data cs)) c.deref-2.ensures.value)
    (e ∙ ap (λ cs. c.put_batch_entries.new.out.items ++ batch_entries_spelling (map batch_entry_data cs)) c.deref-3.ensures.value))
    c.put_batch_entries-2.ensures
