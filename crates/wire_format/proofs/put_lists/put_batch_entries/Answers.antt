use Rattle.std.proofs.Common.{refl, map}
use Rattle.wire_format.specs.Lists.{each_spelling}
use Rattle.wire_format.specs.Views.{batch_entry_data}
use Rattle.wire_format.specs.Spelling.{batch_entry_spelling}
use Rattle.wire_format.proofs.Appending.{one_more, none_left}
use Rattle.wire_format.proofs.put_lists.put_batch_entries.Goals as goal

pub loop-entry-preserved : goal.loop-entry-preserved
loop-entry-preserved c =
    one_more (λ cs. each_spelling batch_entry_spelling (map batch_entry_data cs)) (λ d. batch_entry_spelling (batch_entry_data d)) (λ d ds. refl) c.args.entries.now c.loop-entry.entry-index _ _ _ _ c.loop-entry-test.true
    c.in_ok-put_batch_entry.ensures c.loop-entry.invariant

pub returns : goal.returns
returns c =
    none_left (λ cs. each_spelling batch_entry_spelling (map batch_entry_data cs)) (λ d. batch_entry_spelling (batch_entry_data d)) (λ d ds. refl) c.args.entries.now c.loop-entry.entry-index _ _ c.loop-entry-test.false refl c.loop-entry.invariant
