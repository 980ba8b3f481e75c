use Rattle.std.proofs.Common.{refl, map}
use Rattle.wire_format.specs.Lists.{each_spelling}
use Rattle.wire_format.specs.Views.{checkpoint_entry_data}
use Rattle.wire_format.specs.Spelling.{checkpoint_entry_spelling}
use Rattle.wire_format.proofs.Appending.{one_more, none_left}
use Rattle.wire_format.proofs.put_lists.put_checkpoint_entries.Goals as goal

pub loop-entry-preserved : goal.loop-entry-preserved
loop-entry-preserved c =
    one_more (λ ms. each_spelling checkpoint_entry_spelling (map checkpoint_entry_data ms)) (λ m. checkpoint_entry_spelling (checkpoint_entry_data m)) (λ m ms. refl) c.args.entries.now c.loop-entry.entry-index _ _ _ _ c.loop-entry-test.true
    c.in_ok-put_checkpoint_entry.ensures c.loop-entry.invariant

pub returns : goal.returns
returns c =
    none_left (λ ms. each_spelling checkpoint_entry_spelling (map checkpoint_entry_data ms)) (λ m. checkpoint_entry_spelling (checkpoint_entry_data m)) (λ m ms. refl) c.args.entries.now c.loop-entry.entry-index _ _ c.loop-entry-test.false refl c.loop-entry.invariant
