use Rattle.std.specs.Prelude.{IsTrue}
use Rattle.std.proofs.Common.{List, map, sym, subst, arith, rules}
use Rattle.std.proofs.lemmas.List.{length-map}
use Rattle.wire_format.specs.Lists.{Each, ascends}
use Rattle.wire_format.specs.Messages.{BatchEntryData}
use Rattle.wire_format.specs.Spelling.{IsBatchEntry, IsCheckpointEntry, batch_entry_before, named_before}
use Rattle.wire_format.specs.Views.{batch_entry_data, checkpoint_entry_data}
use Rattle.wire_format.specs.declared.messages.BatchEntry.{BatchEntry}
use Rattle.wire_format.specs.declared.messages.CheckpointEntry.{CheckpointEntry}
use Rattle.pq_sets.proofs.making.make.Goals as goal

pub returns-clause-said : goal.returns-clause-said
returns-clause-said c = record {
  view = search rules;
  low = search rules;
  few = omega (arith, c.requires.few, length-map c.args.checkpoints.items checkpoint_entry_data);
  checkpoints = subst (λ (xs : List CheckpointEntry). Each IsCheckpointEntry (map checkpoint_entry_data xs)) c.deref.ensures.value c.note_checkpoints.ensures;
  checkpoints_ascend = c.requires.order;
  prepared_count = omega (arith, c.in_ok-prepared.prepared.ok.0, length-map c.in_ok-prepared.prepared.items batch_entry_data, c.len.ensures, c.if-len-gt-MAX_PQ_ENTRIES.false);
  prepared = subst (λ (xs : List BatchEntry). Each IsBatchEntry (map batch_entry_data xs)) c.deref-2.ensures.value c.note_entries.ensures;
  prepared_ascend = subst (λ (xs : List BatchEntryData). IsTrue (ascends batch_entry_before xs)) (sym c.in_ok-prepared.ensures.are) c.in_ok-prepared.ensures.order;
  pre_prepared_count =
      omega (arith, c.in_ok-pre_prepared.pre_prepared.ok.0, length-map c.in_ok-pre_prepared.pre_prepared.items batch_entry_data, c.len-else-len-gt-MAX_PQ_ENTRIES.ensures, c.if-len-gt-MAX_PQ_ENTRIES-2.false);
  pre_prepared = subst (λ (xs : List BatchEntry). Each IsBatchEntry (map batch_entry_data xs)) c.deref-3.ensures.value c.note_entries-2.ensures;
  pre_prepared_ascend = subst (λ (xs : List BatchEntryData). IsTrue (ascends named_before xs)) (sym c.in_ok-pre_prepared.ensures.are) c.in_ok-pre_prepared.ensures.order;
}
