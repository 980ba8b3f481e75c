-- A view change is within its bounds if and only if each of its parts is.
use Rattle.std.proofs.Common.{◌≡◌, ◌^◌, ◌+◌, ◌%◌, true, ◌&&◌, eqb-true, eq-eqb}
use Rattle.std.specs.Prelude.{◌==◌, nat_le, nat_lt}
use Rattle.std.specs.List.{list_all}
use Rattle.std.proofs.lemmas.Bool.{and_parts, and_from, leb-true, ltb-true, le-leb, lt-ltb}
use Rattle.protocol.specs.System.Configuration.{Configuration, span, is_number}
use Rattle.wire_format.specs.Messages.{ViewChangeData, CheckpointEntryData as CheckpointEntry, BatchEntryData as BatchEntry}
use Rattle.protocol.specs.Replica.Selection.{is_batch_entry_within, is_checkpoint_within, is_within}
use Rattle.protocol.specs.Laws.Bounds.{IsBatchEntryBounded, IsCheckpointBounded, IsBounded}
use Rattle.protocol.proofs.Words.Elements.{every_has, all_where}

-- ---- if the test passes

batch_entry_bounded : (c : Configuration) (vc : ViewChangeData) (batch_entry : BatchEntry) → is_batch_entry_within c vc batch_entry ≡ true → IsBatchEntryBounded c vc batch_entry
batch_entry_bounded c vc batch_entry h =
    let n = and_parts (nat_lt batch_entry.view vc.view && nat_lt vc.low batch_entry.number && nat_le batch_entry.number (vc.low + span c)) (is_number batch_entry.number) h in
    let w = and_parts (nat_lt batch_entry.view vc.view && nat_lt vc.low batch_entry.number) (nat_le batch_entry.number (vc.low + span c)) n.0 in
    let a = and_parts (nat_lt batch_entry.view vc.view) (nat_lt vc.low batch_entry.number) w.0 in
    record {
      earlier = ltb-true batch_entry.view vc.view a.0;
      above = ltb-true vc.low batch_entry.number a.1;
      within = leb-true batch_entry.number (vc.low + span c) w.1;
      number = ltb-true batch_entry.number (2 ^ 48) n.1;
    }

checkpoint_bounded : (c : Configuration) (vc : ViewChangeData) (checkpoint : CheckpointEntry) → is_checkpoint_within c vc checkpoint ≡ true → IsCheckpointBounded c vc checkpoint
checkpoint_bounded c vc checkpoint h =
    let n = and_parts (nat_le vc.low checkpoint.number && nat_le checkpoint.number (vc.low + span c) && (checkpoint.number % c.period == 0)) (is_number checkpoint.number) h in
    let m = and_parts (nat_le vc.low checkpoint.number && nat_le checkpoint.number (vc.low + span c)) (checkpoint.number % c.period == 0) n.0 in
    let w = and_parts (nat_le vc.low checkpoint.number) (nat_le checkpoint.number (vc.low + span c)) m.0 in
    record {
      from = leb-true vc.low checkpoint.number w.0;
      within = leb-true checkpoint.number (vc.low + span c) w.1;
      multiple = eqb-true (checkpoint.number % c.period) 0 m.1;
      number = ltb-true checkpoint.number (2 ^ 48) n.1;
    }

pub bounded : (c : Configuration) (vc : ViewChangeData) → is_within c vc ≡ true → IsBounded c vc
bounded c vc h =
    let k = and_parts (is_number vc.view && is_number vc.low && list_all (is_batch_entry_within c vc) vc.prepared && list_all (is_batch_entry_within c vc) vc.pre_prepared) (list_all (is_checkpoint_within c vc) vc.checkpoints) h in
    let q = and_parts (is_number vc.view && is_number vc.low && list_all (is_batch_entry_within c vc) vc.prepared) (list_all (is_batch_entry_within c vc) vc.pre_prepared) k.0 in
    let p = and_parts (is_number vc.view && is_number vc.low) (list_all (is_batch_entry_within c vc) vc.prepared) q.0 in
    let n = and_parts (is_number vc.view) (is_number vc.low) p.0 in
    record {
      view = ltb-true vc.view (2 ^ 48) n.0;
      low = ltb-true vc.low (2 ^ 48) n.1;
      prepared = λ batch_entry has. batch_entry_bounded c vc batch_entry (every_has (is_batch_entry_within c vc) vc.prepared batch_entry p.1 has);
      pre_prepared = λ batch_entry has. batch_entry_bounded c vc batch_entry (every_has (is_batch_entry_within c vc) vc.pre_prepared batch_entry q.1 has);
      checkpoints = λ checkpoint has. checkpoint_bounded c vc checkpoint (every_has (is_checkpoint_within c vc) vc.checkpoints checkpoint k.1 has);
    }

-- ---- and only there

batch_entry_within : (c : Configuration) (vc : ViewChangeData) (batch_entry : BatchEntry) → IsBatchEntryBounded c vc batch_entry → is_batch_entry_within c vc batch_entry ≡ true
batch_entry_within c vc batch_entry b =
    and_from (nat_lt batch_entry.view vc.view && nat_lt vc.low batch_entry.number && nat_le batch_entry.number (vc.low + span c)) (is_number batch_entry.number)
    (and_from (nat_lt batch_entry.view vc.view && nat_lt vc.low batch_entry.number) (nat_le batch_entry.number (vc.low + span c))
    (and_from (nat_lt batch_entry.view vc.view) (nat_lt vc.low batch_entry.number) (lt-ltb batch_entry.view vc.view b.earlier) (lt-ltb vc.low batch_entry.number b.above))
    (le-leb batch_entry.number (vc.low + span c) b.within))
    (lt-ltb batch_entry.number (2 ^ 48) b.number)

checkpoint_within : (c : Configuration) (vc : ViewChangeData) (checkpoint : CheckpointEntry) → IsCheckpointBounded c vc checkpoint → is_checkpoint_within c vc checkpoint ≡ true
checkpoint_within c vc checkpoint b =
    and_from (nat_le vc.low checkpoint.number && nat_le checkpoint.number (vc.low + span c) && (checkpoint.number % c.period == 0)) (is_number checkpoint.number)
    (and_from (nat_le vc.low checkpoint.number && nat_le checkpoint.number (vc.low + span c)) (checkpoint.number % c.period == 0)
    (and_from (nat_le vc.low checkpoint.number) (nat_le checkpoint.number (vc.low + span c)) (le-leb vc.low checkpoint.number b.from) (le-leb checkpoint.number (vc.low + span c) b.within))
    (eq-eqb (checkpoint.number % c.period) 0 b.multiple))
    (lt-ltb checkpoint.number (2 ^ 48) b.number)

pub within_of_bounded : (c : Configuration) (vc : ViewChangeData) → IsBounded c vc → is_within c vc ≡ true
within_of_bounded c vc b =
    and_from (is_number vc.view && is_number vc.low && list_all (is_batch_entry_within c vc) vc.prepared && list_all (is_batch_entry_within c vc) vc.pre_prepared) (list_all (is_checkpoint_within c vc) vc.checkpoints)
    (and_from (is_number vc.view && is_number vc.low && list_all (is_batch_entry_within c vc) vc.prepared) (list_all (is_batch_entry_within c vc) vc.pre_prepared)
    (and_from (is_number vc.view && is_number vc.low) (list_all (is_batch_entry_within c vc) vc.prepared)
    (and_from (is_number vc.view) (is_number vc.low) (lt-ltb vc.view (2 ^ 48) b.view) (lt-ltb vc.low (2 ^ 48) b.low))
    (all_where (is_batch_entry_within c vc) vc.prepared (λ batch_entry has. batch_entry_within c vc batch_entry (b.prepared batch_entry has))))
    (all_where (is_batch_entry_within c vc) vc.pre_prepared (λ batch_entry has. batch_entry_within c vc batch_entry (b.pre_prepared batch_entry has))))
    (all_where (is_checkpoint_within c vc) vc.checkpoints (λ checkpoint has. checkpoint_within c vc checkpoint (b.checkpoints checkpoint has)))
