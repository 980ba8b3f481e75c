-- The bounds that the test of a view change checks.
use Rattle.std.specs.Prelude.{◌≡◌, ◌+◌, ◌*◌, ◌%◌, ◌^◌, ◌≤◌, ◌<◌}
use Rattle.protocol.specs.System.Configuration.{Configuration}
use Rattle.wire_format.specs.Messages.{ViewChangeData, CheckpointEntryData as CheckpointEntry, BatchEntryData as BatchEntry}
use Rattle.protocol.specs.System.Trace.{Has}

-- a batch entry within the bounds of its view change
pub record IsBatchEntryBounded (c : Configuration) (vc : ViewChangeData) (batch_entry : BatchEntry) : Type 0 where
  pub earlier : batch_entry.view < vc.view
  pub above : vc.low < batch_entry.number
  pub within : batch_entry.number ≤ vc.low + 2 * c.period
  pub number : batch_entry.number < 2 ^ 48

-- a checkpoint entry within the bounds of its view change
pub record IsCheckpointBounded (c : Configuration) (vc : ViewChangeData) (checkpoint : CheckpointEntry) : Type 0 where
  pub from : vc.low ≤ checkpoint.number
  pub within : checkpoint.number ≤ vc.low + 2 * c.period
  pub multiple : checkpoint.number % c.period ≡ 0
  pub number : checkpoint.number < 2 ^ 48

-- a view change within its bounds
pub record IsBounded (c : Configuration) (vc : ViewChangeData) : Type 0 where
  pub view : vc.view < 2 ^ 48
  pub low : vc.low < 2 ^ 48
  pub prepared : (batch_entry : BatchEntry) → Has (λ x. x ≡ batch_entry) vc.prepared
      → IsBatchEntryBounded c vc batch_entry
  pub pre_prepared : (batch_entry : BatchEntry) → Has (λ x. x ≡ batch_entry) vc.pre_prepared
      → IsBatchEntryBounded c vc batch_entry
  pub checkpoints : (checkpoint : CheckpointEntry) → Has (λ x. x ≡ checkpoint) vc.checkpoints
      → IsCheckpointBounded c vc checkpoint
