use Rattle.std.proofs.Common.{◌≡◌, ◌≤◌}
use Rattle.quorum.specs.Quorum.{count_below}
use Rattle.wire_format.specs.Views.{checkpoint_entry_data}
use Rattle.ordering.specs.Checkpoints.{lists_checkpoint}
use Rattle.ordering.specs.Log.{checkpoints_of}
use Rattle.ordering.proofs.log.Log.count_checkpoints.Given as goal

abbrev pub invariant-loop-sender : goal.invariant-loop-sender
invariant-loop-sender l = record {
  counted : l.count ≡ count_below (λ s. lists_checkpoint (checkpoint_entry_data l.entry) (checkpoints_of l.self s)) l.sender;
  few : l.count ≤ l.sender;
}
