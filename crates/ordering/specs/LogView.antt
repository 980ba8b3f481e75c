-- The model of a log's fields, and the program's checkpoints in it.
use Rattle.std.specs.Prelude.{Bool}
use Rattle.terms.specs.declared.parties.ReplicaId.{ReplicaId}
use Rattle.wire_format.specs.declared.messages.CheckpointEntry.{CheckpointEntry}
use Rattle.wire_format.specs.Views.{checkpoint_entry_data}
use Rattle.ordering.specs.declared.log.Log.TheInside.{Inside}
use Rattle.ordering.specs.Checkpoints.{lists_checkpoint}
use Rattle.ordering.specs.Log.{LogData, checkpoints_of}

abbrev pub log_data : Inside → LogData
log_data l =
    record {
      me = l.me.0;
      faults = l.faults;
      span = l.span;
      view = l.view.0;
      active = l.active;
      low = l.low.0;
      rows = l.slots.items;
      checkpoints = l.checkpoints.items;
    }

-- whether a replica has sent this checkpoint
abbrev pub has_checkpoint : LogData → ReplicaId → CheckpointEntry → Bool
has_checkpoint m sender entry =
    lists_checkpoint (checkpoint_entry_data entry) (checkpoints_of m sender.0)
