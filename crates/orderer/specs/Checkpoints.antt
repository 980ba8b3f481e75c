-- A replica's own checkpoints, and those that arrive (Castro and Liskov, TOCS 2002, on garbage collection).
use Rattle.std.specs.Prelude.{◌≡◌, ◌⊎◌, ℕ, Bool, true, false, List, Some, None, is_none}
use Rattle.terms.specs.declared.parties.ReplicaId.{ReplicaId}
use Rattle.wire_format.specs.Messages.{CheckpointEntryData as CheckpointEntry, checkpoint as Checkpoint}
use Rattle.wire_format.specs.declared.messages.Checkpoint.{Checkpoint as CheckpointMessage}
use Rattle.events.specs.declared.output.Output.{Output}
use Rattle.ordering.specs.Log as logs
use Rattle.ordering.specs.Checkpoints.{lists_checkpoint}
use Rattle.ordering.specs.Messages.{checkpoint_fault_of}
use Rattle.orderer.specs.State.{OrdererData}
use Rattle.orderer.specs.Multicasting.{Multicasts}

-- the number and root in a checkpoint message
abbrev pub said_entry : CheckpointMessage → CheckpointEntry
said_entry m = record { number = m.number.0; digest = m.root }

-- the orderer counts the sender's checkpoint
abbrev pub counting : OrdererData → ℕ → CheckpointEntry → OrdererData
counting o s entry = record o { log = logs.with_checkpoint_of o.log s entry }

-- The orderer takes a checkpoint if the log has no fault for it, and it is one of its sender's latest then. A fault
-- changes nothing. A counted checkpoint that isn't one of the latest is not taken either.
abbrev pub TakesCheckpoint : OrdererData → ReplicaId → CheckpointMessage → OrdererData → Bool → Type 0
TakesCheckpoint old sender m new true =
    (checkpoint_fault_of old.log sender m ≡ None) × (new ≡ counting old sender.0 (said_entry m))
    × (lists_checkpoint (said_entry m) (logs.checkpoints_of new.log sender.0) ≡ true)
TakesCheckpoint old sender m new false =
    ((is_none (checkpoint_fault_of old.log sender m) ≡ false) × (new ≡ old))
    ⊎ ((new ≡ counting old sender.0 (said_entry m))
    × (lists_checkpoint (said_entry m) (logs.checkpoints_of new.log sender.0) ≡ false))

-- The replica multicasts, counts and notes its own checkpoint.
pub record MulticastsCheckpoint (entry : CheckpointEntry) (old : OrdererData) (before : List Output) (new : OrdererData)
    (after : List Output) : Type 0 where
  pub says : Multicasts old (Checkpoint entry.number entry.digest) before after
  pub new_is : new ≡ record (counting old old.log.me entry) { last_checkpoint = Some entry }
