-- A replica's own checkpoints, those that arrive, and the marks that they move (Castro and Liskov, TOCS 2002, on
-- garbage collection).
use Rattle.std.specs.Prelude.{◌≡◌, ◌⊎◌, ◌+◌, ◌*◌, ◌<◌, ◌≤◌, Bool, true, false, List, [], Some, nat_le}
use Rattle.terms.specs.declared.state.Level.TheVariants as levels
use Rattle.wire_format.specs.Messages.{CheckpointEntryData as CheckpointEntry, fetch as FetchMessage}
use Rattle.events.specs.declared.output.Output.{Output}
use Rattle.ordering.specs.Log as logs
use Rattle.protocol.specs.System.Configuration.{Configuration}
use Rattle.protocol.specs.Replica.State.{root_of}
use Rattle.replica_histories.specs.Events.{Start}
use Rattle.replica_histories.specs.Outputs.{checkpoint_due}
use Rattle.replica.specs.State.{BothPartsData, Gives}
use Rattle.desk.specs.State.{DeskData}
use Rattle.replica.specs.Desks.{PartsFitEvent}
use Rattle.desk.specs.Desking.{checkpoint_is_due, newest_entry}
use Rattle.replica.specs.Marking.{MovesMarks}
use Rattle.desk.specs.Fetching.{target_number, with_target}
use Rattle.orderer.specs.Going.{CommitsNoMore, IsVotedAll}
use Rattle.replica.specs.Going.{IsSameParty}
use Rattle.orderer.specs.Multicasting.{Multicasts}

-- The marks move to a checkpoint if it is stable; else nothing changes.
abbrev pub StabilizesMarks : CheckpointEntry → BothPartsData → BothPartsData → Bool → Type 0
StabilizesMarks entry old new true = (logs.is_stable old.orderer.log entry ≡ true) × MovesMarks entry.number old new
StabilizesMarks entry old new false = (logs.is_stable old.orderer.log entry ≡ false) × (new ≡ old)

-- if the executed state is to have a checkpoint, it is the newest kept state
abbrev pub IsDueKept : DeskData → Type 0
IsDueKept d = checkpoint_is_due d ≡ true
    → newest_entry d.snapshots
    ≡ Some (record { number = d.executed.state.number; digest = root_of d.executed.state })

-- The replica multicasts the checkpoint that is due, if the log asks for no vote. The marks may move.
pub record MulticastsDueCheckpoint (old : BothPartsData) (before : List Output) (new : BothPartsData)
    (after : List Output)
    : Type 0 where
  pub stands : (c : Configuration) (s : Start) → Gives c old.orderer → IsVotedAll old.orderer.log
      → PartsFitEvent c s old.orderer old.desk (checkpoint_due c old.desk.executed.state) before
      → PartsFitEvent c s new.orderer new.desk [] after
  pub party : IsSameParty old new
  pub used : new.orderer.used ≡ old.orderer.used
  pub desk : new.desk ≡ record old.desk { snapshots = new.desk.snapshots }
  pub voted : IsVotedAll old.orderer.log → IsVotedAll new.orderer.log
  pub commits : CommitsNoMore old.orderer.log new.orderer.log

-- A transfer starts to a quorum's checkpoint above the executed and the fetched state, and its root is asked for. Else
-- nothing changes.
abbrev pub StartsTransferIfBehind : CheckpointEntry → BothPartsData → List Output → BothPartsData → List Output → Type 0
StartsTransferIfBehind entry old before new after =
    (((nat_le (2 * old.orderer.log.faults + 1) (logs.count_checkpoints old.orderer.log entry) ≡ false)
    ⊎ (entry.number ≤ target_number old.desk)) × (new ≡ old) × (after ≡ before))
    ⊎ ((nat_le (2 * old.orderer.log.faults + 1) (logs.count_checkpoints old.orderer.log entry) ≡ true)
    × (target_number old.desk < entry.number) × (new ≡ record old { desk = with_target entry old.desk })
    × Multicasts old.orderer (FetchMessage entry.number levels.Root 0) before after)
