-- How a replica enters a new view, part by part (Castro and Liskov, TOCS 2002, on new views).
use Rattle.std.specs.Prelude.{◌≡◌, ◌⊎◌, true, ℕ, suc, ◌+◌, ◌≤◌, Option}
use Rattle.std.specs.Prelude.{List, length, ◌≡◌, ◌⊎◌, true, ℕ, suc, ◌+◌, ◌≤◌, Option}
use Rattle.wire_format.specs.Messages.{CheckpointEntryData as CheckpointEntry}
use Rattle.events.specs.declared.output.Output.{Output}
use Rattle.orderer.specs.EnterView.{LogsBatches, MulticastsVotesOf, entering}
use Rattle.orderer.specs.State.{OrdererData}
use Rattle.replica.specs.State.{BothPartsData}
use Rattle.desk.specs.State.{DeskData}
use Rattle.desk.specs.Assigned.{NotesAssigned}
use Rattle.replica.specs.Fetching.{MulticastsFetch}
use Rattle.desk.specs.Fetching.{SetsTarget, target_number}
use Rattle.replica.specs.Marking.{MovesMarks}

-- The replica opens a transfer to the start if it is ahead, and multicasts its fetch.
abbrev pub FetchesStart : CheckpointEntry → BothPartsData → List Output → BothPartsData → List Output → Type 0
FetchesStart entry old before new after =
    ((desk : DeskData) × SetsTarget entry old.desk desk true × (new ≡ record old { desk = desk })
    × MulticastsFetch new before after)
    ⊎ ((entry.number ≤ target_number old.desk) × (new ≡ old) × (after ≡ before))

-- The replica enters the view by a new view with this start and these batches, step by step.
pub record EntersView (view : ℕ) (start : CheckpointEntry) (texts : List (List ℕ)) (own : Option (List ℕ))
    (old : BothPartsData) (before : List Output) (new : BothPartsData) (after : List Output) : Type 0 where
  pub desk : DeskData
  pub noted : NotesAssigned texts old.desk desk
  pub cut : BothPartsData
  pub cuts : MovesMarks start.number
      (record old { orderer = entering view (start.number + length texts) own old.orderer; desk = desk }) cut
  pub logged : OrdererData
  pub logs : LogsBatches (suc start.number) texts cut.orderer logged
  pub fetched : BothPartsData
  pub said : List Output
  pub fetches : FetchesStart start (record cut { orderer = logged }) before fetched said
  pub orderer : OrdererData
  pub votes : MulticastsVotesOf start.number (start.number + length texts) fetched.orderer said orderer after
  pub new_is : new ≡ record fetched { orderer = orderer }
