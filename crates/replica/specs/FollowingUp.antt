-- What the replica does after what an event touched.
use Rattle.std.specs.Prelude.{◌≡◌, List}
use Rattle.events.specs.declared.output.Output.{Output}
use Rattle.replica.specs.declared.taking.DueWork.{DueWork}
use Rattle.replica.specs.declared.taking.DueWork.TheVariants as due_work
use Rattle.replica.specs.State.{BothPartsData}
use Rattle.replica.specs.Going.{ExecutesAll, GoesOnWith}
use Rattle.replica.specs.NumbersNext.{NumbersWaitingRequests}

-- the replica executes committed batches, and then assigns numbers to waiting requests
abbrev pub ExecutesAndNumbers : BothPartsData → List Output → BothPartsData → List Output → Type 0
ExecutesAndNumbers old before new after =
    (run : BothPartsData) × (between : List Output) × ExecutesAll old before run between
    × NumbersWaitingRequests run between new after

-- The replica does nothing; or assigns numbers to waiting requests; or votes for one number, and goes on; or only goes
-- on.
abbrev pub FollowsUp : DueWork → BothPartsData → List Output → BothPartsData → List Output → Type 0
FollowsUp due_work.Nothing old before new after = (new ≡ old) × (after ≡ before)
FollowsUp due_work.Waiting old before new after = NumbersWaitingRequests old before new after
FollowsUp (due_work.Row number) old before new after =
    (run : BothPartsData) × (between : List Output) × GoesOnWith number.0 old before run between
    × NumbersWaitingRequests run between new after
FollowsUp due_work.State old before new after = ExecutesAndNumbers old before new after
FollowsUp due_work.View old before new after = ExecutesAndNumbers old before new after
