-- The replica's own view changes (Castro and Liskov, TOCS 2002, on view changes).
use Rattle.std.specs.Prelude.{◌≡◌, ◌≢◌, ℕ, suc, ◌+◌, ◌^◌, ◌≤◌, ◌<◌, ◌⊎◌, Bool, true, false, List, []}
use Rattle.events.specs.declared.output.Output.{Output}
use Rattle.protocol.specs.System.Configuration.{Configuration}
use Rattle.protocol.specs.System.Trace.Entry.{Tick}
use Rattle.protocol.specs.Replica.Certificates.{view, target}
use Rattle.protocol.specs.Replica.RightReplica.{sought_view}
use Rattle.replica_histories.specs.Events.{Start}
use Rattle.replica_histories.specs.Views.{entries_of}
use Rattle.replica.specs.State.{BothPartsData, Gives}
use Rattle.replica.specs.Desks.{PartsFitEvent}
use Rattle.orderer.specs.ViewChangeOut.{IsJoinedBy, IsUnsendable, target_view, change_for}
use Rattle.orderer.specs.Going.{IsVotedAll}
use Rattle.replica.specs.Going.{AllIsExecuted, IsOneParty}

-- ---- why the replica leaves a view

-- A timeout moves the replica to the next view if a request waits or it is inactive.
abbrev pub IsDue : BothPartsData → ℕ → Type 0
IsDue r v = ((r.desk.waiting.requests ≢ []) ⊎ (r.orderer.log.active ≡ false)) × (v ≡ target_view r.orderer + 1)

-- It does not, if no request waits and the replica is active, or no view is left.
abbrev pub IsNotDue : BothPartsData → Type 0
IsNotDue r =
    ((r.desk.waiting.requests ≡ []) × (r.orderer.log.active ≡ true)) ⊎ (2 ^ 48 ≤ target_view r.orderer + 1)

-- In an event with this start the replica has a reason to move to the view.
abbrev pub HasReason : Configuration → Start → BothPartsData → ℕ → Type 0
HasReason c s old v =
    ((s.input ≡ Tick old.orderer.endpoint.me)
    × ((old.desk.waiting.requests ≢ []) ⊎ (view c s.before < target s.before))
    × (v ≡ suc (sought_view c s.before)))
    ⊎ IsJoinedBy old.orderer v

-- ---- the replica leaves the view

-- The replica leaves its view and multicasts a view change for this one. If it has a reason, what stood still stands,
-- and the log asks for nothing more.
pub record LeavesView (v : ℕ) (old : BothPartsData) (before : List Output) (new : BothPartsData) (after : List Output)
    : Type 0 where
  pub stands : (c : Configuration) (s : Start) → Gives c old.orderer → IsVotedAll old.orderer.log
      → HasReason c s old v → PartsFitEvent c s old.orderer old.desk [] before
      → PartsFitEvent c s new.orderer new.desk [] after
  pub party : IsOneParty old new
  pub target : new.orderer.target ≡ v
  pub inactive : new.orderer.log.active ≡ false
  pub voted : IsVotedAll new.orderer.log
  pub executed : AllIsExecuted old.orderer.log old.desk → AllIsExecuted new.orderer.log new.desk

-- It does so, or the view change can't be sent, and nothing changes.
abbrev pub ChangesView : ℕ → BothPartsData → List Output → BothPartsData → List Output → Bool → Type 0
ChangesView v old before new after true = LeavesView v old before new after
ChangesView v old before new after false =
    (new ≡ old) × (after ≡ before)
    × IsUnsendable old.orderer (change_for v (entries_of old.desk.snapshots) old.orderer)
