-- The replica's own view changes (Castro and Liskov, TOCS 2002, on view changes).
use Rattle.std.specs.Prelude.{◌≡◌, ◌≢◌, ℕ, ◌+◌, ◌≤◌, ◌<◌, ◌⊎◌, length, true, List, Option, Some, None, Vec, max}
use Rattle.std.specs.declared.alloc.Global.{Global}
use Rattle.wire_format.specs.Messages.{CheckpointEntryData as CheckpointEntry, ViewChangeData, view_change as ViewChange}
use Rattle.wire_format.specs.Words.{said}
use Rattle.frame_endpoint.specs.Endpoint.{IsOwnSigned}
use Rattle.protocol.specs.System.Configuration.{is_number}
use Rattle.protocol.specs.System.Frames.{leaf_of}
use Rattle.protocol.specs.Replica.Certificates.{view, target}
use Rattle.view_change.specs.ReceivedData.{HeldData, held_of, view_change_refusal, with_held, AreHeldFrom, later_views, IsJoined}
use Rattle.view_change.specs.ReceivedView.{judging_configuration}
use Rattle.orderer.specs.State.{OrdererData}

-- the greater of the current view and the last view that the replica sent a view change for
abbrev pub target_view : OrdererData → ℕ
target_view o = max o.log.view o.target

-- a view that the replica may move to: one above the aimed view
abbrev pub IsNextView : OrdererData → ℕ → Type 0
IsNextView o view = (target_view o < view) × (is_number view ≡ true)

-- The view changes of more than f others are for later views, of which this is the least. Each is of the sender at its
-- place.
abbrev pub IsJoinedBy : OrdererData → ℕ → Type 0
IsJoinedBy o v = AreHeldFrom (judging_configuration o.received) 0 o.received.held
    × IsJoined o.endpoint.membership.faults (later_views o.endpoint.me (target_view o) o.received.held) v

-- There are not so many.
abbrev pub IsJoinedByNone : OrdererData → Type 0
IsJoinedByNone o = AreHeldFrom (judging_configuration o.received) 0 o.received.held
    × (length (later_views o.endpoint.me (target_view o) o.received.held) ≤ o.endpoint.membership.faults)

-- the stored frames spell the stored view changes
abbrev pub AreChanges : List (Option HeldData) → Type 0
AreChanges held =
    (s : ℕ) (h : HeldData) → held_of held s ≡ Some h
    → (sender : ℕ) × (said h.frame ≡ Some (record { sender = sender; message = ViewChange h.change }))

-- the view change for the view, with these checkpoints and the sets P and Q
abbrev pub change_for : ℕ → List CheckpointEntry → OrdererData → ViewChangeData
change_for view checkpoints o = record {
  view = view;
  low = o.log.low;
  checkpoints = checkpoints;
  prepared = o.pq_sets.prepared;
  pre_prepared = o.pq_sets.logged;
}

-- The view change can't be sent: each leaf is spent, or no frame spells it, or others would refuse it.
abbrev pub IsUnsendable : OrdererData → ViewChangeData → Type 0
IsUnsendable o vc =
    (o.spent ≡ 64)
    ⊎ (((bytes : List ℕ) → said bytes ≡ Some (record { sender = o.endpoint.me; message = ViewChange vc }) → ⊥)
    ⊎ (view_change_refusal (judging_configuration o.received) o.log.view o.received.held (o.log.me, vc) ≢ None))

-- the replica signs the view change in this frame by the next leaf, and stores it
pub record SignsChange (view : ℕ) (checkpoints : List CheckpointEntry) (old new : OrdererData)
    (frame : List ℕ) : Type 0 where
  pub own : HeldData
  pub sender : own.sender ≡ old.log.me
  pub frame_is : own.frame ≡ frame
  pub change : own.change ≡ change_for view checkpoints old
  pub signed : IsOwnSigned old.endpoint (ViewChange own.change) frame
  pub by_leaf : leaf_of frame ≡ Some old.spent
  pub new_is : new ≡ record old {
    received = record old.received { held = with_held own old.received.held };
    spent = old.spent + 1;
  }

-- It does so if there is a frame; else the view change can't be sent, and nothing changes.
abbrev pub MaySignChange : ℕ → List CheckpointEntry → OrdererData → OrdererData → Option (Vec ℕ Global) → Type 0
MaySignChange view checkpoints old new None =
    (new ≡ old) × IsUnsendable old (change_for view checkpoints old)
MaySignChange view checkpoints old new (Some frame) = SignsChange view checkpoints old new frame.items
