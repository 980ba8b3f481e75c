-- The model of the view changes that a replica stores.
use Rattle.std.specs.Prelude.{◌≡◌, ℕ, ◌+◌, ◌*◌, List, length, map, Option, Some, None, option_map}
use Rattle.protocol.specs.System.Configuration.{Configuration}
use Rattle.protocol.specs.Replica.Selection.{signed_change}
use Rattle.wire_format.specs.Views.{view_change_data}
use Rattle.view_change.specs.declared.changes.Change.{Change}
use Rattle.view_change.specs.declared.changes.Sizes.{Sizes}
use Rattle.view_change.specs.declared.changes.SignedChange.{SignedChange}
use Rattle.view_change.specs.declared.received.Received.TheInside.{Inside}
use Rattle.view_change.specs.ReceivedData.{HeldData, held_of, with_held, view_change_refusal, AreHeldFrom}
use Rattle.view_change.specs.Sets.{keyed}

-- the public keys, the sizes, and the stored view changes, one place for each replica
pub record ReceivedState : Type 0 where
  pub publics : List (List ℕ)
  pub sizes : Sizes
  pub held : List (Option HeldData)

-- the configuration that judges view changes
abbrev pub judging_configuration : ReceivedState → Configuration
judging_configuration r = keyed r.publics r.sizes

-- a view change in its frame
abbrev pub held_as : Change → List ℕ → HeldData
held_as x frame = record { sender = x.sender.0; change = view_change_data x.change; frame = frame }

abbrev pub held_data : SignedChange → HeldData
held_data h = held_as h.change h.frame.items

abbrev pub held_by : List (Option SignedChange) → List (Option HeldData)
held_by held = map (option_map held_data) held

abbrev pub received_state : Inside → ReceivedState
received_state r = record { publics = r.keys; sizes = r.sizes; held = held_by r.held.items }

-- there is a place for each replica, and each place has its replica's view change
pub record AreReceived (r : ReceivedState) : Type 0 where
  pub places : length r.held ≡ 3 * r.sizes.faults + 1
  pub each : AreHeldFrom (judging_configuration r) 0 r.held

-- a view change without a fault is added
pub record ViewChangeIsAdded (old : ReceivedState) (view : ℕ) (h : HeldData) (new : ReceivedState) : Type 0 where
  pub right : view_change_refusal (judging_configuration old) view old.held (h.sender, h.change) ≡ None
  pub held : new ≡ record old { held = with_held h old.held }

-- and the bytes spell it, signed by its sender
pub record IsFrameAdded (old : ReceivedState) (view : ℕ) (bytes : List ℕ) (new : ReceivedState) : Type 0 where
  pub change : HeldData
  pub frame : change.frame ≡ bytes
  pub signed : signed_change (judging_configuration old) bytes ≡ Some (change.sender, change.change)
  pub added : ViewChangeIsAdded old view change new

-- it is stored with this frame, as its sender signed it
pub record IsHeldIn (r : ReceivedState) (bytes : List ℕ) (h : HeldData) : Type 0 where
  pub frame : h.frame ≡ bytes
  pub held : held_of r.held h.sender ≡ Some h
  pub signed : signed_change (judging_configuration r) bytes ≡ Some (h.sender, h.change)
