-- The view changes that a replica stores: the latest of each replica (Castro and Liskov, Practical Byzantine fault
-- tolerance and proactive recovery, TOCS 2002, on view changes).
use Rattle.std.specs.Prelude.{◌≡◌, ℕ, suc, ◌+◌, ◌*◌, ◌≤◌, ◌<◌, true, not, List, [], ◌∷◌, length, map, nat_lt, ◌==◌, ◌&&◌, if◌then◌else◌, Option, Some, None, option_and_then, slice_get, slice_set, ⊤}
use Rattle.std.specs.Bool.{then_some}
use Rattle.std.specs.Option.{option_map_or}
use Rattle.protocol.specs.System.Configuration.{Configuration, is_number}
use Rattle.protocol.specs.System.Trace.{Has}
use Rattle.protocol.specs.Replica.Selection.{ascending, is_within, list_of, signed_change}
use Rattle.wire_format.specs.Lists.{Each, ascends}
use Rattle.wire_format.specs.Messages.{ViewChangeData}
use Rattle.wire_format.specs.Spelling.{IsCarried, is_view_change, sender_before}
use Rattle.view_change.specs.declared.change_fault.ChangeFault.{ChangeFault}
use Rattle.view_change.specs.declared.change_fault.ChangeFault.TheVariants.{BadSignature, WrongView, OutOfBounds, Duplicate}
use Rattle.view_change.specs.Selecting.{are_for}

-- a view change with its frame
pub record HeldData : Type 0 where
  pub sender : ℕ
  pub change : ViewChangeData
  pub frame : List ℕ

-- the stored view changes, one place for each replica; the one of a replica
abbrev pub held_of : List (Option HeldData) → ℕ → Option HeldData
held_of held sender = option_and_then (λ o. o) (slice_get held sender)

-- ---- which view changes a replica takes

-- The first refusal that applies to a view change of the sender, at a replica that is active in the view or was last:
-- its view is not above that view, or is 2^48 or more; it is out of its bounds; or it is not newer than the sender's
-- last.
abbrev pub view_change_refusal : Configuration → ℕ → List (Option HeldData) → ℕ × ViewChangeData → Option ChangeFault
view_change_refusal c view held x =
    if not (nat_lt view x.1.view && is_number x.1.view) then Some WrongView else
    if not (is_within c x.1) then Some OutOfBounds else
    if not (option_map_or (λ h. nat_lt h.change.view x.1.view) (held_of held x.0) true) then Some Duplicate else None

-- before that, the bytes are no view change with its sender's signature
abbrev pub refusal_of_frame : Configuration → ℕ → List (Option HeldData) → List ℕ → Option ChangeFault
refusal_of_frame c view held bytes =
    elim (signed_change c bytes) [ None ↦ Some BadSignature | Some x ↦ view_change_refusal c view held x ]

-- it replaces the sender's last
abbrev pub with_held : HeldData → List (Option HeldData) → List (Option HeldData)
with_held h held = slice_set held h.sender (Some h)

-- each is of the replica at its place, within its bounds, and signed by its sender in its frame
abbrev pub IsHeldAt : Configuration → ℕ → Option HeldData → Type 0
IsHeldAt c sender None = ⊤
IsHeldAt c sender (Some h) =
    (h.sender ≡ sender) × (is_within c h.change ≡ true) × (signed_change c h.frame ≡ Some (h.sender, h.change))

abbrev pub AreHeldFrom : Configuration → ℕ → List (Option HeldData) → Type 0
AreHeldFrom c sender [] = ⊤
AreHeldFrom c sender (o ∷ held) = IsHeldAt c sender o × AreHeldFrom c (suc sender) held

-- ---- the stored view changes for a view

-- the view changes for the view, ascending by sender
abbrev pub held_for : ℕ → List (Option HeldData) → List HeldData
held_for view [] = []
held_for view (None ∷ held) = held_for view held
held_for view (Some h ∷ held) = if h.change.view == view then h ∷ held_for view held else held_for view held

-- with their senders; and their frames
abbrev pub pairs_for : ℕ → List (Option HeldData) → List (ℕ × ViewChangeData)
pairs_for view held = map (λ h. (h.sender, h.change)) (held_for view held)

abbrev pub frames_for : ℕ → List (Option HeldData) → List (List ℕ)
frames_for view held = map (λ h. h.frame) (held_for view held)

-- They are a set for the view, and a new view may carry their frames, which their senders signed.
pub record IsHeldSet (c : Configuration) (view : ℕ) (held : List (Option HeldData)) : Type 0 where
  pub order : ascending (pairs_for view held) ≡ true
  pub fit : are_for view (pairs_for view held) c ≡ true
  pub signed : map (signed_change c) (frames_for view held) ≡ map Some (pairs_for view held)
  pub carried : Each (IsCarried is_view_change) (frames_for view held)
  pub frames_order : ascends sender_before (frames_for view held) ≡ true
  pub few : length (frames_for view held) ≤ 3 * c.faults + 1

-- ---- joining others

-- the view of the stored view change of another replica, if it is above the target
abbrev pub later_view : ℕ → ℕ → Option HeldData → Option ℕ
later_view me target None = None
later_view me target (Some h) = then_some (not (h.sender == me) && nat_lt target h.change.view) h.change.view

-- all such views, one for each replica that has one
abbrev pub later_views : ℕ → ℕ → List (Option HeldData) → List ℕ
later_views me target held = list_of (map (later_view me target) held)

-- more than so many replicas have later views, and this is the least of these
pub record IsJoined (faults : ℕ) (views : List ℕ) (view : ℕ) : Type 0 where
  pub enough : faults < length views
  pub there : Has (λ w. w ≡ view) views
  pub least : Each (λ w. view ≤ w) views
