-- How the stored view changes of others fit the history: of each replica the latest that counted, in a frame that was
-- seen (Castro and Liskov, TOCS 2002, on view changes).
use Rattle.std.specs.Prelude.{◌≡◌, ◌≢◌, ℕ, ◌<◌, List, [], ◌∷◌, length, replicate, Option, Some, None}
use Rattle.std.specs.Option.{option_map_or}
use Rattle.wire_format.specs.Messages.{ViewChangeData}
use Rattle.protocol.specs.System.Configuration.{Configuration, replicas}
use Rattle.protocol.specs.System.Trace.{Entry, Once}
use Rattle.protocol.specs.System.Trace.Entry.{Got, Sent}
use Rattle.protocol.specs.Replica.Selection.{signed_change}
use Rattle.protocol.specs.Replica.Certificates.{view, latest_change}
use Rattle.protocol.specs.Replica.RightReplica.{HasSeen, sought_view, JoinsOthers}
use Rattle.protocol.specs.Replica.Owed.{BringsChange}
use Rattle.view_change.specs.declared.change_fault.ChangeFault.{ChangeFault}
use Rattle.view_change.specs.ReceivedData.{HeldData, held_of, view_change_refusal, with_held, AreHeldFrom, later_views, IsJoined}

-- the view of a replica's stored view change, else 0
abbrev pub held_view : List (Option HeldData) → ℕ → ℕ
held_view held s = option_map_or (λ h. h.change.view) (held_of held s) 0

-- Of each other replica the latest view change that counted is stored. Each is stored in its sender's place, and each
-- stored frame was seen.
pub record FitsReceived (c : Configuration) (me : ℕ) (history : List Entry)
    (held : List (Option HeldData)) : Type 0 where
  pub latest : (s : ℕ) → s ≢ me → latest_change c history s ≡ held_view held s
  pub seen : (s : ℕ) (h : HeldData) → held_of held s ≡ Some h → Once (HasSeen h.frame) history
  pub placed : (s : ℕ) (h : HeldData) → held_of held s ≡ Some h → h.sender ≡ s
  pub taken : (x : ℕ × ViewChangeData) → x.0 ≢ me → Once (BringsChange c x) history
      → latest_change c history x.0 ≡ x.1.view → (h : HeldData) × (held_of held x.0 ≡ Some h) × (h.change ≡ x.1)

-- ---- laws

-- At first none is stored.
abbrev pub ReceivedBegin : Type 0
ReceivedBegin = (c : Configuration) (me n : ℕ) → FitsReceived c me [] (replicate n None)

-- An entry that brings no view change of others leaves the stored ones. It is a sent frame, or its bytes are not
-- signed, or the replica refuses them.
abbrev pub ReceivedStays : Type 0
ReceivedStays =
    (c : Configuration) (me : ℕ) (past : List Entry) (e : Entry) (held : List (Option HeldData))
    → ((s : ℕ) → s ≢ me → latest_change c (e ∷ past) s ≡ latest_change c past s)
    → FitsReceived c me past held → FitsReceived c me (e ∷ past) held

abbrev pub SentBringNone : Type 0
SentBringNone =
    (c : Configuration) (p s : ℕ) (bytes : List ℕ) (past : List Entry)
    → latest_change c (Sent p bytes ∷ past) s ≡ latest_change c past s

abbrev pub UnsignedBringNone : Type 0
UnsignedBringNone =
    (c : Configuration) (p s : ℕ) (bytes : List ℕ) (past : List Entry) → signed_change c bytes ≡ None
    → latest_change c (Got p bytes ∷ past) s ≡ latest_change c past s

abbrev pub RefusedBringNone : Type 0
RefusedBringNone =
    (c : Configuration) (me s : ℕ) (bytes : List ℕ) (past : List Entry) (held : List (Option HeldData))
    (x : ℕ × ViewChangeData) (fault : ChangeFault)
    → signed_change c bytes ≡ Some x → view_change_refusal c (view c past) held x ≡ Some fault → s ≢ me
    → FitsReceived c me past held → latest_change c (Got me bytes ∷ past) s ≡ latest_change c past s

-- A view change that is taken is stored in its sender's place.
abbrev pub ReceivedTakes : Type 0
ReceivedTakes =
    (c : Configuration) (me s : ℕ) (bytes : List ℕ) (past : List Entry) (held : List (Option HeldData))
    (vc : ViewChangeData)
    → signed_change c bytes ≡ Some (s, vc) → view_change_refusal c (view c past) held (s, vc) ≡ None → s < length held
    → FitsReceived c me past held
    → FitsReceived c me (Got me bytes ∷ past) (with_held (record { sender = s; change = vc; frame = bytes }) held)

-- The replica stores its own view change once it sends it.
abbrev pub ReceivedOwn : Type 0
ReceivedOwn =
    (c : Configuration) (me : ℕ) (past : List Entry) (held : List (Option HeldData)) (h : HeldData)
    → h.sender ≡ me → me < length held → FitsReceived c me past held
    → FitsReceived c me (Sent me h.frame ∷ past) (with_held h held)

-- If the stored view changes of more than f others are for views above the sought one, the replica joins the least of
-- these views.
abbrev pub HeldAreJoined : Type 0
HeldAreJoined =
    (c judged : Configuration) (me v : ℕ) (history : List Entry) (held : List (Option HeldData))
    → length held ≡ replicas c → AreHeldFrom judged 0 held
    → IsJoined c.faults (later_views me (sought_view c history) held) v → FitsReceived c me history held
    → JoinsOthers c me history v

-- And replicas that are ahead in the history are ahead by the stored view changes.
abbrev pub AheadAreHeld : Type 0
AheadAreHeld =
    (c judged : Configuration) (me v : ℕ) (history : List Entry) (held : List (Option HeldData))
    → length held ≡ replicas c → AreHeldFrom judged 0 held → JoinsOthers c me history v
    → FitsReceived c me history held → IsJoined c.faults (later_views me (sought_view c history) held) v
