-- A primary that could send a new view, and does not.
use Rattle.std.specs.Prelude.{◌≡◌, ◌≢◌, ◌<◌, ◌⊎◌, ℕ, true, List, [], ◌∷◌, ◌++◌, Some}
use Rattle.wire_format.specs.Lists.{Each}
use Rattle.wire_format.specs.Messages.{ViewChangeData, NewViewData, view_change as ViewChange}
use Rattle.wire_format.specs.Words.{said}
use Rattle.protocol.specs.System.Configuration.{Configuration, primary}
use Rattle.protocol.specs.System.Frames.{leaf_of}
use Rattle.protocol.specs.System.Trace.{Entry, Once}
use Rattle.protocol.specs.System.Trace.Entry.{Got, Sent}
use Rattle.protocol.specs.Replica.Selection.{changes_of, is_within, may_select, null_batch, signed_change}
use Rattle.protocol.specs.Replica.Certificates.{is_in_marks, latest_change, logged, low, target, view}
use Rattle.protocol.specs.Replica.RightReplica.{SentBefore}
use Rattle.evidence.specs.Examples.{four}
use Rattle.evidence.specs.ExamplesOfChanges.{ChangesInBeginning}
use Rattle.evidence.specs.Refused.{ReplicaGoesOn}

-- Another replica's view change came, above the view and within its bounds, and it is still that replica's latest.
abbrev pub CameLast : Configuration → ℕ → List Entry → ℕ × ViewChangeData → Type 0
CameLast c me now x =
    (bytes : List ℕ) × (x.0 ≢ me) × (signed_change c bytes ≡ Some x) × (is_within c x.1 ≡ true)
    × Once (λ past e. (e ≡ Got me bytes) × (view c past < x.1.view) × (latest_change c past x.0 < x.1.view)) now
    × (latest_change c now x.0 ≡ x.1.view)

-- It is the replica's own one that it sent last.
abbrev pub SentLast : ℕ → List Entry → ℕ × ViewChangeData → Type 0
SentLast me now x =
    (bytes : List ℕ) × (x.0 ≡ me) × (said bytes ≡ Some (record { sender = me; message = ViewChange x.1 }))
    × Once (λ past e. e ≡ Sent me bytes) now × (target now ≡ x.1.view)

-- At the end of an event a new view is left that it could send, over such view changes and with batches that are logged
-- in the marks, or null batches; and a key is left.
abbrev pub SendsNewViews : Type 0
SendsNewViews =
    (c : Configuration) (me : ℕ) (new : NewViewData) (input : Entry) (outputs past : List Entry)
    → view c (outputs ++ input ∷ past) < new.view → new.view ≡ target (outputs ++ input ∷ past)
    → primary c new.view ≡ me → may_select c new ≡ true
    → Each (λ x. CameLast c me (outputs ++ input ∷ past) x ⊎ SentLast me (outputs ++ input ∷ past) x) (changes_of c new)
    → Each (λ batch. (batch ≡ null_batch)
    ⊎ ((v i : ℕ) × (logged c me (outputs ++ input ∷ past) v i ≡ Some batch)
    × (is_in_marks c (low c me (outputs ++ input ∷ past)) i ≡ true))) new.batches
    → ReplicaGoesOn c me outputs input past
    → (leaf : ℕ) → leaf < 64 → (sent : List ℕ) × (leaf_of sent ≡ Some leaf) × SentBefore sent (outputs ++ input ∷ past)

-- In the beginning the primary of view 1 gets the view changes of two others for that view, and sends its own alone.
abbrev pub BeginsItsView : Type 0
BeginsItsView =
    (clients : ℕ) (seed first second own : List ℕ)
    → ChangesInBeginning (four clients seed) 2 first → ChangesInBeginning (four clients seed) 3 second
    → ChangesInBeginning (four clients seed) 1 own
    → ReplicaGoesOn (four clients seed) 1 (Sent 1 own ∷ []) (Got 1 second) (Got 1 first ∷ []) → ⊥
