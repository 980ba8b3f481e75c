-- Small histories around a view change, which the definitions accept, with frames left symbolic: what they spell, and
-- that their signatures and MACs are right, is given.
use Rattle.std.specs.Prelude.{◌≡◌, ◌≢◌, ℕ, List, [], ◌∷◌, Some}
use Rattle.sha2.specs.Sha256.{sha256}
use Rattle.wire_format.specs.Messages.{FrameData as Frame, MessageData as Message, ViewChangeData, NewViewData, prepare as Prepare, view_change as ViewChange, new_view as NewView}
use Rattle.protocol.specs.System.Configuration.{Configuration, signers}
use Rattle.signing.specs.AuthenticBody.{signed_body}
use Rattle.wire_format.specs.Words.{frame_of, said, receivers_of}
use Rattle.protocol.specs.System.Frames.{IsSealed, leaf_of}
use Rattle.protocol.specs.System.Trace.Entry.{Got, Sent}
use Rattle.protocol.specs.Replica.Selection.{signed_change}
use Rattle.protocol.specs.Replica.State.{opening, root_of}
use Rattle.protocol.specs.Replica.RightReplica.{checkpoint_of, others}
use Rattle.protocol.specs.Replica.Owed.{IsReplica}
use Rattle.evidence.specs.Examples.{four, holding}

-- What a replica says that changes from view 0 to view 1 in the beginning: its low mark is 0, it has the checkpoint of
-- the opening state alone, and nothing is prepared or pre-prepared.
abbrev pub beginning_change : ViewChangeData
beginning_change =
    record { view = 1; low = 0; checkpoints = checkpoint_of opening ∷ []; prepared = []; pre_prepared = [] }

-- The bytes are this view change, signed by the sender.
abbrev pub ChangesInBeginning : Configuration → ℕ → List ℕ → Type 0
ChangesInBeginning c sender bytes =
    signed_body (signers c) bytes ≡ Some (record { sender = sender; message = ViewChange beginning_change })

-- A replica that gets the view changes of two different replicas for view 1 in the beginning, and sends its own at the
-- second, is a right one, unless it is the primary of view 1, which has a new view to send then.
abbrev pub ViewChangesAreJoined : Type 0
ViewChangesAreJoined =
    (clients : ℕ) (seed : List ℕ) (me one other : ℕ) (first second own : List ℕ) → one ≢ other → one ≢ me → other ≢ me
    → me ≢ 1
    → ChangesInBeginning (four clients seed) one first → ChangesInBeginning (four clients seed) other second
    → ChangesInBeginning (four clients seed) me own
    → IsReplica (four clients seed) me (Sent me own ∷ Got me second ∷ Got me first ∷ [])

-- The new view 1 over three view changes, which starts at 0 with this root and has no batch.
abbrev pub beginning_view : List ℕ → List ℕ → List ℕ → List ℕ → NewViewData
beginning_view root a b d =
    record { view = 1; changes = a ∷ b ∷ d ∷ []; start = 0; root = root; batches = [] }

-- The primary of view 1 gets the view changes of two others for that view in the beginning. It is a right one if it
-- sends its own at the second, and then the new view over all three, signed by another of its keys.
abbrev pub ItsViewBegins : Type 0
ItsViewBegins =
    (clients : ℕ) (seed first second own new_view : List ℕ)
    → ChangesInBeginning (four clients seed) 2 first → ChangesInBeginning (four clients seed) 3 second
    → ChangesInBeginning (four clients seed) 1 own
    → signed_body (signers (four clients seed)) new_view
    ≡ Some (record { sender = 1; message = NewView (beginning_view (root_of opening) own first second) })
    → leaf_of own ≢ leaf_of new_view
    → IsReplica (four clients seed) 1 (Sent 1 new_view ∷ Sent 1 own ∷ Got 1 second ∷ Got 1 first ∷ [])

-- The new view 1 over three view changes, which starts at 0 with this root and has the batch for number 1.
abbrev pub holding_view : List ℕ → List ℕ → List ℕ → List ℕ → List ℕ → NewViewData
holding_view batch root a b d =
    record { view = 1; changes = a ∷ b ∷ d ∷ []; start = 0; root = root; batches = batch ∷ [] }

-- The bytes are the sender's message, sealed for the other replicas.
pub record IsForOthers (c : Configuration) (sender : ℕ) (message : Message) (bytes : List ℕ) : Type 0 where
  pub says : said bytes ≡ Some (record { sender = sender; message = message })
  pub is_sealed : (frame : Frame) → frame_of bytes ≡ Some frame
      → IsSealed c frame × (receivers_of frame.authenticator ≡ others c sender)

-- A backup of view 1 that gets in the beginning its primary's new view, over the view changes of three replicas that
-- hold the batch prepared, and prepares that batch in view 1, is a right replica.
abbrev pub NewViewsAreTaken : Type 0
NewViewsAreTaken =
    (clients : ℕ) (seed : List ℕ) (me : ℕ) (batch root a b d new_view prepare : List ℕ) → me ≢ 1
    → signed_change (four clients seed) a ≡ Some (1, holding batch root)
    → signed_change (four clients seed) b ≡ Some (2, holding batch root)
    → signed_change (four clients seed) d ≡ Some (3, holding batch root)
    → signed_body (signers (four clients seed)) new_view
    ≡ Some (record { sender = 1; message = NewView (holding_view batch root a b d) })
    → IsForOthers (four clients seed) me (Prepare 1 1 (sha256 batch)) prepare
    → IsReplica (four clients seed) me (Sent me prepare ∷ Got me new_view ∷ [])
