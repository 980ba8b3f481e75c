-- What the definitions of reports and of a schedule's steps refuse, and the definition of a signed frame.
use Rattle.std.specs.Prelude.{◌≡◌, ◌≢◌, ℕ, ◌≤◌, ◌<◌, ◌⊎◌, true, false, List, [], ◌∷◌, ◌++◌, length, Some, None, All, AllPairs, ⊤}
use Rattle.terms.specs.Parties.{client_party}
use Rattle.tuple_codec.specs.Operations.{Operation, IsOperation}
use Rattle.wire_format.specs.Messages.{BodyData as Body, MessageData as Message, FrameData as Frame, signature}
use Rattle.wire_format.specs.Spelling.{IsMessage, is_signed, frame_limit, body_spelling}
use Rattle.protocol.specs.System.Configuration.{Configuration, IsConfiguration, is_replica, is_client, is_correct, is_correct_client, members, signers}
use Rattle.signing.specs.AuthenticBody.{authentic, signed_body}
use Rattle.wire_format.specs.Words.{frame_of, said}
use Rattle.protocol.specs.System.Frames.{IsSealed}
use Rattle.protocol.specs.System.Trace.{Entry, history_of, Once, Always, Has, Unforged}
use Rattle.protocol.specs.System.Trace.Entry.{Invoke, Got, Tick, Accepted}
use Rattle.protocol.specs.Client.RightClient.{open_call}
use Rattle.protocol.specs.System.Texts.{NoCollision}
use Rattle.protocol.specs.Space.Linear.{Item, IsLinear}
use Rattle.protocol.specs.System.Run.{IsRun}
use Rattle.protocol.specs.System.Schedule.{Step, calls, deliver, feed, seal, sign, ticks, flush, Made, meant_for, sealed_bytes, signed_bytes, IsAllowed, Feeds, Acceptance, IsReport}
use Rattle.protocol.specs.Replica.RightReplica.{others}
use Rattle.evidence.specs.RefusedRuns.{PartyGetsFrame}
use Rattle.evidence.specs.Examples.{four}
use Rattle.evidence.specs.FirstOperation.{FirstFrames, AreFirstFrames, first_answer, first_item, first_trace}
use Rattle.wire_format.specs.Lists.{Each}

-- ---- a report

-- A trace without a report.
abbrev pub ReportsExist : Type 0
ReportsExist =
    (c : Configuration) (trace : List Entry)
    → (accepted : List Acceptance) × (items : List Item) × IsReport c trace accepted items

-- the entry is this acceptance; its position is how many entries come before it
abbrev pub IsAcceptance : Acceptance → List Entry → Entry → Type 0
IsAcceptance a past (Accepted client timestamp answer) =
    a ≡ record { position = length past; client = client; timestamp = timestamp; answer = answer }
IsAcceptance a past _ = ⊥

-- A report without one of the trace's acceptances.
abbrev pub ReportsAll : Type 0
ReportsAll =
    (c : Configuration) (trace : List Entry) (accepted : List Acceptance) (items : List Item) (a : Acceptance)
    → IsReport c trace accepted items → Once (IsAcceptance a) trace → Has (λ x. x ≡ a) accepted

-- A report of an acceptance that is not in the trace, or at another position.
abbrev pub ReportsNoOther : Type 0
ReportsNoOther =
    (c : Configuration) (trace : List Entry) (accepted : List Acceptance) (items : List Item) (a : Acceptance)
    → IsReport c trace accepted items → Has (λ x. x ≡ a) accepted → Once (IsAcceptance a) trace

-- each acceptance is at a lower position than those after it
abbrev pub PositionsRise : List Acceptance → Type 0
PositionsRise [] = ⊤
PositionsRise (a ∷ accepted) = Each (λ b. a.position < b.position) accepted × PositionsRise accepted

-- A report in another order, or of one acceptance twice.
abbrev pub ReportsInOrder : Type 0
ReportsInOrder =
    (c : Configuration) (trace : List Entry) (accepted : List Acceptance) (items : List Item)
    → IsReport c trace accepted items → PositionsRise accepted

-- A report of a run whose items are not legal, don't cover the run, or are not placed.
abbrev pub ReportsAreLinear : Type 0
ReportsAreLinear =
    (c : Configuration) → IsConfiguration c → (trace : List Entry) (accepted : List Acceptance) (items : List Item)
    → IsRun c trace → Unforged c trace → NoCollision c trace → IsReport c trace accepted items → IsLinear c items trace

-- A report of the first operation with other acceptances than its one, by client 0, before which 49 entries stand,
-- or with other items than its one.
abbrev pub FirstOperationIsReported : Type 0
FirstOperationIsReported =
    (clients : ℕ) (seed : List ℕ) (op : Operation) (batch : List ℕ) (w : FirstFrames) (accepted : List Acceptance)
    (items : List Item)
    → IsReport (four clients seed) (first_trace op batch w) accepted items
    → (accepted ≡ record { position = 49; client = 0; timestamp = 1; answer = first_answer op } ∷ [])
    × (IsConfiguration (four clients seed) → AreFirstFrames (four clients seed) op batch w → items ≡ first_item op ∷ [])

-- ---- a schedule's steps

-- An input may be fed: of a correct party, and a call while none of its client is open, of an operation within the
-- limits.
abbrev pub MayBeFed : Configuration → List Entry → Entry → Type 0
MayBeFed c past (Invoke k timestamp op) =
    (is_correct_client c (client_party k) ≡ true) × (open_call (history_of (client_party k) past) ≡ None)
    × IsOperation op
MayBeFed c past (Got p bytes) = is_correct c p ≡ true
MayBeFed c past (Tick p) = is_correct c p ≡ true
MayBeFed c past _ = ⊤

-- A call of a faulty client, while its last one is open or beyond the limits; a delivery to a faulty party, bytes
-- fed to one, or its tick.
abbrev pub FeedsWhatMayBeFed : Type 0
FeedsWhatMayBeFed =
    (c : Configuration) (steps : List Step) (trace : List Entry) → Feeds c steps trace → Always (MayBeFed c) trace

-- the party is one of the configuration
abbrev pub IsPartyOf : Configuration → ℕ → Type 0
IsPartyOf c p = (is_replica c p ≡ true) ⊎ (is_client c p ≡ true)

-- 1 to 10 parties, ascending
abbrev pub ArePartiesInOrder : Configuration → List ℕ → Type 0
ArePartiesInOrder c ps = (1 ≤ length ps) × (length ps ≤ 10) × AllPairs (λ p q. p < q) ps × All (IsPartyOf c) ps

-- A frame may be made outside the correct parties: a faulty party's, and a signed one a replica's with one of its 64
-- leaves.
abbrev pub MayMake : Configuration → Step → Type 0
MayMake c (seal sender receivers body) =
    IsPartyOf c sender × (is_correct c sender ≡ false) × ArePartiesInOrder c receivers
MayMake c (sign replica leaf receivers body) =
    (is_replica c replica ≡ true) × (is_correct c replica ≡ false) × (leaf < 64) × ArePartiesInOrder c receivers
MayMake c _ = ⊤

-- A frame sealed or signed for a correct party, for one that there isn't, for no receivers or for more than 10, or
-- with a leaf that there isn't.
abbrev pub FeedsWhatMayBeMade : Type 0
FeedsWhatMayBeMade =
    (c : Configuration) (steps : List Step) (trace : List Entry) → Feeds c steps trace → Each (MayMake c) steps

-- After a flush, a frame that a step sealed, and that one of its correct receivers did not get.
abbrev pub FlushDeliversSealed : Type 0
FlushDeliversSealed =
    (c : Configuration) (steps : List Step) (sender q : ℕ) (receivers body : List ℕ) (trace : List Entry)
    → Feeds c (steps ++ flush ∷ []) trace → Has (λ x. x ≡ seal sender receivers body) steps → Has (λ r. r ≡ q) receivers
    → is_correct c q ≡ true
    → Has (PartyGetsFrame q (sealed_bytes c sender receivers body)) trace

-- The same of one that a step signed.
abbrev pub FlushDeliversSigned : Type 0
FlushDeliversSigned =
    (c : Configuration) (steps : List Step) (replica leaf q : ℕ) (receivers body : List ℕ) (trace : List Entry)
    → Feeds c (steps ++ flush ∷ []) trace → Has (λ x. x ≡ sign replica leaf receivers body) steps
    → Has (λ r. r ≡ q) receivers → is_correct c q ≡ true
    → Has (PartyGetsFrame q (signed_bytes c replica leaf body)) trace

-- A sealed frame with another after it that an output of the event before it sent: steps come between events.
abbrev pub SealedIsNewest : Type 0
SealedIsNewest =
    (c : Configuration) (steps : List Step) (sender : ℕ) (receivers body : List ℕ) (trace : List Entry)
    (feeds : Feeds c (steps ++ seal sender receivers body ∷ []) trace)
    → (before : List Made)
    × (feeds.0.frames ≡ before ++ record { bytes = sealed_bytes c sender receivers body; receivers = receivers } ∷ [])

-- The same of a signed one.
abbrev pub SignedIsNewest : Type 0
SignedIsNewest =
    (c : Configuration) (steps : List Step) (replica leaf : ℕ) (receivers body : List ℕ) (trace : List Entry)
    (feeds : Feeds c (steps ++ sign replica leaf receivers body ∷ []) trace)
    → (before : List Made)
    × (feeds.0.frames ≡ before ++ record { bytes = signed_bytes c replica leaf body; receivers = receivers } ∷ [])

-- a step that may come after the trace, with these frames made
abbrev pub MayCome : Configuration → List Made → List Entry → Step → Type 0
MayCome c frames trace (calls k op) =
    (is_correct_client c (client_party k) ≡ true) × (open_call (history_of (client_party k) trace) ≡ None)
    × IsOperation op
MayCome c frames trace (deliver frame party) = (frame < length frames) × (is_correct c party ≡ true)
MayCome c frames trace (feed party text) = is_correct c party ≡ true
MayCome c frames trace (ticks party) = is_correct c party ≡ true
MayCome c frames trace step = MayMake c step

-- A step that may come after the trace that the steps before it feed, and is not allowed.
abbrev pub AllowsWhatMayCome : Type 0
AllowsWhatMayCome =
    (c : Configuration) (steps : List Step) (step : Step) (trace : List Entry) (feeds : Feeds c steps trace)
    → MayCome c feeds.0.frames trace step → IsAllowed c feeds.0 step

-- A step that may not come there, and is allowed.
abbrev pub AllowsNoOther : Type 0
AllowsNoOther =
    (c : Configuration) (steps : List Step) (step : Step) (trace : List Entry) (feeds : Feeds c steps trace)
    → IsAllowed c feeds.0 step → MayCome c feeds.0.frames trace step

-- ---- signed frames

-- The bytes spell the body, signed by its sender and for all other replicas, and whoever else gets them receives it.
pub record IsSignedFrom (c : Configuration) (body : Body) (bytes : List ℕ) : Type 0 where
  pub frame : Frame
  pub made : List ℕ
  pub spells : frame_of bytes ≡ Some frame
  pub says : said bytes ≡ Some body
  pub has_signature : frame.authenticator ≡ signature made
  pub is_sealed : IsSealed c frame
  pub is_for : meant_for c body.sender frame.authenticator ≡ others c body.sender
  pub is_authentic_to : (p : ℕ) → body.sender ≢ p → authentic (members c p) p bytes ≡ Some body
  pub is_told : signed_body (signers c) bytes ≡ Some body

-- If a replica signs a message with one of its 64 leaves, it is authentic to each other party. The message must be one
-- that may be sent and goes with a signature, and the frame must not be too long.
abbrev pub SignedFramesAreAuthentic : Type 0
SignedFramesAreAuthentic =
    (c : Configuration) (replica leaf : ℕ) (message : Message)
    → IsConfiguration c → is_replica c replica ≡ true → leaf < 64 → IsMessage message → is_signed message ≡ true
    → length (signed_bytes c replica leaf
    (body_spelling (record { sender = replica; message = message }))) ≤ frame_limit message
    → IsSignedFrom c (record { sender = replica; message = message })
    (signed_bytes c replica leaf (body_spelling (record { sender = replica; message = message })))
