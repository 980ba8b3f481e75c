-- The first operation of a client at four replicas, whole: each frame that a right party sends, and the trace that they
-- make when each frame is delivered in turn.
use Rattle.std.specs.Prelude.{◌≡◌, ℕ, ◌<◌, ◌≤◌, true, false, List, [], ◌∷◌, length, reverse, Some, All}
use Rattle.sha2.specs.Sha256.{sha256}
use Rattle.tuple_codec.specs.Operations.{Operation, Outcome, IsOperation}
use Rattle.space.specs.Applying.{outcome, is_read_only}
use Rattle.terms.specs.declared.order.Mode.TheVariants as modes
use Rattle.wire_format.specs.Messages.{FrameData as Frame, MessageData as Message, MacData, macs, request as Request, pre_prepare as PrePrepare, prepare as Prepare, commit as Commit, reply as Reply}
use Rattle.wire_format.specs.Spelling.{IsMessage, is_signed, frame_limit, body_spelling}
use Rattle.wire_format.specs.Words.{requests_of, frame_of, said, receivers_of}
use Rattle.authenticator.specs.Laws.{is_peer}
use Rattle.authenticator.specs.Membership.{sends}
use Rattle.protocol.specs.System.Configuration.{Configuration, IsConfiguration, replicas, members, signers}
use Rattle.signing.specs.AuthenticBody.{authentic}
use Rattle.protocol.specs.System.Frames.{IsSealed}
use Rattle.protocol.specs.System.Trace.{Entry, history_of, Has, Unforged}
use Rattle.protocol.specs.System.Trace.Entry.{Invoke, Got, Executed, Sent, Accepted}
use Rattle.protocol.specs.Replica.Certificates.{Committed}
use Rattle.protocol.specs.Replica.State.{opening, tuples}
use Rattle.protocol.specs.Replica.RightReplica.{others}
use Rattle.protocol.specs.System.Run.{IsRun}
use Rattle.protocol.specs.Space.Linear.{Item, points}
use Rattle.protocol.specs.System.Schedule.{Feeds, AreReceivers, sealed_bytes, calls, flush}
use Rattle.evidence.specs.Examples.{four}
use Rattle.std.specs.List.{range_with_len}

-- The frames: the client's request, the primary's pre-prepare, and by their replica the prepares, commits and replies.
pub record FirstFrames : Type 0 where
  pub request : List ℕ
  pub pre_prepare : List ℕ
  pub prepare : ℕ → List ℕ
  pub commit : ℕ → List ℕ
  pub reply : ℕ → List ℕ

-- The bytes spell the sender's message, sealed for these receivers, and it is authentic to each of them.
pub record IsFrameFrom (c : Configuration) (sender : ℕ) (message : Message) (receivers : List ℕ)
    (bytes : List ℕ) : Type 0 where
  pub frame : Frame
  pub entries : List MacData
  pub spells : frame_of bytes ≡ Some frame
  pub says : said bytes ≡ Some (record { sender = sender; message = message })
  pub has_macs : frame.authenticator ≡ macs entries
  pub is_sealed : IsSealed c frame
  pub is_for : receivers_of frame.authenticator ≡ receivers
  pub is_authentic_to : (p : ℕ) → Has (λ r. r ≡ p) receivers
      → authentic (members c p) p bytes ≡ Some (record { sender = sender; message = message })

-- client 0's answer
abbrev pub first_answer : Operation → Outcome
first_answer op = outcome (tuples opening) 0 op

-- They are the frames of client 0's first operation, in a batch of its own.
pub record AreFirstFrames (c : Configuration) (op : Operation) (batch : List ℕ) (w : FirstFrames) : Type 0 where
  pub operation : IsOperation op
  pub writes : is_read_only op ≡ false
  pub requests : requests_of batch ≡ w.request ∷ []
  pub asks : IsFrameFrom c 256 (Request 1 modes.Ordered op) (range_with_len 0 (replicas c)) w.request
  pub proposes : IsFrameFrom c 0 (PrePrepare 0 1 batch) (others c 0) w.pre_prepare
  pub prepares : (r : ℕ) → r < replicas c → IsFrameFrom c r (Prepare 0 1 (sha256 batch)) (others c r) (w.prepare r)
  pub commits : (r : ℕ) → r < replicas c → IsFrameFrom c r (Commit 0 1 (sha256 batch)) (others c r) (w.commit r)
  pub replies : (r : ℕ) → r < replicas c
      → IsFrameFrom c r (Reply 256 1 modes.Ordered 1 (first_answer op)) (256 ∷ []) (w.reply r)

-- The trace, the oldest first: the call; its request at each replica; the pre-prepare at each backup; each prepare,
-- then each commit and each reply at each of its receivers, in the order in which they were sent.
abbrev pub first_operation : Operation → List ℕ → FirstFrames → List Entry
first_operation op batch w =
    Invoke 0 1 op ∷ Sent 256 w.request
    ∷ Got 0 w.request ∷ Sent 0 w.pre_prepare ∷ Got 1 w.request ∷ Got 2 w.request ∷ Got 3 w.request
    ∷ Got 1 w.pre_prepare ∷ Sent 1 (w.prepare 1) ∷ Got 2 w.pre_prepare ∷ Sent 2 (w.prepare 2) ∷ Got 3 w.pre_prepare
    ∷ Sent 3 (w.prepare 3)
    ∷ Got 0 (w.prepare 1) ∷ Got 2 (w.prepare 1) ∷ Sent 2 (w.commit 2) ∷ Got 3 (w.prepare 1) ∷ Sent 3 (w.commit 3)
    ∷ Got 0 (w.prepare 2) ∷ Sent 0 (w.commit 0) ∷ Got 1 (w.prepare 2) ∷ Sent 1 (w.commit 1) ∷ Got 3 (w.prepare 2)
    ∷ Got 0 (w.prepare 3) ∷ Got 1 (w.prepare 3) ∷ Got 2 (w.prepare 3)
    ∷ Got 0 (w.commit 2) ∷ Got 1 (w.commit 2) ∷ Got 3 (w.commit 2)
    ∷ Got 0 (w.commit 3) ∷ Executed 0 1 batch ∷ Sent 0 (w.reply 0)
    ∷ Got 1 (w.commit 3) ∷ Executed 1 1 batch ∷ Sent 1 (w.reply 1) ∷ Got 2 (w.commit 3)
    ∷ Got 1 (w.commit 0) ∷ Got 2 (w.commit 0) ∷ Executed 2 1 batch ∷ Sent 2 (w.reply 2)
    ∷ Got 3 (w.commit 0) ∷ Executed 3 1 batch ∷ Sent 3 (w.reply 3)
    ∷ Got 0 (w.commit 1) ∷ Got 2 (w.commit 1) ∷ Got 3 (w.commit 1)
    ∷ Got 256 (w.reply 0) ∷ Got 256 (w.reply 1) ∷ Got 256 (w.reply 2) ∷ Accepted 0 1 (first_answer op)
    ∷ Got 256 (w.reply 3)
    ∷ []

-- the same with the newest entry first, as traces are
abbrev pub first_trace : Operation → List ℕ → FirstFrames → List Entry
first_trace op batch w = reverse (first_operation op batch w)

-- It is a run.
abbrev pub FirstOperationIsRun : Type 0
FirstOperationIsRun =
    (clients : ℕ) (seed : List ℕ) (op : Operation) (batch : List ℕ) (w : FirstFrames)
    → IsConfiguration (four clients seed)
    → AreFirstFrames (four clients seed) op batch w → IsRun (four clients seed) (first_trace op batch w)

-- Each replica then holds the batch committed, and so prepared.
abbrev pub FirstOperationIsCommitted : Type 0
FirstOperationIsCommitted =
    (clients : ℕ) (seed : List ℕ) (op : Operation) (batch : List ℕ) (w : FirstFrames)
    → IsConfiguration (four clients seed)
    → AreFirstFrames (four clients seed) op batch w
    → (r : ℕ) → r < 4 → Committed (four clients seed) r (history_of r (first_trace op batch w)) 0 1 batch

-- No message of it is forged.
abbrev pub FirstOperationIsUnforged : Type 0
FirstOperationIsUnforged =
    (clients : ℕ) (seed : List ℕ) (op : Operation) (batch : List ℕ) (w : FirstFrames)
    → IsConfiguration (four clients seed)
    → AreFirstFrames (four clients seed) op batch w → Unforged (four clients seed) (first_trace op batch w)

-- The schedule that calls the operation and then delivers all frames feeds it.
abbrev pub FirstOperationIsFed : Type 0
FirstOperationIsFed =
    (clients : ℕ) (seed : List ℕ) (op : Operation) (batch : List ℕ) (w : FirstFrames)
    → IsConfiguration (four clients seed)
    → AreFirstFrames (four clients seed) op batch w
    → Feeds (four clients seed) (calls 0 op ∷ flush ∷ []) (first_trace op batch w)

-- its item, at the position at which all but one of the replicas, of whom none is faulty, have executed the number 1
abbrev pub first_item : Operation → Item
first_item op = record { client = 256; timestamp = 1; op = op; answer = first_answer op; position = 38 }

-- The points of the trace are that item.
abbrev pub FirstOperationHasItsPoint : Type 0
FirstOperationHasItsPoint =
    (clients : ℕ) (seed : List ℕ) (op : Operation) (batch : List ℕ) (w : FirstFrames)
    → IsConfiguration (four clients seed)
    → AreFirstFrames (four clients seed) op batch w
    → points (four clients seed) (first_trace op batch w) ≡ first_item op ∷ []

-- There are such frames, whatever is written.
abbrev pub FirstFramesExist : Type 0
FirstFramesExist =
    (clients : ℕ) (seed : List ℕ) (op : Operation) → IsConfiguration (four clients seed) → IsOperation op
    → is_read_only op ≡ false
    → (batch : List ℕ) × (w : FirstFrames) × AreFirstFrames (four clients seed) op batch w

-- If a party of the right sort seals a message for parties that it exchanges frames with, it is authentic to each of
-- them. The message must be one that may be sent and goes with MACs, and the frame must not be too long.
abbrev pub SealedFramesAreAuthentic : Type 0
SealedFramesAreAuthentic =
    (c : Configuration) → IsConfiguration c → (sender : ℕ) (message : Message) (receivers : List ℕ)
    → sends (signers c) sender message ≡ true → IsMessage message → is_signed message ≡ false → AreReceivers c receivers
    → All (λ p. is_peer c.faults c.clients sender p ≡ true) receivers
    → length (sealed_bytes c sender receivers
    (body_spelling (record { sender = sender; message = message }))) ≤ frame_limit message
    → IsFrameFrom c sender message receivers
    (sealed_bytes c sender receivers (body_spelling (record { sender = sender; message = message })))
