-- A replica's endpoint: which frames it accepts as authentic, and which it sends (Castro and Liskov, Practical
-- Byzantine fault tolerance and proactive recovery, TOCS 2002, on the authentication of messages).
use Rattle.std.specs.Prelude.{◌≡◌, ℕ, ◌+◌, ◌*◌, ◌<◌, ◌≤◌, ◌==◌, Bool, not, List, [], ◌∷◌, length, map, filter, Option, Some, is_some, option_map, slice_get, Vec, ⊤}
use Rattle.std.specs.List.{list_all, range_with_len}
use Rattle.std.specs.declared.alloc.Global.{Global}
use Rattle.terms.specs.Parties.{party_number}
use Rattle.terms.specs.declared.parties.Party.{Party}
use Rattle.wire_format.specs.declared.messages.Batch.{Batch}
use Rattle.wire_format.specs.declared.messages.Body.{Body}
use Rattle.wire_format.specs.Messages.{BodyData, MessageData as Message, page}
use Rattle.wire_format.specs.Spelling.{body_spelling, frame_limit, piece}
use Rattle.wire_format.specs.Views.{body_data}
use Rattle.wire_format.specs.Words.{requests_of}
use Rattle.authenticator.specs.Membership.{Membership, replicas}
use Rattle.signing.specs.AuthenticBody.{authentic}
use Rattle.signing.specs.Signatures.{public_key}
use Rattle.protocol.specs.System.Configuration.{Configuration, members}
use Rattle.protocol.specs.System.Frames.{IsOutgoing}
use Rattle.protocol.specs.System.Trace.Entry.{Sent}
use Rattle.events.specs.declared.output.Output.{Output}
use Rattle.events.specs.declared.output.Output.TheVariants as outputs
use Rattle.events.specs.Outputs.{entry_of, IsSentAsMeant}

-- what the replica knows of the members, its number, and how many of its 64 keys have signed
pub record EndpointState : Type 0 where
  pub membership : Membership
  pub me : ℕ
  pub used : ℕ

-- A replica of these members is one of 4, 7 or 10, and signs under its own public key.
abbrev pub ReplicaIsOfMembers : Membership → ℕ → ℕ → List ℕ → Type 0
ReplicaIsOfMembers m faults me seed =
    (faults ≡ m.faults) × (1 ≤ faults) × (faults ≤ 3) × (me < 3 * faults + 1)
    × (slice_get m.publics me ≡ Some (public_key seed))

-- the parties' numbers
abbrev pub numbers : List Party → List ℕ
numbers parties = map party_number parties

-- the numbers below n but this one, ascending
abbrev pub others_below : ℕ → ℕ → List ℕ
others_below n me = filter (λ r. not (r == me)) (range_with_len 0 n)

-- the other replicas
abbrev pub other_replicas : Membership → ℕ → List ℕ
other_replicas m me = others_below (replicas m) me

-- ---- received frames

-- whether each of the frames is authentic to the replica
abbrev pub are_authentic : Membership → ℕ → List (List ℕ) → Bool
are_authentic m me frames = list_all (λ frame. is_some (authentic m me frame)) frames

-- the body is that of the bytes, if they are authentic to the endpoint
abbrev pub AuthenticatesBody : EndpointState → List ℕ → Option Body → Type 0
AuthenticatesBody e bytes body = authentic e.membership e.me bytes ≡ option_map body_data body

-- the test says whether each request of the batch is authentic to the endpoint
abbrev pub TellsGenuine : EndpointState → Batch → Bool → Type 0
TellsGenuine e batch test = test ≡ are_authentic e.membership e.me (requests_of batch.text.items)

-- ---- messages that fit a frame

-- A page of so many bytes fits a frame with MACs for ten parties, and so does each other message that goes with MACs.
abbrev pub FitsFrame : Message → Type 0
FitsFrame (page number index text) = length text ≤ 4193945
FitsFrame _ = ⊤

-- ---- sent frames

-- In each configuration where the replica knows this, the bytes are its frame with this message, sealed for these
-- parties; a signed one names none.
abbrev pub AreOutgoingBytes : Membership → ℕ → Message → List ℕ → List ℕ → Type 0
AreOutgoingBytes m me message sealed bytes =
    (c : Configuration) → members c me ≡ m → IsOutgoing c me message sealed bytes

-- the receivers of an output
abbrev pub receivers : Output → List ℕ
receivers (outputs.Executed number batch) = []
receivers (outputs.Installed number root) = []
receivers (outputs.Send parties frame) = numbers parties.items
receivers (outputs.Accepted timestamp answer) = []

-- In each configuration where the replica knows this, the output goes exactly to the parties for whom its frame is.
abbrev pub GoesAsMeant : Membership → ℕ → Output → Type 0
GoesAsMeant m me output = (c : Configuration) → members c me ≡ m → IsSentAsMeant c me output

-- The output is such a frame, and goes to these parties, for whom the frame is.
pub record IsOutgoingFrame (m : Membership) (me : ℕ) (message : Message) (sealed parties : List ℕ)
    (output : Output) : Type 0 where
  pub bytes : List ℕ
  pub sends : entry_of me output ≡ Sent me bytes
  pub goes : receivers output ≡ parties
  pub is_outgoing : AreOutgoingBytes m me message sealed bytes
  pub meant : GoesAsMeant m me output

-- it has a MAC for each of its receivers
abbrev pub IsSealedOutgoing : Membership → ℕ → Message → List ℕ → Output → Type 0
IsSealedOutgoing m me message parties output = IsOutgoingFrame m me message parties parties output

-- it is signed
abbrev pub IsSignedOutgoing : Membership → ℕ → Message → List ℕ → Output → Type 0
IsSignedOutgoing m me message parties output = IsOutgoingFrame m me message [] parties output

-- it goes to these parties
abbrev pub SealsFor : Membership → ℕ → Message → List Party → Output → Type 0
SealsFor m me message parties output = IsSealedOutgoing m me message (numbers parties) output

-- it goes to this party alone
abbrev pub SealsForOne : Membership → ℕ → Message → Party → Output → Type 0
SealsForOne m me message party output = IsSealedOutgoing m me message (party_number party ∷ []) output

-- it goes to all other replicas
abbrev pub SealsForOthers : Membership → ℕ → Message → Output → Type 0
SealsForOthers m me message output = IsSealedOutgoing m me message (other_replicas m me) output

-- it is signed, and goes to all other replicas
abbrev pub SignsForOthers : Membership → ℕ → Message → Output → Type 0
SignsForOthers m me message output = IsSignedOutgoing m me message (other_replicas m me) output

-- ---- the same of an endpoint

abbrev pub SendsMessageToOne : EndpointState → Message → Party → Output → Type 0
SendsMessageToOne e message party output = SealsForOne e.membership e.me message party output

abbrev pub SendsMessageToOthers : EndpointState → Message → Output → Type 0
SendsMessageToOthers e message output = SealsForOthers e.membership e.me message output

abbrev pub SendsSignedToOthers : EndpointState → Message → Output → Type 0
SendsSignedToOthers e message output = SignsForOthers e.membership e.me message output

-- ---- signed frames

-- the party's message
abbrev pub says : ℕ → Message → BodyData
says me message = record { sender = me; message = message }

-- In each configuration of these public keys the bytes are the replica's frame with this message, signed.
abbrev pub IsSignedUnder : List (List ℕ) → ℕ → Message → List ℕ → Type 0
IsSignedUnder publics me message bytes =
    (c : Configuration) → c.publics ≡ publics → IsOutgoing c me message [] bytes

abbrev pub IsOwnSigned : EndpointState → Message → List ℕ → Type 0
IsOwnSigned e message bytes = IsSignedUnder e.membership.publics e.me message bytes

abbrev pub SignsFrame : EndpointState → Message → Vec ℕ Global → Type 0
SignsFrame e message bytes = IsOwnSigned e message bytes.items

-- With a signature, which takes 16,578 bytes with the byte of its sort, the body would be longer than a frame of the
-- message may be.
abbrev pub SignedExceeds : BodyData → Type 0
SignedExceeds body = frame_limit body.message < length (piece (body_spelling body)) + 16578

-- Some key is unused, and the frame would be too long.
abbrev pub IsTooLongToSign : EndpointState → Message → Type 0
IsTooLongToSign e message = (e.used < 64) × SignedExceeds (says e.me message)

-- The bytes go to all other replicas. If they are a signed frame of the replica's own, the frame is for them.
pub record SendsToOthers (e : EndpointState) (bytes : List ℕ) (output : Output) : Type 0 where
  pub sends : entry_of e.me output ≡ Sent e.me bytes
  pub goes : receivers output ≡ other_replicas e.membership e.me
  pub meant : (c : Configuration) (message : Message) → members c e.me ≡ e.membership
      → IsOutgoing c e.me message [] bytes → IsSentAsMeant c e.me output

-- so whichever signed message the bytes have, the output sends it
abbrev pub SendsFrameToOthers : EndpointState → List ℕ → Output → Type 0
SendsFrameToOthers e bytes output = (message : Message) → IsOwnSigned e message bytes
    → SendsSignedToOthers e message output
