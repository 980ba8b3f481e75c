-- The requests of a client.
use Rattle.std.specs.Prelude.{◌≡◌, ◌+◌, ◌*◌, ◌≤◌, ℕ, List, length, Vec}
use Rattle.std.specs.List.{range_with_len}
use Rattle.std.specs.declared.alloc.Global.{Global}
use Rattle.terms.specs.Parties.{client_party}
use Rattle.terms.specs.declared.order.Mode.{Mode}
use Rattle.terms.specs.declared.order.Timestamp.{Timestamp}
use Rattle.terms.specs.declared.parties.ClientId.{ClientId}
use Rattle.tuple_codec.specs.Operations.{Operation}
use Rattle.wire_format.specs.Messages.{BodyData as Body}
use Rattle.wire_format.specs.Spelling.{SpellsFrame, body_spelling, frame_limit, piece}
use Rattle.authenticator.specs.Keys.{Keys}
use Rattle.authenticator.specs.Membership.{Membership}
use Rattle.authenticator.specs.Sealing.{IsSealable, sealed_for}
use Rattle.signing.specs.Publics.{knows}
use Rattle.protocol.specs.System.Configuration.{Configuration, members}
use Rattle.protocol.specs.Client.RightClient.{IsRequest}

-- in each configuration where the client knows this, the bytes are its request
abbrev pub AsksWith : Membership → ℕ → Mode → ℕ → Operation → List ℕ → Type 0
AsksWith m me mode timestamp op bytes =
    (c : Configuration) → members c me ≡ m → IsRequest c me mode (record { timestamp = timestamp; op = op }) bytes

-- ---- for private functions

-- the frame is a request of the client with this number and these keys, whichever public keys it knows
abbrev pub AsksAs :
    Membership → ClientId → Mode → Timestamp → Operation → Vec ℕ Global → Type 0
AsksAs ring client mode timestamp op frame =
    (publics : List (List ℕ))
    → AsksWith (knows ring publics) (client_party client.number) mode timestamp.0 op frame.items

-- the body can be sealed for all replicas
abbrev pub IsSealableForAll : ℕ → Body → Type 0
IsSealableForAll faults body =
    (receivers : List ℕ) → receivers ≡ range_with_len 0 (3 * faults + 1)
    → IsSealable body receivers

-- With MACs for ten replicas the body's frame is not too long.
abbrev pub IsShort : Body → Type 0
IsShort body = length (piece (body_spelling body)) + 342 ≤ frame_limit body.message

-- a frame with the body, sealed for all replicas
abbrev pub SealsForAll : Keys → ℕ → Body → Vec ℕ Global → Type 0
SealsForAll keys faults body frame =
    SpellsFrame frame.items (sealed_for keys body (range_with_len 0 (3 * faults + 1)))
