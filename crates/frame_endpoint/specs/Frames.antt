-- Words of the private functions that make frames.
use Rattle.std.specs.Prelude.{◌≡◌, ℕ, ◌+◌, ◌≤◌, List, Option, Some, length, map, option_map, slice_get, Vec}
use Rattle.std.specs.Borrow.{Bor}
use Rattle.std.specs.declared.alloc.Global.{Global}
use Rattle.terms.specs.declared.parties.Party.{Party}
use Rattle.terms.specs.declared.parties.ReplicaId.{ReplicaId}
use Rattle.wire_format.specs.declared.messages.Body.{Body}
use Rattle.wire_format.specs.Messages.{BodyData, FrameData, MessageData as Message, signature}
use Rattle.wire_format.specs.Spelling.{SpellsFrame, body_spelling, frame_limit, piece}
use Rattle.wire_format.specs.Views.{body_data}
use Rattle.authenticator.specs.Keys.{Keys}
use Rattle.authenticator.specs.Membership.{Membership}
use Rattle.authenticator.specs.Sealing.{sealed_for}
use Rattle.signing.specs.AuthenticBody.{authentic}
use Rattle.signing.specs.Signatures.{Verifies, public_key}
use Rattle.frame_endpoint.specs.Endpoint.{numbers, says}

-- the bytes of slices
abbrev pub slice_texts : List (Bor (List ℕ)) → List (List ℕ)
slice_texts frames = map (λ frame. frame.now) frames

-- ---- received frames

-- the body is that of the bytes, if they are authentic to the party
abbrev pub AuthenticatesBytes : Membership → ℕ → List ℕ → Option Body → Type 0
AuthenticatesBytes m me bytes body = authentic m me bytes ≡ option_map body_data body

-- ---- with MACs

-- the bytes are the body with its MACs for these parties
abbrev pub SpellsSealed : Keys → BodyData → List ℕ → List ℕ → Type 0
SpellsSealed keys body parties bytes = SpellsFrame bytes (sealed_for keys body parties)

-- the bytes are the party's message with its MACs for these parties
abbrev pub SealsMessage : Membership → ReplicaId → Message → List Party → Vec ℕ Global → Type 0
SealsMessage m me message parties bytes =
    SpellsSealed m.keys (says me.0 message) (numbers parties) bytes.items

-- ---- with a signature

-- a body with a signature
abbrev pub signed_frame : BodyData → List ℕ → FrameData
signed_frame body signed = record { body = body; authenticator = signature signed }

-- the bytes are the body with its signature by this leaf of the seed
pub record SpellsSigned (seed : List ℕ) (leaf : ℕ) (body : BodyData) (bytes : List ℕ) : Type 0 where
  pub signed : List ℕ
  pub spells : SpellsFrame bytes (signed_frame body signed)
  pub verifies : Verifies (public_key seed) (body_spelling body) signed
  pub by_leaf : slice_get signed 0 ≡ Some leaf

-- the bytes are the body with its signature
abbrev pub SignsBody : List ℕ → ℕ → Body → Vec ℕ Global → Type 0
SignsBody seed leaf body bytes = SpellsSigned seed leaf (body_data body) bytes.items

-- the bytes are the party's message with its signature
abbrev pub SignsMessage : List ℕ → ℕ → ReplicaId → Message → Vec ℕ Global → Type 0
SignsMessage seed leaf me message bytes = SpellsSigned seed leaf (says me.0 message) bytes.items

-- with a signature the body has at most as many bytes as its frame may have
abbrev pub SignedFits : BodyData → Type 0
SignedFits body = length (piece (body_spelling body)) + 16578 ≤ frame_limit body.message
