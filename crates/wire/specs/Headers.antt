-- The header of a frame: who sent it, and which authenticator proves which text.
use Rattle.std.specs.Prelude.{◌≡◌, ℕ, Bool, true, false, List}
use Rattle.terms.specs.Parties.{party_number}
use Rattle.wire.specs.declared.headers.Header.{Header}
use Rattle.wire.specs.declared.headers.AuthenticatorBytes.{AuthenticatorBytes}
use Rattle.wire.specs.declared.headers.AuthenticatorBytes.TheVariants as authenticator_bytes
use Rattle.wire_format.specs.Messages.{MessageData, request, BodyData, AuthenticatorData, macs, signature, FrameData}
use Rattle.wire_format.specs.Spelling.{body_spelling, SpellsFrame}

pub record HeaderData : Type 0 where
  pub sender : ℕ
  pub is_request : Bool
  pub text : List ℕ
  pub authenticator : AuthenticatorData

-- whether the message is a request, which clients send
abbrev pub asks : MessageData → Bool
asks (request timestamp mode operation) = true
asks _ = false

abbrev pub header_of : FrameData → HeaderData
header_of f =
    record {
      sender = f.body.sender;
      is_request = asks f.body.message;
      text = body_spelling f.body;
      authenticator = f.authenticator;
    }

-- The bytes spell a frame.
abbrev pub IsFrame : List ℕ → Type 0
IsFrame bytes = (frame : FrameData) × SpellsFrame bytes frame

-- The bytes spell a frame with this body.
abbrev pub HasBody : List ℕ → BodyData → Type 0
HasBody bytes body = (frame : FrameData) × SpellsFrame bytes frame × (frame.body ≡ body)

-- The bytes spell a frame with this header.
abbrev pub HasHeader : List ℕ → HeaderData → Type 0
HasHeader bytes header = (frame : FrameData) × SpellsFrame bytes frame × (header ≡ header_of frame)

-- ---- of Rust values

abbrev pub authenticator_bytes_data : AuthenticatorBytes → AuthenticatorData
authenticator_bytes_data (authenticator_bytes.Macs ms) = macs ms
authenticator_bytes_data (authenticator_bytes.Signature s) = signature s.now

abbrev pub header_data : Header → HeaderData
header_data h =
    record {
      sender = party_number h.sender;
      is_request = h.is_request;
      text = h.text.now;
      authenticator = authenticator_bytes_data h.authenticator;
    }
