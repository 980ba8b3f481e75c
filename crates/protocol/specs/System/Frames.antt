-- Frames that a party makes itself. The crates wire and signing say which body the bytes spell, and which frames are
-- authentic to a party.
use Rattle.std.specs.Prelude.{◌≡◌, ℕ, Bool, true, false, List, Option, Some, None, option_and_then, slice_get, All}
use Rattle.terms.specs.declared.order.Mode.{Mode}
use Rattle.terms.specs.declared.order.Mode.TheVariants as modes
use Rattle.wire_format.specs.Messages.{MessageData as Message, AuthenticatorData as Authenticator, macs, signature, FrameData as Frame}
use Rattle.wire_format.specs.Words.{frame_of, said, receivers_of}
use Rattle.authenticator.specs.Authentic.{mac_of}
use Rattle.signing.specs.AuthenticBody.{has_signature}
use Rattle.protocol.specs.System.Configuration.{Configuration, members}

-- each MAC is over the body, under the key that its sender shares with the MAC's receiver; a signature is the sender's
abbrev pub IsSealed : Configuration → Frame → Type 0
IsSealed c frame = elim frame.authenticator [
  | macs entries ↦ All (λ x. x.mac ≡ mac_of (members c frame.body.sender).keys x.receiver frame.body) entries
  | signature s ↦ has_signature c.publics frame ≡ true
]

-- The bytes are party me's own frame of this message, signed or with MACs for these receivers. A signed one names none.
pub record IsOutgoing (c : Configuration) (me : ℕ) (message : Message) (receivers bytes : List ℕ) : Type 0 where
  pub says : said bytes ≡ Some (record { sender = me; message = message })
  pub is_sealed : (frame : Frame) → frame_of bytes ≡ Some frame
      → IsSealed c frame × (receivers_of frame.authenticator ≡ receivers)

-- The leaf by which a frame is signed, of the 64 of its sender's one-time keys: the first byte of the signature.
abbrev pub leaf_in : Authenticator → Option ℕ
leaf_in (macs entries) = None
leaf_in (signature s) = slice_get s 0

-- the leaf by which the frame that the bytes spell is signed, if it is signed
abbrev pub leaf_of : List ℕ → Option ℕ
leaf_of bytes = option_and_then (λ frame. leaf_in frame.authenticator) (frame_of bytes)

-- whether the two modes are the same
abbrev pub same_mode : Mode → Mode → Bool
same_mode modes.Ordered modes.Ordered = true
same_mode modes.ReadOnly modes.ReadOnly = true
same_mode _ _ = false
