-- Authentic frames: the bodies that their senders made, as a receiver can tell (Castro and Liskov, Practical
-- Byzantine fault tolerance and proactive recovery, TOCS 2002, on the authentication of messages). View changes and
-- new views count only with a signature that verifies, since others carry them on. A frame that a party gets in its
-- own name counts for nothing, whoever made it: its own messages count when they are sent.
use Rattle.std.specs.Prelude.{ℕ, Bool, false, ◌&&◌, not, ◌==◌, if◌then◌else◌, List, [], Option, Some, None, option_and_then, slice_index_or}
use Rattle.wire_format.specs.Messages.{BodyData, AuthenticatorData, macs, signature, FrameData}
use Rattle.wire_format.specs.Spelling.{body_spelling, is_signed}
use Rattle.wire_format.specs.Words.{frame_of}
use Rattle.authenticator.specs.Membership.{Membership, has_sender}
use Rattle.authenticator.specs.Authentic.{is_authentic}
use Rattle.signing.specs.Signatures.{verifies}

-- the authenticator is a signature of the text under the public key
abbrev pub signs : List ℕ → List ℕ → AuthenticatorData → Bool
signs public text (macs entries) = false
signs public text (signature s) = verifies public text s

-- the frame has a signature of its body that verifies under its sender's public key
abbrev pub has_signature : List (List ℕ) → FrameData → Bool
has_signature publics frame =
    signs (slice_index_or publics frame.body.sender []) (body_spelling frame.body) frame.authenticator

-- the body comes from another party, that sends such messages
abbrev pub is_from_another : Membership → ℕ → BodyData → Bool
is_from_another m party body = has_sender m body && not (body.sender == party)

-- and the frame was made by that party, as the receiver can tell
abbrev pub is_authentic_to : Membership → ℕ → FrameData → Bool
is_authentic_to m party frame =
    is_from_another m party frame.body
    && (if is_signed frame.body.message
    then has_signature m.publics frame else is_authentic m.keys party frame)

-- the body of the frame in the bytes, if it is authentic to the party
unfoldable pub authentic : Membership → ℕ → List ℕ → Option BodyData
authentic m party bytes = option_and_then (λ frame. if is_authentic_to m party frame then Some frame.body else None)
    (frame_of bytes)

-- the frame is a view change or new view from a party that sends such messages, with its signature
abbrev pub is_signed_frame : Membership → FrameData → Bool
is_signed_frame m frame = is_signed frame.body.message && (has_sender m frame.body && has_signature m.publics frame)

-- the body of a view change or new view, whoever gets the bytes, its sender too
unfoldable pub signed_body : Membership → List ℕ → Option BodyData
signed_body m bytes =
    option_and_then (λ frame. if is_signed_frame m frame then Some frame.body else None)
    (frame_of bytes)
