-- Whether a party opens a frame, and why it refuses one. Signatures are not verified here.
use Rattle.std.specs.Prelude.{ℕ, Bool, ◌||◌, IsTrue, ◌≡◌, false, List, Option, Some, None, if◌then◌else◌}
use Rattle.wire_format.specs.Messages.{FrameData}
use Rattle.wire_format.specs.Spelling.{SpellsFrame, authenticator_is_signed}
use Rattle.wire_format.specs.Faults.{IsTooLarge}
use Rattle.authenticator.specs.declared.sealed.OpenFault.{OpenFault}
use Rattle.authenticator.specs.declared.sealed.OpenFault.TheVariants as faults
use Rattle.authenticator.specs.Membership.{Membership, has_sender}
use Rattle.authenticator.specs.Authentic.{is_authentic}
use Rattle.authenticator.specs.Keys.{Keys}

-- The authenticator of the frame has the right entry for the party, or is a signature.
abbrev pub may_open : Keys → ℕ → FrameData → Bool
may_open keys party frame =
    authenticator_is_signed frame.authenticator || is_authentic keys party frame

-- Why the party refuses the frame, if it does.
abbrev pub frame_refusal : Membership → ℕ → FrameData → Option OpenFault
frame_refusal m party frame =
    if has_sender m frame.body
    then (if may_open m.keys party frame then None else Some faults.BadMac)
    else Some faults.UnknownSender

-- The bytes are this frame, its sender may send such messages, and it is authentic to the party or signed.
pub record Opens (m : Membership) (party : ℕ) (bytes : List ℕ) (frame : FrameData) : Type 0 where
  pub spelled : SpellsFrame bytes frame
  pub sender : IsTrue (has_sender m frame.body)
  pub proved : IsTrue (may_open m.keys party frame)

-- The bytes are a frame, but its sender may not send such messages.
pub record HasNoSender (m : Membership) (bytes : List ℕ) : Type 0 where
  pub frame : FrameData
  pub spelled : SpellsFrame bytes frame
  pub sender : has_sender m frame.body ≡ false

-- The bytes are a frame of a sender that may send such messages, but its MACs have no right entry for the receiver.
pub record HasNoMac (m : Membership) (party : ℕ) (bytes : List ℕ) : Type 0 where
  pub frame : FrameData
  pub spelled : SpellsFrame bytes frame
  pub sender : IsTrue (has_sender m frame.body)
  pub proved : may_open m.keys party frame ≡ false

-- Why the bytes are refused. If several refusals hold, the first in this order counts.
abbrev pub RefusesFrame : Membership → ℕ → List ℕ → OpenFault → Type 0
RefusesFrame m party bytes faults.TooLarge = IsTooLarge bytes
RefusesFrame m party bytes faults.Malformed =
    ¬ IsTooLarge bytes × ((frame : FrameData) → ¬ SpellsFrame bytes frame)
RefusesFrame m party bytes faults.UnknownSender = HasNoSender m bytes
RefusesFrame m party bytes faults.BadMac = HasNoMac m party bytes
RefusesFrame m party bytes faults.NoMemory = (frame : FrameData) × Opens m party bytes frame
