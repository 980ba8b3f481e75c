-- Signed view changes as the frames that a new view carries.
use Rattle.std.specs.Prelude.{slice_index, IsTrue}
use Rattle.std.specs.Int.{w16, w32, to_be_bytes}
use Rattle.std.proofs.Common.{◌≡◌, ℕ, ◌+◌, ◌*◌, ◌^◌, ◌<◌, List, ◌∷◌, ◌++◌, length, refl, sym, ap, ◌∙◌, subst, arith}
use Rattle.wire_format.specs.Messages.{MessageData as Message, FrameData as Frame, ViewChangeData, view_change as ViewChange}
use Rattle.wire_format.specs.Spelling.{body_spelling, frame_spelling, authenticator_spelling, fields_spelling, message_type, IsCarried, IsMessage, IsPlain, is_view_change, sender_in}
use Rattle.wire.proofs.Carrying.{sender_there}
use Rattle.protocol.specs.System.Configuration.{Configuration}
use Rattle.view_change.proofs.Opening.{IsChangeFrame}

plain_of : (m : Message) (vc : ViewChangeData) → m ≡ ViewChange vc → IsMessage m → IsPlain m
plain_of m vc is = let P : Message → Type 0 = λ x. IsMessage x → IsPlain x in subst P (sym is) (λ h. h)

pub carried_of : (c : Configuration) (bytes : List ℕ) (x : ℕ × ViewChangeData) → IsChangeFrame c bytes x → IsCarried is_view_change bytes
carried_of c bytes x is = record {
  frame = is.frame;
  spelled = record {
    valid = record {
      sender = is.spelled.valid.sender;
      message = plain_of is.frame.body.message x.1 is.message is.spelled.valid.message;
      authenticator = is.spelled.valid.authenticator;
      proved = is.spelled.valid.proved;
      short = is.spelled.valid.short;
    };
    spelled = is.spelled.spelled;
  };
  sorted = subst (λ (m : Message). IsTrue (is_view_change m)) (sym is.message) refl;
}

-- ---- the sender that a frame names

named_bytes : (n kind s : ℕ) (fields proof : List ℕ) → s < 2 ^ 16
    → slice_index ((to_be_bytes w32 n ++ (kind ∷ (to_be_bytes w16 s ++ fields))) ++ proof) 5 * 256 + slice_index ((to_be_bytes w32 n ++ (kind ∷ (to_be_bytes w16 s ++ fields))) ++ proof) 6 ≡ s
named_bytes n kind s fields proof l = omega arith

names : (f : Frame) → f.body.sender < 2 ^ 16 → sender_in (frame_spelling f) ≡ f.body.sender
names f l =
    sym (sender_there (frame_spelling f))
    ∙ named_bytes (length (body_spelling f.body)) (message_type f.body.message) f.body.sender (fields_spelling f.body.message) (authenticator_spelling f.authenticator) l

pub sender_is : (c : Configuration) (bytes : List ℕ) (x : ℕ × ViewChangeData) → IsChangeFrame c bytes x → sender_in bytes ≡ x.0
sender_is c bytes x is = ap sender_in is.spelled.spelled ∙ names is.frame is.spelled.valid.sender ∙ is.sender
