-- Two frames of one body's bytes say the same.
use Rattle.std.proofs.Common.{◌≡◌, ℕ, Bool, List, Some, refl, sym, ap, ◌∙◌}
use Rattle.wire_format.specs.Messages.{BodyData as Body, MessageData as Message}
use Rattle.wire_format.specs.Spelling.{IsCarried, IsMessage, SpellsFrame, body_spelling, authenticator_spelling}
use Rattle.wire_format.specs.Reading.{message_by}
use Rattle.wire.specs.Pieces.{IsFrontPiece}
use Rattle.wire_format.specs.Words.{said}
use Rattle.wire_format.proofs.Carriers.{to_message}
use Rattle.wire_format.proofs.Framing.{text_bound}
use Rattle.wire_format.proofs.Saying.{reads_said}
use Rattle.wire_format.proofs.Telling.{one_body}

pub carried_frame : (sort : Message → Bool) (bytes : List ℕ) (c : IsCarried sort bytes) → SpellsFrame bytes c.frame
carried_frame sort bytes c =
    let v = c.spelled.valid in
    record { valid = record { sender = v.sender; message = to_message c.frame.body.message v.message; authenticator = v.authenticator; proved = v.proved; short = v.short }; spelled = c.spelled.spelled }

-- the bytes in front are the body's
front_is : (sort : Message → Bool) (bytes front : List ℕ) (c : IsCarried sort bytes) → IsFrontPiece bytes front → front ≡ body_spelling c.frame.body
front_is sort bytes front c h =
    h (body_spelling c.frame.body) (authenticator_spelling c.frame.authenticator) (text_bound message_by IsMessage c.frame (carried_frame sort bytes c).valid) c.spelled.spelled

-- equal bytes say the same
pub says_same : (sort : Message → Bool) (a b x y : List ℕ) → IsCarried sort a → IsCarried sort b → IsFrontPiece a x → IsFrontPiece b y → x ≡ y → said a ≡ said b
says_same sort a b x y c d f g same = reads_said a c.frame s ∙ ap Some body ∙ sym (reads_said b d.frame t)
  where
    s : SpellsFrame a c.frame
    s = carried_frame sort a c

    t : SpellsFrame b d.frame
    t = carried_frame sort b d

    bytes : body_spelling c.frame.body ≡ body_spelling d.frame.body
    bytes = sym (front_is sort a x c f) ∙ same ∙ front_is sort b y d g

    body : c.frame.body ≡ d.frame.body
    body = one_body (body_spelling c.frame.body) c.frame.body d.frame.body
        (record { valid = record { sender = s.valid.sender; message = s.valid.message }; spelled = refl })
        (record { valid = record { sender = t.valid.sender; message = t.valid.message }; spelled = bytes })

one_of : (a b : Body) → Some a ≡ Some b → a ≡ b
one_of a b e = cc

-- and other bytes don't
pub says_other : (sort : Message → Bool) (a b x y : List ℕ) → IsCarried sort a → IsCarried sort b → IsFrontPiece a x → IsFrontPiece b y → said a ≡ said b → x ≡ y
says_other sort a b x y c d f g same = front_is sort a x c f ∙ ap body_spelling body ∙ sym (front_is sort b y d g)
  where
    body : c.frame.body ≡ d.frame.body
    body = one_of c.frame.body d.frame.body (sym (reads_said a c.frame (carried_frame sort a c)) ∙ same ∙ reads_said b d.frame (carried_frame sort b d))
