-- The fields of a request out of the bytes of its frame.
use Rattle.std.proofs.Common.{◌≡◌, ℕ, ◌<◌, ◌≤◌, ◌^◌, true, List, ◌∷◌, ◌++◌, length, drop, slice_index, ap, sym, refl, ◌∙◌, subst, arith}
use Rattle.std.specs.Int.{w16, w64, to_be_bytes}
use lib.Dec.{eqb}
use Rattle.byteorder.specs.Endian.{big_number}
use Rattle.byteorder.specs.Numbers.{big_number-reads_back}
use Rattle.terms.specs.declared.order.Mode.{Mode}
use Rattle.terms.specs.declared.order.Mode.TheVariants as modes
use Rattle.terms.specs.Parties.{party_number}
use Rattle.tuple_codec.specs.Operations.{Operation}
use Rattle.tuple_codec.specs.Spelling.{operation_spelling}
use Rattle.wire.specs.declared.request_bytes.RequestBytes.{RequestBytes}
use Rattle.wire.specs.Headers.{IsFrame}
use Rattle.wire.specs.Marks.{has_type_of_requests}
use Rattle.wire_format.specs.Messages.{MessageData, request, BodyData}
use Rattle.wire.specs.Requests.{HoldsRequest, mode_of_byte}
use Rattle.wire.specs.Pieces.{IsFrontPiece}
use Rattle.wire_format.specs.Spelling.{IsMessage, authenticator_spelling, body_spelling, fields_spelling, message_type, mode_byte}
use Rattle.wire.proofs.Whole.{frame_parts}

abbrev IsRequest : MessageData → Type 0
IsRequest message = (timestamp : ℕ) × (mode : Mode) × (op : Operation) × (message ≡ request timestamp mode op)

is_request : (message : MessageData) → eqb (message_type message) 0x41 ≡ true → IsRequest message
is_request (request timestamp mode op) e = (timestamp, mode, op, refl)
is_request _ e = absurd (let g : ⊥ = cc in g)

pub mode_again : (mode : Mode) → mode_of_byte (mode_byte mode) ≡ mode
mode_again modes.Ordered = refl
mode_again modes.ReadOnly = refl

big_sender : (sender : ℕ) (rest : List ℕ) → sender < 2 ^ 16 → big_number 2 (to_be_bytes w16 sender ++ rest) ≡ sender
big_sender sender rest fits = big_number-reads_back 2 sender rest fits

big_timestamp : (timestamp : ℕ) (rest : List ℕ) → timestamp < 2 ^ 64 → big_number 8 (to_be_bytes w64 timestamp ++ rest) ≡ timestamp
big_timestamp timestamp rest fits = big_number-reads_back 8 timestamp rest fits

body_is : (body : BodyData) (sender : ℕ) (message : MessageData) → body.sender ≡ sender → body.message ≡ message → body ≡ record { sender = sender; message = message }
body_is body sender message e f =
    ap (λ s. record { sender = s; message = body.message }) e ∙ ap (λ said. record { sender = sender; message = said }) f

module _ (bytes text : List ℕ) (frame : IsFrame bytes) (front : IsFrontPiece bytes text) (marked : has_type_of_requests bytes ≡ true) where
  is : IsRequest frame.0.body.message
  is = is_request frame.0.body.message (ap has_type_of_requests (sym frame.1.spelled) ∙ marked)

  abbrev asked : BodyData
  asked = record { sender = frame.0.body.sender; message = request is.0 is.1 is.2 }

  body_asked : frame.0.body ≡ asked
  body_asked = body_is frame.0.body frame.0.body.sender (request is.0 is.1 is.2) refl is.3

  text_is : text ≡ body_spelling asked
  text_is =
      let p = frame_parts bytes frame.0 frame.1 in
      front (body_spelling frame.0.body) (authenticator_spelling frame.0.authenticator) p.0 p.1 ∙ ap body_spelling body_asked

  pub has_fields : 12 ≤ length text
  has_fields = omega (arith, ap length text_is)

  valid : IsMessage (request is.0 is.1 is.2)
  valid = subst IsMessage is.3 frame.1.valid.message

  module _ (it : RequestBytes) (sender : party_number it.sender ≡ big_number 2 (drop 1 text)) (timestamp : it.timestamp.0 ≡ big_number 8 (drop 3 text))
      (mode : it.mode ≡ mode_of_byte (slice_index text 11)) (op : it.op.now ≡ drop 12 text) where
    sender_is : frame.0.body.sender ≡ party_number it.sender
    sender_is = sym (sender ∙ ap (λ t. big_number 2 (drop 1 t)) text_is ∙ big_sender frame.0.body.sender (fields_spelling (request is.0 is.1 is.2)) frame.1.valid.sender)

    timestamp_is : is.0 ≡ it.timestamp.0
    timestamp_is = sym (timestamp ∙ ap (λ t. big_number 8 (drop 3 t)) text_is ∙ big_timestamp is.0 (mode_byte is.1 ∷ operation_spelling is.2) valid.0)

    mode_is : is.1 ≡ it.mode
    mode_is = sym (mode ∙ ap (λ t. mode_of_byte (slice_index t 11)) text_is ∙ mode_again is.1)

    pub holds_request : HoldsRequest bytes it
    holds_request = record {
      op = is.2;
      body = (
        frame.0,
        frame.1,
        body_is frame.0.body (party_number it.sender) (request it.timestamp.0 it.mode is.2) sender_is
            (is.3 ∙ ap (λ t. request t is.1 is.2) timestamp_is ∙ ap (λ m. request it.timestamp.0 m is.2) mode_is),
      );
      spelled = record { valid = valid.1; spelled = op ∙ ap (drop 12) text_is };
    }
