-- The frames that a client receives, as replies to the call.
use Rattle.std.proofs.Common.{◌≡◌, ◌≢◌, ℕ, zero, suc, ◌==◌, ◌&&◌, ◌≤◌, Bool, true, false, List, [], ◌∷◌, length, drop, Option, Some, None, is_some, refl, sym, ap, subst, ◌∙◌, arith}
use Rattle.std.specs.Prelude.{option_and_then, slice_index, nat_le}
use Rattle.std.specs.Bool.{then_some}
use Rattle.std.proofs.lemmas.Bool.{and_parts, eqb-true, le-leb}
use Rattle.byteorder.specs.Endian.{big_number}
use Rattle.byteorder.specs.Numbers.{big_number-reads_back}
use Rattle.terms.specs.declared.order.Mode.{Mode}
use Rattle.tuple_codec.specs.Operations.{Outcome}
use Rattle.tuple_codec.specs.Spelling.{outcome_spelling}
use Rattle.wire.specs.Headers.{HeaderData, HasHeader}
use Rattle.wire.specs.Requests.{mode_of_byte}
use Rattle.wire.proofs.RequestFields.{mode_again}
use Rattle.wire_format.specs.Messages.{BodyData as Body, MessageData, reply, FrameData}
use Rattle.wire_format.specs.Spelling.{IsMessage, SpellsFrame, authenticator_is_signed, body_spelling, frame_spelling, is_signed, message_type}
use Rattle.authenticator.specs.declared.sealed.OpenFault.{OpenFault}
use Rattle.authenticator.specs.Headers.{header_refusal}
use Rattle.authenticator.specs.Membership.{Membership}
use Rattle.signing.specs.AuthenticBody.{authentic}
use Rattle.signing.specs.Receiving.{signature_holds}
use Rattle.signing.proofs.AuthenticBody.{authentic_was_opened}
use Rattle.signing.proofs.Opened.{authentic_by_header, own_not_heard, refused_not_heard}
use Rattle.signing.proofs.Requests.{macs_hold, none_given}
use Rattle.protocol.specs.Client.RightClient.{Vote, reply_vote}
use Rattle.client_cert.specs.declared.receiving.ReceivedReply.{ReceivedReply}
use Rattle.client_cert.specs.Receiving.{ReceivesAnswer, ReceivesVote, is_for}

-- ---- bytes that aren't received bring no vote

none_is : (o : Option Body) → ((body : Body) → o ≡ Some body → ⊥) → o ≡ None
none_is None h = refl
none_is (Some body) h = absurd (h body refl)

hears_none : (me t : ℕ) (o : Option Body) → ((body : Body) → o ≡ Some body → ⊥) → ReceivesVote me t o None
hears_none me t o h s = ap (option_and_then (reply_vote me t s)) (none_is o h)

pub hears_no_frame : (m : Membership) (me t : ℕ) (bytes : List ℕ) → ((frame : FrameData) → SpellsFrame bytes frame → ⊥) → ReceivesVote me t (authentic m me bytes) None
hears_no_frame m me t bytes none =
    hears_none me t (authentic m me bytes) (λ body h. let w = authentic_was_opened m me bytes body h in none w.frame w.opens.spelled)

pub hears_no_own : (m : Membership) (me t : ℕ) (bytes : List ℕ) (header : HeaderData) → HasHeader bytes header → header.sender ≡ me → ReceivesVote me t (authentic m me bytes) None
hears_no_own m me t bytes header has e = hears_none me t (authentic m me bytes) (own_not_heard m me bytes header has e)

pub hears_no_refused : (m : Membership) (me t : ℕ) (bytes : List ℕ) (header : HeaderData) → HasHeader bytes header
    → (refusal : Option OpenFault) → refusal ≡ header_refusal m me header → is_some refusal ≡ true → ReceivesVote me t (authentic m me bytes) None
hears_no_refused m me t bytes header has None e some = absurd (let g : ⊥ = cc in g)
hears_no_refused m me t bytes header has (Some fault) e some = hears_none me t (authentic m me bytes) (refused_not_heard m me bytes header has fault e)

-- ---- the bytes of a reply

record IsReply (message : MessageData) : Type 0 where
  client : ℕ
  timestamp : ℕ
  kind : Mode
  number : ℕ
  answer : Outcome
  is : message ≡ reply client timestamp kind number answer

is_reply : (message : MessageData) → (message_type message == 0x48) ≡ true → IsReply message
is_reply (reply client timestamp kind number answer) e =
    record { client = client; timestamp = timestamp; kind = kind; number = number; answer = answer; is = refl }
is_reply _ e = absurd (let g : ⊥ = cc in g)

-- a list with an item at a place is longer than that
abbrev has_item : List ℕ → Bool
has_item [] = false
has_item (x ∷ xs) = true

longer : (n : ℕ) (xs : List ℕ) → has_item (drop n xs) ≡ true → suc n ≤ length xs
longer zero [] e = absurd (let g : ⊥ = cc in g)
longer zero (x ∷ xs) e = omega arith
longer (suc n) [] e = absurd (let g : ⊥ = cc in g)
longer (suc n) (x ∷ xs) e = let h = longer n xs e in omega (arith, h)

-- the frame with this message
abbrev with_message : FrameData → MessageData → FrameData
with_message frame message =
    record { body = record { sender = frame.body.sender; message = message }; authenticator = frame.authenticator }

module _ (bytes : List ℕ) (frame : FrameData) (spells : SpellsFrame bytes frame) (r : IsReply frame.body.message) where
  valid : IsMessage (reply r.client r.timestamp r.kind r.number r.answer)
  valid = subst IsMessage r.is spells.valid.message

  bytes_are : bytes ≡ frame_spelling (with_message frame (reply r.client r.timestamp r.kind r.number r.answer))
  bytes_are = spells.spelled ∙ ap (λ message. frame_spelling (with_message frame message)) r.is

  has_length : nat_le 17 (length bytes) ≡ true
  has_length = le-leb 17 (length bytes) (longer 16 bytes (ap (λ bs. has_item (drop 16 bs)) bytes_are))

  has_type : (slice_index bytes 4 == 0x48) ≡ true
  has_type = ap (λ bs. slice_index bs 4 == 0x48) bytes_are

  client_is : big_number 2 (drop 7 bytes) ≡ r.client
  client_is = ap (λ bs. big_number 2 (drop 7 bs)) bytes_are ∙ big_number-reads_back 2 r.client [] valid.1

  timestamp_is : big_number 8 (drop 9 bytes) ≡ r.timestamp
  timestamp_is = ap (λ bs. big_number 8 (drop 9 bs)) bytes_are ∙ big_number-reads_back 8 r.timestamp [] valid.2

  for_is : (me t : ℕ) → is_for me t bytes ≡ ((r.client == me) && (r.timestamp == t))
  for_is me t =
      let to : ℕ = big_number 2 (drop 7 bytes) in
      let when : ℕ = big_number 8 (drop 9 bytes) in
      ap (λ l. ((l && (slice_index bytes 4 == 0x48)) && (to == me)) && (when == t)) has_length
      ∙ ap (λ k. ((true && k) && (to == me)) && (when == t)) has_type
      ∙ ap (λ c. (c == me) && (when == t)) client_is
      ∙ ap (λ w. (r.client == me) && (w == t)) timestamp_is

  module _ (text : List ℕ) (is : text ≡ body_spelling frame.body) where
    text_is : text ≡ body_spelling (record { sender = frame.body.sender; message = reply r.client r.timestamp r.kind r.number r.answer })
    text_is = is ∙ ap (λ message. body_spelling (record { sender = frame.body.sender; message = message })) r.is

    mode_is : mode_of_byte (slice_index text 13) ≡ r.kind
    mode_is = ap (λ bs. mode_of_byte (slice_index bs 13)) text_is ∙ mode_again r.kind

    number_is : big_number 8 (drop 14 text) ≡ r.number
    number_is = ap (λ bs. big_number 8 (drop 14 bs)) text_is ∙ big_number-reads_back 8 r.number [] valid.3

    answer_is : drop 22 text ≡ outcome_spelling r.answer
    answer_is = ap (drop 22) text_is

-- ---- bytes that aren't for this call bring no vote

unread : (me t s sender client timestamp number : ℕ) (kind : Mode) (answer : Outcome) → ((client == me) && (timestamp == t)) ≡ false
    → reply_vote me t s (record { sender = sender; message = reply client timestamp kind number answer }) ≡ None
unread me t s sender client timestamp number kind answer e =
    ap (λ b. then_some b (let v : Vote = record { mode = kind; number = number; answer = answer } in v))
    (last (sender == s) (client == me) (timestamp == t) e)
  where
    last : (x y z : Bool) → (y && z) ≡ false → (x && y) && z ≡ false
    last true y z e = e
    last false y z e = refl

-- a message of another type brings no vote
typed_votes : (me t s sender : ℕ) (x : MessageData) → (message_type x == 0x48) ≡ false → reply_vote me t s (record { sender = sender; message = x }) ≡ None
typed_votes me t s sender (reply client timestamp kind number outcome) e = absurd cc
typed_votes me t s sender _ e = refl

-- nor does a frame of replies that is for another party or call
frame_votes : (me t s : ℕ) (bytes : List ℕ) (frame : FrameData) → SpellsFrame bytes frame → is_for me t bytes ≡ false → reply_vote me t s frame.body ≡ None
frame_votes me t s bytes frame spells other = by_type (message_type frame.body.message == 0x48) refl
  where
    by_type : (b : Bool) → (message_type frame.body.message == 0x48) ≡ b → reply_vote me t s frame.body ≡ None
    by_type false e = typed_votes me t s frame.body.sender frame.body.message e
    by_type true e =
        let r = is_reply frame.body.message e in
        ap (λ message. reply_vote me t s (record { sender = frame.body.sender; message = message })) r.is
        ∙ unread me t s frame.body.sender r.client r.timestamp r.number r.kind r.answer (sym (for_is bytes frame spells r me t) ∙ other)

pub hears_no_call : (m : Membership) (me t : ℕ) (bytes : List ℕ) → is_for me t bytes ≡ false → ReceivesVote me t (authentic m me bytes) None
hears_no_call m me t bytes other s = go (authentic m me bytes) refl
  where
    go : (o : Option Body) → authentic m me bytes ≡ o → option_and_then (reply_vote me t s) o ≡ None
    go None e = refl
    go (Some body) e =
        let was = authentic_was_opened m me bytes body e in
        ap (reply_vote me t s) (sym was.body_is) ∙ frame_votes me t s bytes was.frame was.opens.spelled other

-- ---- a reply to the call

body_is : (body : Body) (sender : ℕ) (message : MessageData) → body.sender ≡ sender → body.message ≡ message
    → body ≡ record { sender = sender; message = message }
body_is body sender message e f =
    ap (λ (s : ℕ). let b : Body = record { sender = s; message = body.message } in b) e ∙ ap (λ said. let b : Body = record { sender = sender; message = said } in b) f

same_reply : (client me timestamp t : ℕ) (kind mode : Mode) (number state : ℕ) (answer : Outcome) → client ≡ me → timestamp ≡ t → kind ≡ mode → number ≡ state
    → reply client timestamp kind number answer ≡ reply me t mode state answer
same_reply client me timestamp t kind mode number state answer c w k n =
    ap (λ x. reply x timestamp kind number answer) c ∙ ap (λ x. reply me x kind number answer) w
    ∙ ap (λ x. reply me t x number answer) k ∙ ap (λ x. reply me t mode x answer) n

module _ (me t : ℕ) (bytes : List ℕ) (header : HeaderData) (has : HasHeader bytes header) (mine : is_for me t bytes ≡ true) where
  abbrev frame : FrameData
  frame = has.0

  type_is : (message_type frame.body.message == 0x48) ≡ true
  type_is =
      let all = and_parts _ _ mine in
      let three = and_parts _ _ all.0 in
      let two = and_parts _ _ three.0 in
      sym (ap (λ bs. slice_index bs 4 == 0x48) has.1.spelled) ∙ two.1

  the_reply : IsReply frame.body.message
  the_reply = is_reply frame.body.message type_is

  text_of : header.text ≡ body_spelling frame.body
  text_of = ap (λ (h : HeaderData). h.text) has.2

  is_mine : (the_reply.client ≡ me) × (the_reply.timestamp ≡ t)
  is_mine =
      let both = and_parts (the_reply.client == me) (the_reply.timestamp == t) (sym (for_is bytes frame has.1 the_reply me t) ∙ mine) in
      (eqb-true the_reply.client me both.0, eqb-true the_reply.timestamp t both.1)

  module _ (m : Membership) (refusal : Option OpenFault) (value : refusal ≡ header_refusal m me header) (no_refusal : is_some refusal ≡ false)
      (other : header.sender ≢ me) (h : ReceivedReply) (sender : h.sender ≡ header.sender) (mode : h.mode ≡ mode_of_byte (slice_index header.text 13))
      (number : h.number.0 ≡ big_number 8 (drop 14 header.text)) (text : h.text.now ≡ drop 22 header.text) where
    pub hears_reply : ReceivesAnswer me t (authentic m me bytes) h
    hears_reply =
        let r = the_reply in
        let plain : authenticator_is_signed frame.authenticator ≡ false = has.1.valid.proved ∙ ap is_signed r.is in
        let holds : signature_holds m.publics header ≡ true = ap (signature_holds m.publics) has.2 ∙ macs_hold m.publics (body_spelling frame.body) frame.body.sender frame.authenticator plain in
        let from : h.sender ≡ frame.body.sender = sender ∙ ap (λ (x : HeaderData). x.sender) has.2 in
        let kind : h.mode ≡ r.kind = mode ∙ mode_is bytes frame has.1 r header.text text_of in
        let state : h.number.0 ≡ r.number = number ∙ number_is bytes frame has.1 r header.text text_of in
        let said : frame.body.message ≡ reply me t h.mode h.number.0 r.answer =
        r.is ∙ same_reply r.client me r.timestamp t r.kind h.mode r.number h.number.0 r.answer is_mine.0 is_mine.1 (sym kind) (sym state) in
        record {
          answer = r.answer;
          heard_is = authentic_by_header m me bytes header has (none_given refusal no_refusal ∙ value) frame has.1 other holds
              ∙ ap Some (body_is frame.body h.sender (reply me t h.mode h.number.0 r.answer) (sym from) said);
          spelled = record { valid = (valid bytes frame has.1 r).4; spelled = text ∙ answer_is bytes frame has.1 r header.text text_of };
        }
