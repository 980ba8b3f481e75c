-- Bytes with the marks of a read-only request, or of a reply to one, say that, if anything.
use Rattle.std.proofs.Common.{◌≡◌, ℕ, true, List, refl, sym, subst}
use Rattle.terms.specs.declared.order.Mode.TheVariants as modes
use Rattle.wire_format.specs.Messages.{BodyData as Body, MessageData as Message, AuthenticatorData, request as Request, reply as Reply}
use Rattle.wire_format.specs.Spelling.{frame_spelling}
use Rattle.wire_format.proofs.Saying.{says_what_is_spelled}
use Rattle.wire.specs.Marks.{asks_read, answers_read}
use Rattle.replica.specs.Reads.{is_read_request, is_read_reply, MarkedAreRequests, MarkedAreReplies, RepliesAreMarked}

abbrev spelled : Message → ℕ → AuthenticatorData → List ℕ
spelled m sender a = frame_spelling (record { body = record { sender = sender; message = m }; authenticator = a })

asking : (m : Message) (sender : ℕ) (a : AuthenticatorData) → asks_read (spelled m sender a) ≡ true → is_read_request (record { sender = sender; message = m }) ≡ true
asking (Request t modes.ReadOnly op) sender a h = refl
asking (Request t modes.Ordered op) sender a h = absurd cc
asking _ sender a h = absurd cc

answering : (m : Message) (sender : ℕ) (a : AuthenticatorData) → answers_read (spelled m sender a) ≡ true → is_read_reply (record { sender = sender; message = m }) ≡ true
answering (Reply client t modes.ReadOnly number answer) sender a h = refl
answering (Reply client t modes.Ordered number answer) sender a h = absurd cc
answering _ sender a h = absurd cc

marking : (m : Message) (sender : ℕ) (a : AuthenticatorData) → is_read_reply (record { sender = sender; message = m }) ≡ true → answers_read (spelled m sender a) ≡ true
marking (Reply client t modes.ReadOnly number answer) sender a h = refl
marking (Reply client t modes.Ordered number answer) sender a h = absurd cc
marking _ sender a h = absurd cc

pub marked_are_requests : MarkedAreRequests
marked_are_requests bytes body asks is =
    let f = (says_what_is_spelled bytes body).0 is in
    subst (λ (b : Body). is_read_request b ≡ true) f.2
    (asking f.0.body.message f.0.body.sender f.0.authenticator (subst (λ (bs : List ℕ). asks_read bs ≡ true) f.1.spelled asks))

pub marked_are_replies : MarkedAreReplies
marked_are_replies bytes body asks is =
    let f = (says_what_is_spelled bytes body).0 is in
    subst (λ (b : Body). is_read_reply b ≡ true) f.2
    (answering f.0.body.message f.0.body.sender f.0.authenticator (subst (λ (bs : List ℕ). answers_read bs ≡ true) f.1.spelled asks))

pub replies_are_marked : RepliesAreMarked
replies_are_marked bytes body is reads =
    let f = (says_what_is_spelled bytes body).0 is in
    subst (λ (bs : List ℕ). answers_read bs ≡ true) (sym f.1.spelled)
    (marking f.0.body.message f.0.body.sender f.0.authenticator (subst (λ (b : Body). is_read_reply b ≡ true) (sym f.2) reads))
