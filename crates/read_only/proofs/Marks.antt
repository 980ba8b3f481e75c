-- The marks of read-only requests in the bytes of frames.
use Rattle.std.proofs.Common.{◌≡◌, ℕ, Bool, true, false, ◌&&◌, ◌==◌, List, slice_index, ◌++◌, get_or, Some, ap, sym, refl, ◌∙◌}
use Rattle.std.proofs.lemmas.Bool.{false≢true}
use lib.Dec.{eqb}
use Rattle.terms.specs.declared.order.Mode.{Mode}
use Rattle.terms.specs.declared.order.Mode.TheVariants as modes
use Rattle.tuple_codec.specs.Operations.{Operation}
use Rattle.wire_format.specs.Messages.{MessageData, request, BodyData}
use Rattle.wire_format.specs.Spelling.{authenticator_spelling, fields_spelling, message_type}
use Rattle.authenticator.specs.Membership.{Membership}
use Rattle.signing.specs.AuthenticBody.{authentic}
use Rattle.signing.proofs.AuthenticBody.{authentic_was_opened}
use Rattle.wire.specs.Marks.{asks_read}
use Rattle.read_only.specs.Receiving.{NobodyReceivesRead, read_only_request}

-- whether a frame has the marks, by its message and the bytes after it
abbrev has_marks : MessageData → List ℕ → Bool
has_marks message behind = eqb (message_type message) 0x41 && eqb (get_or (fields_spelling message ++ behind) 8 0) 1

-- a request with the marks is received as a read-only one
pub marked_is_read : (bytes : List ℕ) (m : Membership) (me sender timestamp : ℕ) (mode : Mode) (op : Operation)
    → authentic m me bytes ≡ Some (record { sender = sender; message = request timestamp mode op }) → asks_read bytes ≡ true → mode ≡ modes.ReadOnly
marked_is_read bytes m me sender timestamp modes.ReadOnly op h e = refl
marked_is_read bytes m me sender timestamp modes.Ordered op h e =
    let w = authentic_was_opened m me bytes (record { sender = sender; message = request timestamp modes.Ordered op }) h in
    let marks : BodyData → Bool = λ body. has_marks body.message (authenticator_spelling w.frame.authenticator) in
    absurd (false≢true (sym (ap asks_read w.opens.spelled.spelled ∙ ap marks w.body_is) ∙ e))

-- each read-only request that is received has them
heard_is_marked : (bytes : List ℕ) (m : Membership) (me sender timestamp : ℕ) (op : Operation)
    → authentic m me bytes ≡ Some (read_only_request sender timestamp op) → asks_read bytes ≡ true
heard_is_marked bytes m me sender timestamp op h =
    let w = authentic_was_opened m me bytes (read_only_request sender timestamp op) h in
    let marks : BodyData → Bool = λ body. has_marks body.message (authenticator_spelling w.frame.authenticator) in
    ap asks_read w.opens.spelled.spelled ∙ ap marks w.body_is

-- so nobody receives one from bytes without them
pub no_marks : (bytes : List ℕ) (of_requests read_only : Bool) → of_requests ≡ (slice_index bytes 4 == 0x41) → read_only ≡ (slice_index bytes 15 == 0x01)
    → (of_requests && read_only) ≡ false → NobodyReceivesRead bytes
no_marks bytes of_requests read_only e f unmarked m me sender timestamp op h =
    let same : (of_requests && read_only) ≡ asks_read bytes = ap (λ b. b && read_only) e ∙ ap (λ b. (slice_index bytes 4 == 0x41) && b) f in
    false≢true (sym unmarked ∙ same ∙ heard_is_marked bytes m me sender timestamp op h)
