-- What bytes with the marks of a read, or of a reply to one, may say (Castro and Liskov, TOCS 2002, on read-only
-- operations).
use Rattle.std.specs.Prelude.{◌≡◌, Bool, true, false, List, ℕ, Some}
use Rattle.terms.specs.declared.order.Mode.TheVariants as modes
use Rattle.wire.specs.Marks.{asks_read, answers_read}
use Rattle.wire_format.specs.Messages.{BodyData as Body, request as Request, reply as Reply}
use Rattle.wire_format.specs.Words.{said}
use Rattle.protocol.specs.System.Frames.{same_mode}

-- a body is a read-only request, or a reply to one
abbrev pub is_read_request : Body → Bool
is_read_request body = elim body.message [ Request t mode op ↦ same_mode mode modes.ReadOnly | _ ↦ false ]

abbrev pub is_read_reply : Body → Bool
is_read_reply body = elim body.message [ Reply client t mode number answer ↦ same_mode mode modes.ReadOnly | _ ↦ false ]

-- ---- laws

-- If bytes with the marks say anything, they say a read, or a reply to one.
abbrev pub MarkedAreRequests : Type 0
MarkedAreRequests =
    (bytes : List ℕ) (body : Body) → asks_read bytes ≡ true → said bytes ≡ Some body → is_read_request body ≡ true

abbrev pub MarkedAreReplies : Type 0
MarkedAreReplies =
    (bytes : List ℕ) (body : Body) → answers_read bytes ≡ true → said bytes ≡ Some body → is_read_reply body ≡ true

-- And a reply to a read has its marks.
abbrev pub RepliesAreMarked : Type 0
RepliesAreMarked =
    (bytes : List ℕ) (body : Body) → said bytes ≡ Some body → is_read_reply body ≡ true → answers_read bytes ≡ true
