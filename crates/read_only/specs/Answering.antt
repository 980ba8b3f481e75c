-- The answers of a replica to read-only requests (Castro and Liskov, Practical Byzantine fault tolerance and
-- proactive recovery, TOCS 2002, on read-only operations).
use Rattle.std.specs.Prelude.{◌≡◌, ℕ, Bool, true, false, ◌||◌, ◌==◌, List, slice_index}
use Rattle.std.specs.declared.alloc.Global.{Global}
use Rattle.terms.specs.Parties.{client_party}
use Rattle.terms.specs.declared.order.Mode.TheVariants as modes
use Rattle.tuple_codec.specs.Operations.{Operation, Outcome}
use Rattle.tuple_codec.specs.OperationView.{outcome_of}
use Rattle.tuple_codec.specs.Spelling.{SpellsOperation}
use Rattle.tuple_codec.specs.declared.operations.Answer.{Answer}
use Rattle.space.specs.Applying.{outcome, is_read_only}
use Rattle.space.specs.Births.{SpaceState, tuples_of}
use Rattle.wire_format.specs.Messages.{MessageData, reply}
use Rattle.wire_format.specs.Views.{message_data}
use Rattle.wire_format.specs.declared.messages.Message.TheVariants as messages
use Rattle.wire_format.specs.declared.messages.Reply.{Reply}
use Rattle.read_only.specs.declared.answering.Shelf.{Shelf}
use Rattle.read_only.specs.declared.receiving.ReadRequest.{ReadRequest}

-- The text spells an operation that leaves each list of tuples as it is.
abbrev pub SpellsRead : List ℕ → Type 0
SpellsRead text = (op : Operation) × SpellsOperation text op × (is_read_only op ≡ true)

-- The text spells an operation that is no read.
abbrev pub SpellsNoRead : List ℕ → Type 0
SpellsNoRead text = (op : Operation) × SpellsOperation text op × (is_read_only op ≡ false)

-- the message of a reply
abbrev pub reply_data : Reply → MessageData
reply_data r = message_data (messages.Reply r)

-- the reply to a client's read-only request, from the state of a number
abbrev pub read_reply : ℕ → ℕ → ℕ → Outcome → MessageData
read_reply client timestamp number outcome =
    reply (client_party client) timestamp modes.ReadOnly number outcome

-- The operation is a read. The reply has its outcome on the shelf's tuples, and the shelf's number.
pub record IsReadReply (shelf : Shelf) (request : ReadRequest) (op : Operation) (r : Reply) : Type 0 where
  pub read : is_read_only op ≡ true
  pub says : reply_data r
      ≡ read_reply request.client.number request.timestamp.0 shelf.number.0
      (outcome (tuples_of shelf.space.now) request.client.number op)

-- This is a reply to the operation that the request asks for.
abbrev pub RepliesToRead : Shelf → ReadRequest → Reply → Type 0
RepliesToRead shelf request r =
    (op : Operation) → SpellsOperation request.op.now op → IsReadReply shelf request op r

-- ---- for private functions

-- whether the first byte is that of a read
abbrev pub begins_as_read : List ℕ → Bool
begins_as_read text = slice_index text 0 == 0x22 || slice_index text 0 == 0x25

-- The answer is the outcome, in a space, of the operation that the text spells, whichever client asks.
abbrev pub AnswersText : SpaceState → List ℕ → Answer Global → Type 0
AnswersText s text answer =
    (client : ℕ) (op : Operation) → SpellsOperation text op → outcome_of answer ≡ outcome (tuples_of s) client op
