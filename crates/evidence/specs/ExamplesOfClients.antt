-- A history of a client that the definitions accept, with frames left symbolic: a read that read-only replies answer.
use Rattle.std.specs.Prelude.{◌≡◌, ℕ, ◌<◌, true, List, [], ◌∷◌, reverse}
use Rattle.std.specs.List.{range_with_len}
use Rattle.tuple_codec.specs.Operations.{Operation, Outcome, IsOperation}
use Rattle.space.specs.Applying.{is_read_only}
use Rattle.terms.specs.declared.order.Mode.TheVariants as modes
use Rattle.wire_format.specs.Messages.{request as Request, reply as Reply}
use Rattle.protocol.specs.System.Configuration.{Configuration, replicas}
use Rattle.protocol.specs.System.Trace.{Entry}
use Rattle.protocol.specs.System.Trace.Entry.{Invoke, Got, Sent, Accepted}
use Rattle.protocol.specs.Client.RightClient.{IsClient}
use Rattle.evidence.specs.Examples.{four}
use Rattle.evidence.specs.FirstOperation.{IsFrameFrom}

-- The frames of client 0's first operation if it is a read: its read-only request, and by their replica read-only
-- replies, alike in number and answer.
pub record AreReadFrames (c : Configuration) (op : Operation) (number : ℕ) (answer : Outcome) (request : List ℕ)
    (reply : ℕ → List ℕ) : Type 0 where
  pub operation : IsOperation op
  pub reads : is_read_only op ≡ true
  pub asks : IsFrameFrom c 256 (Request 1 modes.ReadOnly op) (range_with_len 0 (replicas c)) request
  pub replies : (r : ℕ) → r < replicas c
      → IsFrameFrom c r (Reply 256 1 modes.ReadOnly number answer) (256 ∷ []) (reply r)

-- the client's history, the oldest first: it accepts at the third reply
abbrev pub first_read : Operation → Outcome → List ℕ → (ℕ → List ℕ) → List Entry
first_read op answer request reply =
    Invoke 0 1 op ∷ Sent 256 request ∷ Got 256 (reply 0) ∷ Got 256 (reply 1) ∷ Got 256 (reply 2) ∷ Accepted 0 1 answer
    ∷ []

-- It is a correct client's.
abbrev pub FirstReadIsAccepted : Type 0
FirstReadIsAccepted =
    (clients number : ℕ) (seed : List ℕ) (op : Operation) (answer : Outcome) (request : List ℕ) (reply : ℕ → List ℕ)
    → AreReadFrames (four clients seed) op number answer request reply
    → IsClient (four clients seed) 256 (reverse (first_read op answer request reply))
