-- Three reads beside the first operation of client 0: clients 1 and 2 call theirs before it, client 3 after it. What
-- they read, and what the replicas answer, is left open.
use Rattle.std.specs.Prelude.{◌≡◌, ℕ, ◌<◌, List, [], ◌∷◌, ◌++◌, reverse, Some}
use Rattle.terms.specs.Parties.{client_party}
use Rattle.tuple_codec.specs.Operations.{Operation, Outcome}
use Rattle.terms.specs.declared.order.Mode.TheVariants as modes
use Rattle.wire_format.specs.Messages.{reply as Reply}
use Rattle.protocol.specs.System.Configuration.{Configuration, IsConfiguration, members}
use Rattle.signing.specs.AuthenticBody.{authentic}
use Rattle.protocol.specs.System.Trace.{Entry}
use Rattle.protocol.specs.System.Trace.Entry.{Invoke, Got, Sent, Accepted}
use Rattle.protocol.specs.Space.Linear.{Item, points}
use Rattle.evidence.specs.Examples.{four}
use Rattle.evidence.specs.FirstOperation.{FirstFrames, AreFirstFrames, first_answer, first_operation}

-- a read: its operation, the client's request, each replica's reply, and the answer
pub record ReadCall : Type 0 where
  pub op : Operation
  pub request : List ℕ
  pub reply : ℕ → List ℕ
  pub answer : Outcome

-- Each reply is read-only, with the number 1, and the client receives it.
abbrev pub IsReadOf : Configuration → ℕ → ReadCall → Type 0
IsReadOf c k read =
    (r : ℕ) → r < 4 → authentic (members c (client_party k)) (client_party k) (read.reply r)
    ≡ Some (record { sender = r; message = Reply (client_party k) 1 modes.ReadOnly 1 read.answer })

-- the client calls its read and asks for it
abbrev pub entries_of_read_call : ℕ → ReadCall → List Entry
entries_of_read_call k read = Invoke k 1 read.op ∷ Sent (client_party k) read.request ∷ []

-- three replicas answer, and the client accepts
abbrev pub answered : ℕ → ReadCall → List Entry
answered k read =
    Got 0 read.request ∷ Sent 0 (read.reply 0) ∷ Got 1 read.request ∷ Sent 1 (read.reply 1) ∷ Got 2 read.request
    ∷ Sent 2 (read.reply 2)
    ∷ Got (client_party k) (read.reply 0) ∷ Got (client_party k) (read.reply 1) ∷ Got (client_party k) (read.reply 2)
    ∷ Accepted k 1 read.answer
    ∷ []

-- The trace: client 3 accepts first, then clients 1 and 2.
abbrev pub reads_trace : Operation → List ℕ → FirstFrames → (ℕ → ReadCall) → List Entry
reads_trace op batch w read =
    reverse (entries_of_read_call 1 (read 1) ++ entries_of_read_call 2 (read 2) ++ first_operation op batch w
    ++ entries_of_read_call 3 (read 3)
    ++ answered 3 (read 3) ++ answered 1 (read 1) ++ answered 2 (read 2))

-- a client's read as an item at a position
abbrev pub read_item : ℕ → ReadCall → ℕ → Item
read_item k read position =
    record { client = client_party k; timestamp = 1; op = read.op; answer = read.answer; position = position }

-- Its points. The operation has its point where the third replica executes it. The reads that were called before it
-- have theirs there too, after it and by client. The read that was called after it has its point where it is called.
abbrev pub ReadsHaveTheirPoints : Type 0
ReadsHaveTheirPoints =
    (clients : ℕ) (seed : List ℕ) (op : Operation) (batch : List ℕ) (w : FirstFrames) (read : ℕ → ReadCall)
    → IsConfiguration (four clients seed)
    → AreFirstFrames (four clients seed) op batch w → IsReadOf (four clients seed) 1 (read 1)
    → IsReadOf (four clients seed) 2 (read 2) → IsReadOf (four clients seed) 3 (read 3)
    → points (four clients seed) (reads_trace op batch w read)
    ≡ record { client = 256; timestamp = 1; op = op; answer = first_answer op; position = 42 } ∷ read_item 1 (read 1) 42
    ∷ read_item 2 (read 2) 42 ∷ read_item 3 (read 3) 55 ∷ []
