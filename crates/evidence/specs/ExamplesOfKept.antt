-- A history in which a kept reply goes again, and which the definitions accept, over the frames of the first operation.
use Rattle.std.specs.Prelude.{ℕ, ◌<◌, List, ◌∷◌}
use Rattle.tuple_codec.specs.Operations.{Operation}
use Rattle.protocol.specs.System.Configuration.{IsConfiguration}
use Rattle.protocol.specs.System.Trace.{history_of}
use Rattle.protocol.specs.System.Trace.Entry.{Got, Sent}
use Rattle.protocol.specs.Replica.Owed.{IsReplica}
use Rattle.evidence.specs.Examples.{four}
use Rattle.evidence.specs.FirstOperation.{FirstFrames, AreFirstFrames, first_trace}

-- Each replica that gets the client's request again after the first operation, and sends its kept reply again, is a
-- right one.
abbrev pub KeptReplyGoesAgain : Type 0
KeptReplyGoesAgain =
    (clients : ℕ) (seed : List ℕ) (op : Operation) (batch : List ℕ) (w : FirstFrames)
    → IsConfiguration (four clients seed)
    → AreFirstFrames (four clients seed) op batch w
    → (r : ℕ) → r < 4 → IsReplica (four clients seed) r
    (Sent r (w.reply r) ∷ Got r w.request ∷ history_of r (first_trace op batch w))
