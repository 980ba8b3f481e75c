-- The answers of a run. A trace and a history have the newest entry first. A client's calls have the timestamps 1, 2
-- and so on.
use Rattle.std.specs.Prelude.{◌≡◌, ℕ, suc, ◌/◌, ◌%◌, List, length, slice_get, Some, Contains}
use Rattle.tuple_codec.specs.Operations.{Operation, Outcome}
use Rattle.protocol.specs.System.Configuration.{Configuration}
use Rattle.protocol.specs.System.Run.{IsRun}
use Rattle.protocol.specs.System.Texts.{NoCollision}
use Rattle.protocol.specs.System.Trace.{Entry, Unforged}
use Rattle.protocol.specs.System.Trace.Entry.{Invoke, Accepted}
use Rattle.protocol.specs.Space.Linear.{points, IsLinear}
use Rattle.space_node.specs.Runs.{IsFaultless}

-- The client invoked the operation at this timestamp, and accepted this answer to it.
pub record CallIsAnswered (entries : List Entry) (client timestamp : ℕ) (op : Operation) (answer : Outcome) : Type 0
  where
    pub invoked : Contains entries (Invoke client timestamp op)
    pub accepted : Contains entries (Accepted client timestamp answer)

-- Each operation has an answer. Client i modulo their number calls operation i, counted from 0, and each client calls
-- its own in their order. So operation i is call i / clients of its client, counted from 0.
pub record AreAnswered (trace : List Entry) (clients : ℕ) (ops : List Operation) (answers : List Outcome) : Type 0 where
  pub count : length answers ≡ length ops
  pub each : (i : ℕ) (op : Operation) (answer : Outcome) → slice_get ops i ≡ Some op
      → slice_get answers i ≡ Some answer → CallIsAnswered trace (i % clients) (suc (i / clients)) op answer

-- A trace of the system. If no party is faulty, nothing in it is forged. If nothing is forged and its texts do not
-- collide it is linear: the answers that clients accept are those of one sequential tuple space.
pub record IsProper (c : Configuration) (trace : List Entry) : Type 0 where
  pub run : IsRun c trace
  pub unforged : IsFaultless c → Unforged c trace
  pub linear : Unforged c trace → NoCollision c trace → IsLinear c (points c trace) trace

-- These are the answers that the clients accepted in such a trace.
pub record AnswersRun (c : Configuration) (ops : List Operation) (answers : List Outcome) : Type 0 where
  pub trace : List Entry
  pub proper : IsProper c trace
  pub answered : AreAnswered trace c.clients ops answers
