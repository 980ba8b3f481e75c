-- The room that operations take in a journal.
use Rattle.std.specs.Prelude.{ℕ, ◌+◌, ◌*◌, ◌≤◌, List, length}
use Rattle.tuple_codec.specs.Operations.{Operation, Outcome}
use Rattle.protocol.specs.System.Configuration.{Configuration, IsConfiguration}
use Rattle.protocol.specs.System.Run.{IsRun}
use Rattle.protocol.specs.System.Trace.{Entry}
use Rattle.cluster_run.specs.Answers.{AreAnswered}

-- An operation that is answered has at least so many entries at its client: its call, its request, the replies of
-- 2f + 1 replicas, and its acceptance.
abbrev pub least_entries : Configuration → ℕ
least_entries c = 2 * c.faults + 4

-- A run in which all these operations are answered has at least so many entries for each of them.
abbrev pub AnsweredOperationsTakeEntries : Type 0
AnsweredOperationsTakeEntries =
    (c : Configuration) (trace : List Entry) (ops : List Operation) (answers : List Outcome)
    → IsConfiguration c → IsRun c trace → AreAnswered trace c.clients ops answers
    → length ops * least_entries c ≤ length trace
