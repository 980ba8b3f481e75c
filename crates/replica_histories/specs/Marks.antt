-- The log when the marks move: a checkpoint that becomes stable cuts the rows up to it (Castro and Liskov, TOCS 2002,
-- on garbage collection).
use Rattle.std.specs.Prelude.{◌≡◌, ℕ, ◌^◌, ◌≤◌, ◌<◌, true, List, ◌∷◌, if◌then◌else◌, Some, None}
use Rattle.wire_format.specs.Messages.{CheckpointEntryData as CheckpointEntry, checkpoint as Checkpoint}
use Rattle.ordering.specs.Log as logs
use Rattle.ordering.specs.Log.{LogData}
use Rattle.ordering.specs.Keeping.{IsLog}
use Rattle.protocol.specs.System.Configuration.{Configuration, is_number}
use Rattle.protocol.specs.System.Trace.{Entry}
use Rattle.protocol.specs.System.Trace.Entry.{Installed}
use Rattle.protocol.specs.Replica.Certificates.{brought, is_stable, low}
use Rattle.replica_histories.specs.Logs.{FitsLog}

-- The log with one more checkpoint of the replica s, cut if that makes it stable.
abbrev pub cut_if_stable : LogData → CheckpointEntry → LogData
cut_if_stable log entry = if logs.is_stable log entry then logs.cut_to log entry.number else log

abbrev pub checked_log : LogData → ℕ → CheckpointEntry → LogData
checked_log log s entry = cut_if_stable (logs.with_checkpoint_of log s entry) entry

-- up to the number the log asks for no vote
abbrev pub IsVotedTo : LogData → ℕ → Type 0
IsVotedTo log h = (i : ℕ) → i ≤ h → (logs.due_prepare log i ≡ None) × (logs.due_commit log i ≡ None)

-- the entry brings this checkpoint
pub record BringsCheckpoint (c : Configuration) (e : Entry) (s : ℕ) (entry : CheckpointEntry) : Type 0 where
  pub brings : brought c e ≡ Some (record { sender = s; message = Checkpoint entry.number entry.digest })
  pub number : is_number entry.number ≡ true

-- The log counts a checkpoint, received or sent. If it becomes stable, the marks move, and the log is cut.
abbrev pub MarksMove : Type 0
MarksMove =
    (c : Configuration) (me : ℕ) (log : LogData) (past : List Entry) (e : Entry) (s : ℕ) (entry : CheckpointEntry)
    → FitsLog c me log past → BringsCheckpoint c e s entry → s < logs.replicas log
    → IsVotedTo log (checked_log log s entry).low → FitsLog c me (checked_log log s entry) (e ∷ past)

-- An installation moves the marks to its number.
abbrev pub InstallationsMove : Type 0
InstallationsMove =
    (c : Configuration) (me : ℕ) (log : LogData) (past : List Entry) (k : ℕ) (root : List ℕ)
    → FitsLog c me log past → k < 2 ^ 48 → IsVotedTo log k
    → FitsLog c me (logs.cut_to log k) (Installed me k root ∷ past)

-- A cut log asks for no more: the votes that it asks for above its low mark, and the batches committed there, it had
-- before.
abbrev pub CutsAskNoMore : Type 0
CutsAskNoMore =
    (log : LogData) (h i : ℕ) → IsLog log
    → (logs.due_prepare (logs.cut_to log h) i
    ≡ (if logs.is_in_marks (logs.cut_to log h) i then logs.due_prepare log i else None))
    × (logs.due_commit (logs.cut_to log h) i
    ≡ (if logs.is_in_marks (logs.cut_to log h) i then logs.due_commit log i else None))
    × (logs.committed_batch (logs.cut_to log h) i
    ≡ (if logs.is_in_marks (logs.cut_to log h) i then logs.committed_batch log i else None))

-- Nothing above the low mark is stable, by the history or by a log that fits it.
abbrev pub StableAreLow : Type 0
StableAreLow =
    (c : Configuration) (me : ℕ) (history : List Entry) (entry : CheckpointEntry)
    → is_stable c me history entry ≡ true → entry.number ≤ low c me history

abbrev pub StableAreCut : Type 0
StableAreCut =
    (c : Configuration) (me : ℕ) (log : LogData) (history : List Entry) (entry : CheckpointEntry)
    → FitsLog c me log history → logs.is_stable log entry ≡ true → entry.number ≤ log.low
