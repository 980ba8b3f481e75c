-- What a history certifies: by whose commits a batch is executed, which new views are taken, which batches are logged,
-- and that certificates stay.
use Rattle.std.specs.Prelude.{◌≡◌, ℕ, ◌+◌, ◌*◌, ◌^◌, ◌≤◌, ◌<◌, true, List, ◌∷◌, ◌++◌, Some, None}
use Rattle.sha2.specs.Sha256.{sha256}
use Rattle.protocol.specs.System.Configuration.{Configuration, primary, is_correct_replica}
use Rattle.wire_format.specs.Messages.{BodyData as Body, NewViewData, commit as Commit}
use Rattle.protocol.specs.System.Trace.{Entry, history_of, Once, SendsBody, Unforged}
use Rattle.protocol.specs.System.Trace.Entry.{Executed}
use Rattle.protocol.specs.Replica.Certificates.{brought, view, target, taken, low, assigned_batch, logged, commit_of, Prepared, Committed}
use Rattle.protocol.specs.Replica.RightReplica.{SafeReplica}
use Rattle.protocol.specs.Laws.Histories.{AreReplicasSafe, ExecutesBatch, TakesOrSendsNewView}

-- ---- the replica's own commit

-- A batch that is executed is committed in some view in which the replica's own commit counts.
abbrev pub ExecutesWithOwnCommit : Type 0
ExecutesWithOwnCommit =
    (c : Configuration) (me k : ℕ) (batch : List ℕ) (past : List Entry) → SafeReplica c me (Executed me k batch ∷ past)
    → (v : ℕ) × Committed c me past v k batch × (commit_of c me past v k me ≡ Some (sha256 batch))

-- the entry brings this body: the replica receives it, or sends it
abbrev pub EntryBringsBody : Configuration → Body → List Entry → Entry → Type 0
EntryBringsBody c body past e = brought c e ≡ Some body

-- So none is executed that only the others committed, however many.
abbrev pub ExecutesNotByOthersAlone : Type 0
ExecutesNotByOthersAlone =
    (c : Configuration) (me k : ℕ) (batch : List ℕ) (past : List Entry)
    → ((v : ℕ) → Once (EntryBringsBody c (record { sender = me; message = Commit v k (sha256 batch) })) past → ⊥)
    → SafeReplica c me (Executed me k batch ∷ past) → ⊥

-- A correct replica sent a commit itself for each batch that it executes.
abbrev pub ExecutesWhatItCommits : Type 0
ExecutesWhatItCommits =
    (c : Configuration) (trace : List Entry) → AreReplicasSafe c trace → Unforged c trace
    → (r k : ℕ) (batch : List ℕ) → is_correct_replica c r ≡ true → Once (ExecutesBatch c k batch) (history_of r trace)
    → (v : ℕ) × Once (SendsBody (record { sender = r; message = Commit v k (sha256 batch) })) trace

-- ---- the new views that are taken

-- The view of a new view that is taken is above the replica's own, and not below that of a view change that it sent.
abbrev pub TakesLater : Type 0
TakesLater =
    (c : Configuration) (past : List Entry) (e : Entry) (new : NewViewData) → taken c past e ≡ Some new
    → (view c past < new.view) × (target past ≤ new.view)

-- So it is above those of the new views that were taken before, and none is taken twice.
abbrev pub TakesInOrder : Type 0
TakesInOrder =
    (c : Configuration) (past : List Entry) (e : Entry) (earlier new : NewViewData)
    → Once (TakesOrSendsNewView c earlier) past
    → taken c past e ≡ Some new → earlier.view < new.view

-- ---- the log

-- An entry logs a batch only for a number above the low mark that it leaves, and at most the span above it.
abbrev pub LogsInMarks : Type 0
LogsInMarks =
    (c : Configuration) (me v i : ℕ) (batch : List ℕ) (e : Entry) (past : List Entry) → SafeReplica c me (e ∷ past)
    → logged c me past v i ≡ None → logged c me (e ∷ past) v i ≡ Some batch
    → (low c me (e ∷ past) < i) × (i ≤ low c me (e ∷ past) + 2 * c.period) × (i < 2 ^ 48)

-- The batch that a new view that is taken has for a number above the low mark is logged.
abbrev pub LogsWhatBegins : Type 0
LogsWhatBegins =
    (c : Configuration) (me i : ℕ) (batch : List ℕ) (e : Entry) (past : List Entry) (new : NewViewData)
    → SafeReplica c me past → taken c past e ≡ Some new
    → assigned_batch new.view i new ≡ Some batch → low c me (e ∷ past) < i
    → logged c me (e ∷ past) new.view i ≡ Some batch

-- The batches of a view leave no gap at its primary: each number between the low mark and one with a batch has one.
abbrev pub LeavesNoGap : Type 0
LeavesNoGap =
    (c : Configuration) (me v i j : ℕ) (batch : List ℕ) (history : List Entry) → SafeReplica c me history
    → primary c v ≡ me → logged c me history v i ≡ Some batch → low c me history < j → j < i
    → (other : List ℕ) × (logged c me history v j ≡ Some other)

-- ---- certificates stay

-- A prepared batch stays so, whatever comes later, such as a backup's second prepare for another digest.
abbrev pub PreparedRemains : Type 0
PreparedRemains =
    (c : Configuration) (me v i : ℕ) (batch : List ℕ) (later past : List Entry) → Prepared c me past v i batch
    → Prepared c me (later ++ past) v i batch

-- A committed batch stays so, whatever comes later, such as a replica's second commit for another digest.
abbrev pub CommittedRemains : Type 0
CommittedRemains =
    (c : Configuration) (me v i : ℕ) (batch : List ℕ) (later past : List Entry) → Committed c me past v i batch
    → Committed c me (later ++ past) v i batch
