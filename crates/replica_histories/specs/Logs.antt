-- How a log fits its replica's history: the batches that are logged in its view and their votes, the batches that were
-- committed in earlier views, and the checkpoints that were sent (Castro and Liskov, TOCS 2002, on normal-case
-- operation, garbage collection and view changes).
use Rattle.std.specs.Prelude.{◌≡◌, ◌≢◌, ℕ, ◌+◌, ◌^◌, ◌≤◌, ◌<◌, ◌⊎◌, true, false, if◌then◌else◌, List, [], ◌∷◌, length, filter, nat_lt, nat_le, Option, Some, None, option_and_then, ⊤}
use Rattle.quorum.specs.Votes.{or_else}
use Rattle.wire_format.specs.Messages.{BodyData as Body, CheckpointEntryData as CheckpointEntry}
use Rattle.wire_format.specs.Lists.{Each}
use Rattle.ordering.specs.Log as logs
use Rattle.ordering.specs.Log.{LogData}
use Rattle.ordering.specs.Keeping.{IsLog}
use Rattle.protocol.specs.System.Configuration.{Configuration, primary, span}
use Rattle.protocol.specs.System.Trace.{Entry, Once}
use Rattle.protocol.specs.Replica.Certificates.{view, target, low, logged, prepare_of, commit_of, checkpoint_from, with_checkpoint, checkpoints_of, batch_from, prepare_from, commit_from, Prepared, Committed}
use Rattle.protocol.specs.Replica.Owed.{BeginsViewWith}

-- ---- checkpoints

-- those above the low mark
abbrev pub checkpoints_above : ℕ → List CheckpointEntry → List CheckpointEntry
checkpoints_above low checkpoints = filter (λ m. nat_lt low m.number) checkpoints

-- each number is larger than all later ones
abbrev pub Descend : List CheckpointEntry → Type 0
Descend [] = ⊤
Descend (m ∷ ms) = Each (λ later. later.number < m.number) ms × Descend ms

-- at most three, the largest number first
pub record AreLatest (checkpoints : List CheckpointEntry) : Type 0 where
  pub descend : Descend checkpoints
  pub few : length checkpoints ≤ 3

-- ---- votes

-- The replica sent its own votes for a logged batch: a backup's prepare, and the commit if the batch is prepared.
pub record IsVoted (c : Configuration) (me : ℕ) (history : List Entry) (v i : ℕ) (batch : List ℕ) : Type 0 where
  pub prepare : primary c v ≢ me → (digest : List ℕ) × (prepare_of c me history v i me ≡ Some digest)
  pub commit : Prepared c me history v i batch → (digest : List ℕ) × (commit_of c me history v i me ≡ Some digest)

-- ---- views

-- Where a batch may be logged: in no later view than the log's; in that view up to the low mark or within the marks;
-- and in no view above the marks.
pub record MayBeLogged (log : LogData) (v i : ℕ) : Type 0 where
  pub view : v ≤ log.view
  pub marks : v ≡ log.view → (i ≤ log.low) ⊎ (logs.is_in_marks log i ≡ true)
  pub ahead : (i ≤ log.low + log.span) × (i < 2 ^ 48)

-- How the log fits other views than its own. A number has a batch that was committed in an earlier view exactly if one
-- was. A batch that is prepared within the marks in an earlier view, or in the current one if the replica is inactive,
-- has the replica's own commit. And nobody voted in a later view yet.
pub record FitsViews (c : Configuration) (me : ℕ) (log : LogData) (history : List Entry) : Type 0 where
  pub decided : (i : ℕ) (batch : List ℕ) → logs.is_in_marks log i ≡ true
      → (logs.row_of log i).decided ≡ Some batch → (v : ℕ) × (v < log.view) × Committed c me history v i batch
  pub all_decided : (v i : ℕ) (batch : List ℕ) → v < log.view → logs.is_in_marks log i ≡ true
      → Committed c me history v i batch → (known : List ℕ) × ((logs.row_of log i).decided ≡ Some known)
  pub voted : (v i : ℕ) (batch : List ℕ) → logs.is_in_marks log i ≡ true → (v < log.view) ⊎ (log.active ≡ false)
      → Prepared c me history v i batch → (digest : List ℕ) × (commit_of c me history v i me ≡ Some digest)
  pub later : (v i s : ℕ) → log.view < v
      → (prepare_of c me history v i s ≡ None) × (commit_of c me history v i s ≡ None)

-- ---- the log

-- The log is the replica's, in its view and marks, and answers within the marks as the history does. In its view there
-- is no vote above the marks. While the replica is active, a batch that is logged up to the low mark has its own votes.
-- No new view began a later view. Of each sender the log has the same checkpoints above the low mark; it drops those
-- below, which the history counts.
pub record FitsLog (c : Configuration) (me : ℕ) (log : LogData) (history : List Entry) : Type 0 where
  pub is_log : IsLog log
  pub own : log.me ≡ me
  pub faults : log.faults ≡ c.faults
  pub span : log.span ≡ span c
  pub view : view c history ≡ log.view
  pub active : nat_le (target history) log.view ≡ log.active
  pub low : low c me history ≡ log.low
  pub batches : (i : ℕ) → logs.is_in_marks log i ≡ true → logged c me history log.view i ≡ logs.logged_batch log i
  pub prepares : (i s : ℕ) → logs.is_in_marks log i ≡ true
      → prepare_of c me history log.view i s ≡ logs.prepare_of log i s
  pub commits : (i s : ℕ) → logs.is_in_marks log i ≡ true
      → commit_of c me history log.view i s ≡ logs.commit_of log i s
  pub within : (v i : ℕ) (batch : List ℕ) → logged c me history v i ≡ Some batch → MayBeLogged log v i
  pub above : (i s : ℕ) → log.low < i → logs.is_in_marks log i ≡ false
      → (prepare_of c me history log.view i s ≡ None) × (commit_of c me history log.view i s ≡ None)
  pub begins : (v : ℕ) (batch : List ℕ) → Once (BeginsViewWith c v batch) history → v ≤ log.view
  pub settled : log.active ≡ true → (i : ℕ) (batch : List ℕ) → i ≤ log.low
      → logged c me history log.view i ≡ Some batch → IsVoted c me history log.view i batch
  pub views : FitsViews c me log history
  pub checkpoints : (s : ℕ)
      → checkpoints_above log.low (checkpoints_of c history s) ≡ checkpoints_above log.low (logs.checkpoints_of log s)
  pub latest : (s : ℕ) → AreLatest (logs.checkpoints_of log s)

-- the log stays in its view and marks, and keeps its checkpoints
pub record LogStays (old new : LogData) : Type 0 where
  pub is_log : IsLog new
  pub me : new.me ≡ old.me
  pub faults : new.faults ≡ old.faults
  pub span : new.span ≡ old.span
  pub view : new.view ≡ old.view
  pub active : new.active ≡ old.active
  pub low : new.low ≡ old.low
  pub checkpoints : new.checkpoints ≡ old.checkpoints

-- An ordering message counts while the replica is active.
abbrev pub while_active : LogData → Option (List ℕ) → Option (List ℕ)
while_active log given = if log.active then given else None

-- How a body changes the log, if it moves no mark. Within the marks the first batch and votes stay, and so does a batch
-- that was committed in an earlier view. A checkpoint adds nothing above the low mark.
pub record LogTakesBody (c : Configuration) (me : ℕ) (said : Option Body) (old new : LogData) : Type 0 where
  pub stays : LogStays old new
  pub batch : (i : ℕ) → logs.is_in_marks old i ≡ true
      → logs.logged_batch new i
      ≡ or_else (logs.logged_batch old i) (while_active old (option_and_then (batch_from c me old.view i) said))
  pub prepare : (i s : ℕ) → logs.is_in_marks old i ≡ true
      → logs.prepare_of new i s
      ≡ or_else (logs.prepare_of old i s) (while_active old (option_and_then (prepare_from c s old.view i) said))
  pub commit : (i s : ℕ) → logs.is_in_marks old i ≡ true
      → logs.commit_of new i s
      ≡ or_else (logs.commit_of old i s) (while_active old (option_and_then (commit_from s old.view i) said))
  pub decided : (i : ℕ) → logs.is_in_marks old i ≡ true
      → (logs.row_of new i).decided ≡ (logs.row_of old i).decided
  pub checkpoint : (s : ℕ)
      → checkpoints_above old.low (with_checkpoint s (option_and_then checkpoint_from said) (logs.checkpoints_of old s))
      ≡ checkpoints_above old.low (logs.checkpoints_of old s)
