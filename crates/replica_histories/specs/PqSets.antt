-- What a replica keeps for its view changes, in the history's words: the batches that it logged, and those that it
-- committed. A replica that has no commit left to send has committed each prepared batch (Castro and Liskov, TOCS 2002,
-- on the sets P and Q of view changes).
use Rattle.std.specs.Prelude.{◌≡◌, ◌≢◌, ℕ, ◌⊎◌, true, List, [], ◌∷◌, Some, None}
use Rattle.wire_format.specs.Messages.{BatchEntryData as PqEntry}
use Rattle.wire_format.specs.Words.{requests_of}
use Rattle.wire_format.specs.Lists.{Each}
use Rattle.ordering.specs.Log as logs
use Rattle.ordering.specs.Log.{LogData}
use Rattle.protocol.specs.System.Configuration.{Configuration}
use Rattle.protocol.specs.System.Trace.{Entry, Once, Has}
use Rattle.protocol.specs.Replica.Certificates.{low, is_in_marks, logged, commit_of}
use Rattle.protocol.specs.Replica.RightReplica.{Point, HistoryReaches, HasSeen, IsPreparedList, IsPrePreparedList}
use Rattle.pq_sets.specs.PqSetsView.{PqSetsData, empty_pq_sets, pq_entry_of}
use Rattle.pq_sets.specs.Recording.{with_prepared, with_logged, with_all, above_mark, IsLoggedAs, AddsPqEntries, IsLatest, RecordsLogged}
use Rattle.replica_histories.specs.Logs.{FitsLog}

-- the replica's own commit in the view, at the number, is of this digest
abbrev pub SentCommit : Configuration → ℕ → List Entry → ℕ → ℕ → List ℕ → Type 0
SentCommit c me history v i digest = commit_of c me history v i me ≡ Some digest

-- the text was logged
abbrev pub WasLogged : Configuration → ℕ → List Entry → List ℕ → Type 0
WasLogged c me history text = (v : ℕ) × (i : ℕ) × (logged c me history v i ≡ Some text)

-- For each number within the marks P has the latest own commit, and Q each logged batch with its latest view.
-- The stored texts were logged.
pub record FitsPqSets (c : Configuration) (me : ℕ) (history : List Entry) (pq_sets : PqSetsData) : Type 0 where
  pub prepared : IsLatest (SentCommit c me history) (is_in_marks c (low c me history)) pq_sets.prepared
  pub logged : RecordsLogged c me history pq_sets.logged
  pub texts : Each (WasLogged c me history) pq_sets.texts

-- P and Q after an entry of the history: the entries above the low mark after it, with those that it adds, in order.
pub record PqSetsGrowByEntry (pq_sets after : PqSetsData) (low : ℕ) (commits batches : List PqEntry) : Type 0 where
  pub prepared : after.prepared ≡ with_all with_prepared commits (above_mark low pq_sets.prepared)
  pub logged : after.logged ≡ with_all with_logged batches (above_mark low pq_sets.logged)

-- ---- laws

-- Before any entry of the history P and Q are empty.
abbrev pub PqSetsBegin : Type 0
PqSetsBegin = (c : Configuration) (me : ℕ) → FitsPqSets c me [] empty_pq_sets

-- An entry adds its own commits and batches within the marks after it, and may add their texts.
abbrev pub PqSetsGrow : Type 0
PqSetsGrow =
    (c : Configuration) (me : ℕ) (log : LogData) (past : List Entry) (e : Entry) (old new : Point)
    (pq_sets after : PqSetsData) (commits batches : List PqEntry)
    → FitsLog c me log past → HistoryReaches c me past old → HistoryReaches c me (e ∷ past) new
    → AddsPqEntries (SentCommit c me past) (SentCommit c me (e ∷ past)) (is_in_marks c (low c me (e ∷ past))) commits
    → AddsPqEntries (IsLoggedAs c me past) (IsLoggedAs c me (e ∷ past)) (is_in_marks c (low c me (e ∷ past))) batches
    → PqSetsGrowByEntry pq_sets after (low c me (e ∷ past)) commits batches
    → ((text : List ℕ) → Has (λ x. x ≡ text) after.texts
    → Has (λ x. x ≡ text) pq_sets.texts ⊎ WasLogged c me (e ∷ past) text)
    → FitsPqSets c me past pq_sets → FitsPqSets c me (e ∷ past) after

-- If the log asks for no commit, P and Q are the lists of a view change.
abbrev pub PqSetsAreLists : Type 0
PqSetsAreLists =
    (c : Configuration) (me : ℕ) (log : LogData) (history : List Entry) (point : Point) (pq_sets : PqSetsData)
    → FitsLog c me log history → HistoryReaches c me history point → ((i : ℕ) → logs.due_commit log i ≡ None)
    → FitsPqSets c me history pq_sets
    → IsPreparedList c me history pq_sets.prepared × IsPrePreparedList c me history pq_sets.logged

-- ---- what an entry adds

-- An entry that logs nothing adds no batch, and one that is no own commit adds no commit.
abbrev pub NoBatchAdds : Type 0
NoBatchAdds =
    (c : Configuration) (me : ℕ) (past : List Entry) (e : Entry)
    → ((v i : ℕ) → logged c me (e ∷ past) v i ≡ logged c me past v i)
    → AddsPqEntries (IsLoggedAs c me past) (IsLoggedAs c me (e ∷ past)) (is_in_marks c (low c me (e ∷ past))) []

abbrev pub NoCommitAdds : Type 0
NoCommitAdds =
    (c : Configuration) (me : ℕ) (past : List Entry) (e : Entry)
    → ((v i : ℕ) → commit_of c me (e ∷ past) v i me ≡ commit_of c me past v i me)
    → AddsPqEntries (SentCommit c me past) (SentCommit c me (e ∷ past)) (is_in_marks c (low c me (e ∷ past))) []

-- An entry with one batch adds it to Q, and one with an own commit adds its batch to P.
abbrev pub BatchAdds : Type 0
BatchAdds =
    (c : Configuration) (me : ℕ) (past : List Entry) (e : Entry) (v i : ℕ) (text : List ℕ)
    → is_in_marks c (low c me (e ∷ past)) i ≡ true → logged c me (e ∷ past) v i ≡ Some text
    → ((w j : ℕ) → (w ≢ v) ⊎ (j ≢ i) → logged c me (e ∷ past) w j ≡ logged c me past w j)
    → AddsPqEntries (IsLoggedAs c me past) (IsLoggedAs c me (e ∷ past)) (is_in_marks c (low c me (e ∷ past)))
    (pq_entry_of i v text ∷ [])

abbrev pub CommitAdds : Type 0
CommitAdds =
    (c : Configuration) (me : ℕ) (past : List Entry) (e : Entry) (v i : ℕ) (digest : List ℕ)
    → is_in_marks c (low c me (e ∷ past)) i ≡ true → commit_of c me (e ∷ past) v i me ≡ Some digest
    → ((w j : ℕ) → (w ≢ v) ⊎ (j ≢ i) → commit_of c me (e ∷ past) w j me ≡ commit_of c me past w j me)
    → AddsPqEntries (SentCommit c me past) (SentCommit c me (e ∷ past)) (is_in_marks c (low c me (e ∷ past)))
    (record { number = i; digest = digest; view = v } ∷ [])

-- The requests of a logged batch were seen, in the message that brought it.
abbrev pub LoggedAreSeen : Type 0
LoggedAreSeen =
    (c : Configuration) (me v i : ℕ) (text : List ℕ) (history : List Entry) → logged c me history v i ≡ Some text
    → Each (λ frame. Once (HasSeen frame) history) (requests_of text)
