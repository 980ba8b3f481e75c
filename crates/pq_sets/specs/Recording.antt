-- A replica's sets P and Q, over views. P has for each number in the marks the batch that was prepared in the latest
-- view. Q has each logged batch with the latest view in which it was logged (Castro and Liskov, Practical Byzantine
-- fault tolerance and proactive recovery, TOCS 2002, on view changes).
use Rattle.std.specs.Prelude.{length, ◌≡◌, ℕ, ◌+◌, ◌^◌, ◌≤◌, ◌<◌, ◌⊎◌, Bool, true, ◌&&◌, List, [], ◌∷◌, Some, filter, nat_lt, nat_le, ◌==◌, if◌then◌else◌, bytes_eq, ⊤}
use Rattle.sha2.specs.Sha256.{sha256}
use Rattle.wire_format.specs.Messages.{BatchEntryData as PqEntry}
use Rattle.wire_format.specs.Spelling.{batch_entry_before, named_before}
use Rattle.protocol.specs.System.Configuration.{Configuration, span}
use Rattle.protocol.specs.System.Trace.{Entry, Has}
use Rattle.wire_format.specs.Lists.{Each}
use Rattle.protocol.specs.Replica.Certificates.{low, is_in_marks, logged, Prepared}
use Rattle.protocol.specs.Replica.RightReplica.{IsPreparedList, IsPrePreparedList}

-- ---- the lists

-- the entries are for the same number, or for the same number and digest
abbrev pub same_number : PqEntry → PqEntry → Bool
same_number a b = a.number == b.number

abbrev pub same_name : PqEntry → PqEntry → Bool
same_name a b = (a.number == b.number) && bytes_eq a.digest b.digest

-- the later one of two
abbrev pub later_of : PqEntry → PqEntry → PqEntry
later_of a b = if nat_le a.view b.view then b else a

-- one more entry in its place; it replaces one that names the same, if that is not later
abbrev pub with_pq_entry :
    (PqEntry → PqEntry → Bool) → (PqEntry → PqEntry → Bool) → PqEntry → List PqEntry → List PqEntry
with_pq_entry before same pq_entry [] = pq_entry ∷ []
with_pq_entry before same pq_entry (x ∷ xs) =
    if same x pq_entry then later_of x pq_entry ∷ xs else
    if before pq_entry x then pq_entry ∷ x ∷ xs else x ∷ with_pq_entry before same pq_entry xs

-- P with one more entry; Q with one more entry
abbrev pub with_prepared : PqEntry → List PqEntry → List PqEntry
with_prepared = with_pq_entry batch_entry_before same_number

abbrev pub with_logged : PqEntry → List PqEntry → List PqEntry
with_logged = with_pq_entry named_before same_name

-- several, one after another
abbrev pub with_all : (PqEntry → List PqEntry → List PqEntry) → List PqEntry → List PqEntry → List PqEntry
with_all put [] pq_set = pq_set
with_all put (x ∷ xs) pq_set = with_all put xs (put x pq_set)

-- the entries above a low mark
abbrev pub above_mark : ℕ → List PqEntry → List PqEntry
above_mark low pq_set = filter (λ pq_entry. nat_lt low pq_entry.number) pq_set

-- ---- what an entry adds to a history

-- The history holds this batch, by its digest, in this view at this number: prepared, or logged.
abbrev pub IsPreparedAs : Configuration → ℕ → List Entry → ℕ → ℕ → List ℕ → Type 0
IsPreparedAs c me past v i digest = (batch : List ℕ) × Prepared c me past v i batch × (sha256 batch ≡ digest)

abbrev pub IsLoggedAs : Configuration → ℕ → List Entry → ℕ → ℕ → List ℕ → Type 0
IsLoggedAs c me past v i digest = (batch : List ℕ) × (logged c me past v i ≡ Some batch) × (sha256 batch ≡ digest)

-- after the entry, in the marks, exactly these entries hold beside what held before, and they are in the marks
pub record AddsPqEntries (before after : ℕ → ℕ → List ℕ → Type 0) (in_marks : ℕ → Bool) (added : List PqEntry) : Type 0
  where
    pub stays : (v i : ℕ) (digest : List ℕ) → before v i digest → after v i digest
    pub new : Each (λ x. after x.view x.number x.digest × (in_marks x.number ≡ true)) added
    pub only : (v i : ℕ) (digest : List ℕ) → in_marks i ≡ true → after v i digest
        → before v i digest ⊎ Has (λ x. (x.view ≡ v) × (x.number ≡ i) × (x.digest ≡ digest)) added

-- nothing is logged above the marks
abbrev pub NothingAhead : Configuration → ℕ → List Entry → Type 0
NothingAhead c me past =
    (v i : ℕ) (batch : List ℕ) → logged c me past v i ≡ Some batch → (i ≤ low c me past + span c) × (i < 2 ^ 48)

-- each entry comes before all entries after it
abbrev pub Ascends : (PqEntry → PqEntry → Bool) → List PqEntry → Type 0
Ascends before [] = ⊤
Ascends before (x ∷ xs) = Each (λ y. before x y ≡ true) xs × Ascends before xs

-- ---- the lists over a relation of views, numbers and digests

-- for each number in the marks the latest entry
pub record IsLatest (holds : ℕ → ℕ → List ℕ → Type 0) (in_marks : ℕ → Bool) (pq_set : List PqEntry) : Type 0 where
  pub listed : (pq_entry : PqEntry) → Has (λ x. x ≡ pq_entry) pq_set
      → holds pq_entry.view pq_entry.number pq_entry.digest × (in_marks pq_entry.number ≡ true)
      × ((v : ℕ) (digest : List ℕ) → pq_entry.view < v → holds v pq_entry.number digest → ⊥)
  pub all : (v i : ℕ) (digest : List ℕ) → in_marks i ≡ true → holds v i digest → Has (λ x. x.number ≡ i) pq_set
  pub ascending : Ascends batch_entry_before pq_set

-- for each digest of each number in the marks the entry with its latest view
pub record IsEach (holds : ℕ → ℕ → List ℕ → Type 0) (in_marks : ℕ → Bool) (pq_set : List PqEntry) : Type 0 where
  pub listed : (pq_entry : PqEntry) → Has (λ x. x ≡ pq_entry) pq_set
      → holds pq_entry.view pq_entry.number pq_entry.digest × (in_marks pq_entry.number ≡ true)
  pub all : (v i : ℕ) (digest : List ℕ) → in_marks i ≡ true → holds v i digest
      → Has (λ x. (x.number ≡ i) × (x.digest ≡ digest) × (v ≤ x.view)) pq_set
  pub ascending : Ascends named_before pq_set

-- P is what the history says of prepared batches, and Q what it says of logged ones.
abbrev pub RecordsPrepared : Configuration → ℕ → List Entry → List PqEntry → Type 0
RecordsPrepared c me past pq_set = IsLatest (IsPreparedAs c me past) (is_in_marks c (low c me past)) pq_set

abbrev pub RecordsLogged : Configuration → ℕ → List Entry → List PqEntry → Type 0
RecordsLogged c me past pq_set = IsEach (IsLoggedAs c me past) (is_in_marks c (low c me past)) pq_set

-- digests of relations that hold have 32 bytes
abbrev pub AreDigests : (ℕ → ℕ → List ℕ → Type 0) → Type 0
AreDigests holds = (v i : ℕ) (digest : List ℕ) → holds v i digest → length digest ≡ 32

-- the marks move up, to this low mark, and nothing holds ahead of the earlier ones
pub record MovesUp (holds : ℕ → ℕ → List ℕ → Type 0) (in_marks later : ℕ → Bool) (low : ℕ) : Type 0 where
  pub above : (i : ℕ) → later i ≡ true → low < i
  pub ahead : (v i : ℕ) (digest : List ℕ) → later i ≡ true → holds v i digest → in_marks i ≡ true
  pub still : (i : ℕ) → in_marks i ≡ true → low < i → later i ≡ true

-- ---- laws

-- Before any entry of the history P and Q are empty.
abbrev pub RecordsBegin : Type 0
RecordsBegin = (c : Configuration) (me : ℕ) → RecordsPrepared c me [] [] × RecordsLogged c me [] []

-- If a set records a relation, its entries above the low mark with the new ones record the relation after. (Laws
-- over all relations; those of a history are instances.)
abbrev pub LatestIsRecorded : Type 1
LatestIsRecorded =
    (before after : ℕ → ℕ → List ℕ → Type 0) (in_marks later : ℕ → Bool) (low : ℕ) (pq_set new : List PqEntry)
    → AreDigests before → AreDigests after → MovesUp before in_marks later low → IsLatest before in_marks pq_set
    → AddsPqEntries before after later new → IsLatest after later (with_all with_prepared new (above_mark low pq_set))

abbrev pub EachIsRecorded : Type 1
EachIsRecorded =
    (before after : ℕ → ℕ → List ℕ → Type 0) (in_marks later : ℕ → Bool) (low : ℕ) (pq_set new : List PqEntry)
    → AreDigests before → AreDigests after → MovesUp before in_marks later low → IsEach before in_marks pq_set
    → AddsPqEntries before after later new → IsEach after later (with_all with_logged new (above_mark low pq_set))

-- So P and Q after an entry of the history record the history with that entry.
abbrev pub PreparedIsRecorded : Type 0
PreparedIsRecorded =
    (c : Configuration) (me : ℕ) (e : Entry) (past : List Entry) (pq_set new : List PqEntry)
    → NothingAhead c me past → RecordsPrepared c me past pq_set
    → AddsPqEntries (IsPreparedAs c me past) (IsPreparedAs c me (e ∷ past)) (is_in_marks c (low c me (e ∷ past))) new
    → RecordsPrepared c me (e ∷ past) (with_all with_prepared new (above_mark (low c me (e ∷ past)) pq_set))

abbrev pub LoggedIsRecorded : Type 0
LoggedIsRecorded =
    (c : Configuration) (me : ℕ) (e : Entry) (past : List Entry) (pq_set new : List PqEntry)
    → NothingAhead c me past → RecordsLogged c me past pq_set
    → AddsPqEntries (IsLoggedAs c me past) (IsLoggedAs c me (e ∷ past)) (is_in_marks c (low c me (e ∷ past))) new
    → RecordsLogged c me (e ∷ past) (with_all with_logged new (above_mark (low c me (e ∷ past)) pq_set))

-- The recorded sets are the lists of a view change.
abbrev pub RecordsAreLists : Type 0
RecordsAreLists =
    (c : Configuration) (me : ℕ) (past : List Entry) (prepared logged : List PqEntry)
    → RecordsPrepared c me past prepared → RecordsLogged c me past logged
    → IsPreparedList c me past prepared × IsPrePreparedList c me past logged
