-- The parts of kept states that others fetch: the answer to a fetch, that it may be sent, and that the replica owes no
-- other (Castro and Liskov, TOCS 2002, on state transfer).
use Rattle.std.specs.Prelude.{◌≡◌, ℕ, true, List, [], ◌∷◌, map, reverse, slice_index_or, ⊤}
use Rattle.terms.specs.declared.state.Level.{Level}
use Rattle.terms.specs.declared.state.Level.TheVariants as levels
use Rattle.partition_tree.specs.Levels.{children_of}
use Rattle.wire_format.specs.Messages.{MessageData as Message, fetch as Fetch, meta as Meta, page as Page}
use Rattle.wire_format.specs.Spelling.{has_children}
use Rattle.wire_format.specs.Words.{carried}
use Rattle.protocol.specs.System.Configuration.{Configuration}
use Rattle.protocol.specs.System.Frames.{IsOutgoing}
use Rattle.protocol.specs.System.Trace.{Entry, Has, Receives}
use Rattle.protocol.specs.System.Trace.Entry.{Sent}
use Rattle.protocol.specs.Replica.Certificates.{low}
use Rattle.protocol.specs.Replica.State.{State, pages_of, page_text}
use Rattle.protocol.specs.Replica.RightReplica.{Point, HistoryReaches, MaySendMessage, IsFor, KeptState, WasAsked, digests_at, kept_states}
use Rattle.protocol.specs.Replica.Owed.{IsSendingTo, SendsMessageTo, Counts}
use Rattle.replica_histories.specs.Desk.{Snapshot, snapshot_of}

-- the answer to a fetch of a place, from a state, and from its pages: the digests below the place, or the page
abbrev pub answer_of : State → ℕ → Level → ℕ → Message
answer_of st k levels.Root index = Meta k levels.Root index (digests_at st levels.Root index)
answer_of st k levels.Inner index = Meta k levels.Inner index (digests_at st levels.Inner index)
answer_of st k levels.Page index = Page k index (page_text st index)

abbrev pub answer_by : List (List ℕ) → ℕ → Level → ℕ → Message
answer_by pages k levels.Root index = Meta k levels.Root index (children_of pages levels.Root index)
answer_by pages k levels.Inner index = Meta k levels.Inner index (children_of pages levels.Inner index)
answer_by pages k levels.Page index = Page k index (slice_index_or pages index [])

-- a state of the number and these pages is kept
abbrev pub KeptPages : Configuration → ℕ → List Entry → Point → ℕ → List (List ℕ) → Type 0
KeptPages c me past point k pages = KeptState c me past point k (λ st. pages_of st ≡ pages)

-- An event whose input is a fetch owes the answer from the kept state of the number, to whoever asks.
abbrev pub AnswersFetches : Configuration → ℕ → List Entry → Entry → List Entry → Point → Type 0
AnswersFetches c me before input outputs old =
    (s k index : ℕ) (level : Level) → Receives c me (record { sender = s; message = Fetch k level index }) before input
    → (st : State) → KeptState c me before old k (λ x. x ≡ st)
    → SendsMessageTo me s (answer_of st k level index) outputs

-- ---- laws: kept states

-- No two kept states have one number.
abbrev pub KeptAreOne : Type 0
KeptAreOne =
    (c : Configuration) (me : ℕ) (history : List Entry) (point : Point) (k : ℕ) (st other : State)
    → HistoryReaches c me history point → KeptState c me history point k (λ x. x ≡ st)
    → KeptState c me history point k (λ x. x ≡ other) → st ≡ other

-- Each kept snapshot has the pages of a kept state, and each kept state has its snapshot.
abbrev pub SnapshotsAreKept : Type 0
SnapshotsAreKept =
    (c : Configuration) (me : ℕ) (history : List Entry) (point : Point) (snapshots : List Snapshot)
    (snapshot : Snapshot)
    → map snapshot_of (kept_states (low c me history) point.snapshots) ≡ snapshots
    → Has (λ x. x ≡ snapshot) snapshots → KeptPages c me history point snapshot.number snapshot.pages

abbrev pub KeptHaveSnapshots : Type 0
KeptHaveSnapshots =
    (c : Configuration) (me : ℕ) (history : List Entry) (point : Point) (snapshots : List Snapshot) (k : ℕ)
    → map snapshot_of (kept_states (low c me history) point.snapshots) ≡ snapshots
    → KeptState c me history point k (λ st. ⊤) → Has (λ x. x.number ≡ k) snapshots

-- ---- laws: answers

-- A fetch of a kept state counts.
abbrev pub FetchesCount : Type 0
FetchesCount =
    (c : Configuration) (me : ℕ) (past : List Entry) (point : Point) (bytes : List ℕ) (s k index : ℕ) (level : Level)
    (pages : List (List ℕ))
    → KeptPages c me past point k pages → Counts c me past point bytes s (Fetch k level index)

-- Its answer may be sent, to whoever asked; and a frame sealed for that replica alone is sent to it.
abbrev pub AnswersMayGo : Type 0
AnswersMayGo =
    (c : Configuration) (me : ℕ) (past : List Entry) (point : Point) (e : Entry) (bytes : List ℕ) (s k index : ℕ)
    (level : Level) (pages : List (List ℕ))
    → KeptPages c me past point k pages → WasAsked c me past s k level index
    → MaySendMessage c me past point e bytes (answer_by pages k level index)
    × IsFor c me past (answer_by pages k level index) (s ∷ [])
    × (carried (answer_by pages k level index) ≡ [])

abbrev pub OutgoingToOne : Type 0
OutgoingToOne =
    (c : Configuration) (me s : ℕ) (message : Message) (bytes : List ℕ)
    → IsOutgoing c me message (s ∷ []) bytes → IsSendingTo me s message (Sent me bytes)

-- If the replica sends it, it owes no more. If no state of the number is kept, it owes nothing.
abbrev pub AnswersSuffice : Type 0
AnswersSuffice =
    (c : Configuration) (me : ℕ) (before : List Entry) (input : Entry) (outputs : List Entry) (old : Point)
    (s k index : ℕ) (level : Level) (pages : List (List ℕ))
    → HistoryReaches c me before old → Receives c me (record { sender = s; message = Fetch k level index }) before input
    → KeptPages c me before old k pages → SendsMessageTo me s (answer_by pages k level index) outputs
    → AnswersFetches c me before input outputs old

abbrev pub NoneIsOwed : Type 0
NoneIsOwed =
    (c : Configuration) (me : ℕ) (before : List Entry) (input : Entry) (outputs : List Entry) (old : Point)
    (s k index : ℕ) (level : Level)
    → Receives c me (record { sender = s; message = Fetch k level index }) before input
    → (KeptState c me before old k (λ st. ⊤) → ⊥) → AnswersFetches c me before input outputs old

-- An answer among outputs stays there when outputs are added or reversed.
abbrev pub AnswersStay : Type 0
AnswersStay =
    (c : Configuration) (me : ℕ) (before : List Entry) (input e : Entry) (outputs : List Entry) (old : Point)
    → AnswersFetches c me before input outputs old → AnswersFetches c me before input (e ∷ outputs) old

abbrev pub AnswersTurn : Type 0
AnswersTurn =
    (c : Configuration) (me : ℕ) (before : List Entry) (input : Entry) (outputs : List Entry) (old : Point)
    → AnswersFetches c me before input outputs old → AnswersFetches c me before input (reverse outputs) old

-- It is exactly the answer that is owed to fetches of digests and of pages.
abbrev pub AnswersInParts : Type 0
AnswersInParts =
    (c : Configuration) (me : ℕ) (before : List Entry) (input : Entry) (outputs : List Entry) (old : Point)
    → AnswersFetches c me before input outputs old
    → ((s k index : ℕ) (level : Level) → has_children level ≡ true
    → Receives c me (record { sender = s; message = Fetch k level index }) before input
    → (st : State) → KeptState c me before old k (λ x. x ≡ st)
    → SendsMessageTo me s (Meta k level index (digests_at st level index)) outputs)
    × ((s k index : ℕ) → Receives c me (record { sender = s; message = Fetch k levels.Page index }) before input
    → (st : State) → KeptState c me before old k (λ x. x ≡ st)
    → SendsMessageTo me s (Page k index (page_text st index)) outputs)
