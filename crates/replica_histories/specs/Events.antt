-- How a replica's desk and log fit its history: within an event, and between two.
use Rattle.std.specs.Prelude.{◌≡◌, ℕ, suc, ◌%◌, ◌≤◌, ◌<◌, ◌⊎◌, Bool, true, false, List, [], ◌∷◌, ◌++◌, Some, None, is_some, ⊤, map}
use Rattle.terms.specs.Parties.{client_party}
use Rattle.tuple_codec.specs.Operations.{Operation}
use Rattle.terms.specs.declared.order.Mode.TheVariants as modes
use Rattle.terms.specs.declared.state.Level.{Level}
use Rattle.terms.specs.declared.state.Level.TheVariants as levels
use Rattle.wire_format.specs.Messages.{BodyData as Body, MessageData as Message, NewViewData, request as Request, reply as Reply, checkpoint as Checkpoint, fetch as Fetch}
use Rattle.signing.specs.AuthenticBody.{authentic}
use Rattle.reply_cache.specs.Replies.{Kept}
use Rattle.ordering.specs.Log as logs
use Rattle.ordering.specs.Log.{LogData}
use Rattle.protocol.specs.System.Configuration.{Configuration, is_number, members}
use Rattle.protocol.specs.System.Trace.{Entry, Once, Has, is_output, Receives}
use Rattle.protocol.specs.System.Trace.Entry.{Got, Tick}
use Rattle.protocol.specs.Replica.Certificates.{low, Committed}
use Rattle.protocol.specs.Replica.State.{State, Call, Ran, kept_of, last_time, root_of}
use Rattle.protocol.specs.Replica.RightReplica.{Point, HistoryReaches, Executes, kept_states, HasSeen, MayReplyOrdered, MayCheckpoint, MayInstall, IsTick, reply_of, IsFree}
use Rattle.protocol.specs.Replica.Transfers.{fetching, asked_last}
use Rattle.protocol.specs.Replica.Owed.{IsNumbered, NumbersOnce, Counts, AreKeysSpent, CanBeginView, HistoryIsPrompt}
use Rattle.replica_histories.specs.Desk.{Desk, snapshot_of, point_of, desk_from}
use Rattle.replica_histories.specs.Logs.{FitsLog}
use Rattle.replica_histories.specs.Transfers.{FitsStateTransfer}
use Rattle.replica_histories.specs.Questions.{AnswersInput}
use Rattle.replica_histories.specs.TransfersQuorums.{QuorumsFetched, FetchesQuorums}
pub use Rattle.replica_histories.specs.Running.{Start, after_outputs, Steps, AtEach, IsOnItsWay}

-- ---- an event

-- the input is a request to which this reply was sent before
abbrev pub IsRepeatedRequest : Configuration → ℕ → Start → ℕ → Kept → Type 0
IsRepeatedRequest c me s k kept =
    (timestamp : ℕ) × (op : Operation)
    × Receives c me (record { sender = client_party k; message = Request timestamp modes.Ordered op }) s.before s.input
    × (kept_of s.old.state k ≡ Some kept) × (kept.timestamp ≡ timestamp)

-- A due message may be sent. It is a reply to a request that ran in the event, or the kept reply to the event's input.
-- Or it is a checkpoint of an executed state, or a fetch of a state that may be installed.
abbrev pub MaySendDue : Configuration → ℕ → List Entry → Point → Message → Type 0
MaySendDue c me past point (Reply client timestamp modes.Ordered number answer) =
    MayReplyOrdered c me past point client timestamp number answer
MaySendDue c me past point (Checkpoint k root) = MayCheckpoint c past point k root × (is_number k ≡ true)
MaySendDue c me past point (Fetch k level index) = (root : List ℕ) × MayInstall c past point k root
MaySendDue c me past point _ = ⊥

-- a message is a fetch
abbrev pub is_fetching : Message → Bool
is_fetching message = elim message [ Fetch k level index ↦ true | _ ↦ false ]

-- Each due message, except a fetch, is due once and was not sent in the event.
abbrev pub AreUnsent : ℕ → List Message → List Entry → Type 0
AreUnsent me [] outputs = ⊤
AreUnsent me (message ∷ due) outputs =
    (is_fetching message ≡ false → IsOnItsWay me due outputs message → ⊥) × AreUnsent me due outputs

-- The event sends nothing twice. Its replies, sent or due, are no newer than their clients' last timestamps. Replies to
-- requests that run next are newer.
pub record SaysOnce (me : ℕ) (s : Start) (st : State) (due : List Message) (outputs : List Entry) : Type 0 where
  pub begins : is_output s.input ≡ false
  pub unsaid : AreUnsent me due outputs
  pub replies : (k : ℕ) (kept : Kept) → IsOnItsWay me due outputs (reply_of k kept) → kept.timestamp ≤ last_time st k

-- a tick began the event, and this place of an open transfer was asked for last
abbrev pub IsAskedOpen : Start → ℕ → Level → ℕ → Type 0
IsAskedOpen s k level index =
    IsTick s.input × (asked_last s.before ≡ Some (k, (level, index))) × (s.old.state.number < k)

-- each stored frame was seen and is authentic
abbrev pub FitsFrames : Configuration → ℕ → Desk → List Entry → Type 0
FitsFrames c me desk history =
    (frame : List ℕ) → Has (λ x. x ≡ frame) desk.frames
    → Once (HasSeen frame) history × (is_some (authentic (members c me) me frame) ≡ true)

-- the kept snapshots are those that the low mark leaves
abbrev pub FitsSnapshots : Configuration → ℕ → Desk → List State → List Entry → Type 0
FitsSnapshots c me desk states history = map snapshot_of (kept_states (low c me history) states) ≡ desk.snapshots

-- The desk fits the history after the outputs. The points lead there, the open transfer has the parts that were
-- received, and what the event owes was sent or is due.
pub record DeskFitsWithinEvent (c : Configuration) (me : ℕ) (s : Start) (desk : Desk) (due : List Message)
    (outputs : List Entry) : Type 0 where
  pub states : List State
  pub ran : List Ran
  pub leaves : HistoryReaches c me s.before s.old
  pub steps : Steps c me s outputs (point_of desk states ran)
  pub kept : FitsSnapshots c me desk states (after_outputs s outputs)
  pub frames : FitsFrames c me desk (after_outputs s outputs)
  pub replies : (r : Ran) → Has (λ x. x ≡ r) ran → IsOnItsWay me due outputs (reply_of r.call.client r.kept)
  pub asked : (k : ℕ) (kept : Kept) → IsRepeatedRequest c me s k kept → IsOnItsWay me due outputs (reply_of k kept)
  pub checkpoints : (k : ℕ) → Has (λ e. Executes k [] e) outputs → k % c.period ≡ 0
      → Has (λ st. (st.number ≡ k) × IsOnItsWay me due outputs (Checkpoint k (root_of st))) states
  pub opened : FitsStateTransfer c me desk.transfer desk.state.number (after_outputs s outputs)
  pub fetches : FetchesQuorums c me s desk.state.number due outputs
  pub fetch_again : (k index : ℕ) (level : Level) → IsAskedOpen s k level index
      → IsOnItsWay me due outputs (Fetch k level index)
  pub rightly : (message : Message) → Has (λ x. x ≡ message) due
      → MaySendDue c me (after_outputs s outputs) (point_of desk states ran) message

-- a state of this number, or of a greater one, was fetched, or the fetch of its root is due
abbrev pub IsFetchedOrDue : ℕ → List Message → List Entry → Type 0
IsFetchedOrDue k due history = (k ≤ fetching history) ⊎ Has (λ x. x ≡ Fetch k levels.Root 0) due

-- The low mark is not above the executed number. Or a state there is being fetched, as when a new view starts above it.
-- Then no batch is committed for the next number, which the log can't have.
abbrev pub LowMarkIsReached : Configuration → ℕ → ℕ → ℕ → List Message → List Entry → Type 0
LowMarkIsReached c me mark number due history =
    (mark ≤ number)
    ⊎ (IsFetchedOrDue mark due history
    × ((v : ℕ) (batch : List ℕ) → Committed c me history v (suc number) batch → ⊥))

-- Desk and log fit the history after the outputs, each on its own. The low mark is reached, no request was numbered
-- twice, and nothing is sent twice.
pub record BothFitWithinEvent (c : Configuration) (me : ℕ) (s : Start) (desk : Desk) (log : LogData)
    (due : List Message)
    (outputs : List Entry) : Type 0 where
  pub of_desk : DeskFitsWithinEvent c me s desk due outputs
  pub of_log : FitsLog c me log (after_outputs s outputs)
  pub low : LowMarkIsReached c me log.low desk.state.number due (after_outputs s outputs)
  pub once : AtEach (NumbersOnce c me) s outputs
  pub says : SaysOnce me s desk.state due outputs

-- ---- the replica owes nothing more

-- The log asks for no vote and has no batch to execute. A primary has assigned numbers to all waiting requests, or has
-- no number.
pub record IsSettled (c : Configuration) (me : ℕ) (desk : Desk) (log : LogData) (history : List Entry) : Type 0 where
  pub prepares : (i : ℕ) → logs.due_prepare log i ≡ None
  pub commits : (i : ℕ) → logs.due_commit log i ≡ None
  pub executes : logs.committed_batch log (suc desk.state.number) ≡ None
  pub numbers : (i : ℕ) (call : Call) → log.active ≡ true → logs.primary log log.view ≡ log.me
      → Has (λ x. x ≡ call) desk.waiting
      → IsFree c me history desk.state.number log.view i → IsNumbered c me history log.view call.client call.timestamp

-- the replica has no new view left to send, unless its keys are spent
abbrev pub LeavesNoView : Configuration → ℕ → List Entry → Type 0
LeavesNoView c me history = (new : NewViewData) → CanBeginView c me history new → AreKeysSpent history

-- a rule takes the input
abbrev pub IsTaken : Configuration → ℕ → Start → Type 0
IsTaken c me s = elim s.input [
  | Got p bytes ↦ (body : Body) × (authentic (members c me) me bytes ≡ Some body)
      × Counts c me s.before s.old bytes body.sender body.message
  | Tick p ↦ ⊤
  | _ ↦ ⊥
]

-- ---- between events

-- The desk fits a correct replica's history at the end of an event: its transfer has the parts that were received, and
-- the state of each quorum of checkpoints above the executed number was fetched.
pub record DeskFitsBetweenEvents (c : Configuration) (me : ℕ) (desk : Desk) (history : List Entry) : Type 0 where
  pub point : Point
  pub proceeds : HistoryIsPrompt c me history [] point point
  pub is : point ≡ point_of desk point.snapshots point.ran
  pub kept : FitsSnapshots c me desk point.snapshots history
  pub frames : FitsFrames c me desk history
  pub opened : FitsStateTransfer c me desk.transfer desk.state.number history
  pub fetches : QuorumsFetched c desk.state.number history

-- The log fits the same history, and asks for no vote. It knows no point and no state.
pub record LogFitsBetweenEvents (c : Configuration) (me : ℕ) (log : LogData) (history : List Entry) : Type 0 where
  pub fits : FitsLog c me log history
  pub prepares : (i : ℕ) → logs.due_prepare log i ≡ None
  pub commits : (i : ℕ) → logs.due_commit log i ≡ None

-- Desk and log fit one history, and the low mark is reached.
pub record BothFitBetweenEvents (c : Configuration) (me : ℕ) (desk : Desk) (log : LogData)
    (history : List Entry) : Type 0 where
  pub of_desk : DeskFitsBetweenEvents c me desk history
  pub of_log : LogFitsBetweenEvents c me log history
  pub low : LowMarkIsReached c me log.low desk.state.number [] history

-- the start of an event after a history that they fit
abbrev pub start_at : (c : Configuration) (me : ℕ) (desk : Desk) (log : LogData) (past : List Entry)
    → BothFitBetweenEvents c me desk log past → Entry → Start
start_at c me desk log past held input = record { before = past; input = input; old = held.of_desk.point }

-- ---- laws

-- An event ends if both fit it, nothing is due, the replica owes nothing more, the input is answered, and no new view
-- is left to send. Then both fit the longer history.
abbrev pub EventsEnd : Type 0
EventsEnd =
    (c : Configuration) (me : ℕ) (desk new : Desk) (log after : LogData) (past outputs : List Entry) (input : Entry)
    (held : BothFitBetweenEvents c me desk log past)
    → BothFitWithinEvent c me (start_at c me desk log past held input) new after [] outputs
    → IsSettled c me new after (outputs ++ input ∷ past)
    → AnswersInput c me past input outputs held.of_desk.point new.state.number
    → LeavesNoView c me (outputs ++ input ∷ past)
    → is_output input ≡ false
    → (outputs ≡ []) ⊎ IsTaken c me (start_at c me desk log past held input)
    → BothFitBetweenEvents c me new after (outputs ++ input ∷ past)

-- Between events the replica owes nothing.
abbrev pub HeldAreStabilized : Type 0
HeldAreStabilized =
    (c : Configuration) (me : ℕ) (desk : Desk) (log : LogData) (history : List Entry)
    → BothFitBetweenEvents c me desk log history
    → IsSettled c me desk log history

-- No kept snapshot is below the low mark.
abbrev pub KeptAreAbove : Type 0
KeptAreAbove =
    (c : Configuration) (me : ℕ) (desk : Desk) (log : LogData) (states : List State) (history : List Entry)
    → FitsLog c me log history → FitsSnapshots c me desk states history → desk_from log.low desk ≡ desk
