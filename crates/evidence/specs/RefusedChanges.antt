-- Small histories that the definitions of view changes, calls, dropped inputs and waiting requests refuse.
use Rattle.std.specs.Prelude.{◌≡◌, ◌≢◌, ℕ, suc, ◌+◌, ◌*◌, ◌/◌, ◌%◌, ◌^◌, ◌≤◌, ◌<◌, ◌⊎◌, Bool, true, false, not, ◌&&◌, ◌==◌, nat_lt, max, List, [], ◌∷◌, ◌++◌, slice_get, Some, None}
use Rattle.terms.specs.Parties.{client_party}
use Rattle.terms.specs.declared.parties.TheConstants.{FIRST_CLIENT}
use Rattle.sha2.specs.Sha256.{sha256}
use Rattle.quorum.specs.Quorum.{count_below}
use Rattle.tuple_codec.specs.Operations.{Operation, IsOperation}
use Rattle.space.specs.Applying.{is_read_only}
use Rattle.partition_tree.specs.Digests.{digest_of_children}
use Rattle.protocol.specs.System.Configuration.{Configuration, primary, members, replicas}
use Rattle.terms.specs.declared.order.Mode.TheVariants as modes
use Rattle.terms.specs.declared.state.Level.{Level}
use Rattle.terms.specs.declared.state.Level.TheVariants as levels
use Rattle.wire_format.specs.Messages.{MessageData as Message, ViewChangeData, NewViewData, CheckpointEntryData as CheckpointEntry, BatchEntryData as BatchEntry, request as Request, pre_prepare as PrePrepare, prepare as Prepare, commit as Commit, checkpoint as Checkpoint, view_change as ViewChange, new_view as NewView, fetch as Fetch, meta as Meta, page as Page}
use Rattle.signing.specs.AuthenticBody.{authentic}
use Rattle.wire_format.specs.Words.{said}
use Rattle.protocol.specs.System.Trace.{Entry, Once, Has, Receives}
use Rattle.protocol.specs.System.Trace.Entry.{Invoke, Got, Tick, Sent}
use Rattle.protocol.specs.Replica.Selection.{signed_change, is_within}
use Rattle.protocol.specs.Replica.Certificates.{low, view, target, latest_change, is_active_in, is_in_marks, logged, prepare_of, commit_of, checkpoints_of, taken}
use Rattle.protocol.specs.Replica.State.{Call, last_time}
use Rattle.protocol.specs.Replica.RightReplica.{SafeReplica, SentBefore, HadQuorum, StartsAt}
use Rattle.protocol.specs.Client.RightClient.{OpenCall, open_call, last_call, IsClient}
use Rattle.protocol.specs.Replica.Owed.{IsSending, IsReplica}
use Rattle.evidence.specs.Refused.{AtEachPoint, EachKept, newest_number}
use Rattle.wire_format.specs.Lists.{Each}

-- ---- view changes

-- The newest entry sends a view change that was not sent before.
pub record SendsNewChange (c : Configuration) (me : ℕ) (vc : ViewChangeData) (bytes : List ℕ)
    (past : List Entry) : Type 0 where
  pub says : said bytes ≡ Some (record { sender = me; message = ViewChange vc })
  pub is_new : SentBefore bytes past → ⊥
  pub is_safe : SafeReplica c me (Sent me bytes ∷ past)

-- A new view change for its sender's own view, or one below it.
abbrev pub ChangesAboveView : Type 0
ChangesAboveView =
    (c : Configuration) (me : ℕ) (vc : ViewChangeData) (bytes : List ℕ) (past : List Entry)
    → SendsNewChange c me vc bytes past → view c past < vc.view

-- A new view change for a view at or below that of an earlier one.
abbrev pub ChangesAboveEarlier : Type 0
ChangesAboveEarlier =
    (c : Configuration) (me : ℕ) (vc earlier : ViewChangeData) (bytes : List ℕ) (past : List Entry)
    → SendsNewChange c me vc bytes past
    → Once (λ before. IsSending me (ViewChange earlier)) past → earlier.view < vc.view

-- A new view change for a view at or above 2^48.
abbrev pub ChangesToNumbers : Type 0
ChangesToNumbers =
    (c : Configuration) (me : ℕ) (vc : ViewChangeData) (bytes : List ℕ) (past : List Entry)
    → SendsNewChange c me vc bytes past → vc.view < 2 ^ 48

-- the batch entry's number is in the marks
abbrev pub IsInMarks : Configuration → ℕ → List Entry → BatchEntry → Type 0
IsInMarks c me past batch_entry =
    (low c me past < batch_entry.number) × (batch_entry.number ≤ low c me past + 2 * c.period)
    × (batch_entry.number < 2 ^ 48)

-- A new view change with a prepared, or a pre-prepared, entry of a number outside the marks.
abbrev pub BatchEntriesPreparedInMarks : Type 0
BatchEntriesPreparedInMarks =
    (c : Configuration) (me : ℕ) (vc : ViewChangeData) (batch_entry : BatchEntry) (bytes : List ℕ) (past : List Entry)
    → SendsNewChange c me vc bytes past
    → Has (λ x. x ≡ batch_entry) vc.prepared → IsInMarks c me past batch_entry

abbrev pub BatchEntriesProposedInMarks : Type 0
BatchEntriesProposedInMarks =
    (c : Configuration) (me : ℕ) (vc : ViewChangeData) (batch_entry : BatchEntry) (bytes : List ℕ) (past : List Entry)
    → SendsNewChange c me vc bytes past
    → Has (λ x. x ≡ batch_entry) vc.pre_prepared → IsInMarks c me past batch_entry

-- A new view change whose prepared entries don't ascend, as two of one number.
abbrev pub BatchEntriesAscend : Type 0
BatchEntriesAscend =
    (c : Configuration) (me i j : ℕ) (vc : ViewChangeData) (a b : BatchEntry) (bytes : List ℕ) (past : List Entry)
    → SendsNewChange c me vc bytes past
    → i < j → slice_get vc.prepared i ≡ Some a → slice_get vc.prepared j ≡ Some b → a.number < b.number

-- A new view change with two pre-prepared entries of one number and digest.
abbrev pub BatchEntriesDiffer : Type 0
BatchEntriesDiffer =
    (c : Configuration) (me i j : ℕ) (vc : ViewChangeData) (a b : BatchEntry) (bytes : List ℕ) (past : List Entry)
    → SendsNewChange c me vc bytes past
    → i < j → slice_get vc.pre_prepared i ≡ Some a → slice_get vc.pre_prepared j ≡ Some b → a.number ≡ b.number
    → a.digest ≢ b.digest

-- A view change that its sender sends again, and that is not the last that it sent.
abbrev pub ChangesAgainLast : Type 0
ChangesAgainLast =
    (c : Configuration) (me : ℕ) (vc earlier : ViewChangeData) (bytes : List ℕ) (past : List Entry)
    → said bytes ≡ Some (record { sender = me; message = ViewChange vc }) → SentBefore bytes past
    → SafeReplica c me (Sent me bytes ∷ past)
    → Once (λ before. IsSending me (ViewChange earlier)) past → earlier.view ≤ vc.view

-- ---- why a view change is sent

-- A new view change at the first tick, when nothing waits; or at a first frame that is none.
abbrev pub NoChangeAtFirst : Type 0
NoChangeAtFirst =
    (c : Configuration) (me : ℕ) (vc : ViewChangeData) (bytes : List ℕ) → SendsNewChange c me vc bytes (Tick me ∷ [])
    → ⊥

abbrev pub NoChangeAtFrame : Type 0
NoChangeAtFrame =
    (c : Configuration) (me : ℕ) (vc : ViewChangeData) (bytes frame : List ℕ) → signed_change c frame ≡ None
    → SendsNewChange c me vc bytes (Got me frame ∷ []) → ⊥

-- how many others have their latest view change above the view
abbrev pub count_above : Configuration → ℕ → List Entry → ℕ → ℕ
count_above c me past v = count_below (λ s. not (s == me) && nat_lt v (latest_change c past s)) (replicas c)

-- At bytes that the replica receives, a new view change while fewer than f + 1 others are above the view and all
-- earlier targets, or for a later view than one of them.
abbrev pub ChangesJoinEnough : Type 0
ChangesJoinEnough =
    (c : Configuration) (me : ℕ) (vc : ViewChangeData) (bytes frame : List ℕ) (past : List Entry)
    → SendsNewChange c me vc bytes (Got me frame ∷ past)
    → c.faults < count_above c me (Got me frame ∷ past)
    (max (view c (Got me frame ∷ past)) (target (Got me frame ∷ past)))

abbrev pub ChangesJoinLeast : Type 0
ChangesJoinLeast =
    (c : Configuration) (me s : ℕ) (vc : ViewChangeData) (bytes frame : List ℕ) (past : List Entry)
    → SendsNewChange c me vc bytes (Got me frame ∷ past) → s < replicas c → s ≢ me
    → max (view c (Got me frame ∷ past)) (target (Got me frame ∷ past)) < latest_change c (Got me frame ∷ past) s
    → vc.view ≤ latest_change c (Got me frame ∷ past) s

-- At a tick, with no others to join, a new view change for another view than the next.
abbrev pub TicksMoveByOne : Type 0
TicksMoveByOne =
    (c : Configuration) (me : ℕ) (vc : ViewChangeData) (bytes : List ℕ) (past : List Entry)
    → SendsNewChange c me vc bytes (Tick me ∷ past)
    → count_above c me (Tick me ∷ past) (max (view c (Tick me ∷ past)) (target (Tick me ∷ past))) ≤ c.faults
    → vc.view ≡ suc (max (view c past) (target past))

-- ---- calls, of a client of either kind

-- A call while another is open.
abbrev pub NoCallWhileOpen : Type 0
NoCallWhileOpen =
    (c : Configuration) (me client timestamp : ℕ) (call : OpenCall) (op : Operation) (later past : List Entry)
    → open_call past ≡ Some call → IsClient c me (later ++ Invoke client timestamp op ∷ past) → ⊥

-- A call with another timestamp than the next one.
abbrev pub CallsCount : Type 0
CallsCount =
    (c : Configuration) (me client timestamp : ℕ) (op : Operation) (later past : List Entry)
    → IsClient c me (later ++ Invoke client timestamp op ∷ past) → timestamp ≡ suc (last_call past)

-- A call of an operation beyond the limits.
abbrev pub CallsOperations : Type 0
CallsOperations =
    (c : Configuration) (me client timestamp : ℕ) (op : Operation) (later past : List Entry)
    → IsClient c me (later ++ Invoke client timestamp op ∷ past) → IsOperation op

-- ---- inputs that a correct replica drops

-- The input, of this sender and message, is answered by a frame.
pub record FrameAnswersInput (c : Configuration) (me s : ℕ) (message : Message) (bytes : List ℕ)
    (past : List Entry) : Type 0 where
  pub receives : authentic (members c me) me bytes ≡ Some (record { sender = s; message = message })
  pub later : List ℕ
  pub is_replica : IsReplica c me (Sent me later ∷ Got me bytes ∷ past)

-- A read-only request of an operation that is no read.
abbrev pub DropsWrites : Type 0
DropsWrites =
    (c : Configuration) (me s timestamp : ℕ) (op : Operation) (bytes : List ℕ) (past : List Entry)
    → is_read_only op ≡ false → FrameAnswersInput c me s (Request timestamp modes.ReadOnly op) bytes past → ⊥

-- An ordered request by a replica.
abbrev pub DropsRequestsOfReplicas : Type 0
DropsRequestsOfReplicas =
    (c : Configuration) (me s timestamp : ℕ) (op : Operation) (bytes : List ℕ) (past : List Entry)
    → s < FIRST_CLIENT → FrameAnswersInput c me s (Request timestamp modes.Ordered op) bytes past → ⊥

-- An ordered request older than the client's last.
abbrev pub DropsOldRequests : Type 0
DropsOldRequests =
    (c : Configuration) (me k timestamp : ℕ) (op : Operation) (bytes : List ℕ) (past : List Entry)
    → AtEachPoint c me past (λ point. timestamp < last_time point.state k)
    → FrameAnswersInput c me (client_party k) (Request timestamp modes.Ordered op) bytes past → ⊥

-- An ordered request older than one of the client's that waits, or another of its timestamp, and not the last that ran.
abbrev pub DropsPassedRequests : Type 0
DropsPassedRequests =
    (c : Configuration) (me k timestamp : ℕ) (op : Operation) (bytes : List ℕ) (past : List Entry)
    → AtEachPoint c me past
    (λ point. (last_time point.state k ≢ timestamp)
    × Has (λ call. (call.client ≡ k) × (timestamp ≤ call.timestamp)
    × (call.timestamp ≡ timestamp → call.op ≢ op)) point.waiting)
    → FrameAnswersInput c me (client_party k) (Request timestamp modes.Ordered op) bytes past → ⊥

-- A pre-prepare by another than the view's primary, one while not active in the view, one outside the marks, and a
-- second one for a number that is logged.
abbrev pub DropsPrePreparesOfBackups : Type 0
DropsPrePreparesOfBackups =
    (c : Configuration) (me s v i : ℕ) (batch bytes : List ℕ) (past : List Entry)
    → primary c v ≢ s → FrameAnswersInput c me s (PrePrepare v i batch) bytes past → ⊥

abbrev pub DropsPrePreparesWhileInactive : Type 0
DropsPrePreparesWhileInactive =
    (c : Configuration) (me s v i : ℕ) (batch bytes : List ℕ) (past : List Entry)
    → is_active_in c past v ≡ false → FrameAnswersInput c me s (PrePrepare v i batch) bytes past → ⊥

abbrev pub DropsPrePreparesOutsideMarks : Type 0
DropsPrePreparesOutsideMarks =
    (c : Configuration) (me s v i : ℕ) (batch bytes : List ℕ) (past : List Entry)
    → is_in_marks c (low c me past) i ≡ false → FrameAnswersInput c me s (PrePrepare v i batch) bytes past → ⊥

abbrev pub DropsSecondPrePrepares : Type 0
DropsSecondPrePrepares =
    (c : Configuration) (me s v i : ℕ) (batch other bytes : List ℕ) (past : List Entry)
    → logged c me past v i ≡ Some other → FrameAnswersInput c me s (PrePrepare v i batch) bytes past → ⊥

-- A prepare by the view's primary; a prepare, or a commit, while not active in the view; and a replica's second for one
-- view and number.
abbrev pub DropsPreparesOfPrimaries : Type 0
DropsPreparesOfPrimaries =
    (c : Configuration) (me s v i : ℕ) (digest bytes : List ℕ) (past : List Entry)
    → primary c v ≡ s → FrameAnswersInput c me s (Prepare v i digest) bytes past → ⊥

abbrev pub DropsPreparesWhileInactive : Type 0
DropsPreparesWhileInactive =
    (c : Configuration) (me s v i : ℕ) (digest bytes : List ℕ) (past : List Entry)
    → is_active_in c past v ≡ false → FrameAnswersInput c me s (Prepare v i digest) bytes past → ⊥

abbrev pub DropsSecondPrepares : Type 0
DropsSecondPrepares =
    (c : Configuration) (me s v i : ℕ) (digest first bytes : List ℕ) (past : List Entry)
    → prepare_of c me past v i s ≡ Some first → FrameAnswersInput c me s (Prepare v i digest) bytes past → ⊥

abbrev pub DropsCommitsWhileInactive : Type 0
DropsCommitsWhileInactive =
    (c : Configuration) (me s v i : ℕ) (digest bytes : List ℕ) (past : List Entry)
    → is_active_in c past v ≡ false → FrameAnswersInput c me s (Commit v i digest) bytes past → ⊥

abbrev pub DropsSecondCommits : Type 0
DropsSecondCommits =
    (c : Configuration) (me s v i : ℕ) (digest first bytes : List ℕ) (past : List Entry)
    → commit_of c me past v i s ≡ Some first → FrameAnswersInput c me s (Commit v i digest) bytes past → ⊥

-- A checkpoint at or below the low mark, of no number, or of a number of which the sender's was received before; and
-- one below the three that are kept of its sender.
abbrev pub DropsLowCheckpoints : Type 0
DropsLowCheckpoints =
    (c : Configuration) (me s k : ℕ) (root bytes : List ℕ) (past : List Entry)
    → k ≤ low c me past → FrameAnswersInput c me s (Checkpoint k root) bytes past → ⊥

abbrev pub DropsCheckpointsOfNoNumber : Type 0
DropsCheckpointsOfNoNumber =
    (c : Configuration) (me s k : ℕ) (root bytes : List ℕ) (past : List Entry)
    → 2 ^ 48 ≤ k → FrameAnswersInput c me s (Checkpoint k root) bytes past → ⊥

abbrev pub DropsSecondCheckpoints : Type 0
DropsSecondCheckpoints =
    (c : Configuration) (me s k : ℕ) (root bytes : List ℕ) (past : List Entry)
    → Has (λ (checkpoint : CheckpointEntry). checkpoint.number ≡ k) (checkpoints_of c past s)
    → FrameAnswersInput c me s (Checkpoint k root) bytes past → ⊥

abbrev pub DropsPassedCheckpoints : Type 0
DropsPassedCheckpoints =
    (c : Configuration) (me s k : ℕ) (root bytes : List ℕ) (a b d : CheckpointEntry) (past : List Entry)
    → checkpoints_of c past s ≡ a ∷ b ∷ d ∷ [] → k < d.number → d.number < b.number → b.number < a.number
    → FrameAnswersInput c me s (Checkpoint k root) bytes past → ⊥

-- A view change not above the view, and one beyond its bounds.
abbrev pub DropsLowChanges : Type 0
DropsLowChanges =
    (c : Configuration) (me s : ℕ) (vc : ViewChangeData) (bytes : List ℕ) (past : List Entry)
    → vc.view ≤ view c past → FrameAnswersInput c me s (ViewChange vc) bytes past → ⊥

abbrev pub DropsUnboundChanges : Type 0
DropsUnboundChanges =
    (c : Configuration) (me s : ℕ) (vc : ViewChangeData) (bytes : List ℕ) (past : List Entry)
    → is_within c vc ≡ false → FrameAnswersInput c me s (ViewChange vc) bytes past → ⊥

-- a party receives a view change within its bounds, signed by the replica
abbrev pub GotChange : Configuration → ℕ → ViewChangeData → List Entry → Entry → Type 0
GotChange c s vc past (Got p bytes) = (signed_change c bytes ≡ Some (s, vc)) × (is_within c vc ≡ true)
GotChange c s vc past _ = ⊥

-- A view change not above another that its sender signed.
abbrev pub DropsPassedChanges : Type 0
DropsPassedChanges =
    (c : Configuration) (me s : ℕ) (vc earlier : ViewChangeData) (bytes : List ℕ) (past : List Entry)
    → Once (GotChange c s earlier) past → vc.view ≤ earlier.view → FrameAnswersInput c me s (ViewChange vc) bytes past
    → ⊥

-- A new view that is not taken.
abbrev pub DropsNewViews : Type 0
DropsNewViews =
    (c : Configuration) (me s : ℕ) (new : NewViewData) (bytes : List ℕ) (past : List Entry)
    → taken c past (Got me bytes) ≡ None → FrameAnswersInput c me s (NewView new) bytes past → ⊥

-- A fetch of a number of which no state is kept.
abbrev pub DropsFetches : Type 0
DropsFetches =
    (c : Configuration) (me s k index : ℕ) (level : Level) (bytes : List ℕ) (past : List Entry)
    → EachKept c me past (λ st. st.number ≢ k) → FrameAnswersInput c me s (Fetch k level index) bytes past → ⊥

-- Digests, or a page, of a number not above the state's.
abbrev pub DropsLowDigests : Type 0
DropsLowDigests =
    (c : Configuration) (me s k index : ℕ) (level : Level) (digests : List (List ℕ)) (bytes : List ℕ)
    (past : List Entry)
    → k ≤ newest_number past → FrameAnswersInput c me s (Meta k level index digests) bytes past → ⊥

abbrev pub DropsLowPages : Type 0
DropsLowPages =
    (c : Configuration) (me s k index : ℕ) (text bytes : List ℕ) (past : List Entry)
    → k ≤ newest_number past → FrameAnswersInput c me s (Page k index text) bytes past → ⊥

-- the root is that of no quorum of checkpoints, and of no new view's start
abbrev pub IsNoRoot : Configuration → List Entry → ℕ → List ℕ → Type 0
IsNoRoot c past k root =
    (HadQuorum c (record { number = k; digest = root }) past → ⊥) × (Once (StartsAt c k root) past → ⊥)

-- the replica received the digests below a place
abbrev pub GotDigests : Configuration → ℕ → List Entry → Level → ℕ → List (List ℕ) → Type 0
GotDigests c me past level index digests =
    (s n : ℕ) × Once (Receives c me (record { sender = s; message = Meta n level index digests })) past

-- Digests of another root.
abbrev pub DropsOtherRoots : Type 0
DropsOtherRoots =
    (c : Configuration) (me s k index : ℕ) (digests : List (List ℕ)) (bytes : List ℕ) (past : List Entry)
    → IsNoRoot c past k (digest_of_children digests)
    → FrameAnswersInput c me s (Meta k levels.Root index digests) bytes past → ⊥

-- Digests of an inner part that no root's got digests say.
abbrev pub DropsOtherDigests : Type 0
DropsOtherDigests =
    (c : Configuration) (me s k index : ℕ) (digests : List (List ℕ)) (bytes : List ℕ) (past : List Entry)
    → ((upper : List (List ℕ)) → GotDigests c me past levels.Root 0 upper
    → slice_get upper index ≡ Some (digest_of_children digests) → IsNoRoot c past k (digest_of_children upper))
    → FrameAnswersInput c me s (Meta k levels.Inner index digests) bytes past → ⊥

-- A page that no got digests say which a root's got digests say.
abbrev pub DropsOtherPages : Type 0
DropsOtherPages =
    (c : Configuration) (me s k index : ℕ) (text bytes : List ℕ) (past : List Entry)
    → ((upper lower : List (List ℕ)) → GotDigests c me past levels.Root 0 upper
    → GotDigests c me past levels.Inner (index / 32) lower
    → slice_get upper (index / 32) ≡ Some (digest_of_children lower) → slice_get lower (index % 32) ≡ Some (sha256 text)
    → IsNoRoot c past k (digest_of_children upper))
    → FrameAnswersInput c me s (Page k index text) bytes past → ⊥

-- ---- requests that wait. A right primary numbers each (NumbersWaiting of Refused).

-- An authentic request of a client that is newer than the client's last and than those of it that wait, and doesn't
-- wait.
abbrev pub WaitsOnceGot : Type 0
WaitsOnceGot =
    (c : Configuration) (me k timestamp : ℕ) (op : Operation) (bytes : List ℕ) (past : List Entry)
    → authentic (members c me) me bytes
    ≡ Some (record { sender = client_party k; message = Request timestamp modes.Ordered op })
    → k < c.clients
    → AtEachPoint c me past
    (λ point. (last_time point.state k < timestamp)
    × Each (λ call. call.client ≡ k → call.timestamp < timestamp) point.waiting)
    → AtEachPoint c me (Got me bytes ∷ past)
    (λ point. Has (λ call. call ≡ record { client = k; timestamp = timestamp; op = op }) point.waiting)

-- A request that waits no more once the replica receives a frame, though no newer one of its client waits.
abbrev pub WaitsOverFrames : Type 0
WaitsOverFrames =
    (c : Configuration) (me : ℕ) (call : Call) (bytes : List ℕ) (past : List Entry)
    → AtEachPoint c me past (λ point. Has (λ x. x ≡ call) point.waiting)
    → AtEachPoint c me (Got me bytes ∷ past)
    (λ point. Has (λ x. (x ≡ call) ⊎ ((x.client ≡ call.client) × (call.timestamp < x.timestamp))) point.waiting)

-- no party receives a frame
abbrev pub is_other : Entry → Bool
is_other e = elim e [ Got p bytes ↦ false | _ ↦ true ]

-- A request that waits no more over another entry, as an installation, though its client's last is still older.
abbrev pub WaitsUntilRun : Type 0
WaitsUntilRun =
    (c : Configuration) (me : ℕ) (call : Call) (e : Entry) (past : List Entry) → is_other e ≡ true
    → AtEachPoint c me past (λ point. Has (λ x. x ≡ call) point.waiting)
    → AtEachPoint c me (e ∷ past)
    (λ point. last_time point.state call.client < call.timestamp → Has (λ x. x ≡ call) point.waiting)

-- A request that still waits though it ran, or a newer one of its client did.
abbrev pub WaitsNoLonger : Type 0
WaitsNoLonger =
    (c : Configuration) (me : ℕ) (past : List Entry)
    → AtEachPoint c me past (λ point. Each (λ call. last_time point.state call.client < call.timestamp) point.waiting)
