-- Small histories that the definitions refuse: what wrong replicas, primaries and clients would make.
use Rattle.std.specs.Prelude.{◌≡◌, ◌≢◌, ℕ, suc, ◌+◌, ◌-◌, ◌*◌, ◌%◌, ◌^◌, ◌≤◌, ◌<◌, ◌⊎◌, true, false, Bool, List, [], ◌∷◌, ◌++◌, length, map, slice_get, slice_index_or, Some, None, fold, ⊤, All}
use Rattle.terms.specs.Parties.{client_number, client_party}
use Rattle.sha2.specs.Sha256.{sha256}
use Rattle.partition_tree.specs.Digests.{inner_digest, digest_of_children, root_of as root_of_pages}
use Rattle.tuple_codec.specs.Operations.{Operation, Outcome}
use Rattle.space.specs.Applying.{outcome, is_read_only}
use Rattle.wire_format.specs.Words.{requests_of, frame_of, said}
use Rattle.tuple_codec.specs.Spelling.{outcome_spelling}
use Rattle.terms.specs.declared.order.Mode.{Mode}
use Rattle.terms.specs.declared.state.Level.{Level}
use Rattle.terms.specs.declared.state.Level.TheVariants as levels
use Rattle.quorum.specs.Quorum.{count_below}
use Rattle.protocol.specs.System.Configuration.{Configuration, IsConfiguration, replicas, primary, members}
use Rattle.terms.specs.declared.order.Mode.TheVariants as modes
use Rattle.wire_format.specs.Messages.{BodyData as Body, FrameData as Frame, MacData, macs, signature, ViewChangeData, NewViewData, BatchEntryData as BatchEntry, request as Request, pre_prepare as PrePrepare, prepare as Prepare, commit as Commit, checkpoint as Checkpoint, view_change as ViewChange, new_view as NewView, reply as Reply, fetch as Fetch, meta as Meta, page as Page}
use Rattle.authenticator.specs.Authentic.{mac_of}
use Rattle.signing.specs.AuthenticBody.{has_signature, authentic}
use Rattle.protocol.specs.System.Frames.{leaf_of}
use Rattle.protocol.specs.System.Trace.{Entry, is_output, Once, Always, Has, AreOutputs, Receives}
use Rattle.protocol.specs.System.Trace.Entry.{Got, Tick, Executed, Installed, Sent, Accepted}
use Rattle.wire_format.specs.Spelling.{has_children}
use Rattle.protocol.specs.Replica.Selection.{is_quorum, is_within, changes_of, null_batch}
use Rattle.protocol.specs.Replica.Certificates.{count_checkpoints, latest_change, low, is_in_marks, is_active_in, logged, taken, target, view, Prepared, Committed}
use Rattle.reply_cache.specs.Replies.{Kept}
use Rattle.space.specs.Births.{SpaceState}
use Rattle.space.specs.Pages.{header_text}
use Rattle.protocol.specs.Replica.State.{State, Call, call_of, Ran, run_frame, ran_in, kept_of, last_time, tuples, root_of, all_pages, page_text}
use Rattle.protocol.specs.Replica.RightReplica.{Point, HistoryReaches, SafeReplica, Executes, GetsPage, WasAsked, SentBefore, HadQuorum, StartsAt, IsStep, IsInstalled, IsRootWanted, kept_states, digests_at, reply_of, IsNewViewChange, TimesOut, JoinsOthers}
use Rattle.protocol.specs.Client.RightClient.{SafeClient}
use Rattle.protocol.specs.Replica.Transfers.{fetch_sent, fetching, asked_last, in_place}
use Rattle.protocol.specs.Replica.Owed.{IsSending, SendsMessage, SendsMessageTo, HasRequest, IsNumbered, IsPageWanted, IsReplica}

-- nothing is executed here, nor installed
abbrev pub NoExecution : List Entry → Entry → Type 0
NoExecution past (Executed r k batch) = ⊥
NoExecution past (Installed r k root) = ⊥
NoExecution past _ = ⊤

-- nothing is installed here
abbrev pub NoInstallation : List Entry → Entry → Type 0
NoInstallation past (Installed r k root) = ⊥
NoInstallation past _ = ⊤

-- what holds of each point at which the history may leave the replica
abbrev pub AtEachPoint : Configuration → ℕ → List Entry → (Point → Type 0) → Type 0
AtEachPoint c me history P = (point : Point) → HistoryReaches c me history point → P point

-- ---- a replica

-- An answer from a batch that is at most prepared: before anything is executed no ordered reply is sent.
abbrev pub RepliesAfterExecution : Type 0
RepliesAfterExecution =
    (c : Configuration) (me client timestamp number : ℕ) (answer : Outcome) (bytes : List ℕ) (past : List Entry)
    → said bytes ≡ Some (record { sender = me; message = Reply client timestamp modes.Ordered number answer })
    → Always NoExecution past → SafeReplica c me (Sent me bytes ∷ past) → ⊥

-- A commit of a view after a view change above it, and a prepare.
abbrev pub NoCommitAfterChange : Type 0
NoCommitAfterChange =
    (c : Configuration) (me v i : ℕ) (digest bytes : List ℕ) (vc : ViewChangeData) (past : List Entry)
    → said bytes ≡ Some (record { sender = me; message = Commit v i digest })
    → Once (λ earlier. IsSending me (ViewChange vc)) past → v < vc.view → SafeReplica c me (Sent me bytes ∷ past) → ⊥

abbrev pub NoPrepareAfterChange : Type 0
NoPrepareAfterChange =
    (c : Configuration) (me v i : ℕ) (digest bytes : List ℕ) (vc : ViewChangeData) (past : List Entry)
    → said bytes ≡ Some (record { sender = me; message = Prepare v i digest })
    → Once (λ earlier. IsSending me (ViewChange vc)) past → v < vc.view → SafeReplica c me (Sent me bytes ∷ past) → ⊥

-- A checkpoint of a number that was never executed.
abbrev pub NoEarlyCheckpoint : Type 0
NoEarlyCheckpoint =
    (c : Configuration) (me k : ℕ) (root bytes : List ℕ) (past : List Entry)
    → said bytes ≡ Some (record { sender = me; message = Checkpoint k root })
    → (Once (Executes k) past → ⊥) → SafeReplica c me (Sent me bytes ∷ past) → ⊥

-- Two pre-prepares of one number of a view.
abbrev pub OnePrePrepare : Type 0
OnePrePrepare =
    (c : Configuration) (me v i : ℕ) (a b bytes : List ℕ) (past : List Entry)
    → said bytes ≡ Some (record { sender = me; message = PrePrepare v i b })
    → Once (λ earlier. IsSending me (PrePrepare v i a)) past → SafeReplica c me (Sent me bytes ∷ past) → a ≡ b

-- A prepare by the primary.
abbrev pub NoPrepareByPrimary : Type 0
NoPrepareByPrimary =
    (c : Configuration) (me v i : ℕ) (digest bytes : List ℕ) (past : List Entry)
    → said bytes ≡ Some (record { sender = me; message = Prepare v i digest })
    → primary c v ≡ me → SafeReplica c me (Sent me bytes ∷ past) → ⊥

-- A pre-prepare over a request that is not authentic to the primary.
abbrev pub ProposesAuthentic : Type 0
ProposesAuthentic =
    (c : Configuration) (me v i : ℕ) (batch bytes request : List ℕ) (past : List Entry)
    → said bytes ≡ Some (record { sender = me; message = PrePrepare v i batch })
    → SafeReplica c me (Sent me bytes ∷ past)
    → Has (λ x. x ≡ request) (requests_of batch) → (body : Body) × (authentic (members c me) me request ≡ Some body)

-- A pre-prepare by another than the view's primary, for a number outside the marks, or of a view after a view change
-- above it.
abbrev pub PrePreparesAsPrimary : Type 0
PrePreparesAsPrimary =
    (c : Configuration) (me v i : ℕ) (batch bytes : List ℕ) (past : List Entry)
    → said bytes ≡ Some (record { sender = me; message = PrePrepare v i batch })
    → SafeReplica c me (Sent me bytes ∷ past) → primary c v ≡ me

abbrev pub PrePreparesInMarks : Type 0
PrePreparesInMarks =
    (c : Configuration) (me v i : ℕ) (batch bytes : List ℕ) (past : List Entry)
    → said bytes ≡ Some (record { sender = me; message = PrePrepare v i batch })
    → SafeReplica c me (Sent me bytes ∷ past)
    → (low c me past < i) × (i ≤ low c me past + 2 * c.period) × (i < 2 ^ 48)

abbrev pub NoPrePrepareAfterChange : Type 0
NoPrePrepareAfterChange =
    (c : Configuration) (me v i : ℕ) (batch bytes : List ℕ) (vc : ViewChangeData) (past : List Entry)
    → said bytes ≡ Some (record { sender = me; message = PrePrepare v i batch })
    → Once (λ earlier. IsSending me (ViewChange vc)) past → v < vc.view → SafeReplica c me (Sent me bytes ∷ past) → ⊥

-- A checkpoint of a number that is no multiple of the period.
abbrev pub CheckpointsMultiples : Type 0
CheckpointsMultiples =
    (c : Configuration) (me k : ℕ) (root bytes : List ℕ) (past : List Entry)
    → said bytes ≡ Some (record { sender = me; message = Checkpoint k root }) → SafeReplica c me (Sent me bytes ∷ past)
    → k % c.period ≡ 0

-- A new view by another than its primary.
abbrev pub BeginsAsPrimary : Type 0
BeginsAsPrimary =
    (c : Configuration) (me : ℕ) (new : NewViewData) (bytes : List ℕ) (past : List Entry)
    → said bytes ≡ Some (record { sender = me; message = NewView new }) → SafeReplica c me (Sent me bytes ∷ past)
    → primary c new.view ≡ me

-- A view change that its sender sends again while it is active.
abbrev pub NoChangeWhileActive : Type 0
NoChangeWhileActive =
    (c : Configuration) (me : ℕ) (bytes : List ℕ) (vc : ViewChangeData) (past : List Entry)
    → said bytes ≡ Some (record { sender = me; message = ViewChange vc }) → SentBefore bytes past
    → target past ≤ view c past
    → SafeReplica c me (Sent me bytes ∷ past) → ⊥

-- the number that was executed or installed last, first 0
abbrev pub newest_number : List Entry → ℕ
newest_number [] = 0
newest_number (Executed r k batch ∷ past) = k
newest_number (Installed r k root ∷ past) = k
newest_number (_ ∷ past) = newest_number past

-- A pre-prepare of a number that has no batch in the view: above another one without a batch, itself above the low
-- mark.
abbrev pub SkipsNoNumber : Type 0
SkipsNoNumber =
    (c : Configuration) (me v i j : ℕ) (batch bytes : List ℕ) (past : List Entry)
    → said bytes ≡ Some (record { sender = me; message = PrePrepare v i batch }) → logged c me past v i ≡ None
    → low c me past < j → j < i → logged c me past v j ≡ None → SafeReplica c me (Sent me bytes ∷ past) → ⊥

-- Or below one that has a batch.
abbrev pub GoesBackToNoNumber : Type 0
GoesBackToNoNumber =
    (c : Configuration) (me v i j : ℕ) (batch other bytes : List ℕ) (past : List Entry)
    → said bytes ≡ Some (record { sender = me; message = PrePrepare v i batch }) → logged c me past v i ≡ None
    → i < j → logged c me past v j ≡ Some other → SafeReplica c me (Sent me bytes ∷ past) → ⊥

-- Or more than two above the executed number.
abbrev pub PrePreparesNearby : Type 0
PrePreparesNearby =
    (c : Configuration) (me v i : ℕ) (batch bytes : List ℕ) (past : List Entry)
    → said bytes ≡ Some (record { sender = me; message = PrePrepare v i batch }) → logged c me past v i ≡ None
    → SafeReplica c me (Sent me bytes ∷ past) → i ≤ newest_number past + 2

-- A read answered with another number than that.
abbrev pub ReadsNewest : Type 0
ReadsNewest =
    (c : Configuration) (me client timestamp number : ℕ) (answer : Outcome) (bytes : List ℕ) (past : List Entry)
    → said bytes ≡ Some (record { sender = me; message = Reply client timestamp modes.ReadOnly number answer })
    → SafeReplica c me (Sent me bytes ∷ past)
    → number ≡ newest_number past

-- A read-only reply to a read that its client did not ask for, or with another answer than that of the state.
abbrev pub ReadsWhatWasAsked : Type 0
ReadsWhatWasAsked =
    (c : Configuration) (me client timestamp number : ℕ) (answer : Outcome) (bytes : List ℕ) (past : List Entry)
    → said bytes ≡ Some (record { sender = me; message = Reply client timestamp modes.ReadOnly number answer })
    → SafeReplica c me (Sent me bytes ∷ past)
    → (op : Operation) × (is_read_only op ≡ true)
    × Once (Receives c me (record { sender = client; message = Request timestamp modes.ReadOnly op })) past
    × (point : Point) × HistoryReaches c me past point
    × (answer ≡ outcome (tuples point.state) (client_number client) op)

-- An execution that skips a number, or goes back.
abbrev pub ExecutesNext : Type 0
ExecutesNext =
    (c : Configuration) (me k : ℕ) (batch : List ℕ) (past : List Entry)
    → SafeReplica c me (Executed me k batch ∷ past) → k ≡ suc (newest_number past)

-- An execution of a batch that is committed for its number in no view.
abbrev pub ExecutesWhatIsCommitted : Type 0
ExecutesWhatIsCommitted =
    (c : Configuration) (me k : ℕ) (batch : List ℕ) (past : List Entry)
    → ((v : ℕ) → Committed c me past v k batch → ⊥) → SafeReplica c me (Executed me k batch ∷ past) → ⊥

-- A new view change that leaves out a prepared batch within the marks.
abbrev pub KeepsPrepared : Type 0
KeepsPrepared =
    (c : Configuration) (me v i : ℕ) (batch bytes : List ℕ) (vc : ViewChangeData) (past : List Entry)
    → said bytes ≡ Some (record { sender = me; message = ViewChange vc }) → (SentBefore bytes past → ⊥)
    → SafeReplica c me (Sent me bytes ∷ past)
    → Prepared c me past v i batch → is_in_marks c (low c me past) i ≡ true
    → Has (λ (batch_entry : BatchEntry). batch_entry.number ≡ i) vc.prepared

-- An installation, if each state of the number and root has a page that differs from that of the state before, and that
-- the replica never received for its place.
abbrev pub InstallsWhatItHas : Type 0
InstallsWhatItHas =
    (c : Configuration) (me k : ℕ) (root : List ℕ) (past : List Entry)
    → AtEachPoint c me past (λ point. (st : State) → st.number ≡ k → root_of st ≡ root
    → (i : ℕ) × (i < 1024) × (page_text st i ≢ page_text point.state i)
    × (Once (GetsPage c me i (page_text st i)) past → ⊥))
    → SafeReplica c me (Installed me k root ∷ past) → ⊥

-- An installation of a number of which the replica received no header page.
abbrev pub InstallsWithHeader : Type 0
InstallsWithHeader =
    (c : Configuration) (me k : ℕ) (root : List ℕ) (past : List Entry)
    → SafeReplica c me (Installed me k root ∷ past)
    → (space : SpaceState) × Once (GetsPage c me 512 (header_text space k)) past

-- ---- what a replica answers with

-- each state that is kept
abbrev pub EachKept : Configuration → ℕ → List Entry → (State → Type 0) → Type 0
EachKept c me history P =
    AtEachPoint c me history
    (λ point. (st : State) → Has (λ x. x ≡ st) (kept_states (low c me history) point.snapshots) → P st)

-- Digests that no kept state of the number has there: those of another state, or of none.
abbrev pub SendsKeptDigests : Type 0
SendsKeptDigests =
    (c : Configuration) (me k index : ℕ) (level : Level) (digests : List (List ℕ)) (bytes : List ℕ) (past : List Entry)
    → said bytes ≡ Some (record { sender = me; message = Meta k level index digests })
    → EachKept c me past (λ st. st.number ≡ k → digests_at st level index ≢ digests)
    → SafeReplica c me (Sent me bytes ∷ past) → ⊥

-- A page that no kept state of the number has.
abbrev pub SendsKeptPages : Type 0
SendsKeptPages =
    (c : Configuration) (me k index : ℕ) (text bytes : List ℕ) (past : List Entry)
    → said bytes ≡ Some (record { sender = me; message = Page k index text })
    → EachKept c me past (λ st. st.number ≡ k → page_text st index ≢ text) → SafeReplica c me (Sent me bytes ∷ past) → ⊥

-- Digests, or a page, that nobody asked for.
abbrev pub SendsAskedDigests : Type 0
SendsAskedDigests =
    (c : Configuration) (me k index : ℕ) (level : Level) (digests : List (List ℕ)) (bytes : List ℕ) (past : List Entry)
    → said bytes ≡ Some (record { sender = me; message = Meta k level index digests })
    → SafeReplica c me (Sent me bytes ∷ past)
    → (s : ℕ) × WasAsked c me past s k level index

abbrev pub SendsAskedPages : Type 0
SendsAskedPages =
    (c : Configuration) (me k index : ℕ) (text bytes : List ℕ) (past : List Entry)
    → said bytes ≡ Some (record { sender = me; message = Page k index text }) → SafeReplica c me (Sent me bytes ∷ past)
    → (s : ℕ) × WasAsked c me past s k levels.Page index

-- the reply to the client k that gives its kept reply
abbrev pub IsReplyOf : ℕ → Kept → ℕ → ℕ → ℕ → Outcome → Type 0
IsReplyOf k kept client timestamp number answer =
    (client ≡ client_party k) × (kept.timestamp ≡ timestamp) × (kept.number ≡ number) × (kept.outcome ≡ answer)

-- An ordered reply, if no request ran in the event with that client, timestamp, number and answer, and none is kept.
abbrev pub RepliesWhatRan : Type 0
RepliesWhatRan =
    (c : Configuration) (me client timestamp number : ℕ) (answer : Outcome) (bytes : List ℕ) (past : List Entry)
    → said bytes ≡ Some (record { sender = me; message = Reply client timestamp modes.Ordered number answer })
    → AtEachPoint c me past (λ point. (k : ℕ) (kept : Kept) → IsReplyOf k kept client timestamp number answer
    → (Has (λ ran. (ran.call.client ≡ k) × (ran.kept ≡ kept)) point.ran → ⊥) × (kept_of point.state k ≢ Some kept))
    → SafeReplica c me (Sent me bytes ∷ past) → ⊥

-- An ordered reply in an event that executed no batch of its number, and whose input is no ordered request of its
-- client and timestamp.
abbrev pub RepliesToWhoAsked : Type 0
RepliesToWhoAsked =
    (c : Configuration) (me client timestamp number : ℕ) (answer : Outcome) (bytes : List ℕ) (input : Entry)
    (outputs past : List Entry)
    → said bytes ≡ Some (record { sender = me; message = Reply client timestamp modes.Ordered number answer })
    → is_output input ≡ false → AreOutputs outputs → (Has (Executes number []) outputs → ⊥)
    → ((op : Operation)
    → Receives c me (record { sender = client; message = Request timestamp modes.Ordered op }) past input → ⊥)
    → SafeReplica c me (Sent me bytes ∷ outputs ++ input ∷ past) → ⊥

-- the batch of the number was executed, and has the client's request of this timestamp
abbrev pub ExecutesRequest : Configuration → ℕ → ℕ → ℕ → List Entry → Entry → Type 0
ExecutesRequest c number client timestamp past (Executed r k batch) = (k ≡ number) × HasRequest c client timestamp batch
ExecutesRequest c number client timestamp past _ = ⊥

-- An ordered reply of a request that the executed batch of its number has not, if the replica installed nothing.
abbrev pub RepliesOfExecuted : Type 0
RepliesOfExecuted =
    (c : Configuration) (me client timestamp number : ℕ) (answer : Outcome) (bytes : List ℕ) (past : List Entry)
    → said bytes ≡ Some (record { sender = me; message = Reply client timestamp modes.Ordered number answer })
    → Always NoInstallation past → SafeReplica c me (Sent me bytes ∷ past)
    → (k : ℕ) × (client ≡ client_party k) × Once (ExecutesRequest c number k timestamp) past

-- ---- whom a frame is for

-- A reply that is sealed for another than its client.
abbrev pub RepliesToItsClient : Type 0
RepliesToItsClient =
    (c : Configuration) (me client timestamp number : ℕ) (mode : Mode) (answer : Outcome) (bytes : List ℕ)
    (frame : Frame) (entries : List MacData) (past : List Entry)
    → said bytes ≡ Some (record { sender = me; message = Reply client timestamp mode number answer })
    → frame_of bytes ≡ Some frame → frame.authenticator ≡ macs entries → SafeReplica c me (Sent me bytes ∷ past)
    → map (λ x. x.receiver) entries ≡ client ∷ []

-- Digests, or a page, sealed for another than one replica that asked for them.
abbrev pub DigestsToWhoAsked : Type 0
DigestsToWhoAsked =
    (c : Configuration) (me k index : ℕ) (level : Level) (digests : List (List ℕ)) (bytes : List ℕ) (frame : Frame)
    (entries : List MacData) (past : List Entry)
    → said bytes ≡ Some (record { sender = me; message = Meta k level index digests })
    → frame_of bytes ≡ Some frame → frame.authenticator ≡ macs entries → SafeReplica c me (Sent me bytes ∷ past)
    → (s : ℕ) × (map (λ x. x.receiver) entries ≡ s ∷ []) × WasAsked c me past s k level index

abbrev pub PagesToWhoAsked : Type 0
PagesToWhoAsked =
    (c : Configuration) (me k index : ℕ) (text bytes : List ℕ) (frame : Frame) (entries : List MacData)
    (past : List Entry)
    → said bytes ≡ Some (record { sender = me; message = Page k index text })
    → frame_of bytes ≡ Some frame → frame.authenticator ≡ macs entries → SafeReplica c me (Sent me bytes ∷ past)
    → (s : ℕ) × (map (λ x. x.receiver) entries ≡ s ∷ []) × WasAsked c me past s k levels.Page index

-- A commit that is not sealed for each other replica.
abbrev pub CommitsToAll : Type 0
CommitsToAll =
    (c : Configuration) (me v i s : ℕ) (digest bytes : List ℕ) (frame : Frame) (entries : List MacData)
    (past : List Entry)
    → said bytes ≡ Some (record { sender = me; message = Commit v i digest })
    → frame_of bytes ≡ Some frame → frame.authenticator ≡ macs entries → s < replicas c → s ≢ me
    → SafeReplica c me (Sent me bytes ∷ past)
    → Has (λ r. r ≡ s) (map (λ x. x.receiver) entries)

-- A MAC of the replica's own frame that is not that of its body from the replica to the receiver, or a signature that
-- is not its own.
abbrev pub SealsWell : Type 0
SealsWell =
    (c : Configuration) (me : ℕ) (bytes : List ℕ) (frame : Frame) (entries : List MacData) (past : List Entry)
    → frame_of bytes ≡ Some frame → frame.authenticator ≡ macs entries → SafeReplica c me (Sent me bytes ∷ past)
    → All (λ x. x.mac ≡ mac_of (members c me).keys x.receiver frame.body) entries

abbrev pub SignsWell : Type 0
SignsWell =
    (c : Configuration) (me : ℕ) (bytes s : List ℕ) (frame : Frame) (past : List Entry)
    → frame_of bytes ≡ Some frame → frame.authenticator ≡ signature s → SafeReplica c me (Sent me bytes ∷ past)
    → has_signature c.publics frame ≡ true

-- Two frames of different bytes, signed by one leaf, the first byte of their signatures.
abbrev pub SignsOnceByLeaf : Type 0
SignsOnceByLeaf =
    (c : Configuration) (me leaf : ℕ) (bytes sent s t : List ℕ) (frame other : Frame) (past : List Entry)
    → frame_of bytes ≡ Some frame → frame.authenticator ≡ signature (leaf ∷ s)
    → frame_of sent ≡ Some other → other.authenticator ≡ signature (leaf ∷ t)
    → SentBefore sent past → SafeReplica c me (Sent me bytes ∷ past) → sent ≡ bytes

-- A frame that the event has sent already.
abbrev pub SendsNoFrameTwice : Type 0
SendsNoFrameTwice =
    (c : Configuration) (me : ℕ) (bytes : List ℕ) (outputs past : List Entry) → AreOutputs outputs
    → SafeReplica c me (Sent me bytes ∷ outputs ++ Sent me bytes ∷ past) → ⊥

-- ---- dropped inputs and a replica's fetches

-- A frame that answers a part of a state that was not asked for last.
abbrev pub DropsUnaskedDigests : Type 0
DropsUnaskedDigests =
    (c : Configuration) (me s k index : ℕ) (level : Level) (digests : List (List ℕ)) (bytes later : List ℕ)
    (past : List Entry)
    → authentic (members c me) me bytes ≡ Some (record { sender = s; message = Meta k level index digests })
    → asked_last past ≢ Some (k, (level, index))
    → IsReplica c me (Sent me later ∷ Got me bytes ∷ past) → ⊥

abbrev pub DropsUnaskedPages : Type 0
DropsUnaskedPages =
    (c : Configuration) (me s k index : ℕ) (text bytes later : List ℕ) (past : List Entry)
    → authentic (members c me) me bytes ≡ Some (record { sender = s; message = Page k index text })
    → asked_last past ≢ Some (k, (levels.Page, index))
    → IsReplica c me (Sent me later ∷ Got me bytes ∷ past) → ⊥

-- A frame that answers a reply.
abbrev pub DropsReplies : Type 0
DropsReplies =
    (c : Configuration) (me s client timestamp number : ℕ) (mode : Mode) (answer : Outcome) (bytes later : List ℕ)
    (past : List Entry)
    → authentic (members c me) me bytes ≡ Some (record { sender = s; message = Reply client timestamp mode number answer })
    → IsReplica c me (Sent me later ∷ Got me bytes ∷ past) → ⊥

-- A frame that answers one in the replica's own name.
abbrev pub DropsOwnFrames : Type 0
DropsOwnFrames =
    (c : Configuration) (me : ℕ) (body : Body) (bytes later : List ℕ) (past : List Entry)
    → said bytes ≡ Some body → body.sender ≡ me
    → IsReplica c me (Sent me later ∷ Got me bytes ∷ past) → ⊥

-- A fetch of a part of a state whose root neither a quorum of checkpoints nor a new view's start told.
abbrev pub FetchesWhatIsWanted : Type 0
FetchesWhatIsWanted =
    (c : Configuration) (me k index : ℕ) (level : Level) (bytes : List ℕ) (past : List Entry)
    → said bytes ≡ Some (record { sender = me; message = Fetch k level index })
    → ((root : List ℕ) → (HadQuorum c (record { number = k; digest = root }) past → ⊥)
    × (Once (StartsAt c k root) past → ⊥))
    → SafeReplica c me (Sent me bytes ∷ past) → ⊥

-- A fetch of a part of a state that is not above the executed one.
abbrev pub FetchesAbove : Type 0
FetchesAbove =
    (c : Configuration) (me k index : ℕ) (level : Level) (bytes : List ℕ) (past : List Entry)
    → said bytes ≡ Some (record { sender = me; message = Fetch k level index }) → k ≤ newest_number past
    → SafeReplica c me (Sent me bytes ∷ past) → ⊥

-- A fetch of a number below one that was fetched.
abbrev pub FetchesNewest : Type 0
FetchesNewest =
    (c : Configuration) (me k n index other : ℕ) (level above : Level) (bytes earlier : List ℕ) (past : List Entry)
    → said bytes ≡ Some (record { sender = me; message = Fetch k level index })
    → said earlier ≡ Some (record { sender = me; message = Fetch n above other })
    → k < n → SafeReplica c me (Sent me bytes ∷ Sent me earlier ∷ past) → ⊥

-- A second fetch in a row, of a part below the root.
abbrev pub FetchesOnce : Type 0
FetchesOnce =
    (c : Configuration) (me k n index other : ℕ) (level above : Level) (bytes earlier : List ℕ) (past : List Entry)
    → said bytes ≡ Some (record { sender = me; message = Fetch k level index }) → level ≢ levels.Root
    → said earlier ≡ Some (record { sender = me; message = Fetch n above other })
    → SafeReplica c me (Sent me bytes ∷ Sent me earlier ∷ past) → ⊥

-- A fetch of a part below the root at bytes that the replica receives, if it never received digests of the root's
-- children.
abbrev pub FetchesWhatIsTold : Type 0
FetchesWhatIsTold =
    (c : Configuration) (me k index : ℕ) (level : Level) (bytes frame : List ℕ) (past : List Entry)
    → said bytes ≡ Some (record { sender = me; message = Fetch k level index }) → level ≢ levels.Root
    → ((s n : ℕ) (digests : List (List ℕ))
    → Once (Receives c me (record { sender = s; message = Meta n levels.Root 0 digests })) (Got me frame ∷ past) → ⊥)
    → SafeReplica c me (Sent me bytes ∷ Got me frame ∷ past) → ⊥

-- A fetch of an inner part that the pages in place agree with, at bytes that the replica gets. The digests of the
-- root's children that it got have the part's digest, and it got no others.
abbrev pub FetchesWhatDiffers : Type 0
FetchesWhatDiffers =
    (c : Configuration) (me k j : ℕ) (bytes frame : List ℕ) (past : List Entry)
    → said bytes ≡ Some (record { sender = me; message = Fetch k levels.Inner j })
    → ((s n : ℕ) (digests : List (List ℕ)) (digest : List ℕ)
    → Once (Receives c me (record { sender = s; message = Meta n levels.Root 0 digests })) (Got me frame ∷ past)
    → slice_get digests j ≡ Some digest
    → AtEachPoint c me (Got me frame ∷ past)
    (λ point. digest ≡ inner_digest (all_pages (in_place c me k (Got me frame ∷ past) point.state)) j))
    → SafeReplica c me (Sent me bytes ∷ Got me frame ∷ past) → ⊥

-- ---- what a correct replica owes

-- An event, an input with its outputs (the newest first), of a correct replica that goes on: it sends a frame after a
-- later input, so it has not stopped.
pub record ReplicaGoesOn (c : Configuration) (me : ℕ) (outputs : List Entry) (input : Entry)
    (past : List Entry) : Type 0 where
  pub is_input : is_output input ≡ false
  pub are_outputs : AreOutputs outputs
  pub next : Entry
  pub is_next : is_output next ≡ false
  pub between : List Entry
  pub later : List ℕ
  pub is_replica : IsReplica c me (Sent me later ∷ (between ++ next ∷ (outputs ++ input ∷ past)))

-- A read that the replica receives, and does not answer from the executed state with its number.
abbrev pub AnswersReads : Type 0
AnswersReads =
    (c : Configuration) (me client timestamp : ℕ) (op : Operation) (answer : Outcome) (bytes : List ℕ)
    (outputs past : List Entry)
    → authentic (members c me) me bytes ≡ Some (record { sender = client; message = Request timestamp modes.ReadOnly op })
    → is_read_only op ≡ true
    → AtEachPoint c me past (λ point. outcome (tuples point.state) (client_number client) op ≡ answer)
    → ReplicaGoesOn c me outputs (Got me bytes) past
    → SendsMessage me (Reply client timestamp modes.ReadOnly (newest_number past) answer) outputs

-- A fetch of digests, or of a page, of a kept state, which the replica receives and does not answer to its sender.
abbrev pub AnswersDigestFetches : Type 0
AnswersDigestFetches =
    (c : Configuration) (me s index : ℕ) (level : Level) (st : State) (bytes : List ℕ) (outputs past : List Entry)
    → authentic (members c me) me bytes ≡ Some (record { sender = s; message = Fetch st.number level index })
    → has_children level ≡ true
    → AtEachPoint c me past (λ point. Has (λ x. x ≡ st) (kept_states (low c me past) point.snapshots))
    → ReplicaGoesOn c me outputs (Got me bytes) past
    → SendsMessageTo me s (Meta st.number level index (digests_at st level index)) outputs

abbrev pub AnswersPageFetches : Type 0
AnswersPageFetches =
    (c : Configuration) (me s index : ℕ) (st : State) (bytes : List ℕ) (outputs past : List Entry)
    → authentic (members c me) me bytes ≡ Some (record { sender = s; message = Fetch st.number levels.Page index })
    → AtEachPoint c me past (λ point. Has (λ x. x ≡ st) (kept_states (low c me past) point.snapshots))
    → ReplicaGoesOn c me outputs (Got me bytes) past
    → SendsMessageTo me s (Page st.number index (page_text st index)) outputs

-- The replica receives the digests below the root that its transfer awaits. It fetches no part of that state, while
-- another root is in place.
abbrev pub AsksOn : Type 0
AsksOn =
    (c : Configuration) (me s k : ℕ) (digests : List (List ℕ)) (bytes : List ℕ) (outputs past : List Entry)
    → authentic (members c me) me bytes ≡ Some (record { sender = s; message = Meta k levels.Root 0 digests })
    → asked_last past ≡ Some (k, (levels.Root, 0)) → newest_number past < k
    → IsRootWanted c past k (digest_of_children digests)
    → ((other : List ℕ) → IsRootWanted c (Got me bytes ∷ past) k other → other ≡ digest_of_children digests)
    → AtEachPoint c me past (λ point.
    root_of_pages (all_pages (in_place c me k (Got me bytes ∷ past) point.state)) ≢ digest_of_children digests)
    → ReplicaGoesOn c me outputs (Got me bytes) past → Has (λ e. fetch_sent e ≡ k) outputs

-- The replica receives the last page that its transfer awaits, and does not install the state that the pages in place
-- are then.
abbrev pub InstallsFetched : Type 0
InstallsFetched =
    (c : Configuration) (me s k index : ℕ) (text bytes : List ℕ) (outputs past : List Entry)
    → authentic (members c me) me bytes ≡ Some (record { sender = s; message = Page k index text })
    → asked_last past ≡ Some (k, (levels.Page, index)) → newest_number past < k
    → IsPageWanted c me past k index (sha256 text)
    → ((other : List ℕ) → IsPageWanted c me past k index other → other ≡ sha256 text)
    → AtEachPoint c me past (λ point. (new : Point)
    × IsInstalled c me (Got me bytes ∷ past) point k
    (root_of_pages (all_pages (in_place c me k (Got me bytes ∷ past) point.state))) new
    × ((client : ℕ) → last_time point.state client ≤ last_time new.state client))
    → (Has (λ e. fetch_sent e ≡ k) outputs → ⊥)
    → ReplicaGoesOn c me outputs (Got me bytes) past → k ≤ newest_number (outputs ++ Got me bytes ∷ past)

-- A request of the last timestamp that the replica receives again, and does not answer with the kept reply.
abbrev pub AnswersAgain : Type 0
AnswersAgain =
    (c : Configuration) (me k : ℕ) (op : Operation) (kept : Kept) (bytes : List ℕ) (outputs past : List Entry)
    → authentic (members c me) me bytes
    ≡ Some (record { sender = client_party k; message = Request kept.timestamp modes.Ordered op })
    → AtEachPoint c me past (λ point. kept_of point.state k ≡ Some kept)
    → ReplicaGoesOn c me outputs (Got me bytes) past
    → SendsMessage me (reply_of k kept) outputs

-- A request that ran in the event, and gets no reply.
abbrev pub AnswersRan : Type 0
AnswersRan =
    (c : Configuration) (me : ℕ) (ran : Ran) (input : Entry) (outputs past : List Entry)
    → AtEachPoint c me (outputs ++ input ∷ past) (λ point. Has (λ x. x ≡ ran) point.ran)
    → ReplicaGoesOn c me outputs input past
    → SendsMessage me (reply_of ran.call.client ran.kept) outputs

-- A batch that an active backup logs, and does not prepare.
abbrev pub PreparesLogged : Type 0
PreparesLogged =
    (c : Configuration) (me v i : ℕ) (batch : List ℕ) (input : Entry) (outputs past : List Entry)
    → logged c me past v i ≡ None → logged c me (outputs ++ input ∷ past) v i ≡ Some batch
    → is_active_in c (outputs ++ input ∷ past) v ≡ true → primary c v ≢ me → ReplicaGoesOn c me outputs input past
    → SendsMessage me (Prepare v i (sha256 batch)) outputs

-- A batch that becomes prepared at an active replica, which does not commit it.
abbrev pub CommitsPrepared : Type 0
CommitsPrepared =
    (c : Configuration) (me v i : ℕ) (batch : List ℕ) (input : Entry) (outputs past : List Entry)
    → (Prepared c me past v i batch → ⊥) → Prepared c me (outputs ++ input ∷ past) v i batch
    → is_active_in c (outputs ++ input ∷ past) v ≡ true → ReplicaGoesOn c me outputs input past
    → SendsMessage me (Commit v i (sha256 batch)) outputs

-- A committed batch that comes next, and is left.
abbrev pub ExecutesCommitted : Type 0
ExecutesCommitted =
    (c : Configuration) (me v : ℕ) (batch : List ℕ) (input : Entry) (outputs past : List Entry)
    → Committed c me (outputs ++ input ∷ past) v (suc (newest_number (outputs ++ input ∷ past))) batch
    → ReplicaGoesOn c me outputs input past → ⊥

-- A waiting request that the active primary leaves without a number, while one is free.
abbrev pub NumbersWaiting : Type 0
NumbersWaiting =
    (c : Configuration) (me v i : ℕ) (call : Call) (input : Entry) (outputs past : List Entry)
    → is_active_in c (outputs ++ input ∷ past) v ≡ true → primary c v ≡ me
    → AtEachPoint c me (outputs ++ input ∷ past) (λ point. Has (λ x. x ≡ call) point.waiting)
    → is_in_marks c (low c me (outputs ++ input ∷ past)) i ≡ true → i ≤ newest_number (outputs ++ input ∷ past) + 2
    → ((j : ℕ) → i ≤ j → logged c me (outputs ++ input ∷ past) v j ≡ None) → ReplicaGoesOn c me outputs input past
    → IsNumbered c me (outputs ++ input ∷ past) v call.client call.timestamp

-- A pre-prepare of a new number with a request that the view has numbered before.
abbrev pub NumbersNoneTwice : Type 0
NumbersNoneTwice =
    (c : Configuration) (me v i client timestamp : ℕ) (batch bytes : List ℕ) (input : Entry)
    (newer older past : List Entry)
    → said bytes ≡ Some (record { sender = me; message = PrePrepare v i batch })
    → logged c me (older ++ input ∷ past) v i ≡ None
    → HasRequest c client timestamp batch → IsNumbered c me (older ++ input ∷ past) v client timestamp
    → ReplicaGoesOn c me (newer ++ Sent me bytes ∷ older) input past → ⊥

-- A pre-prepare of a new number with two requests of one client and timestamp.
abbrev pub NumbersNoneTogether : Type 0
NumbersNoneTogether =
    (c : Configuration) (me v i one other : ℕ) (call twin : Call) (batch bytes : List ℕ) (input : Entry)
    (newer older past : List Entry)
    → said bytes ≡ Some (record { sender = me; message = PrePrepare v i batch })
    → logged c me (older ++ input ∷ past) v i ≡ None
    → one < other → other < length (requests_of batch)
    → call_of c (slice_index_or (requests_of batch) one []) ≡ Some call
    → call_of c (slice_index_or (requests_of batch) other []) ≡ Some twin
    → call.client ≡ twin.client → call.timestamp ≡ twin.timestamp
    → ReplicaGoesOn c me (newer ++ Sent me bytes ∷ older) input past → ⊥

-- A quorum of checkpoints above the state and above the open transfer that starts none.
abbrev pub FetchesAhead : Type 0
FetchesAhead =
    (c : Configuration) (me k : ℕ) (root : List ℕ) (input : Entry) (outputs past : List Entry)
    → is_quorum c (count_checkpoints c (outputs ++ input ∷ past) (record { number = k; digest = root })) ≡ true
    → newest_number (outputs ++ input ∷ past) < k → fetching past < k → ReplicaGoesOn c me outputs input past
    → SendsMessage me (Fetch k levels.Root 0) outputs

-- A new view that starts above the state and above the open transfer, and starts none.
abbrev pub FetchesStarts : Type 0
FetchesStarts =
    (c : Configuration) (me k : ℕ) (new : NewViewData) (input : Entry) (outputs past : List Entry)
    → Once (λ earlier e. (taken c earlier e ≡ Some new) × (fetching earlier < k)) (outputs ++ input ∷ past)
    → new.start ≡ k → newest_number (outputs ++ input ∷ past) < k → fetching past < k
    → ReplicaGoesOn c me outputs input past
    → SendsMessage me (Fetch k levels.Root 0) outputs

-- A tick at which the replica does not send the last fetch of an open transfer again.
abbrev pub FetchesAgain : Type 0
FetchesAgain =
    (c : Configuration) (me k index : ℕ) (level : Level) (outputs past : List Entry)
    → asked_last past ≡ Some (k, (level, index)) → newest_number past < k → ReplicaGoesOn c me outputs (Tick me) past
    → SendsMessage me (Fetch k level index) outputs

-- A reason to move to a view, and no view change for it or for a later one, while a frame says one and a key is left.
abbrev pub MovesForReasons : Type 0
MovesForReasons =
    (c : Configuration) (me : ℕ) (input : Entry) (outputs past : List Entry) → ReplicaGoesOn c me outputs input past
    → (point : Point) × HistoryReaches c me past point
    × ((vc : ViewChangeData) (bytes : List ℕ) → IsNewViewChange c me (input ∷ past) point vc → is_within c vc ≡ true
    → said bytes ≡ Some (record { sender = me; message = ViewChange vc })
    → TimesOut c me (input ∷ past) point.waiting vc.view
    ⊎ ((s : ℕ) × (other : ViewChangeData)
    × Receives c me (record { sender = s; message = ViewChange other }) past input × (view c past < other.view)
    × (is_within c other ≡ true) × (latest_change c past s < other.view)
    × JoinsOthers c me (input ∷ past) vc.view)
    → (vc.view ≤ target (outputs ++ input ∷ past))
    ⊎ ((leaf : ℕ) → leaf < 64 → (sent : List ℕ) × (leaf_of sent ≡ Some leaf) × SentBefore sent past))

-- A multiple of the period that the replica executes, without sending a checkpoint with the root of its state.
abbrev pub SendsCheckpoints : Type 0
SendsCheckpoints =
    (c : Configuration) (me k : ℕ) (input : Entry) (outputs past : List Entry)
    → Once (Executes k) outputs → k % c.period ≡ 0 → ReplicaGoesOn c me outputs input past
    → (point : Point) × HistoryReaches c me (outputs ++ input ∷ past) point
    × Has (λ st. (st.number ≡ k) × SendsMessage me (Checkpoint k (root_of st)) outputs) point.snapshots

-- ---- a new view

-- at least so many different replicas have a view change in the set of which this holds
abbrev pub SoManyHave : ℕ → Configuration → List (ℕ × ViewChangeData) → (ViewChangeData → Type 0) → Type 0
SoManyHave count c set P =
    (from : ℕ → Bool) × (count ≤ count_below from (replicas c))
    × ((s : ℕ) → from s ≡ true → (vc : ViewChangeData) × Has (λ x. x ≡ (s, vc)) set × P vc)

-- they have one in the set that a new view carries
abbrev pub HasFrom : ℕ → Configuration → NewViewData → (ViewChangeData → Type 0) → Type 0
HasFrom count c new P = SoManyHave count c (changes_of c new) P

-- its low mark is below the number, and each batch that it has prepared for the number was so in an earlier view, or
-- has this digest in this view
abbrev pub SaysNothingAgainst : ℕ → ℕ → List ℕ → ViewChangeData → Type 0
SaysNothingAgainst i w digest vc =
    (vc.low < i)
    × ((batch_entry : BatchEntry) → Has (λ x. x ≡ batch_entry) vc.prepared → batch_entry.number ≡ i
    → (batch_entry.view < w) ⊎ ((batch_entry.view ≡ w) × (batch_entry.digest ≡ digest)))

-- the digest was pre-prepared there for the number, in this view or a later one
abbrev pub SaysForIt : ℕ → ℕ → List ℕ → ViewChangeData → Type 0
SaysForIt i w digest vc =
    Has (λ (batch_entry : BatchEntry). (batch_entry.number ≡ i) × (batch_entry.digest ≡ digest)
    × (w ≤ batch_entry.view)) vc.pre_prepared

-- nothing is prepared there for the number
abbrev pub SaysNothing : ℕ → ViewChangeData → Type 0
SaysNothing i vc = (vc.low < i) × (Has (λ (batch_entry : BatchEntry). batch_entry.number ≡ i) vc.prepared → ⊥)

-- Over too few view changes, over some for another view, that leaves out a number prepared in one of them, or with a
-- batch for which f + 1 don't vouch: such a new view is not taken.
pub record IsWellSelected (c : Configuration) (new : NewViewData) : Type 0 where
  pub enough : HasFrom (2 * c.faults + 1) c new (λ vc. ⊤)
  pub of_its_view : (s : ℕ) (vc : ViewChangeData) → Has (λ x. x ≡ (s, vc)) (changes_of c new) → vc.view ≡ new.view
  pub filled : (s : ℕ) (vc : ViewChangeData) (batch_entry : BatchEntry) → Has (λ x. x ≡ (s, vc)) (changes_of c new)
      → Has (λ x. x ≡ batch_entry) vc.prepared
      → batch_entry.number ≤ new.start + 2 * c.period → batch_entry.number ≤ new.start + length new.batches
  pub vouched : (i : ℕ) (batch : List ℕ) → slice_get new.batches (i - new.start - 1) ≡ Some batch → new.start < i
      → ((w : ℕ) × (w < new.view) × HasFrom (2 * c.faults + 1) c new (SaysNothingAgainst i w (sha256 batch))
      × HasFrom (c.faults + 1) c new (SaysForIt i w (sha256 batch)))
      ⊎ ((batch ≡ null_batch) × HasFrom (2 * c.faults + 1) c new (SaysNothing i))

-- Each new view that is taken is well selected.
abbrev pub TakesWellSelected : Type 0
TakesWellSelected =
    (c : Configuration) (past : List Entry) (e : Entry) (new : NewViewData) → taken c past e ≡ Some new
    → IsWellSelected c new

-- A new view below a view change that the replica sent.
abbrev pub TakesNoLower : Type 0
TakesNoLower =
    (c : Configuration) (me : ℕ) (past : List Entry) (e : Entry) (new : NewViewData) (vc : ViewChangeData)
    → taken c past e ≡ Some new → Once (λ earlier. IsSending me (ViewChange vc)) past → vc.view ≤ new.view

-- ---- requests

-- A request that runs in a batch and again in a later one, with the same timestamp or an older one. The later batch
-- does as without it, so its client's reply stays and nothing of it runs.
abbrev pub RunsOnce : Type 0
RunsOnce =
    (c : Configuration) → IsConfiguration c
    → (me m n : ℕ) (batch later frame again : List ℕ) (first rest : List (List ℕ)) (call other : Call)
    (between past : List Entry) (old new : Point)
    → call_of c frame ≡ Some call → Has (λ x. x ≡ frame) (requests_of batch)
    → call_of c again ≡ Some other → other.client ≡ call.client → other.timestamp ≤ call.timestamp
    → requests_of later ≡ first ++ again ∷ rest
    → Always NoInstallation between → HistoryReaches c me (between ++ Executed me m batch ∷ past) old
    → IsStep c me (between ++ Executed me m batch ∷ past) old (Executed me n later) new
    → (new.state ≡ record (fold (run_frame c n) old.state (first ++ rest)) { number = n })
    × (new.ran ≡ old.ran ++ ran_in c n old.state (first ++ rest))

-- ---- a client

-- An acceptance at f + 1 replies alike, at one replica's reply that comes again, or with replies of different numbers:
-- 2f + 1 different replicas answered the call in one mode, with one number and one answer.
abbrev pub AcceptsAtQuorum : Type 0
AcceptsAtQuorum =
    (c : Configuration) (me k timestamp : ℕ) (answer : Outcome) (past : List Entry)
    → SafeClient c me (Accepted k timestamp answer ∷ past)
    → (mode : Mode) × (number : ℕ) × (from : ℕ → Bool) × (2 * c.faults + 1 ≤ count_below from (replicas c))
    × ((s : ℕ) → from s ≡ true → (other : Outcome) × (outcome_spelling other ≡ outcome_spelling answer)
    × Once (Receives c me (record { sender = s; message = Reply me timestamp mode number other })) past)
