-- What a correct replica owes in an event: all outputs that the input makes due, and none if the input is dropped
-- (Castro and Liskov, TOCS 2002, on normal-case operation, garbage collection, view changes and state transfer). No law
-- of agreement uses it. It speaks of the same points as what a replica may do.
use Rattle.std.specs.Prelude.{◌≡◌, ◌≢◌, ℕ, suc, ◌+◌, ◌/◌, ◌%◌, ◌≤◌, ◌<◌, ◌⊎◌, Bool, true, false, List, [], ◌∷◌, ◌++◌, length, reverse, ◌==◌, Option, Some, None, slice_get, AllPairs, ⊤}
use Rattle.std.specs.List.{list_any}
use Rattle.std.specs.Option.{option_map_or}
use Rattle.terms.specs.Parties.{client_party, client_number}
use Rattle.sha2.specs.Sha256.{sha256}
use Rattle.tuple_codec.specs.Operations.{Operation}
use Rattle.space.specs.Applying.{outcome, is_read_only}
use Rattle.partition_tree.specs.Digests.{digest_of_children, root_of as root_of_pages}
use Rattle.protocol.specs.System.Configuration.{Configuration, primary, is_number, members}
use Rattle.terms.specs.declared.order.Mode.TheVariants as modes
use Rattle.terms.specs.declared.state.Level.{Level}
use Rattle.terms.specs.declared.state.Level.TheVariants as levels
use Rattle.wire_format.specs.Spelling.{has_children}
use Rattle.wire_format.specs.Messages.{BodyData as Body, MessageData as Message, ViewChangeData, NewViewData, CheckpointEntryData as CheckpointEntry, request as Request, pre_prepare as PrePrepare, prepare as Prepare, commit as Commit, checkpoint as Checkpoint, view_change as ViewChange, new_view as NewView, reply as Reply, fetch as Fetch, meta as Meta, page as Page}
use Rattle.wire_format.specs.Words.{requests_of, frame_of, said, receivers_of}
use Rattle.signing.specs.AuthenticBody.{authentic}
use Rattle.protocol.specs.System.Frames.{leaf_of}
use Rattle.protocol.specs.System.Trace.{Entry, party_of, is_output, Once, Has, either, Receives}
use Rattle.protocol.specs.System.Trace.Entry.{Got, Tick, Sent}
use Rattle.protocol.specs.Replica.Selection.{is_quorum, is_within, changes_of, null_batch, may_select, signed_change}
use Rattle.protocol.specs.Replica.Certificates.{view, target, is_active_in, taken, latest_change, checkpoints_of, count_checkpoints, low, is_in_marks, entry_proposal, logged, prepare_from, commit_from, vote_in, prepare_of, commit_of, Prepared, Committed}
use Rattle.reply_cache.specs.Replies.{Kept}
use Rattle.protocol.specs.Replica.State.{State, Call, call_of, Ran, kept_of, last_time, tuples, root_of, page_text, all_pages}
use Rattle.protocol.specs.Replica.Transfers.{fetch_sent, fetching, asked_last, in_place, GotBelow}
use Rattle.protocol.specs.Replica.RightReplica.{Point, first_point, IsFree, reply_of, IsStep, IsInstalled, KeptState, Executes, IsRootWanted, digests_at, SentBefore, IsTick, TimesOut, JoinsOthers, IsNewViewChange}
use Rattle.wire_format.specs.Lists.{Each}

-- ---- words on outputs

-- the replica sends a frame of this message in this entry
abbrev pub IsSending : ℕ → Message → Entry → Type 0
IsSending me message (Sent p bytes) = said bytes ≡ Some (record { sender = me; message = message })
IsSending me message _ = ⊥

-- one of the outputs is a frame of this message
abbrev pub SendsMessage : ℕ → Message → List Entry → Type 0
SendsMessage me message outputs = Has (IsSending me message) outputs

-- the replica sends a frame of this message in this entry, for replica s alone
abbrev pub IsSendingTo : ℕ → ℕ → Message → Entry → Type 0
IsSendingTo me s message (Sent p bytes) =
    (said bytes ≡ Some (record { sender = me; message = message }))
    × (option_map_or (λ frame. receivers_of frame.authenticator) (frame_of bytes) [] ≡ s ∷ [])
IsSendingTo me s message _ = ⊥

-- one of the outputs is a frame of this message, for replica s alone
abbrev pub SendsMessageTo : ℕ → ℕ → Message → List Entry → Type 0
SendsMessageTo me s message outputs = Has (IsSendingTo me s message) outputs

-- P holds at each of the outputs, the oldest first, with its past
abbrev pub AtOutputs : (List Entry → Entry → Type 0) → List Entry → List Entry → Type 0
AtOutputs P past [] = ⊤
AtOutputs P past (e ∷ outputs) = P past e × AtOutputs P (e ∷ past) outputs

-- ---- requests that a view has numbered

-- the replica takes or sends a new view for view v in this entry that assigns the batch
abbrev pub BeginsViewWith : Configuration → ℕ → List ℕ → List Entry → Entry → Type 0
BeginsViewWith c v batch past e =
    (new : NewViewData) × (taken c past e ≡ Some new) × (new.view ≡ v) × Has (λ x. x ≡ batch) new.batches

-- the batch was pre-prepared in the view, or stands in the new view that began it, at whatever number
abbrev pub IsOfView : Configuration → ℕ → List Entry → ℕ → List ℕ → Type 0
IsOfView c me past v batch = ((i : ℕ) × (logged c me past v i ≡ Some batch)) ⊎ Once (BeginsViewWith c v batch) past

-- the client's request of this timestamp stands in the batch
abbrev pub HasRequest : Configuration → ℕ → ℕ → List ℕ → Type 0
HasRequest c client timestamp batch =
    Has (λ frame. (call : Call) × (call_of c frame ≡ Some call) × (call.client ≡ client) × (call.timestamp ≡ timestamp))
    (requests_of batch)

-- the client's request of this timestamp has a number in the view
abbrev pub IsNumbered : Configuration → ℕ → List Entry → ℕ → ℕ → ℕ → Type 0
IsNumbered c me past v client timestamp =
    (batch : List ℕ) × IsOfView c me past v batch × HasRequest c client timestamp batch

-- two frames are requests of different clients or timestamps
abbrev pub AreDifferent : Configuration → List ℕ → List ℕ → Type 0
AreDifferent c frame other =
    (call twin : Call) → call_of c frame ≡ Some call → call_of c other ≡ Some twin → call.client ≡ twin.client
    → call.timestamp ≡ twin.timestamp → ⊥

-- a pre-prepare that isn't sent again assigns a number to no request that has one in the view, and to none twice
abbrev pub NumbersOnce : Configuration → ℕ → List Entry → Entry → Type 0
NumbersOnce c me past (Sent p bytes) =
    (v i : ℕ) (batch : List ℕ) → said bytes ≡ Some (record { sender = me; message = PrePrepare v i batch })
    → logged c me past v i ≡ None
    → AllPairs (AreDifferent c) (requests_of batch)
    × ((client timestamp : ℕ) → HasRequest c client timestamp batch → IsNumbered c me past v client timestamp → ⊥)
NumbersOnce c me past _ = ⊤

-- ---- the digests that the parts of a transfer must have (Castro and Liskov, TOCS 2002, on state transfer)

-- The root's digests tell the wanted digest of an inner part.
abbrev pub IsInnerWanted : Configuration → ℕ → List Entry → ℕ → ℕ → List ℕ → Type 0
IsInnerWanted c me past k index digest =
    (root : List ℕ) × (digests : List (List ℕ)) × IsRootWanted c past k root
    × GotBelow c me past levels.Root 0 root digests × (slice_get digests index ≡ Some digest)

-- The digests of a page's inner part tell the wanted digest of the page.
abbrev pub IsPageWanted : Configuration → ℕ → List Entry → ℕ → ℕ → List ℕ → Type 0
IsPageWanted c me past k index digest =
    (inner : List ℕ) × (digests : List (List ℕ)) × IsInnerWanted c me past k (index / 32) inner
    × GotBelow c me past levels.Inner (index / 32) inner digests
    × (slice_get digests (index % 32) ≡ Some digest)

-- the digest that a part of the state of number k must have
abbrev pub IsWanted : Configuration → ℕ → List Entry → ℕ → Level → ℕ → List ℕ → Type 0
IsWanted c me past k levels.Root index digest = IsRootWanted c past k digest
IsWanted c me past k levels.Inner index digest = IsInnerWanted c me past k index digest
IsWanted c me past k levels.Page index digest = IsPageWanted c me past k index digest

-- the replica fetched the place last, for a number above the state's, and this is the digest that it must have
abbrev pub IsAwaited : Configuration → ℕ → List Entry → Point → ℕ → Level → ℕ → List ℕ → Type 0
IsAwaited c me past point k level index digest = (asked_last past ≡ Some (k, (level, index))) × (point.state.number < k)
    × IsWanted c me past k level index digest

-- ---- how a transfer goes on

-- The part is awaited, and the history wants no other digest of its place. None wants two of one place, if at most f
-- replicas are faulty and different texts have different digests.
abbrev pub IsAwaitedAlone : Configuration → ℕ → List Entry → Point → ℕ → Level → ℕ → List ℕ → Type 0
IsAwaitedAlone c me past point k level index digest = IsAwaited c me past point k level index digest
    × ((other : List ℕ) → IsWanted c me past k level index other → other ≡ digest)

-- Nothing is left to fetch: the pages in place have a root that is wanted for the number.
abbrev pub IsFetched : Configuration → ℕ → List Entry → State → ℕ → List ℕ → Type 0
IsFetched c me past st k root =
    IsRootWanted c past k root × (root_of_pages (all_pages (in_place c me k past st)) ≡ root)

-- The pages in place are those of a state, and no client's last timestamp is lower in it.
abbrev pub CanInstall : Configuration → ℕ → List Entry → Point → ℕ → List ℕ → Type 0
CanInstall c me past old k root =
    (new : Point) × IsInstalled c me past old k root new
    × ((client : ℕ) → last_time old.state client ≤ last_time new.state client)

-- the replica takes or sends a new view in this entry that starts at number k, above what it fetched
abbrev pub StartsAhead : Configuration → ℕ → List Entry → Entry → Type 0
StartsAhead c k past e =
    (new : NewViewData) × (taken c past e ≡ Some new) × (new.start ≡ k) × (fetching past < k)

-- The transfer of the state of number k goes on: the replica fetches its next part. Or nothing is left to fetch, and
-- the executed number reaches k, if the state can be installed. past: the past with the part; old: the point before it.
abbrev pub TransferGoesOn : Configuration → ℕ → List Entry → Point → List Entry → ℕ → ℕ → Type 0
TransferGoesOn c me past old outputs executed k =
    Has (λ e. fetch_sent e ≡ k) outputs
    ⊎ ((root : List ℕ) × IsFetched c me past old.state k root × (CanInstall c me past old k root → k ≤ executed))

-- ---- inputs that count; all others are dropped

-- one of the checkpoints has the number
abbrev pub has_number : ℕ → List CheckpointEntry → Bool
has_number k checkpoints = list_any (λ m. m.number == k) checkpoints

-- the waiting requests of the client are older, or this very one
abbrev pub IsNoOlder : List Call → ℕ → ℕ → Operation → Type 0
IsNoOlder waiting client timestamp op =
    Each (λ call. call.client ≡ client
    → (call.timestamp < timestamp) ⊎ ((call.timestamp ≡ timestamp) × (call.op ≡ op))) waiting

-- the view change is for a view above the replica's own and above its sender's last, and within its bounds
abbrev pub IsLatestChange : Configuration → List Entry → ℕ → ViewChangeData → Type 0
IsLatestChange c past s vc =
    (view c past < vc.view) × (is_within c vc ≡ true) × (latest_change c past s < vc.view)

-- the message counts: a rule takes it
abbrev pub Counts : Configuration → ℕ → List Entry → Point → List ℕ → ℕ → Message → Type 0
Counts c me past point bytes s (Request t modes.ReadOnly op) = is_read_only op ≡ true
Counts c me past point bytes s (Request t modes.Ordered op) =
    (k : ℕ) × (s ≡ client_party k)
    × (((kept : Kept) × (kept_of point.state k ≡ Some kept) × (kept.timestamp ≡ t))
    ⊎ ((last_time point.state k < t) × IsNoOlder point.waiting k t op))
Counts c me past point bytes s (PrePrepare v i batch) =
    (entry_proposal c me past (Got me bytes) v i ≡ Some batch) × (logged c me past v i ≡ None)
Counts c me past point bytes s (Prepare v i digest) =
    (vote_in c me past (Got me bytes) (prepare_from c s v i) v i ≡ Some digest) × (prepare_of c me past v i s ≡ None)
Counts c me past point bytes s (Commit v i digest) =
    (vote_in c me past (Got me bytes) (commit_from s v i) v i ≡ Some digest) × (commit_of c me past v i s ≡ None)
Counts c me past point bytes s (Checkpoint k root) =
    (low c me past < k) × (is_number k ≡ true) × (has_number k (checkpoints_of c past s) ≡ false)
    × (has_number k (checkpoints_of c (Got me bytes ∷ past) s) ≡ true)
Counts c me past point bytes s (ViewChange vc) = IsLatestChange c past s vc
Counts c me past point bytes s (NewView new) = taken c past (Got me bytes) ≡ Some new
Counts c me past point bytes s (Reply client t mode k answer) = ⊥
Counts c me past point bytes s (Fetch k level index) = KeptState c me past point k (λ st. ⊤)
Counts c me past point bytes s (Meta k level index digests) =
    IsAwaited c me past point k level index (digest_of_children digests)
Counts c me past point bytes s (Page k index text) = IsAwaited c me past point k levels.Page index (sha256 text)

-- The bytes are dropped: no rule takes what they say to the replica, if anything.
abbrev pub IsDropped : Configuration → ℕ → List Entry → Point → List ℕ → Type 0
IsDropped c me past point bytes =
    (body : Body) → authentic (members c me) me bytes ≡ Some body → Counts c me past point bytes body.sender body.message
    → ⊥

-- ---- view changes that are due (Castro and Liskov, TOCS 2002, 4.5.2)

-- the input is another replica's view change, and it counts
abbrev pub TakesChange : Configuration → ℕ → List Entry → Entry → Type 0
TakesChange c me before input =
    (s : ℕ) × (vc : ViewChangeData) × Receives c me (record { sender = s; message = ViewChange vc }) before input
    × IsLatestChange c before s vc

-- The replica has to move to view v: by a timeout, or because it took a view change and f + 1 others are ahead.
abbrev pub HasToMove : Configuration → ℕ → List Entry → Entry → List Call → ℕ → Type 0
HasToMove c me before input waiting v =
    TimesOut c me (input ∷ before) waiting v
    ⊎ (TakesChange c me before input × JoinsOthers c me (input ∷ before) v)

-- each of the replica's 64 one-time keys has signed a frame that was sent
abbrev pub AreKeysSpent : List Entry → Type 0
AreKeysSpent past = (leaf : ℕ) → leaf < 64 → (bytes : List ℕ) × (leaf_of bytes ≡ Some leaf) × SentBefore bytes past

-- ---- new views that are due (Castro and Liskov, TOCS 2002, 4.5.2)

-- this view change of the sender counts in this entry
abbrev pub BringsChange : Configuration → ℕ × ViewChangeData → List Entry → Entry → Type 0
BringsChange c x past (Got p bytes) = (signed_change c bytes ≡ Some x) × IsLatestChange c past x.0 x.1
BringsChange c x past _ = ⊥

-- It is the latest view change of its sender that the replica has: another's that counted, or its own.
abbrev pub HasLatestChange : Configuration → ℕ → List Entry → ℕ × ViewChangeData → Type 0
HasLatestChange c me past x =
    ((x.0 ≢ me) × Once (BringsChange c x) past × (latest_change c past x.0 ≡ x.1.view))
    ⊎ ((x.0 ≡ me) × Once (λ earlier e. IsSending me (ViewChange x.1) e) past × (target past ≡ x.1.view))

-- the batch is logged for a number in the marks, or it is the null batch
abbrev pub HasBatch : Configuration → ℕ → List Entry → List ℕ → Type 0
HasBatch c me past batch =
    (batch ≡ null_batch)
    ⊎ ((v i : ℕ) × (logged c me past v i ≡ Some batch) × (is_in_marks c (low c me past) i ≡ true))

-- The replica has left for a view whose primary it is, and is not active in it. The new view meets the rules over view
-- changes and batches that the replica has.
pub record CanBeginView (c : Configuration) (me : ℕ) (past : List Entry) (new : NewViewData) : Type 0 where
  pub left : view c past < target past
  pub view : new.view ≡ target past
  pub primary : primary c new.view ≡ me
  pub selected : may_select c new ≡ true
  pub changes : Each (HasLatestChange c me past) (changes_of c new)
  pub batches : Each (HasBatch c me past) new.batches

-- ---- what a replica sends again once a waiting request comes again, since frames may be lost (own)

-- the input is an ordered request that waits already
abbrev pub WaitsAlready : Configuration → ℕ → List Entry → Entry → Point → Type 0
WaitsAlready c me before input old =
    (call : Call) × Has (λ x. x ≡ call) old.waiting
    × Receives c me
    (record { sender = client_party call.client; message = Request call.timestamp modes.Ordered call.op })
    before input

-- the new view that began view v, if one did, assigns only numbers below i
abbrev pub IsAssignedBelow : Configuration → ℕ → ℕ → List Entry → Type 0
IsAssignedBelow c v i history =
    (new : NewViewData) → Once (λ past e. taken c past e ≡ Some new) history → new.view ≡ v
    → new.start + length new.batches < i

-- the latest checkpoint that the replica sent
abbrev pub latest_checkpoint : Configuration → ℕ → List Entry → Option CheckpointEntry
latest_checkpoint c me past = slice_get (checkpoints_of c past me) 0

-- The replica sends again what it sent in view v for number i: its prepare, its commit, and as the primary its batch,
-- unless the new view has that.
pub record SendsRow (c : Configuration) (me : ℕ) (past : List Entry) (v i : ℕ) (outputs : List Entry) : Type 0 where
  pub batch : (batch : List ℕ) → primary c v ≡ me → IsAssignedBelow c v i past → logged c me past v i ≡ Some batch
      → SendsMessage me (PrePrepare v i batch) outputs
  pub prepare : (digest : List ℕ) → prepare_of c me past v i me ≡ Some digest
      → SendsMessage me (Prepare v i digest) outputs
  pub commit : (digest : List ℕ) → commit_of c me past v i me ≡ Some digest
      → SendsMessage me (Commit v i digest) outputs

-- A replica that is active in view v sends again what it sent for the numbers in the marks above the executed one. It
-- also sends its own new view, by which it began the view, and its latest checkpoint.
pub record SendsView (c : Configuration) (me : ℕ) (past : List Entry) (executed v : ℕ) (outputs : List Entry) : Type 0
  where
    pub new_view : primary c v ≡ me → 0 < v → (new : NewViewData) × (new.view ≡ v)
        × SendsMessage me (NewView new) outputs
    pub rows : (i : ℕ) → executed < i → is_in_marks c (low c me past) i ≡ true → SendsRow c me past v i outputs
    pub checkpoint : (m : CheckpointEntry) → latest_checkpoint c me past ≡ Some m
        → SendsMessage me (Checkpoint m.number m.digest) outputs

-- An active replica sends again what it sent in its view (SendsView), and an inactive one its last view change.
pub record SendsAgain (c : Configuration) (me : ℕ) (past : List Entry) (executed : ℕ) (outputs : List Entry) : Type 0
  where
    pub active : (v : ℕ) → is_active_in c past v ≡ true → SendsView c me past executed v outputs
    pub inactive : view c past < target past
        → (vc : ViewChangeData) × (vc.view ≡ target past) × SendsMessage me (ViewChange vc) outputs

-- ---- what a replica owes

-- What a correct replica owes in an event. before: the past at the input; now: the past after the event; outputs: those
-- of the event, the oldest first; old and new: the points before the input and after the event.
pub record Owes (c : Configuration) (me : ℕ) (before : List Entry) (input : Entry) (outputs now : List Entry)
    (old new : Point) : Type 0 where
  -- an active primary leaves no waiting request without a number, while a number is free
  pub numbers : (v i : ℕ) (call : Call) → is_active_in c now v ≡ true → primary c v ≡ me
      → Has (λ x. x ≡ call) new.waiting
      → IsFree c me now new.state.number v i → IsNumbered c me now v call.client call.timestamp
  pub numbers_once : AtOutputs (NumbersOnce c me) (input ∷ before) outputs
  -- an active backup sends a prepare for what it logs
  pub prepares : (v i : ℕ) (batch : List ℕ) → logged c me before v i ≡ None → logged c me now v i ≡ Some batch
      → is_active_in c now v ≡ true → primary c v ≢ me
      → SendsMessage me (Prepare v i (sha256 batch)) outputs
  -- an active replica sends a commit for what becomes prepared
  pub commits : (v i : ℕ) (batch : List ℕ) → (Prepared c me before v i batch → ⊥) → Prepared c me now v i batch
      → is_active_in c now v ≡ true
      → SendsMessage me (Commit v i (sha256 batch)) outputs
  -- no batch is left that is committed for the next number
  pub executes : (v : ℕ) (batch : List ℕ) → Committed c me now v (suc new.state.number) batch → ⊥
  pub replies : (ran : Ran) → Has (λ x. x ≡ ran) new.ran
      → SendsMessage me (reply_of ran.call.client ran.kept) outputs
  pub checkpoints : (k : ℕ) → Has (λ e. Executes k [] e) outputs → k % c.period ≡ 0
      → Has (λ st. (st.number ≡ k) × SendsMessage me (Checkpoint k (root_of st)) outputs) new.snapshots
  -- a request of the last timestamp gets its kept reply again
  pub again : (k timestamp : ℕ) (op : Operation) (kept : Kept)
      → Receives c me (record { sender = client_party k; message = Request timestamp modes.Ordered op }) before input
      → kept_of old.state k ≡ Some kept → kept.timestamp ≡ timestamp → SendsMessage me (reply_of k kept) outputs
  -- a request that waits already makes the replica send again what others may lack
  pub says_again : WaitsAlready c me before input old → SendsAgain c me before old.state.number outputs
  pub reads : (client timestamp : ℕ) (op : Operation)
      → Receives c me (record { sender = client; message = Request timestamp modes.ReadOnly op }) before input
      → is_read_only op ≡ true
      → SendsMessage me
      (Reply client timestamp modes.ReadOnly old.state.number (outcome (tuples old.state) (client_number client) op))
      outputs
  pub fetched_digests : (s k index : ℕ) (level : Level) → has_children level ≡ true
      → Receives c me (record { sender = s; message = Fetch k level index }) before input
      → (st : State) → KeptState c me before old k (λ x. x ≡ st)
      → SendsMessageTo me s (Meta k level index (digests_at st level index)) outputs
  pub fetched_page : (s k index : ℕ)
      → Receives c me (record { sender = s; message = Fetch k levels.Page index }) before input
      → (st : State) → KeptState c me before old k (λ x. x ≡ st)
      → SendsMessageTo me s (Page k index (page_text st index)) outputs
  -- a quorum of checkpoints above the state, and above an open transfer, starts a state transfer
  pub fetches : (k : ℕ) (root : List ℕ)
      → is_quorum c (count_checkpoints c now (record { number = k; digest = root })) ≡ true
      → new.state.number < k → fetching before < k → SendsMessage me (Fetch k levels.Root 0) outputs
  -- so does a new view that starts there
  pub fetches_start : (k : ℕ) → Once (StartsAhead c k) now → new.state.number < k → fetching before < k
      → SendsMessage me (Fetch k levels.Root 0) outputs
  -- a tick makes the replica send the fetch of an open transfer again
  pub fetches_again : (k index : ℕ) (level : Level) → IsTick input → asked_last before ≡ Some (k, (level, index))
      → old.state.number < k → SendsMessage me (Fetch k level index) outputs
  -- a part that the transfer awaits makes it go on
  pub goes_on_by_digests : (s k index : ℕ) (level : Level) (digests : List (List ℕ))
      → Receives c me (record { sender = s; message = Meta k level index digests }) before input
      → IsAwaitedAlone c me before old k level index (digest_of_children digests)
      → TransferGoesOn c me (input ∷ before) old outputs new.state.number k
  pub goes_on_by_page : (s k index : ℕ) (text : List ℕ)
      → Receives c me (record { sender = s; message = Page k index text }) before input
      → IsAwaitedAlone c me before old k levels.Page index (sha256 text)
      → TransferGoesOn c me (input ∷ before) old outputs new.state.number k
  -- A replica that has to move to a view has sent a view change for that view or for a later one, unless its keys are
  -- spent or no frame has room for it.
  pub view_changes : (vc : ViewChangeData) (bytes : List ℕ) → HasToMove c me before input old.waiting vc.view
      → IsNewViewChange c me (input ∷ before) old vc → is_within c vc ≡ true
      → said bytes ≡ Some (record { sender = me; message = ViewChange vc })
      → (vc.view ≤ target now) ⊎ AreKeysSpent before
  -- no new view is left that the replica could send, unless its keys are spent
  pub new_views : (new : NewViewData) → CanBeginView c me now new → AreKeysSpent now
  pub dropped : (bytes : List ℕ) → input ≡ Got me bytes → IsDropped c me before old bytes → outputs ≡ []

-- ---- histories

-- The history is safe and prompt, over one choice of points. outputs: those of the newest event that come after the
-- list, the oldest first; new: the point after that event; point: the one after the list.
abbrev pub HistoryIsPrompt : Configuration → ℕ → List Entry → List Entry → Point → Point → Type 0
HistoryIsPrompt c me [] outputs new point = (point ≡ first_point) × (outputs ≡ [])
HistoryIsPrompt c me (e ∷ past) outputs new point =
    (old : Point) × IsStep c me past old e point
    × either (is_output e)
    (HistoryIsPrompt c me past (e ∷ outputs) new old)
    (Owes c me past e outputs (reverse outputs ++ e ∷ past) old new × HistoryIsPrompt c me past [] old old)

-- The replica has not stopped: its history is safe and prompt to its end.
abbrev pub IsPromptReplica : Configuration → ℕ → List Entry → Type 0
IsPromptReplica c me history = (point : Point) × HistoryIsPrompt c me history [] point point

-- an input of a replica: a frame or a tick
abbrev pub IsInput : Entry → Type 0
IsInput e = elim e [ Got p bytes ↦ ⊤ | Tick p ↦ ⊤ | _ ↦ ⊥ ]

-- The history is a correct replica's: it is safe and prompt; or the replica stopped, and gives no output from some
-- input on.
abbrev pub IsReplica : Configuration → ℕ → List Entry → Type 0
IsReplica c me [] = ⊤
IsReplica c me (e ∷ past) =
    ((point : Point) × HistoryIsPrompt c me (e ∷ past) [] point point)
    ⊎ ((party_of e ≡ me) × IsInput e × IsReplica c me past)
