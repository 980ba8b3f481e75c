-- What a correct replica may do: the entries that may follow a past (Castro and Liskov, TOCS 2002, on normal-case
-- operation, garbage collection, view changes and state transfer). Owed has what it owes, and the whole of a correct
-- replica's history (IsReplica).
use Rattle.std.specs.Prelude.{◌≡◌, ◌≢◌, ℕ, suc, ◌+◌, ◌%◌, ◌≤◌, ◌<◌, ◌⊎◌, Bool, true, ◌&&◌, ◌||◌, not, List, [], ◌∷◌, ◌++◌, map, reverse, filter, nat_le, nat_lt, ◌==◌, if◌then◌else◌, Some, None, option_and_then, is_some, AllPairs, ⊤, max, Option}
use Rattle.std.specs.List.{list_all, range_with_len}
use Rattle.std.specs.Option.{option_map_or}
use Rattle.terms.specs.Parties.{client_party, client_number}
use Rattle.partition_tree.specs.declared.tree.TheConstants.{PAGES}
use Rattle.sha2.specs.Sha256.{sha256}
use Rattle.quorum.specs.Quorum.{count_below}
use Rattle.tuple_codec.specs.Operations.{Operation, Outcome}
use Rattle.space.specs.Applying.{outcome, is_read_only}
use Rattle.partition_tree.specs.Digests.{inner_digests, page_digests}
use Rattle.protocol.specs.System.Configuration.{Configuration, replicas, primary, is_number, members}
use Rattle.terms.specs.declared.order.Mode.{Mode}
use Rattle.terms.specs.declared.order.Mode.TheVariants as modes
use Rattle.terms.specs.declared.state.Level.{Level}
use Rattle.terms.specs.declared.state.Level.TheVariants as levels
use Rattle.wire_format.specs.Messages.{BodyData as Body, FrameData as Frame, MessageData as Message, AuthenticatorData as Authenticator, macs, signature, ViewChangeData, NewViewData, CheckpointEntryData as CheckpointEntry, BatchEntryData as BatchEntry, request as Request, pre_prepare as PrePrepare, prepare as Prepare, commit as Commit, checkpoint as Checkpoint, view_change as ViewChange, new_view as NewView, reply as Reply, fetch as Fetch, meta as Meta, page as Page}
use Rattle.wire_format.specs.Words.{carried, requests_of, frame_of, said, receivers_of}
use Rattle.signing.specs.AuthenticBody.{authentic}
use Rattle.protocol.specs.System.Frames.{IsSealed, leaf_of}
use Rattle.protocol.specs.System.Trace.{Entry, party_of, is_output, Once, Has, either, frames_in, Receives}
use Rattle.protocol.specs.System.Trace.Entry.{Invoke, Got, Tick, Executed, Installed, Sent, Accepted}
use Rattle.protocol.specs.Replica.Selection.{is_quorum, is_weak_quorum}
use Rattle.protocol.specs.Replica.Certificates.{view, target, is_active_in, taken, latest_change, count_checkpoints, low, is_in_marks, are_genuine, logged, Prepared, Committed}
use Rattle.reply_cache.specs.Replies.{Kept}
use Rattle.protocol.specs.Replica.Transfers.{fetching, asked_last, NoneAsked, IsNextPart, in_place}
use Rattle.protocol.specs.Replica.State.{State, IsReplicatedState, Call, call_in, Ran, opening, execute, root_of, pages_of, page_text, kept_of, last_time, tuples, ran_in}
use Rattle.wire_format.specs.Lists.{Each}

-- ---- words on pasts

-- a batch is executed in this entry for number k
abbrev pub Executes : ℕ → List Entry → Entry → Type 0
Executes k past (Executed r number batch) = number ≡ k
Executes k past _ = ⊥

-- a party receives or sends these bytes in this entry, alone or carried
abbrev pub HasSeen : List ℕ → List Entry → Entry → Type 0
HasSeen bytes past (Got p whole) = Has (λ x. x ≡ bytes) (frames_in whole)
HasSeen bytes past (Sent p whole) = Has (λ x. x ≡ bytes) (frames_in whole)
HasSeen bytes past _ = ⊥

-- a party sends these bytes in this entry
abbrev pub SendsBytes : List ℕ → List Entry → Entry → Type 0
SendsBytes bytes past (Sent p sent) = sent ≡ bytes
SendsBytes bytes past _ = ⊥

-- the bytes were sent before
abbrev pub SentBefore : List ℕ → List Entry → Type 0
SentBefore bytes past = Once (SendsBytes bytes) past

-- The running event has sent these bytes.
abbrev pub SentInEvent : List ℕ → List Entry → Type 0
SentInEvent bytes [] = ⊥
SentInEvent bytes (e ∷ past) = either (is_output e) (SendsBytes bytes past e ⊎ SentInEvent bytes past) ⊥

-- Each earlier frame by the same leaf has these very bytes: no one-time key signs two bodies.
abbrev pub HasOwnLeaf : List ℕ → List Entry → Type 0
HasOwnLeaf bytes past =
    (leaf : ℕ) (sent : List ℕ) → leaf_of bytes ≡ Some leaf → leaf_of sent ≡ Some leaf → SentBefore sent past
    → sent ≡ bytes

-- the replica receives a page of this index and text in this entry
abbrev pub GetsPage : Configuration → ℕ → ℕ → List ℕ → List Entry → Entry → Type 0
GetsPage c me i text past (Got p bytes) =
    (sender number : ℕ)
    × (authentic (members c me) me bytes ≡ Some (record { sender = sender; message = Page number i text }))
GetsPage c me i text past _ = ⊥

-- P holds at the input of the running event, the newest entry that is no output, with its past
abbrev pub AtInput : (List Entry → Entry → Type 0) → List Entry → Type 0
AtInput P [] = ⊥
AtInput P (e ∷ past) = either (is_output e) (AtInput P past) (P past e)

-- The entry is a tick: time goes by at its party.
abbrev pub IsTick : Entry → Type 0
IsTick e = elim e [ Tick p ↦ ⊤ | _ ↦ ⊥ ]

-- the replica receives the client's ordered request of this timestamp in this entry
abbrev pub GetsOrdered : Configuration → ℕ → ℕ → ℕ → List Entry → Entry → Type 0
GetsOrdered c me client timestamp past e =
    (op : Operation) × Receives c me (record { sender = client; message = Request timestamp modes.Ordered op }) past e

-- the replica received a fetch by replica s for this part of checkpoint k
abbrev pub WasAsked : Configuration → ℕ → List Entry → ℕ → ℕ → Level → ℕ → Type 0
WasAsked c me past s k level index = Once (Receives c me (record { sender = s; message = Fetch k level index })) past

-- ---- a replica's state between entries

-- A replica's state between entries: the executed state; the states of executed multiples of the period and of
-- installed numbers, the newest first; the requests that ran in the running event; and those that wait, in order of
-- arrival.
pub record Point : Type 0 where
  pub state : State
  pub snapshots : List State
  pub ran : List Ran
  pub waiting : List Call

-- the point before any entry: the opening state, kept as a snapshot
abbrev pub first_point : Point
first_point = record { state = opening; snapshots = opening ∷ []; ran = []; waiting = [] }

-- The request has a greater timestamp than the waiting one, if that is of the same client.
abbrev pub is_newer : Call → Call → Bool
is_newer call other = not (other.client == call.client) || nat_lt other.timestamp call.timestamp

-- A request that is received waits, if its timestamp is above its client's last and above that of the client's waiting
-- one, which it replaces.
abbrev pub with_waiting : State → List Call → Call → List Call
with_waiting st waiting call =
    if nat_lt (last_time st call.client) call.timestamp && list_all (is_newer call) waiting
    then filter (λ other. not (other.client == call.client)) waiting ++ call ∷ [] else waiting

-- the requests that wait once the bytes are received
abbrev pub waiting_after : Configuration → ℕ → Point → List ℕ → List Call
waiting_after c me point bytes =
    option_map_or (with_waiting point.state point.waiting)
    (option_and_then (call_in c) (authentic (members c me) me bytes)) point.waiting

-- A request waits until its client's last timestamp is at least its own.
abbrev pub still_waiting : State → List Call → List Call
still_waiting st waiting = filter (λ call. nat_lt (last_time st call.client) call.timestamp) waiting

-- an executed state is kept if its number is a multiple of the period
abbrev pub snapshots_after : Configuration → State → List State → List State
snapshots_after c st snapshots = if st.number % c.period == 0 then st ∷ snapshots else snapshots

-- The point after an installation: the state of the number and root whose pages are those in place, kept as a snapshot.
-- A request that it has run waits no more.
pub record IsInstalled (c : Configuration) (me : ℕ) (past : List Entry) (old : Point) (k : ℕ) (root : List ℕ)
    (new : Point) : Type 0 where
  pub is_state : IsReplicatedState new.state
  pub number : new.state.number ≡ k
  pub root_is : root_of new.state ≡ root
  pub pages : (i : ℕ) → i < PAGES → page_text new.state i ≡ in_place c me k past old.state i
  pub snapshots : new.snapshots ≡ new.state ∷ old.snapshots
  pub ran : new.ran ≡ old.ran
  pub waiting : new.waiting ≡ still_waiting new.state old.waiting

-- the point after a batch is executed: the state, the snapshots, the requests that ran and those that wait
abbrev pub executed_point : Configuration → Point → ℕ → List ℕ → Point
executed_point c old k batch = record {
  state = execute c old.state batch;
  snapshots = snapshots_after c (execute c old.state batch) old.snapshots;
  ran = old.ran ++ ran_in c k old.state (requests_of batch);
  waiting = still_waiting (execute c old.state batch) old.waiting;
}

-- How an entry moves the point: an input begins an event in which nothing ran yet, an execution or an installation
-- changes the state, and all else changes nothing.
abbrev pub MovesPoint : Configuration → ℕ → List Entry → Point → Entry → Point → Type 0
MovesPoint c me past old (Got p bytes) new = new ≡ record old { ran = []; waiting = waiting_after c me old bytes }
MovesPoint c me past old (Tick p) new = new ≡ record old { ran = [] }
MovesPoint c me past old (Executed r k batch) new = new ≡ executed_point c old k batch
MovesPoint c me past old (Installed r k root) new = IsInstalled c me past old k root new
MovesPoint c me past old _ new = new ≡ old

-- ---- kept states, and the contents of a view change

-- the snapshots at or above the low mark h; the replica discards older ones
abbrev pub kept_states : ℕ → List State → List State
kept_states h snapshots = filter (λ st. nat_le h st.number) snapshots

-- the checkpoint of a state: its number and root
abbrev pub checkpoint_of : State → CheckpointEntry
checkpoint_of st = record { number = st.number; digest = root_of st }

-- the P set: for each number in the marks the digest that is prepared in the latest view, if one is
pub record IsPreparedList (c : Configuration) (me : ℕ) (past : List Entry)
    (batch_entries : List BatchEntry) : Type 0 where
  pub listed : (batch_entry : BatchEntry) → Has (λ x. x ≡ batch_entry) batch_entries
      → ((batch : List ℕ) × Prepared c me past batch_entry.view batch_entry.number batch
      × (sha256 batch ≡ batch_entry.digest))
      × (is_in_marks c (low c me past) batch_entry.number ≡ true)
      × ((v : ℕ) (batch : List ℕ) → batch_entry.view < v → Prepared c me past v batch_entry.number batch → ⊥)
  pub all : (v i : ℕ) (batch : List ℕ) → is_in_marks c (low c me past) i ≡ true → Prepared c me past v i batch
      → Has (λ x. x.number ≡ i) batch_entries
  pub ascending : AllPairs (λ x y. x.number < y.number) batch_entries

-- the Q set: each digest that was pre-prepared for a number in the marks, with the latest such view
pub record IsPrePreparedList (c : Configuration) (me : ℕ) (past : List Entry)
    (batch_entries : List BatchEntry) : Type 0 where
  pub listed : (batch_entry : BatchEntry) → Has (λ x. x ≡ batch_entry) batch_entries
      → ((batch : List ℕ) × (logged c me past batch_entry.view batch_entry.number ≡ Some batch)
      × (sha256 batch ≡ batch_entry.digest))
      × (is_in_marks c (low c me past) batch_entry.number ≡ true)
  pub all : (v i : ℕ) (batch : List ℕ) → is_in_marks c (low c me past) i ≡ true → logged c me past v i ≡ Some batch
      → Has (λ x. (x.number ≡ i) × (x.digest ≡ sha256 batch) × (v ≤ x.view)) batch_entries
  pub differ : AllPairs (λ x y. (x.number ≡ y.number) → x.digest ≢ y.digest) batch_entries

-- ---- why a replica changes its view (Castro and Liskov, TOCS 2002, 4.5.2)

-- the input of the newest event, and the past before it
abbrev pub last_input : List Entry → Option (Entry × List Entry)
last_input [] = None
last_input (e ∷ past) = if is_output e then last_input past else Some (e, past)

-- the replica's view, or the later one for which it left that
abbrev pub sought_view : Configuration → List Entry → ℕ
sought_view c past = max (view c past) (target past)

-- Timeout: a tick began the event, a request waits or the replica was inactive, and v is the next view.
pub record TimesOut (c : Configuration) (me : ℕ) (past : List Entry) (waiting : List Call) (v : ℕ) : Type 0 where
  pub before : List Entry
  pub tick : last_input past ≡ Some (Tick me, before)
  pub waits : (waiting ≢ []) ⊎ (view c before < target before)
  pub next : v ≡ suc (sought_view c before)

-- another replica's latest view change is for a view above the sought one
abbrev pub is_ahead : Configuration → ℕ → List Entry → ℕ → Bool
is_ahead c me past s = not (s == me) && nat_lt (sought_view c past) (latest_change c past s)

-- f + 1 other replicas are ahead, and v is the least of their views
pub record JoinsOthers (c : Configuration) (me : ℕ) (past : List Entry) (v : ℕ) : Type 0 where
  pub enough : is_weak_quorum c (count_below (is_ahead c me past) (replicas c)) ≡ true
  pub of_one : (s : ℕ) × (s < replicas c) × (is_ahead c me past s ≡ true) × (latest_change c past s ≡ v)
  pub least : (s : ℕ) → s < replicas c → is_ahead c me past s ≡ true → v ≤ latest_change c past s

-- ---- a new view change

-- A view change for a view above the replica's own and above those that it left for before, with the contents that its
-- history gives. It has a reason: a timeout, or others to join.
pub record IsNewViewChange (c : Configuration) (me : ℕ) (past : List Entry) (point : Point)
    (vc : ViewChangeData) : Type 0 where
  pub above : view c past < vc.view
  pub newer : target past < vc.view
  pub is_view : is_number vc.view ≡ true
  pub low : vc.low ≡ low c me past
  pub checkpoints : vc.checkpoints ≡ map checkpoint_of (reverse (kept_states vc.low point.snapshots))
  pub prepared : IsPreparedList c me past vc.prepared
  pub proposed : IsPrePreparedList c me past vc.pre_prepared
  pub reason : TimesOut c me past point.waiting vc.view ⊎ JoinsOthers c me past vc.view

-- ---- what may be installed, and fetched

-- the replica takes or sends a new view in this entry that starts at this number with this root
abbrev pub StartsAt : Configuration → ℕ → List ℕ → List Entry → Entry → Type 0
StartsAt c k root past e = (new : NewViewData) × (taken c past e ≡ Some new) × (new.start ≡ k) × (new.root ≡ root)

-- at some time a quorum of replicas had sent this checkpoint, counted as for stability
abbrev pub HadQuorum : Configuration → CheckpointEntry → List Entry → Type 0
HadQuorum c checkpoint past = Once (λ earlier e. is_quorum c (count_checkpoints c (e ∷ earlier) checkpoint) ≡ true) past

-- a quorum of checkpoints had this root for the number, or a new view started there with it
abbrev pub IsRootWanted : Configuration → List Entry → ℕ → List ℕ → Type 0
IsRootWanted c past k root = HadQuorum c (record { number = k; digest = root }) past ⊎ Once (StartsAt c k root) past

-- the replica may install a number above its state's, with the root of a quorum of checkpoints or of a new view's start
abbrev pub MayInstall : Configuration → List Entry → Point → ℕ → List ℕ → Type 0
MayInstall c past point k root = (point.state.number < k) × IsRootWanted c past k root

-- at a tick, the part that the replica fetched last
abbrev pub IsAskedAgain : List Entry → ℕ → Level → ℕ → Type 0
IsAskedAgain past k level index =
    (asked_last past ≡ Some (k, (level, index))) × NoneAsked past × AtInput (λ before e. IsTick e) past

-- The replica may fetch a part of a state that it may install, and of none while it fetches a newer one: the next part,
-- or the last one again.
pub record MayFetch (c : Configuration) (me : ℕ) (past : List Entry) (point : Point) (k : ℕ) (level : Level)
    (index : ℕ) : Type 0 where
  pub root : List ℕ
  pub may : MayInstall c past point k root
  pub newest : fetching past ≤ k
  pub next : IsNextPart c me past (in_place c me k past point.state) k root level index
      ⊎ IsAskedAgain past k level index

-- ---- what may be sent. Each clause covers sending again too.

-- The number that the primary assigns next in view v. Below it, down to the low mark, each number has a batch in the
-- view; from it on none has one. It is in the marks, and at most two above the executed one.
pub record IsFree (c : Configuration) (me : ℕ) (past : List Entry) (executed v number : ℕ) : Type 0 where
  pub in_marks : is_in_marks c (low c me past) number ≡ true
  pub near : number ≤ executed + 2
  pub used : (j : ℕ) → low c me past < j → j < number → is_some (logged c me past v j) ≡ true
  pub unused : (j : ℕ) → number ≤ j → logged c me past v j ≡ None

-- The active primary of view v assigns number i, within its marks, to one batch of requests that are authentic to it.
-- If the number has no batch yet, it is the next one.
pub record MayPrePrepare (c : Configuration) (me : ℕ) (past : List Entry) (point : Point) (e : Entry) (v i : ℕ)
    (batch : List ℕ) : Type 0 where
  pub is_primary : primary c v ≡ me
  pub active : is_active_in c past v ≡ true
  pub in_marks : is_in_marks c (low c me past) i ≡ true
  pub genuine : are_genuine c me batch ≡ true
  pub one : logged c me (e ∷ past) v i ≡ Some batch
  pub next : logged c me past v i ≡ None → IsFree c me past point.state.number v i

-- an active backup sends a prepare for a batch that it logged
pub record MayPrepare (c : Configuration) (me : ℕ) (past : List Entry) (v i : ℕ) (digest : List ℕ) : Type 0 where
  pub is_backup : primary c v ≢ me
  pub active : is_active_in c past v ≡ true
  pub batch : List ℕ
  pub is_logged : logged c me past v i ≡ Some batch
  pub digest_is : sha256 batch ≡ digest

-- an active replica sends a commit for a batch that is prepared
pub record MayCommit (c : Configuration) (me : ℕ) (past : List Entry) (v i : ℕ) (digest : List ℕ) : Type 0 where
  pub active : is_active_in c past v ≡ true
  pub batch : List ℕ
  pub prepared : Prepared c me past v i batch
  pub digest_is : sha256 batch ≡ digest

-- a replica sends a checkpoint for a multiple of the period that it executed, with the root of the state there
pub record MayCheckpoint (c : Configuration) (past : List Entry) (point : Point) (k : ℕ) (root : List ℕ) : Type 0 where
  pub multiple : k % c.period ≡ 0
  pub executed : Once (Executes k) past
  pub state : Has (λ st. (st.number ≡ k) × (root_of st ≡ root)) point.snapshots

-- a replica sends a new view change, or its last one again while inactive
abbrev pub MayViewChange : Configuration → ℕ → List Entry → Point → List ℕ → ViewChangeData → Type 0
MayViewChange c me past point bytes vc =
    IsNewViewChange c me past point vc ⊎ ((view c past < target past) × (vc.view ≡ target past) × SentBefore bytes past)

-- the primary sends its new view if the replica takes it thereby, or again while active in it
abbrev pub MayNewView : Configuration → ℕ → List Entry → Entry → List ℕ → NewViewData → Type 0
MayNewView c me past e bytes new =
    (primary c new.view ≡ me)
    × ((taken c past e ≡ Some new) ⊎ ((is_active_in c past new.view ≡ true) × SentBefore bytes past))

-- the reply that is kept for client k, as a message
abbrev pub reply_of : ℕ → Kept → Message
reply_of k kept = Reply (client_party k) kept.timestamp modes.Ordered kept.number kept.outcome

-- The reply is to a request that ran in the event. Or it is the client's kept one, and the event's input is that
-- request of the client.
abbrev pub MayReplyOrdered : Configuration → ℕ → List Entry → Point → ℕ → ℕ → ℕ → Outcome → Type 0
MayReplyOrdered c me past point client timestamp number answer =
    Has (λ ran. reply_of ran.call.client ran.kept ≡ Reply client timestamp modes.Ordered number answer) point.ran
    ⊎ ((k : ℕ) × (kept : Kept)
    × (kept_of point.state k ≡ Some kept) × (reply_of k kept ≡ Reply client timestamp modes.Ordered number answer)
    × AtInput (GetsOrdered c me client timestamp) past)

-- the replica answers a received read from its executed state, with that state's number
pub record MayReplyRead (c : Configuration) (me : ℕ) (past : List Entry) (point : Point) (client timestamp number : ℕ)
    (answer : Outcome) : Type 0 where
  pub op : Operation
  pub is_read : is_read_only op ≡ true
  pub authentic : Once (Receives c me (record { sender = client; message = Request timestamp modes.ReadOnly op })) past
  pub answer_is : answer ≡ outcome (tuples point.state) (client_number client) op
  pub number_is : number ≡ point.state.number

-- each mode of replies has its rule
abbrev pub MayReply : Configuration → ℕ → List Entry → Point → ℕ → ℕ → Mode → ℕ → Outcome → Type 0
MayReply c me past point client timestamp modes.Ordered number answer =
    MayReplyOrdered c me past point client timestamp number answer
MayReply c me past point client timestamp modes.ReadOnly number answer =
    MayReplyRead c me past point client timestamp number answer

-- the replica keeps a state of number k, of which P holds
abbrev pub KeptState : Configuration → ℕ → List Entry → Point → ℕ → (State → Type 0) → Type 0
KeptState c me past point k P = Has (λ st. (st.number ≡ k) × P st) (kept_states (low c me past) point.snapshots)

-- the digests below a place; below a page there are none
abbrev pub digests_at : State → Level → ℕ → List (List ℕ)
digests_at st levels.Root index = inner_digests (pages_of st)
digests_at st levels.Inner index = page_digests (pages_of st) index
digests_at st levels.Page index = []

-- The digests are a kept state's, and some replica sent a fetch for them.
abbrev pub MayMeta : Configuration → ℕ → List Entry → Point → ℕ → Level → ℕ → List (List ℕ) → Type 0
MayMeta c me past point k level index digests =
    KeptState c me past point k
    (λ st. digests ≡ digests_at st level index) × ((s : ℕ) × WasAsked c me past s k level index)

-- The page is a kept state's, and some replica sent a fetch for it.
abbrev pub MayPage : Configuration → ℕ → List Entry → Point → ℕ → ℕ → List ℕ → Type 0
MayPage c me past point k index text =
    KeptState c me past point k (λ st. text ≡ page_text st index) × ((s : ℕ) × WasAsked c me past s k levels.Page index)

-- Each message has its rule. A replica makes no requests.
abbrev pub MaySendMessage : Configuration → ℕ → List Entry → Point → Entry → List ℕ → Message → Type 0
MaySendMessage c me past point e bytes (Request timestamp mode op) = ⊥
MaySendMessage c me past point e bytes (PrePrepare v i batch) = MayPrePrepare c me past point e v i batch
MaySendMessage c me past point e bytes (Prepare v i digest) = MayPrepare c me past v i digest
MaySendMessage c me past point e bytes (Commit v i digest) = MayCommit c me past v i digest
MaySendMessage c me past point e bytes (Checkpoint k root) = MayCheckpoint c past point k root
MaySendMessage c me past point e bytes (ViewChange vc) = MayViewChange c me past point bytes vc
MaySendMessage c me past point e bytes (NewView new) = MayNewView c me past e bytes new
MaySendMessage c me past point e bytes (Reply client timestamp mode number answer) =
    MayReply c me past point client timestamp mode number answer
MaySendMessage c me past point e bytes (Fetch k level index) = MayFetch c me past point k level index
MaySendMessage c me past point e bytes (Meta k level index digests) = MayMeta c me past point k level index digests
MaySendMessage c me past point e bytes (Page k index text) = MayPage c me past point k index text

-- ---- whom a frame is for

-- all other replicas
abbrev pub others : Configuration → ℕ → List ℕ
others c me = filter (λ r. not (r == me)) (range_with_len 0 (replicas c))

-- a reply is for its client, a part for a replica that sent a fetch for it, all else for all other replicas
abbrev pub IsFor : Configuration → ℕ → List Entry → Message → List ℕ → Type 0
IsFor c me past (Reply client timestamp mode number answer) receivers = receivers ≡ client ∷ []
IsFor c me past (Meta k level index digests) receivers =
    (s : ℕ) × (receivers ≡ s ∷ []) × WasAsked c me past s k level index
IsFor c me past (Page k index text) receivers =
    (s : ℕ) × (receivers ≡ s ∷ []) × WasAsked c me past s k levels.Page index
IsFor c me past _ receivers = receivers ≡ others c me

-- the MACs are for exactly these receivers; a signature is for all
abbrev pub IsAddressed : Configuration → ℕ → List Entry → Message → Authenticator → Type 0
IsAddressed c me past message (macs entries) = IsFor c me past message (receivers_of (macs entries))
IsAddressed c me past message (signature s) = ⊤

-- The replica may send a frame of its own: with MACs for its receivers, or signed by a leaf that signs nothing else,
-- over frames that it has seen. One event sends a frame once. Its bytes name its receivers, so no party gets it twice.
pub record MaySend (c : Configuration) (me : ℕ) (past : List Entry) (point : Point) (e : Entry)
    (bytes : List ℕ) : Type 0 where
  pub body : Body
  pub says : said bytes ≡ Some body
  pub own : body.sender ≡ me
  pub seen : Each (λ frame. Once (HasSeen frame) past) (carried body.message)
  pub allowed : MaySendMessage c me past point e bytes body.message
  pub is_sealed : (frame : Frame) → frame_of bytes ≡ Some frame
      → IsSealed c frame × IsAddressed c me past body.message frame.authenticator
  pub leaf : HasOwnLeaf bytes past
  pub once : SentInEvent bytes past → ⊥

-- ---- what may be executed

-- the replica executes a batch that is committed for the next number
pub record MayExecute (c : Configuration) (me : ℕ) (past : List Entry) (point : Point) (k : ℕ)
    (batch : List ℕ) : Type 0 where
  pub next : k ≡ suc point.state.number
  pub in_view : ℕ
  pub committed : Committed c me past in_view k batch

-- An entry that a correct replica may have next: any frame or tick, an output by its rules, and none of a client's.
abbrev pub May : Configuration → ℕ → List Entry → Point → Entry → Type 0
May c me past point (Invoke client timestamp op) = ⊥
May c me past point (Got p bytes) = ⊤
May c me past point (Tick p) = ⊤
May c me past point (Executed r k batch) = MayExecute c me past point k batch
May c me past point (Installed r k root) = MayInstall c past point k root
May c me past point (Sent p bytes) = MaySend c me past point (Sent p bytes) bytes
May c me past point (Accepted client timestamp answer) = ⊥

-- one entry that a replica may have, from the point before it to the one after it
pub record IsStep (c : Configuration) (me : ℕ) (past : List Entry) (old : Point) (e : Entry)
    (new : Point) : Type 0 where
  pub own : party_of e ≡ me
  pub may : May c me past old e
  pub moves : MovesPoint c me past old e new

-- each entry is one that the replica may have, and the newest leaves it at the point
abbrev pub HistoryReaches : Configuration → ℕ → List Entry → Point → Type 0
HistoryReaches c me [] point = point ≡ first_point
HistoryReaches c me (e ∷ past) point = (old : Point) × HistoryReaches c me past old × IsStep c me past old e point

-- The history is safe: each entry is one that a correct replica may have. The laws over all runs use no more than this.
abbrev pub SafeReplica : Configuration → ℕ → List Entry → Type 0
SafeReplica c me history = (point : Point) × HistoryReaches c me history point
