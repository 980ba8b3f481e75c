-- Which waiting requests have a number in the view of their primary (Castro and Liskov, TOCS 2002, on normal-case
-- operation, garbage collection and view changes). All is a property of the history, which forgets nothing: a request
-- that still waits when its row is cut keeps its number.
use Rattle.std.specs.Prelude.{◌≡◌, ◌≢◌, ◌↔◌, ℕ, zero, suc, ◌+◌, ◌≤◌, ◌<◌, ◌⊎◌, Bool, true, false, ◌&&◌, not, List, [], ◌∷◌, ◌++◌, length, map, take, filter, max, nat_lt, ◌==◌, if◌then◌else◌, Some, None, option_and_then, is_some, AllPairs}
use Rattle.std.specs.List.{list_all, list_any, filter_map, flat_map}
use Rattle.std.specs.Option.{option_map_or}
use Rattle.wire_format.specs.Messages.{MessageData as Message, NewViewData, pre_prepare as PrePrepare}
use Rattle.wire_format.specs.Words.{requests_of, said}
use Rattle.wire_format.specs.Lists.{Each}
use Rattle.signing.specs.AuthenticBody.{authentic}
use Rattle.ordering.specs.Log.{LogData}
use Rattle.protocol.specs.System.Configuration.{Configuration, primary, members}
use Rattle.protocol.specs.System.Trace.{Entry, party_of, Once, Has, either}
use Rattle.protocol.specs.System.Trace.Entry.{Sent}
use Rattle.protocol.specs.Replica.Certificates.{view, taken, low, is_in_marks, are_genuine, logged}
use Rattle.protocol.specs.Replica.State.{State, Call, call_in, call_of, last_time, execute}
use Rattle.protocol.specs.Replica.RightReplica.{Point, is_newer, with_waiting, waiting_after, still_waiting, IsFree}
use Rattle.protocol.specs.Replica.Owed.{BeginsViewWith, IsNumbered, NumbersOnce}
use Rattle.replica_histories.specs.Logs.{FitsLog}

-- ---- the waiting requests

-- a waiting request, and whether it has a number in the view
pub record Waiting : Type 0 where
  pub call : Call
  pub numbered : Bool

abbrev pub calls_of : List Waiting → List Call
calls_of entries = map (λ w. w.call) entries

-- those without a number, and how many they are
abbrev pub unnumbered : List Waiting → List Waiting
unnumbered entries = filter (λ w. not w.numbered) entries

abbrev pub count_unnumbered : List Waiting → ℕ
count_unnumbered entries = length (unnumbered entries)

-- the first so many of those without a number have one
abbrev pub with_numbered : ℕ → List Waiting → List Waiting
with_numbered count [] = []
with_numbered zero entries = entries
with_numbered (suc count) (w ∷ entries) =
    if w.numbered then w ∷ with_numbered (suc count) entries else
    record w { numbered = true } ∷ with_numbered count entries

-- ---- the requests of a new view

-- a request in the new view with which a view began
pub record AssignedCall : Type 0 where
  pub client : ℕ
  pub timestamp : ℕ

-- those in its batches
abbrev pub assigned_in : Configuration → List (List ℕ) → List AssignedCall
assigned_in c batches =
    map (λ call. record { client = call.client; timestamp = call.timestamp })
    (filter_map (call_of c) (flat_map requests_of batches))

-- the call is one of them
abbrev pub is_assigned : List AssignedCall → Call → Bool
is_assigned assigned call = list_any (λ b. (b.client == call.client) && (b.timestamp == call.timestamp)) assigned

-- so a call waits, if the view assigned it no number but by these
abbrev pub arrived : List AssignedCall → Call → Waiting
arrived assigned call = record { call = call; numbered = is_assigned assigned call }

-- ---- data that fit

-- the client ran the timestamp, or a later one, or a request of it that is no older waits
abbrev pub CallIsKnown : State → List Call → ℕ → ℕ → Type 0
CallIsKnown st waiting client timestamp =
    (timestamp ≤ last_time st client) ⊎ Has (λ call. (call.client ≡ client) × (timestamp ≤ call.timestamp)) waiting

-- the call of this client and timestamp is in the new view
abbrev pub IsInNewView : List AssignedCall → ℕ → ℕ → Type 0
IsInNewView assigned client timestamp = Has (λ b. (b.client ≡ client) × (b.timestamp ≡ timestamp)) assigned

-- the call has a number in the view v, or has none
abbrev pub CallHasNumber : Configuration → ℕ → ℕ → List Entry → Call → Type 0
CallHasNumber c me v history call = IsNumbered c me history v call.client call.timestamp

abbrev pub CallHasNoNumber : Configuration → ℕ → ℕ → List Entry → Call → Type 0
CallHasNoNumber c me v history call = CallHasNumber c me v history call → ⊥

-- the request has a number exactly if its flag says so
abbrev pub IsRightly : Configuration → ℕ → ℕ → List Entry → Waiting → Type 0
IsRightly c me v history w = either w.numbered (CallHasNumber c me v history w.call)
    (CallHasNoNumber c me v history w.call)

-- In the view v each number above the low mark has a batch, up to the greatest assigned one, and none above has one.
-- The waiting requests are of different clients, and each has the right flag. The calls that began the view have
-- numbers. Any other call that has one is known, so a newer one has none.
pub record FitsNumbers (c : Configuration) (me v used : ℕ) (assigned : List AssignedCall) (entries : List Waiting)
    (st : State) (waiting : List Call) (history : List Entry) : Type 0 where
  pub calls : calls_of entries ≡ waiting
  pub free : (j : ℕ) → used < j → logged c me history v j ≡ None
  pub full : (j : ℕ) → low c me history < j → j ≤ used → is_some (logged c me history v j) ≡ true
  pub rightly : Each (IsRightly c me v history) entries
  pub numbered : Each (λ b. IsNumbered c me history v b.client b.timestamp) assigned
  pub known : (client timestamp : ℕ) → IsNumbered c me history v client timestamp
      → CallIsKnown st waiting client timestamp ⊎ IsInNewView assigned client timestamp
  pub differ : AllPairs (λ call twin. call.client ≢ twin.client) waiting

-- Before the first entry no request has a number.
abbrev pub FirstNumbersFit : Type 0
FirstNumbersFit = (c : Configuration) (me v : ℕ) (st : State) → FitsNumbers c me v 0 [] [] st [] []

-- ---- a view begins

-- No batch is logged in a view above the current one, and no new view with a batch began one.
pub record AreOfNoLaterView (c : Configuration) (me : ℕ) (history : List Entry) : Type 0 where
  pub logged : (v i : ℕ) (batch : List ℕ) → logged c me history v i ≡ Some batch → v ≤ view c history
  pub begins : (v : ℕ) (batch : List ℕ) → Once (BeginsViewWith c v batch) history → v ≤ view c history

-- The same if a log fits.
abbrev pub LogsAreOfNoLaterView : Type 0
LogsAreOfNoLaterView =
    (c : Configuration) (me : ℕ) (log : LogData) (history : List Entry) → FitsLog c me log history
    → AreOfNoLaterView c me history

-- In a view above the current one no request has a number.
abbrev pub LaterNumberNothing : Type 0
LaterNumberNothing =
    (c : Configuration) (me v client timestamp : ℕ) (history : List Entry) → AreOfNoLaterView c me history
    → view c history < v → IsNumbered c me history v client timestamp → ⊥

-- If the replica takes or sends a new view, the requests in its batches have numbers in its view, and no others. Its
-- numbers are used up to its last batch, also those below the low mark.
abbrev pub ViewsBegin : Type 0
ViewsBegin =
    (c : Configuration) (me : ℕ) (st : State) (waiting : List Call) (past : List Entry) (e : Entry) (new : NewViewData)
    → taken c past e ≡ Some new → AreOfNoLaterView c me past
    → AllPairs (λ call twin. call.client ≢ twin.client) waiting
    → FitsNumbers c me new.view (new.start + length new.batches) (assigned_in c new.batches)
    (map (arrived (assigned_in c new.batches)) waiting) st waiting (e ∷ past)

-- ---- entries that assign no number

-- an entry leaves the numbers of the view as they are
pub record KeepsNumbers (c : Configuration) (me v : ℕ) (past : List Entry) (e : Entry) : Type 0 where
  pub batches : (i : ℕ) → logged c me (e ∷ past) v i ≡ logged c me past v i
  pub numbered : (client timestamp : ℕ)
      → IsNumbered c me (e ∷ past) v client timestamp ↔ IsNumbered c me past v client timestamp

-- Data that fit still fit after such an entry.
abbrev pub NumbersStay : Type 0
NumbersStay =
    (c : Configuration) (me v used : ℕ) (assigned : List AssignedCall) (entries : List Waiting) (st : State)
    (waiting : List Call) (past : List Entry) (e : Entry)
    → KeepsNumbers c me v past e → FitsNumbers c me v used assigned entries st waiting past
    → FitsNumbers c me v used assigned entries st waiting (e ∷ past)

-- the message is a pre-prepare
abbrev pub is_pre_prepare : Message → Bool
is_pre_prepare message = elim message [ PrePrepare v i batch ↦ true | _ ↦ false ]

abbrev pub sends_pre_prepare : Entry → Bool
sends_pre_prepare (Sent p bytes) = option_map_or (λ body. is_pre_prepare body.message) (said bytes) false
sends_pre_prepare _ = false

-- At the primary of the view all other entries assign no number, as long as no new view is taken: received bytes,
-- whatever they are, are no proposal of its own.
abbrev pub OthersKeepNumbers : Type 0
OthersKeepNumbers =
    (c : Configuration) (me v : ℕ) (past : List Entry) (e : Entry) → primary c v ≡ me → party_of e ≡ me
    → taken c past e ≡ None → sends_pre_prepare e ≡ false → KeepsNumbers c me v past e

-- Nor does a pre-prepare of a logged number, which numbers no request twice.
abbrev pub BatchesKeepNumbers : Type 0
BatchesKeepNumbers =
    (c : Configuration) (me v i : ℕ) (batch bytes : List ℕ) (past : List Entry)
    → said bytes ≡ Some (record { sender = me; message = PrePrepare v i batch })
    → logged c me past v i ≡ Some batch
    → NumbersOnce c me past (Sent me bytes) × KeepsNumbers c me v past (Sent me bytes)

-- ---- a number is assigned

-- the frames are these calls, in order
abbrev pub AreCalls : Configuration → List (List ℕ) → List Call → Type 0
AreCalls c frames calls = map (call_of c) frames ≡ map Some calls

-- The oldest requests without a number, up to the given count, get the next one.
abbrev pub NumbersFit : Type 0
NumbersFit =
    (c : Configuration) (me v used i most : ℕ) (assigned : List AssignedCall) (entries : List Waiting) (st : State)
    (waiting : List Call) (batch bytes : List ℕ) (past : List Entry)
    → primary c v ≡ me → IsFree c me past st.number v i → are_genuine c me batch ≡ true
    → AreCalls c (requests_of batch) (calls_of (take most (unnumbered entries)))
    → said bytes ≡ Some (record { sender = me; message = PrePrepare v i batch })
    → FitsNumbers c me v used assigned entries st waiting past
    → NumbersOnce c me past (Sent me bytes)
    × FitsNumbers c me v i assigned (with_numbered most entries) st waiting (Sent me bytes ∷ past)

-- ---- the waiting requests change

-- the waiting requests after the call arrived, which replaces its client's older one
abbrev pub entries_with : List AssignedCall → State → List Waiting → Call → List Waiting
entries_with assigned st entries call =
    if nat_lt (last_time st call.client) call.timestamp && list_all (is_newer call) (calls_of entries)
    then filter (λ w. not (w.call.client == call.client)) entries ++ arrived assigned call ∷ [] else entries

-- A received request waits, if it is newer.
abbrev pub RequestsFit : Type 0
RequestsFit =
    (c : Configuration) (me v used : ℕ) (assigned : List AssignedCall) (entries : List Waiting) (st : State)
    (waiting : List Call) (history : List Entry) (call : Call)
    → FitsNumbers c me v used assigned entries st waiting history
    → FitsNumbers c me v used assigned (entries_with assigned st entries call) st (with_waiting st waiting call) history

-- the same of received bytes, which may be a request
abbrev pub entries_after : Configuration → ℕ → List AssignedCall → State → List Waiting → List ℕ → List Waiting
entries_after c me assigned st entries bytes =
    option_map_or (entries_with assigned st entries) (option_and_then (call_in c) (authentic (members c me) me bytes))
    entries

abbrev pub InputsKeepNumbers : Type 0
InputsKeepNumbers =
    (c : Configuration) (me v used : ℕ) (assigned : List AssignedCall) (entries : List Waiting) (point : Point)
    (history : List Entry) (bytes : List ℕ)
    → FitsNumbers c me v used assigned entries point.state point.waiting history
    → FitsNumbers c me v used assigned (entries_after c me assigned point.state entries bytes) point.state
    (waiting_after c me point bytes) history

-- no client's last timestamp falls
abbrev pub NoneFalls : State → State → Type 0
NoneFalls old new = (client : ℕ) → last_time old client ≤ last_time new client

-- those that are newer than their clients' last executed requests
abbrev pub still_entries : State → List Waiting → List Waiting
still_entries st entries = filter (λ w. nat_lt (last_time st w.call.client) w.call.timestamp) entries

-- Another state replaces the executed one: the requests that it has run wait no more.
abbrev pub StatesFit : Type 0
StatesFit =
    (c : Configuration) (me v used : ℕ) (assigned : List AssignedCall) (entries : List Waiting) (old new : State)
    (waiting : List Call) (history : List Entry)
    → NoneFalls old new → FitsNumbers c me v used assigned entries old waiting history
    → FitsNumbers c me v used assigned (still_entries new entries) new (still_waiting new waiting) history

-- The execution of a batch is such a change.
abbrev pub ExecutionsRaise : Type 0
ExecutionsRaise = (c : Configuration) (st : State) (batch : List ℕ) → NoneFalls st (execute c st batch)

-- ---- no request is left without a number

-- Each assigned number leaves fewer requests without one, and another state no more. So as many numbers as waiting
-- requests are enough.
abbrev pub NumbersLeaveFewer : Type 0
NumbersLeaveFewer =
    (most : ℕ) (entries : List Waiting) → 1 ≤ most → 1 ≤ count_unnumbered entries
    → count_unnumbered (with_numbered most entries) < count_unnumbered entries

abbrev pub StatesLeaveNoMore : Type 0
StatesLeaveNoMore =
    (new : State) (entries : List Waiting)
    → count_unnumbered (still_entries new entries) ≤ count_unnumbered entries

-- the next number, above the low mark and all used ones
abbrev pub next_number : Configuration → ℕ → List Entry → ℕ → ℕ
next_number c me history used = suc (max (low c me history) used)

-- the primary may assign it: it is in the marks, and at most two above the executed number
abbrev pub IsNextFree : Configuration → ℕ → List Entry → ℕ → ℕ → Type 0
IsNextFree c me history used executed =
    (is_in_marks c (low c me history) (next_number c me history used) ≡ true)
    × (next_number c me history used ≤ executed + 2)

-- Then it is free.
abbrev pub NextIsFree : Type 0
NextIsFree =
    (c : Configuration) (me v used : ℕ) (assigned : List AssignedCall) (entries : List Waiting) (st : State)
    (waiting : List Call) (history : List Entry)
    → FitsNumbers c me v used assigned entries st waiting history → IsNextFree c me history used st.number
    → IsFree c me history st.number v (next_number c me history used)

-- If the next number may not be assigned, or all waiting requests have one, the replica owes no number.
abbrev pub NumbersAreAssigned : Type 0
NumbersAreAssigned =
    (c : Configuration) (me v used : ℕ) (assigned : List AssignedCall) (entries : List Waiting) (st : State)
    (waiting : List Call) (history : List Entry)
    → FitsNumbers c me v used assigned entries st waiting history
    → (IsNextFree c me history used st.number → count_unnumbered entries ≡ 0)
    → (i : ℕ) (call : Call) → Has (λ x. x ≡ call) waiting → IsFree c me history st.number v i
    → IsNumbered c me history v call.client call.timestamp
