-- Linearizability of a trace (Herlihy and Wing, Linearizability, TOPLAS 1990), and the points that linearize it.
use Rattle.std.specs.Prelude.{◌≡◌, ℕ, zero, suc, ◌+◌, ◌≤◌, Bool, true, false, ◌&&◌, ◌||◌, not, List, [], ◌∷◌, ◌++◌, length, map, max, filter, nat_lt, nat_le, ◌==◌, if◌then◌else◌, Option, Some, None, option_and_then, ⊤}
use Rattle.std.specs.Bool.{then_some}
use Rattle.std.specs.Option.{option_map_or}
use Rattle.terms.specs.Parties.{client_number, client_party}
use Rattle.tuple_codec.specs.Operations.{Operation, Outcome}
use Rattle.space.specs.Applying.{Contents, no_tuples, outcome, tuples_after}
use Rattle.quorum.specs.Quorum.{count_below}
use Rattle.protocol.specs.Replica.Selection.{null_batch}
use Rattle.protocol.specs.System.Configuration.{Configuration, replicas, is_correct_replica, is_correct_client, members}
use Rattle.terms.specs.declared.order.Mode.{Mode}
use Rattle.terms.specs.declared.order.Mode.TheVariants as modes
use Rattle.wire_format.specs.Messages.{request as Request}
use Rattle.wire_format.specs.Words.{requests_of}
use Rattle.signing.specs.AuthenticBody.{authentic}
use Rattle.protocol.specs.System.Frames.{same_mode}
use Rattle.protocol.specs.System.Trace.{Entry, history_of, frames_in, Once, Always, Has}
use Rattle.protocol.specs.System.Trace.Entry.{Invoke, Got, Executed, Installed, Accepted}
use Rattle.protocol.specs.Replica.Certificates.{first_given, greatest}
use Rattle.protocol.specs.Replica.State.{State, Ran, opening, execute, ran_in}
use Rattle.protocol.specs.Client.RightClient.{Vote, OpenCall, open_call, newest_vote}

-- An operation at its position in the trace, which counts the entries before it. client is the party's number, 256 + k.
pub record Item : Type 0 where
  pub client : ℕ
  pub timestamp : ℕ
  pub op : Operation
  pub answer : Outcome
  pub position : ℕ

-- ---- legal

-- the answer that the space gives to the item
abbrev pub item_outcome : Contents → Item → Outcome
item_outcome ts item = outcome ts (client_number item.client) item.op

-- the contents that the item leaves in the space
abbrev pub item_after : Contents → Item → Contents
item_after ts item = tuples_after ts (client_number item.client) item.op

-- each item's answer is that of one space, which runs the items in order from these contents
abbrev pub LegalFrom : Contents → List Item → Type 0
LegalFrom ts [] = ⊤
LegalFrom ts (item ∷ items) = (item.answer ≡ item_outcome ts item) × LegalFrom (item_after ts item) items

-- The items are a legal sequential history of one space, empty at first (Herlihy and Wing, section 2).
abbrev pub Legal : List Item → Type 0
Legal items = LegalFrom no_tuples items

-- ---- covers

-- in this entry client p, by its party number, invokes the operation with this timestamp
abbrev pub Invokes : ℕ → ℕ → Operation → List Entry → Entry → Type 0
Invokes p timestamp op past (Invoke client t o) = (client_party client ≡ p) × (t ≡ timestamp) × (o ≡ op)
Invokes p timestamp op past _ = ⊥

-- in this entry client p accepts the answer to its call of this timestamp
abbrev pub Accepts : ℕ → ℕ → Outcome → List Entry → Entry → Type 0
Accepts p timestamp answer past (Accepted client t a) = (client_party client ≡ p) × (t ≡ timestamp) × (a ≡ answer)
Accepts p timestamp answer past _ = ⊥

-- In this entry a correct replica receives the client's ordered request, alone or carried, authentic to the replica.
abbrev pub EntryAsks : Configuration → ℕ → ℕ → Operation → List Entry → Entry → Type 0
EntryAsks c client timestamp op past (Got p bytes) =
    (is_correct_replica c p ≡ true) × Has (λ frame. authentic (members c p) p frame
    ≡ Some (record { sender = client; message = Request timestamp modes.Ordered op })) (frames_in bytes)
EntryAsks c client timestamp op past _ = ⊥

-- no two items have the same client and timestamp
abbrev pub NoneTwice : List Item → Type 0
NoneTwice [] = ⊤
NoneTwice (i ∷ rest) = (Has (λ x. (x.client ≡ i.client) × (x.timestamp ≡ i.timestamp)) rest → ⊥) × NoneTwice rest

-- The items cover the trace. Each answer that a correct client accepted has an item, with the operation that was
-- invoked. A correct client invoked each item of its own. For each other item some correct replica had received the
-- request by the item's position. No client and timestamp has two items.
pub record Covers (c : Configuration) (items : List Item) (trace : List Entry) : Type 0 where
  pub accepted : (p timestamp : ℕ) (answer : Outcome) → is_correct_client c p ≡ true
      → Once (Accepts p timestamp answer) trace → Has (λ item. (item.client ≡ p) × (item.timestamp ≡ timestamp)
      × (item.answer ≡ answer) × Once (Invokes p timestamp item.op) trace) items
  pub invoked : (item : Item) → Has (λ x. x ≡ item) items
      → is_correct_client c item.client ≡ true → Once (Invokes item.client item.timestamp item.op) trace
  pub asked : (item : Item) → Has (λ x. x ≡ item) items → is_correct_client c item.client ≡ false
      → Once (λ past e. EntryAsks c item.client item.timestamp item.op past e × (length past ≤ item.position)) trace
  pub once : NoneTwice items

-- ---- placed

-- positions never decrease along the list
abbrev pub NeverFall : List Item → Type 0
NeverFall [] = ⊤
NeverFall (x ∷ []) = ⊤
NeverFall (x ∷ y ∷ items) = (x.position ≤ y.position) × NeverFall (y ∷ items)

-- Positions never decrease. An item of a correct client stands neither before its invocation nor after its acceptance.
pub record Placed (c : Configuration) (items : List Item) (trace : List Entry) : Type 0 where
  pub in_order : NeverFall items
  pub after : (item : Item) → Has (λ x. x ≡ item) items → is_correct_client c item.client ≡ true
      → Once (λ past e. Invokes item.client item.timestamp item.op past e × (length past ≤ item.position)) trace
  pub before : (item : Item) (answer : Outcome) → Has (λ x. x ≡ item) items → is_correct_client c item.client ≡ true
      → Always (λ past e. Accepts item.client item.timestamp answer past e → item.position ≤ length past) trace

-- The items linearize the trace: they are legal, cover it and are placed in it.
pub record IsLinear (c : Configuration) (items : List Item) (trace : List Entry) : Type 0 where
  pub legal : Legal items
  pub covers : Covers c items trace
  pub placed : Placed c items trace

-- The trace is linearizable: some items linearize it (Herlihy and Wing, section 2).
abbrev pub Linear : Configuration → List Entry → Type 0
Linear c trace = (items : List Item) × IsLinear c items trace

-- ---- the level, and the points

-- the number that replica r executes or installs in this entry, or 0
abbrev pub reached_at : ℕ → Entry → ℕ
reached_at r (Executed replica number batch) = if replica == r then number else 0
reached_at r (Installed replica number root) = if replica == r then number else 0
reached_at r _ = 0

-- the greatest number that replica r has executed or installed, or 0
abbrev pub reached : List Entry → ℕ → ℕ
reached past r = greatest (reached_at r) past

-- how many replicas are correct
abbrev pub count_correct : Configuration → ℕ
count_correct c = count_below (is_correct_replica c) (replicas c)

-- replica r is correct and has executed or installed number k or a greater one
abbrev pub has_reached : Configuration → List Entry → ℕ → ℕ → Bool
has_reached c past k r = is_correct_replica c r && nat_le k (reached past r)

-- all correct replicas but at most f have reached number k
abbrev pub is_level : Configuration → List Entry → ℕ → Bool
is_level c past k = nat_le (count_correct c) (count_below (has_reached c past k) (replicas c) + c.faults)

-- the first position at which all correct replicas but at most f have reached number k
abbrev pub first_position : Configuration → List Entry → ℕ → Option ℕ
first_position c trace k = first_given (λ past e. then_some (is_level c (e ∷ past) k) (length past)) trace

-- the batch that a replica executes in this entry for number k
abbrev pub batch_at : ℕ → Entry → Option (List ℕ)
batch_at k (Executed replica number batch) = then_some (number == k) batch
batch_at k _ = None

-- the batch of the first execution of number k, or the null batch
abbrev pub batch_of : List Entry → ℕ → List ℕ
batch_of trace k = option_map_or (λ batch. batch) (first_given (λ past e. batch_at k e) trace) null_batch

-- the number that a replica executes in this entry, or 0
abbrev pub executed_at : Entry → ℕ
executed_at (Executed replica number batch) = number
executed_at _ = 0

-- the greatest number that any replica has executed
abbrev pub last_executed : List Entry → ℕ
last_executed past = greatest executed_at past

-- an item with the keys by which points are sorted: the number of its batch or of a read's replies, and the mode
pub record Placing : Type 0 where
  pub item : Item
  pub number : ℕ
  pub mode : Mode

-- the point, at the given position, of a request that ran in the batch of this number
abbrev pub ordered_point : ℕ → ℕ → Ran → Placing
ordered_point position number ran = record {
  item = record {
    client = client_party ran.call.client;
    timestamp = ran.call.timestamp;
    op = ran.call.op;
    answer = ran.kept.outcome;
    position = position;
  };
  number = number;
  mode = modes.Ordered;
}

-- the points of the requests that ran in the batches from number k on, each at the first position of its number
abbrev pub ordered_points : Configuration → List Entry → State → ℕ → ℕ → List Placing
ordered_points c trace st k zero = []
ordered_points c trace st k (suc more) =
    option_map_or (λ position. map (ordered_point position k) (ran_in c k st (requests_of (batch_of trace k))))
    (first_position c trace k) []
    ++ ordered_points c trace (execute c st (batch_of trace k)) (suc k) more

-- the past of the client's latest invocation
abbrev pub invoke_past : ℕ → List Entry → List Entry
invoke_past p [] = []
invoke_past p (Invoke client t op ∷ past) = if client_party client == p then past else invoke_past p past
invoke_past p (_ ∷ past) = invoke_past p past

-- the position of the client's latest invocation
abbrev pub invoked_at : ℕ → List Entry → ℕ
invoked_at p past = length (invoke_past p past)

-- the point of the read that an acceptance ends, if its replies were read-only
abbrev pub read_point : Configuration → List Entry → ℕ → OpenCall → Outcome → List Entry → Vote → Option Placing
read_point c trace p call answer past vote = then_some (same_mode vote.mode modes.ReadOnly) (record {
  item = record {
    client = p;
    timestamp = call.timestamp;
    op = call.op;
    answer = answer;
    position = max (invoked_at p past) (option_map_or (λ x. x) (first_position c trace vote.number) 0);
  };
  number = vote.number;
  mode = modes.ReadOnly;
})

-- the points of the reads that are accepted in the entries given; first positions are those of the whole trace
abbrev pub read_points : Configuration → List Entry → List Entry → List Placing
read_points c trace [] = []
read_points c trace (Accepted client timestamp answer ∷ past) =
    option_map_or (λ point. point ∷ [])
    (option_and_then (λ call. option_and_then (read_point c trace (client_party client) call answer past)
    (newest_vote c (client_party client) (history_of (client_party client) past) timestamp))
    (open_call (history_of (client_party client) past))) []
    ++ read_points c trace past
read_points c trace (_ ∷ past) = read_points c trace past

-- Sorted by position, number, ordered before read-only, then reads by client and timestamp; a batch keeps its order.
abbrev pub comes_before : Placing → Placing → Bool
comes_before x y =
    nat_lt x.item.position y.item.position || ((x.item.position == y.item.position)
    && (nat_lt x.number y.number || ((x.number == y.number)
    && (same_mode x.mode modes.Ordered || (same_mode y.mode modes.ReadOnly
    && (nat_lt x.item.client y.item.client || ((x.item.client == y.item.client)
    && nat_le x.item.timestamp y.item.timestamp)))))))

-- a sorted list with one more point, ahead of those that are equal to it
abbrev pub insert_point : Placing → List Placing → List Placing
insert_point x [] = x ∷ []
insert_point x (y ∷ ys) = if comes_before x y then x ∷ y ∷ ys else y ∷ insert_point x ys

-- the points of a list, sorted; equal points keep their order
abbrev pub sorted : List Placing → List Placing
sorted [] = []
sorted (x ∷ xs) = insert_point x (sorted xs)

-- some point of the list has the same client and timestamp
abbrev pub is_double : List Placing → Placing → Bool
is_double [] x = false
is_double (y ∷ ys) x = ((y.item.client == x.item.client) && (y.item.timestamp == x.item.timestamp)) || is_double ys x

-- The points of a trace. Each request that ran has one at the first position of its number, unless it is a read that
-- was accepted read-only. Such a read has one at that position or at its invocation, whichever is later.
unfoldable pub points : Configuration → List Entry → List Item
points c trace =
    let reads : List Placing = read_points c trace trace in
    map (λ x. x.item)
    (sorted (filter (λ x. not (is_double reads x)) (ordered_points c trace opening 1 (last_executed trace)) ++ reads))
