-- A call that enough correct replicas executed is answered: its client accepts, once it asks again and all is delivered
-- (Castro and Liskov, TOCS 2002, on the client and on the last reply that replicas keep).
use Rattle.std.specs.Prelude.{◌≡◌, ℕ, ◌+◌, ◌*◌, ◌≤◌, Bool, true, List, [], ◌++◌, Some}
use Rattle.terms.specs.Parties.{client_party}
use Rattle.quorum.specs.Quorum.{count_below}
use Rattle.tuple_codec.specs.Operations.{Outcome}
use Rattle.terms.specs.declared.order.Mode.TheVariants as modes
use Rattle.wire_format.specs.Messages.{reply as Reply}
use Rattle.protocol.specs.System.Configuration.{Configuration, IsConfiguration, replicas, is_correct_replica, is_correct_client}
use Rattle.protocol.specs.System.Trace.{Entry, history_of, Once, SendsBody, Unforged}
use Rattle.protocol.specs.System.Trace.Entry.{Tick, Accepted}
use Rattle.protocol.specs.System.Texts.{NoCollision}
use Rattle.protocol.specs.System.Run.{IsRun, OnlyTheseStopped}
use Rattle.reply_cache.specs.Replies.{Kept}
use Rattle.protocol.specs.Replica.State.{kept_of}
use Rattle.protocol.specs.Replica.RightReplica.{Point, HistoryReaches}
use Rattle.protocol.specs.Client.RightClient.{OpenCall, open_call, Vote, count_alike, IsPromptClient}
use Rattle.progress.specs.Delivery.{HasEntry, AllDelivered}

-- ---- the contents of replies

-- Two ordered replies of correct replicas to one request of a correct client agree in number and answer.
abbrev pub OrderedRepliesAgree : Type 0
OrderedRepliesAgree =
    (c : Configuration) → IsConfiguration c → (trace : List Entry) → IsRun c trace → Unforged c trace
    → NoCollision c trace
    → (p t r s n m : ℕ) (a b : Outcome) → is_correct_client c p ≡ true → is_correct_replica c r ≡ true
    → is_correct_replica c s ≡ true
    → Once (SendsBody (record { sender = r; message = Reply p t modes.Ordered n a })) trace
    → Once (SendsBody (record { sender = s; message = Reply p t modes.Ordered m b })) trace
    → (n ≡ m) × (a ≡ b)

-- ---- a client accepts at once

-- While a client that has not stopped has a call open, no 2f + 1 replies of one mode agree.
abbrev pub OpenCallsLackQuorums : Type 0
OpenCallsLackQuorums =
    (c : Configuration) (me : ℕ) (history : List Entry) (call : OpenCall) (vote : Vote)
    → IsPromptClient c me history → open_call history ≡ Some call
    → count_alike c me history call.timestamp vote ≤ 2 * c.faults

-- ---- the law

-- The replica keeps its reply to the client's request of this timestamp: it executed that request, and no later one of
-- that client.
pub record KeepsReply (c : Configuration) (r : ℕ) (history : List Entry) (client timestamp : ℕ) : Type 0 where
  pub point : Point
  pub leaves : HistoryReaches c r history point
  pub kept : Kept
  pub is_kept : kept_of point.state client ≡ Some kept
  pub time : kept.timestamp ≡ timestamp

-- Nobody has stopped. A correct client has a call open, and 2f + 1 correct replicas keep the reply. If time goes by at
-- the client, and then all that is sent is delivered, the client accepts an answer.
abbrev pub ExecutedCallsAreAccepted : Type 0
ExecutedCallsAreAccepted =
    (c : Configuration) → IsConfiguration c → (later start : List Entry) → IsRun c (later ++ start)
    → OnlyTheseStopped c [] (later ++ start) → Unforged c (later ++ start) → NoCollision c (later ++ start)
    → (k : ℕ) (call : OpenCall) (keeps : ℕ → Bool) → is_correct_client c (client_party k) ≡ true
    → open_call (history_of (client_party k) start) ≡ Some call
    → 2 * c.faults + 1 ≤ count_below keeps (replicas c)
    → ((r : ℕ) → keeps r ≡ true
    → (is_correct_replica c r ≡ true) × KeepsReply c r (history_of r start) k call.timestamp)
    → HasEntry (Tick (client_party k)) later → AllDelivered c later
    → (answer : Outcome) × HasEntry (Accepted k call.timestamp answer) later
