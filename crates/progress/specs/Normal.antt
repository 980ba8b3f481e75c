-- The normal case (Castro and Liskov, TOCS 2002): each correct replica executes the batch that the correct primary of a
-- view assigns to the next number, once all that is sent is delivered.
use Rattle.std.specs.Prelude.{◌≡◌, ℕ, suc, ◌≤◌, true, List, [], ◌++◌, Some, None}
use Rattle.terms.specs.Parties.{client_party}
use Rattle.tuple_codec.specs.Operations.{Outcome}
use Rattle.protocol.specs.System.Configuration.{Configuration, IsConfiguration, primary, is_correct_replica, is_correct_client}
use Rattle.protocol.specs.System.Trace.{Entry, history_of, Unforged}
use Rattle.protocol.specs.System.Trace.Entry.{Tick, Accepted}
use Rattle.protocol.specs.System.Texts.{NoCollision}
use Rattle.protocol.specs.System.Run.{IsRun, OnlyTheseStopped}
use Rattle.protocol.specs.Replica.Certificates.{is_active_in, low, is_in_marks, are_genuine, logged}
use Rattle.protocol.specs.Replica.Owed.{HasRequest}
use Rattle.terms.specs.declared.order.Mode.TheVariants as modes
use Rattle.wire_format.specs.Words.{requests_of}
use Rattle.wire_format.specs.Lists.{Each}
use Rattle.protocol.specs.Client.RightClient.{OpenCall, open_call, IsRequest}
use Rattle.protocol.specs.Space.Linear.{reached}
use Rattle.progress.specs.Delivery.{HasEntry, AllDelivered}

-- From the start of a part of a trace to its end the replica is active in the view, and number i is within its marks.
-- At the start it has executed the number before, and logged nothing for i.
pub record IsSteady (c : Configuration) (v i : ℕ) (later start : List Entry) (r : ℕ) : Type 0 where
  pub active_first : is_active_in c (history_of r start) v ≡ true
  pub active_last : is_active_in c (history_of r (later ++ start)) v ≡ true
  pub marks_first : is_in_marks c (low c r (history_of r start)) i ≡ true
  pub marks_last : is_in_marks c (low c r (history_of r (later ++ start))) i ≡ true
  pub next : suc (reached start r) ≡ i
  pub unlogged : logged c r (history_of r start) v i ≡ None

-- Nobody has stopped, each correct replica is steady, and all that is sent is delivered. If the correct primary of the
-- view assigned the number to a batch whose requests are authentic to each correct replica, each executes the number.
abbrev pub NextBatchesAreExecuted : Type 0
NextBatchesAreExecuted =
    (c : Configuration) → IsConfiguration c → (later start : List Entry) → IsRun c (later ++ start)
    → OnlyTheseStopped c [] (later ++ start) → Unforged c (later ++ start)
    → (v i : ℕ) (batch : List ℕ) → is_correct_replica c (primary c v) ≡ true
    → ((r : ℕ) → is_correct_replica c r ≡ true → IsSteady c v i later start r × (are_genuine c r batch ≡ true))
    → AllDelivered c later
    → logged c (primary c v) (history_of (primary c v) (later ++ start)) v i ≡ Some batch
    → (r : ℕ) → is_correct_replica c r ≡ true → i ≤ reached (later ++ start) r

-- Requests that correct clients sealed for all replicas are authentic to each of these; so is a batch of them.
abbrev pub CorrectRequestsAreGenuine : Type 0
CorrectRequestsAreGenuine =
    (c : Configuration) → IsConfiguration c → (batch : List ℕ)
    → Each (λ frame. (k : ℕ) × (call : OpenCall) × (is_correct_client c (client_party k) ≡ true)
    × IsRequest c (client_party k) modes.Ordered call frame) (requests_of batch)
    → (r : ℕ) → is_correct_replica c r ≡ true → are_genuine c r batch ≡ true

-- As above, with a request of a correct client's open call in the batch. Then the client asks again, as time goes by,
-- and again all that is sent is delivered: it has accepted an answer, in the first part or in this one.
abbrev pub NormalCallsAreAccepted : Type 0
NormalCallsAreAccepted =
    (c : Configuration) → IsConfiguration c → (again later start : List Entry)
    → IsRun c (later ++ start) → OnlyTheseStopped c [] (later ++ start)
    → IsRun c (again ++ (later ++ start)) → OnlyTheseStopped c [] (again ++ (later ++ start))
    → Unforged c (again ++ (later ++ start)) → NoCollision c (again ++ (later ++ start))
    → (v i : ℕ) (batch : List ℕ) → is_correct_replica c (primary c v) ≡ true
    → ((r : ℕ) → is_correct_replica c r ≡ true → IsSteady c v i later start r × (are_genuine c r batch ≡ true))
    → AllDelivered c later
    → logged c (primary c v) (history_of (primary c v) (later ++ start)) v i ≡ Some batch
    → (k : ℕ) (call : OpenCall) → is_correct_client c (client_party k) ≡ true
    → open_call (history_of (client_party k) start) ≡ Some call → HasRequest c k call.timestamp batch
    → HasEntry (Tick (client_party k)) again → AllDelivered c again
    → (answer : Outcome) × HasEntry (Accepted k call.timestamp answer) (again ++ later)
