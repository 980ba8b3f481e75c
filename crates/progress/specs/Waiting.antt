-- A request that reaches the correct primary of a view gets a number, while one is free (Castro and Liskov, TOCS 2002,
-- on normal-case operation).
use Rattle.std.specs.Prelude.{◌≡◌, ℕ, ◌⊎◌, true, List, [], ◌++◌, Some}
use Rattle.terms.specs.Parties.{client_party}
use Rattle.tuple_codec.specs.Operations.{Outcome}
use Rattle.protocol.specs.System.Configuration.{Configuration, IsConfiguration, primary, is_correct_replica, is_correct_client}
use Rattle.protocol.specs.System.Trace.{Entry, history_of, Unforged}
use Rattle.protocol.specs.System.Trace.Entry.{Tick, Accepted}
use Rattle.protocol.specs.System.Texts.{NoCollision}
use Rattle.protocol.specs.System.Run.{IsRun, OnlyTheseStopped}
use Rattle.protocol.specs.Replica.Certificates.{is_active_in}
use Rattle.protocol.specs.Replica.RightReplica.{IsFree}
use Rattle.protocol.specs.Replica.Owed.{IsNumbered}
use Rattle.protocol.specs.Client.RightClient.{OpenCall, open_call}
use Rattle.protocol.specs.Space.Linear.{reached}
use Rattle.progress.specs.Delivery.{HasEntry, AllDelivered}
use Rattle.progress.specs.Answered.{KeepsReply}

-- The primary of the view keeps the reply to the client's request of this timestamp; or it has numbered the request, if
-- it has a free number.
abbrev pub StandsAtPrimary : Configuration → ℕ → ℕ → ℕ → List Entry → Type 0
StandsAtPrimary c v client timestamp trace =
    KeepsReply c (primary c v) (history_of (primary c v) trace) client timestamp
    ⊎ ((n : ℕ) → IsFree c (primary c v) (history_of (primary c v) trace) (reached trace (primary c v)) v n
    → IsNumbered c (primary c v) (history_of (primary c v) trace) v client timestamp)

-- Nobody has stopped. A correct client with an open call asks again, as time goes by, and all that is sent is
-- delivered. Then it has accepted an answer; or the view's correct primary, if active in it, keeps the reply, or has
-- numbered the call if a number is free.
abbrev pub OpenCallsAreNumbered : Type 0
OpenCallsAreNumbered =
    (c : Configuration) → IsConfiguration c → (later start : List Entry) → IsRun c (later ++ start)
    → OnlyTheseStopped c [] (later ++ start) → Unforged c (later ++ start) → NoCollision c (later ++ start)
    → (k : ℕ) (call : OpenCall) → is_correct_client c (client_party k) ≡ true
    → open_call (history_of (client_party k) start) ≡ Some call
    → HasEntry (Tick (client_party k)) later → AllDelivered c later
    → (v : ℕ) → is_correct_replica c (primary c v) ≡ true
    → is_active_in c (history_of (primary c v) (later ++ start)) v ≡ true
    → ((answer : Outcome) × HasEntry (Accepted k call.timestamp answer) later)
    ⊎ StandsAtPrimary c v k call.timestamp (later ++ start)
