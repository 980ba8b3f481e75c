-- The first view as a whole: if it goes on, every open call of a correct client is accepted.
use Rattle.std.specs.Prelude.{◌≡◌, ℕ, suc, ◌+◌, ◌≤◌, true, List, [], ◌++◌, Some}
use Rattle.terms.specs.Parties.{client_party}
use Rattle.tuple_codec.specs.Operations.{Outcome}
use Rattle.wire_format.specs.Messages.{pre_prepare as PrePrepare}
use Rattle.protocol.specs.System.Configuration.{Configuration, IsConfiguration, primary, span, is_correct_replica, is_correct_client}
use Rattle.protocol.specs.System.Trace.{Entry, history_of, Once, SendsBody, Unforged}
use Rattle.protocol.specs.System.Trace.Entry.{Tick, Accepted}
use Rattle.protocol.specs.System.Texts.{NoCollision}
use Rattle.protocol.specs.System.Run.{IsRun, OnlyTheseStopped}
use Rattle.protocol.specs.Replica.Certificates.{is_active_in, low, is_in_marks, are_genuine}
use Rattle.protocol.specs.Client.RightClient.{OpenCall, open_call}
use Rattle.protocol.specs.Space.Linear.{reached}
use Rattle.progress.specs.Delivery.{HasEntry, AllDelivered}
use Rattle.progress.specs.Redelivered.{AllRedelivered}
use Rattle.progress.specs.FirstView.{NoneInstalls}

-- The first view's primary is correct, each correct replica is active in it at the end, and none installed a state. The
-- batches that the primary assigned are authentic to each correct replica, and their numbers at most the span above the
-- low mark with which the replica starts. At the end the primary's next number is within its marks.
pub record FirstViewGoesOn (c : Configuration) (later start : List Entry) : Type 0 where
  pub from : is_correct_replica c (primary c 0) ≡ true
  pub active : (q : ℕ) → is_correct_replica c q ≡ true → is_active_in c (history_of q (later ++ start)) 0 ≡ true
  pub none : NoneInstalls c (later ++ start)
  pub given : (i : ℕ) (batch : List ℕ)
      → Once (SendsBody (record { sender = primary c 0; message = PrePrepare 0 i batch })) (later ++ start)
      → (q : ℕ) → is_correct_replica c q ≡ true
      → (i ≤ low c q (history_of q start) + span c) × (are_genuine c q batch ≡ true)
  pub room : is_in_marks c (low c (primary c 0) (history_of (primary c 0) (later ++ start)))
      (suc (reached (later ++ start) (primary c 0))) ≡ true

-- Nobody has stopped, and the first view goes on. A correct client with an open call asks again, as time goes by, and
-- all that was ever sent is delivered again. Then it asks once more, and all that is sent is delivered: it has accepted
-- an answer, in the first part or in this one.
abbrev pub EveryCallIsAccepted : Type 0
EveryCallIsAccepted =
    (c : Configuration) → IsConfiguration c → (again later start : List Entry)
    → IsRun c (later ++ start) → OnlyTheseStopped c [] (later ++ start)
    → IsRun c (again ++ (later ++ start)) → OnlyTheseStopped c [] (again ++ (later ++ start))
    → Unforged c (again ++ (later ++ start)) → NoCollision c (again ++ (later ++ start))
    → FirstViewGoesOn c later start → AllRedelivered c later start
    → (k : ℕ) (call : OpenCall) → is_correct_client c (client_party k) ≡ true
    → open_call (history_of (client_party k) start) ≡ Some call
    → HasEntry (Tick (client_party k)) later → HasEntry (Tick (client_party k)) again → AllDelivered c again
    → (answer : Outcome) × HasEntry (Accepted k call.timestamp answer) (again ++ later)
