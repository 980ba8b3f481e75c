-- The second view as a whole: if it goes on after a silent first one, every open call of a correct client is accepted.
use Rattle.std.specs.Prelude.{◌≡◌, ℕ, suc, ◌+◌, ◌≤◌, true, List, [], ◌++◌, Some}
use Rattle.terms.specs.Parties.{client_party}
use Rattle.tuple_codec.specs.Operations.{Outcome}
use Rattle.wire_format.specs.Messages.{NewViewData, pre_prepare as PrePrepare}
use Rattle.protocol.specs.System.Configuration.{Configuration, IsConfiguration, primary, span, is_faulty_replica, is_correct_replica, is_correct_client}
use Rattle.protocol.specs.System.Trace.{Entry, history_of, Once, SendsBody, Unforged}
use Rattle.protocol.specs.System.Trace.Entry.{Tick, Accepted}
use Rattle.protocol.specs.System.Texts.{NoCollision}
use Rattle.protocol.specs.System.Run.{IsRun, OnlyTheseStopped}
use Rattle.protocol.specs.Replica.Certificates.{target, low, is_in_marks, are_genuine}
use Rattle.protocol.specs.Replica.Owed.{AreKeysSpent}
use Rattle.protocol.specs.Client.RightClient.{OpenCall, open_call}
use Rattle.protocol.specs.Space.Linear.{reached}
use Rattle.protocol.specs.Laws.Histories.{TakesOrSendsNewView}
use Rattle.progress.specs.Delivery.{HasEntry, AllDelivered}
use Rattle.progress.specs.Redelivered.{AllRedelivered, StaysActive}
use Rattle.progress.specs.FirstView.{NoneInstalls}
use Rattle.progress.specs.SilentView.{AreFaultySilent, SecondIsNext, TicksOrLeft}

-- No correct replica installed a state. The batches that the second view's primary assigned are authentic to each
-- correct replica, and their numbers at most the span above the low mark with which the replica starts. At the end the
-- primary's next number is within its marks.
pub record SecondHasRoom (c : Configuration) (later start : List Entry) : Type 0 where
  pub none : NoneInstalls c (later ++ start)
  pub given : (i : ℕ) (batch : List ℕ)
      → Once (SendsBody (record { sender = primary c 1; message = PrePrepare 1 i batch })) (later ++ start)
      → (q : ℕ) → is_correct_replica c q ≡ true
      → (i ≤ low c q (history_of q start) + span c) × (are_genuine c q batch ≡ true)
  pub next : is_in_marks c (low c (primary c 1) (history_of (primary c 1) (later ++ start)))
      (suc (reached (later ++ start) (primary c 1))) ≡ true

-- The first view is silent. The second one's primary is correct, began it with no batch, and has room for numbers.
pub record SecondGoesOn (c : Configuration) (later start : List Entry) : Type 0 where
  pub next : SecondIsNext c (later ++ start)
  pub bare : (new : NewViewData) → Once (TakesOrSendsNewView c new) (history_of (primary c 1) (later ++ start))
      → new.batches ≡ []
  pub room : SecondHasRoom c later start

-- Nobody has stopped, each correct replica stays active in the second view, and that goes on. A correct client with an
-- open call asks again, as time goes by, and all that was ever sent is delivered again. Then it asks once more, and all
-- that is sent is delivered: it has accepted an answer, in the first part or in this one.
abbrev pub SecondCallsAreAccepted : Type 0
SecondCallsAreAccepted =
    (c : Configuration) → IsConfiguration c → (again later start : List Entry)
    → IsRun c (later ++ start) → OnlyTheseStopped c [] (later ++ start)
    → IsRun c (again ++ (later ++ start)) → OnlyTheseStopped c [] (again ++ (later ++ start))
    → Unforged c (again ++ (later ++ start)) → NoCollision c (again ++ (later ++ start))
    → SecondGoesOn c later start → ((q : ℕ) → is_correct_replica c q ≡ true → StaysActive c 1 later start q)
    → AllRedelivered c later start
    → (k : ℕ) (call : OpenCall) → is_correct_client c (client_party k) ≡ true
    → open_call (history_of (client_party k) start) ≡ Some call
    → HasEntry (Tick (client_party k)) later → HasEntry (Tick (client_party k)) again → AllDelivered c again
    → (answer : Outcome) × HasEntry (Accepted k call.timestamp answer) (again ++ later)

-- The faulty replicas are silent, the first view's primary among them, and the second one's primary is correct. No
-- correct replica has left for a view above the second, and each has a key left to sign with.
pub record FaultyAreSilent (c : Configuration) (trace : List Entry) : Type 0 where
  pub silent : AreFaultySilent c trace
  pub first : is_faulty_replica c (primary c 0) ≡ true
  pub from : is_correct_replica c (primary c 1) ≡ true
  pub none_beyond : (q : ℕ) → is_correct_replica c q ≡ true → target (history_of q trace) ≤ 1
  pub keys : (q : ℕ) → is_correct_replica c q ≡ true → AreKeysSpent (history_of q trace) → ⊥

-- nobody correct has stopped in the run
abbrev pub AllGoOn : Configuration → List Entry → Type 0
AllGoOn c trace = IsRun c trace × OnlyTheseStopped c [] trace

-- The whole way of an open call, if the faulty replicas are silent, the first primary among them. Its client asks
-- again, and all that is sent is delivered. Time goes by at each correct replica, unless it leaves the first view
-- anyway, and all that was ever sent is delivered. The client asks again, and all that was ever sent is delivered
-- again. It asks once more, and all that is sent is delivered. Then it has accepted an answer.
abbrev pub CallsOutliveSilence : Type 0
CallsOutliveSilence =
    (c : Configuration) → IsConfiguration c → (again later ticks asks start : List Entry)
    → AllGoOn c (asks ++ start) → AllGoOn c (ticks ++ (asks ++ start)) → AllGoOn c (later ++ (ticks ++ (asks ++ start)))
    → AllGoOn c (again ++ (later ++ (ticks ++ (asks ++ start))))
    → Unforged c (again ++ (later ++ (ticks ++ (asks ++ start))))
    → NoCollision c (again ++ (later ++ (ticks ++ (asks ++ start))))
    → FaultyAreSilent c (later ++ (ticks ++ (asks ++ start))) → SecondHasRoom c later (ticks ++ (asks ++ start))
    → (k : ℕ) (call : OpenCall) → is_correct_client c (client_party k) ≡ true
    → open_call (history_of (client_party k) start) ≡ Some call
    → HasEntry (Tick (client_party k)) asks → AllDelivered c asks
    → ((q : ℕ) → is_correct_replica c q ≡ true → TicksOrLeft q ticks (asks ++ start))
    → AllDelivered c (ticks ++ (asks ++ start))
    → HasEntry (Tick (client_party k)) later → AllRedelivered c later (ticks ++ (asks ++ start))
    → HasEntry (Tick (client_party k)) again → AllDelivered c again
    → (answer : Outcome) × HasEntry (Accepted k call.timestamp answer) (again ++ (later ++ (ticks ++ asks)))
