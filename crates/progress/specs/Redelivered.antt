-- Lost frames may be sent again: if all frames that correct parties ever sent are delivered again, each correct replica
-- executes all numbers that the primary assigned, whatever it missed.
use Rattle.std.specs.Prelude.{◌≡◌, ℕ, suc, ◌≤◌, ◌<◌, true, List, [], ◌∷◌, ◌++◌, reverse, filter, map, Some}
use Rattle.terms.specs.Parties.{client_party}
use Rattle.tuple_codec.specs.Operations.{Outcome}
use Rattle.wire_format.specs.Messages.{pre_prepare as PrePrepare}
use Rattle.protocol.specs.System.Configuration.{Configuration, IsConfiguration, primary, is_correct, is_correct_replica, is_correct_client}
use Rattle.protocol.specs.System.Trace.{Entry, history_of, Once, Has, SendsBody, Unforged}
use Rattle.protocol.specs.System.Trace.Entry.{Got, Sent, Tick, Accepted}
use Rattle.protocol.specs.System.Texts.{NoCollision}
use Rattle.protocol.specs.System.Run.{IsRun, OnlyTheseStopped}
use Rattle.protocol.specs.System.Schedule.{Step, deliver, flush, Made, World, StepsLead, NoOutputIsNext}
use Rattle.protocol.specs.Replica.Certificates.{is_active_in, low, is_in_marks, are_genuine}
use Rattle.protocol.specs.Replica.Owed.{HasRequest}
use Rattle.protocol.specs.Client.RightClient.{OpenCall, open_call}
use Rattle.protocol.specs.Space.Linear.{reached}
use Rattle.progress.specs.Delivery.{HasEntry, meant, AllDelivered}
use Rattle.progress.specs.Flushed.{WorldIsReached, AsksAndFlushes}

-- Each correct party that a frame is for receives it in the later part, if it was ever sent.
abbrev pub AllRedelivered : Configuration → List Entry → List Entry → Type 0
AllRedelivered c later start =
    (p q : ℕ) (bytes : List ℕ) → HasEntry (Sent p bytes) (later ++ start) → Has (λ x. x ≡ q) (meant c p bytes)
    → is_correct c q ≡ true → HasEntry (Got q bytes) later

-- ---- as a schedule

-- each frame to each of its correct receivers, in the order in which they were made
abbrev pub deliveries : Configuration → ℕ → List Made → List Step
deliveries c first [] = []
deliveries c first (made ∷ frames) =
    map (deliver first) (filter (is_correct c) made.receivers) ++ deliveries c (suc first) frames

-- All frames of a world are delivered again, and then all that is left.
abbrev pub redelivery : Configuration → World → List Step
redelivery c w = deliveries c 0 w.frames ++ flush ∷ []

-- From any world that is reached, this delivers all that was ever sent.
abbrev pub RedeliveriesDeliverAll : Type 0
RedeliveriesDeliverAll =
    (c : Configuration) (w v : World) (entries : List Entry) → WorldIsReached c w
    → StepsLead c w (redelivery c w) entries v
    → AllRedelivered c (reverse entries) w.past

-- ---- the law

-- The replica is active in the view from the start of a part of a trace to its end.
pub record StaysActive (c : Configuration) (v : ℕ) (later start : List Entry) (r : ℕ) : Type 0 where
  pub first : is_active_in c (history_of r start) v ≡ true
  pub last : is_active_in c (history_of r (later ++ start)) v ≡ true

-- The number is within the marks of the replica from the start to the end.
pub record StaysInMarks (c : Configuration) (i : ℕ) (later start : List Entry) (r : ℕ) : Type 0 where
  pub first : is_in_marks c (low c r (history_of r start)) i ≡ true
  pub last : is_in_marks c (low c r (history_of r (later ++ start))) i ≡ true

-- The primary assigned the number to a batch at some time. The number stays within the marks of each correct replica,
-- and the batch's requests are authentic to it.
pub record IsGiven (c : Configuration) (v i : ℕ) (later start : List Entry) : Type 0 where
  pub batch : List ℕ
  pub says : Once (SendsBody (record { sender = primary c v; message = PrePrepare v i batch })) (later ++ start)
  pub each : (q : ℕ) → is_correct_replica c q ≡ true
      → StaysInMarks c i later start q × (are_genuine c q batch ≡ true)

-- Nobody has stopped, each correct replica stays active in the view, its primary is correct, and all that was ever sent
-- is delivered again. Then each correct replica executes the number m, if the primary assigned all numbers from the
-- replica's own next one on, up to m.
abbrev pub GivenNumbersAreExecuted : Type 0
GivenNumbersAreExecuted =
    (c : Configuration) → IsConfiguration c → (later start : List Entry) → IsRun c (later ++ start)
    → OnlyTheseStopped c [] (later ++ start) → Unforged c (later ++ start)
    → (v m : ℕ) → is_correct_replica c (primary c v) ≡ true
    → ((q : ℕ) → is_correct_replica c q ≡ true → StaysActive c v later start q) → AllRedelivered c later start
    → (r : ℕ) → is_correct_replica c r ≡ true
    → ((i : ℕ) → reached start r < i → i ≤ m → IsGiven c v i later start)
    → m ≤ reached (later ++ start) r

-- As above, for all correct replicas. One of the batches that the primary assigned, up to m, has a request of a correct
-- client's open call. Then the client asks again, as time goes by, and all that is sent is delivered: it has accepted
-- an answer, in the first part or in this one.
abbrev pub GivenCallsAreAccepted : Type 0
GivenCallsAreAccepted =
    (c : Configuration) → IsConfiguration c → (again later start : List Entry)
    → IsRun c (later ++ start) → OnlyTheseStopped c [] (later ++ start)
    → IsRun c (again ++ (later ++ start)) → OnlyTheseStopped c [] (again ++ (later ++ start))
    → Unforged c (again ++ (later ++ start)) → NoCollision c (again ++ (later ++ start))
    → (v m : ℕ) → is_correct_replica c (primary c v) ≡ true
    → ((q : ℕ) → is_correct_replica c q ≡ true → StaysActive c v later start q) → AllRedelivered c later start
    → ((r i : ℕ) → is_correct_replica c r ≡ true → reached start r < i → i ≤ m → IsGiven c v i later start)
    → (k : ℕ) (call : OpenCall) → is_correct_client c (client_party k) ≡ true
    → open_call (history_of (client_party k) start) ≡ Some call
    → (i : ℕ) → 1 ≤ i → i ≤ m → (given : IsGiven c v i later start) → HasRequest c k call.timestamp given.batch
    → HasEntry (Tick (client_party k)) again → AllDelivered c again
    → (answer : Outcome) × HasEntry (Accepted k call.timestamp answer) (again ++ later)

-- The same as a schedule, from any world that is reached and whose next entry is an input: all frames are delivered
-- again, then all that is left, and then the client's tick and a flush make it accept.
abbrev pub RedeliveriesBringAnswers : Type 0
RedeliveriesBringAnswers =
    (c : Configuration) → IsConfiguration c → (w u x : World) (first more : List Entry) → WorldIsReached c w
    → StepsLead c w (redelivery c w) first u → NoOutputIsNext first
    → (k : ℕ) (call : OpenCall) → AsksAndFlushes c k u more x
    → IsRun c u.past → OnlyTheseStopped c [] u.past → IsRun c x.past → OnlyTheseStopped c [] x.past
    → Unforged c x.past → NoCollision c x.past
    → (v m : ℕ) → is_correct_replica c (primary c v) ≡ true
    → ((q : ℕ) → is_correct_replica c q ≡ true → StaysActive c v (reverse first) w.past q)
    → ((r i : ℕ) → is_correct_replica c r ≡ true → reached w.past r < i → i ≤ m → IsGiven c v i (reverse first) w.past)
    → is_correct_client c (client_party k) ≡ true → open_call (history_of (client_party k) w.past) ≡ Some call
    → (i : ℕ) → 1 ≤ i → i ≤ m → (given : IsGiven c v i (reverse first) w.past)
    → HasRequest c k call.timestamp given.batch
    → (answer : Outcome) × HasEntry (Accepted k call.timestamp answer) (first ++ more)
