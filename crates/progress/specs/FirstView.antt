-- If no view changes at all, numbers may leave the marks, as checkpoints become stable: each correct replica still
-- executes all numbers that the primary assigned.
use Rattle.std.specs.Prelude.{◌≡◌, ℕ, ◌+◌, ◌≤◌, ◌<◌, true, List, [], ◌++◌, Some}
use Rattle.terms.specs.Parties.{client_party}
use Rattle.tuple_codec.specs.Operations.{Outcome}
use Rattle.wire_format.specs.Messages.{pre_prepare as PrePrepare}
use Rattle.protocol.specs.System.Configuration.{Configuration, IsConfiguration, primary, span, is_number, is_correct_replica, is_correct_client}
use Rattle.protocol.specs.System.Trace.{Entry, history_of, Once, SendsBody, Unforged}
use Rattle.protocol.specs.System.Trace.Entry.{Installed, Tick, Accepted}
use Rattle.protocol.specs.System.Texts.{NoCollision}
use Rattle.protocol.specs.System.Run.{IsRun, OnlyTheseStopped}
use Rattle.protocol.specs.Replica.Certificates.{is_active_in, low, are_genuine}
use Rattle.protocol.specs.Replica.Owed.{HasRequest}
use Rattle.protocol.specs.Client.RightClient.{OpenCall, open_call}
use Rattle.protocol.specs.Space.Linear.{reached}
use Rattle.progress.specs.Delivery.{HasEntry, AllDelivered}
use Rattle.progress.specs.Redelivered.{AllRedelivered}

-- The primary of the first view assigned the number at some time. The number is at most the span above the low mark
-- with which each correct replica starts, and the batch's requests are authentic to it.
pub record IsGivenFirst (c : Configuration) (i : ℕ) (later start : List Entry) : Type 0 where
  pub batch : List ℕ
  pub says : Once (SendsBody (record { sender = primary c 0; message = PrePrepare 0 i batch })) (later ++ start)
  pub number : is_number i ≡ true
  pub each : (q : ℕ) → is_correct_replica c q ≡ true
      → (i ≤ low c q (history_of q start) + span c) × (are_genuine c q batch ≡ true)

-- no correct replica installs a state
abbrev pub NoneInstalls : Configuration → List Entry → Type 0
NoneInstalls c trace =
    (r k : ℕ) (root : List ℕ) → is_correct_replica c r ≡ true → HasEntry (Installed r k root) trace → ⊥

-- Nobody has stopped, each correct replica is active in the first view at the end, none installed a state, and all that
-- was ever sent is delivered again. Then each correct replica executes the number m, if the correct primary assigned
-- all numbers from the replica's own next one on, up to m.
abbrev pub FirstNumbersAreExecuted : Type 0
FirstNumbersAreExecuted =
    (c : Configuration) → IsConfiguration c → (later start : List Entry) → IsRun c (later ++ start)
    → OnlyTheseStopped c [] (later ++ start) → Unforged c (later ++ start)
    → (m : ℕ) → is_correct_replica c (primary c 0) ≡ true
    → ((q : ℕ) → is_correct_replica c q ≡ true → is_active_in c (history_of q (later ++ start)) 0 ≡ true)
    → NoneInstalls c (later ++ start) → AllRedelivered c later start
    → (r : ℕ) → is_correct_replica c r ≡ true
    → ((i : ℕ) → reached start r < i → i ≤ m → IsGivenFirst c i later start)
    → m ≤ reached (later ++ start) r

-- As above, for all correct replicas. One of the batches that the primary assigned, up to m, has a request of a correct
-- client's open call. Then the client asks again, as time goes by, and all that is sent is delivered: it has accepted
-- an answer, in the first part or in this one.
abbrev pub FirstCallsAreAccepted : Type 0
FirstCallsAreAccepted =
    (c : Configuration) → IsConfiguration c → (again later start : List Entry)
    → IsRun c (later ++ start) → OnlyTheseStopped c [] (later ++ start)
    → IsRun c (again ++ (later ++ start)) → OnlyTheseStopped c [] (again ++ (later ++ start))
    → Unforged c (again ++ (later ++ start)) → NoCollision c (again ++ (later ++ start))
    → (m : ℕ) → is_correct_replica c (primary c 0) ≡ true
    → ((q : ℕ) → is_correct_replica c q ≡ true → is_active_in c (history_of q (later ++ start)) 0 ≡ true)
    → NoneInstalls c (later ++ start) → AllRedelivered c later start
    → ((r i : ℕ) → is_correct_replica c r ≡ true → reached start r < i → i ≤ m → IsGivenFirst c i later start)
    → (k : ℕ) (call : OpenCall) → is_correct_client c (client_party k) ≡ true
    → open_call (history_of (client_party k) start) ≡ Some call
    → (i : ℕ) → 1 ≤ i → i ≤ m → (given : IsGivenFirst c i later start) → HasRequest c k call.timestamp given.batch
    → HasEntry (Tick (client_party k)) again → AllDelivered c again
    → (answer : Outcome) × HasEntry (Accepted k call.timestamp answer) (again ++ later)
