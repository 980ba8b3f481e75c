-- Any view as a whole: if it goes on after it was entered, every open call of a correct client is accepted.
use Rattle.std.specs.Prelude.{◌≡◌, ℕ, suc, ◌≤◌, ◌<◌, ◌⊎◌, true, List, [], ◌++◌, Some, is_some}
use Rattle.terms.specs.Parties.{client_party}
use Rattle.tuple_codec.specs.Operations.{Outcome}
use Rattle.protocol.specs.System.Configuration.{Configuration, IsConfiguration, primary, is_correct_replica, is_correct_client}
use Rattle.protocol.specs.System.Trace.{Entry, history_of, Once, Unforged}
use Rattle.protocol.specs.System.Trace.Entry.{Tick, Accepted}
use Rattle.protocol.specs.System.Texts.{NoCollision}
use Rattle.protocol.specs.System.Run.{IsRun, OnlyTheseStopped}
use Rattle.protocol.specs.Replica.Certificates.{is_active_in, low, is_in_marks, logged}
use Rattle.protocol.specs.Replica.Owed.{BeginsViewWith}
use Rattle.protocol.specs.Client.RightClient.{OpenCall, open_call}
use Rattle.protocol.specs.Space.Linear.{reached}
use Rattle.progress.specs.Delivery.{HasEntry, AllDelivered}
use Rattle.progress.specs.Redelivered.{AllRedelivered, IsGiven}
use Rattle.progress.specs.Assigned.{NumberIsAssigned}
use Rattle.progress.specs.Changing.{NextViewIsReady}

-- the new view or the primary assigned this batch to the number
abbrev pub BatchHasNumber : Configuration → ℕ → ℕ → List ℕ → List Entry → List Entry → Type 0
BatchHasNumber c v i batch later start =
    ((assigned : NumberIsAssigned c v i later start) × (assigned.batch ≡ batch))
    ⊎ ((given : IsGiven c v i later start) × (given.batch ≡ batch))

-- The primary is correct, and each correct replica is active in the view at the end. The new view or the primary
-- assigned all that the primary has logged in it, from number 1 on. The primary has logged each batch of its new view.
-- From each correct replica's own next number on it has logged all, up to each number that it executed or logged; so it
-- has above its low mark, up to its executed number. Its next number is within its marks.
pub record ViewGoesOn (c : Configuration) (v : ℕ) (later start : List Entry) : Type 0 where
  pub from : is_correct_replica c (primary c v) ≡ true
  pub active : (q : ℕ) → is_correct_replica c q ≡ true → is_active_in c (history_of q (later ++ start)) v ≡ true
  pub numbers : (i : ℕ) (batch : List ℕ)
      → logged c (primary c v) (history_of (primary c v) (later ++ start)) v i ≡ Some batch
      → (1 ≤ i) × BatchHasNumber c v i batch later start
  pub begins : (batch : List ℕ) → Once (BeginsViewWith c v batch) (history_of (primary c v) (later ++ start))
      → (i : ℕ) × (logged c (primary c v) (history_of (primary c v) (later ++ start)) v i ≡ Some batch)
  pub all : (r i j : ℕ) → is_correct_replica c r ≡ true → reached start r < j → j ≤ i
      → (i ≤ reached (later ++ start) (primary c v))
      ⊎ (is_some (logged c (primary c v) (history_of (primary c v) (later ++ start)) v i) ≡ true)
      → is_some (logged c (primary c v) (history_of (primary c v) (later ++ start)) v j) ≡ true
  pub used : (j : ℕ) → low c (primary c v) (history_of (primary c v) (later ++ start)) < j
      → j ≤ reached (later ++ start) (primary c v)
      → is_some (logged c (primary c v) (history_of (primary c v) (later ++ start)) v j) ≡ true
  pub room : is_in_marks c (low c (primary c v) (history_of (primary c v) (later ++ start)))
      (suc (reached (later ++ start) (primary c v))) ≡ true

-- Nobody has stopped. Each correct replica has left for a view whose primary is correct, or is in it, and all that was
-- ever sent is delivered. The view goes on from there. A correct client with an open call asks again, as time goes by,
-- and all that was ever sent is delivered again. Then it asks once more, and all that is sent is delivered: it has
-- accepted an answer, in the first part or in this one.
abbrev pub CallsOutliveChanges : Type 0
CallsOutliveChanges =
    (c : Configuration) → IsConfiguration c → (again later start : List Entry)
    → IsRun c start → OnlyTheseStopped c [] start → IsRun c (later ++ start) → OnlyTheseStopped c [] (later ++ start)
    → IsRun c (again ++ (later ++ start)) → OnlyTheseStopped c [] (again ++ (later ++ start))
    → Unforged c (again ++ (later ++ start)) → NoCollision c (again ++ (later ++ start))
    → (v mark : ℕ) (root : List ℕ) → NextViewIsReady c start v mark root → AllDelivered c start
    → ViewGoesOn c v later start → AllRedelivered c later start
    → (k : ℕ) (call : OpenCall) → is_correct_client c (client_party k) ≡ true
    → open_call (history_of (client_party k) start) ≡ Some call
    → HasEntry (Tick (client_party k)) later → HasEntry (Tick (client_party k)) again → AllDelivered c again
    → (answer : Outcome) × HasEntry (Accepted k call.timestamp answer) (again ++ later)
