-- The batches of a new view are executed: each correct replica that entered the view has logged them.
use Rattle.std.specs.Prelude.{◌≡◌, ℕ, ◌≤◌, ◌<◌, ◌⊎◌, true, List, [], ◌++◌, Some}
use Rattle.protocol.specs.System.Configuration.{Configuration, IsConfiguration, primary, is_correct_replica}
use Rattle.protocol.specs.System.Trace.{Entry, history_of, Unforged}
use Rattle.protocol.specs.System.Run.{IsRun, OnlyTheseStopped}
use Rattle.protocol.specs.Replica.Certificates.{logged}
use Rattle.protocol.specs.Space.Linear.{reached}
use Rattle.progress.specs.Redelivered.{AllRedelivered, StaysActive, StaysInMarks, IsGiven}

-- Each correct replica has this batch logged for the number in the view, as it has each batch of the new view. The
-- number stays within its marks.
pub record NumberIsAssigned (c : Configuration) (v i : ℕ) (later start : List Entry) : Type 0 where
  pub batch : List ℕ
  pub each : (q : ℕ) → is_correct_replica c q ≡ true
      → StaysInMarks c i later start q × (logged c q (history_of q start) v i ≡ Some batch)

-- Nobody has stopped, each correct replica stays active in the view, its primary is correct, and all that was ever sent
-- is delivered again. Then each correct replica executes the number m, if the new view or the primary assigned all
-- numbers from the replica's own next one on, up to m.
abbrev pub AssignedNumbersAreExecuted : Type 0
AssignedNumbersAreExecuted =
    (c : Configuration) → IsConfiguration c → (later start : List Entry) → IsRun c (later ++ start)
    → OnlyTheseStopped c [] (later ++ start) → Unforged c (later ++ start)
    → (v m : ℕ) → is_correct_replica c (primary c v) ≡ true
    → ((q : ℕ) → is_correct_replica c q ≡ true → StaysActive c v later start q) → AllRedelivered c later start
    → (r : ℕ) → is_correct_replica c r ≡ true
    → ((i : ℕ) → reached start r < i → i ≤ m → NumberIsAssigned c v i later start ⊎ IsGiven c v i later start)
    → m ≤ reached (later ++ start) r
