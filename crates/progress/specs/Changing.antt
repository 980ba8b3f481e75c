-- A view change as a whole, from any view and over whatever was prepared before (Castro and Liskov, TOCS 2002, 4.5.2).
use Rattle.std.specs.Prelude.{◌≡◌, ℕ, ◌≤◌, ◌<◌, ◌⊎◌, true, List, []}
use Rattle.wire_format.specs.Messages.{ViewChangeData, CheckpointEntryData as CheckpointEntry, view_change as ViewChange}
use Rattle.protocol.specs.System.Configuration.{Configuration, IsConfiguration, primary, is_correct_replica}
use Rattle.protocol.specs.System.Trace.{Entry, history_of, Once, SendsBody, Has, Unforged}
use Rattle.protocol.specs.System.Run.{IsRun, OnlyTheseStopped}
use Rattle.protocol.specs.Replica.Certificates.{view, target, is_active_in, Prepared}
use Rattle.protocol.specs.Replica.Owed.{AreKeysSpent, HasBatch}
use Rattle.progress.specs.Delivery.{AllDelivered}

-- Correct replicas' view changes for the view have this low mark, and list the checkpoint of this root for it.
abbrev pub AreLevel : Configuration → List Entry → ℕ → ℕ → List ℕ → Type 0
AreLevel c trace v start root =
    (q : ℕ) (vc : ViewChangeData) → is_correct_replica c q ≡ true
    → Once (SendsBody (record { sender = q; message = ViewChange vc })) trace → vc.view ≡ v
    → (vc.low ≡ start) × Has (λ (m : CheckpointEntry). (m.number ≡ start) × (m.digest ≡ root)) vc.checkpoints

-- The view's primary is correct and has a key left. Each correct replica has left for the view, or is in it already,
-- and none has left for a later one; their view changes are level. Until the primary is in the view, it has each batch
-- above the mark that a correct replica holds prepared in an earlier view.
pub record NextViewIsReady (c : Configuration) (trace : List Entry) (v start : ℕ) (root : List ℕ) : Type 0 where
  pub above : 1 ≤ v
  pub from : is_correct_replica c (primary c v) ≡ true
  pub keys : AreKeysSpent (history_of (primary c v) trace) → ⊥
  pub left : (q : ℕ) → is_correct_replica c q ≡ true
      → (v ≤ target (history_of q trace)) ⊎ (v ≤ view c (history_of q trace))
  pub none_beyond : (q : ℕ) → is_correct_replica c q ≡ true → target (history_of q trace) ≤ v
  pub level : AreLevel c trace v start root
  pub had : view c (history_of (primary c v) trace) < v → (q w i : ℕ) (batch : List ℕ) → is_correct_replica c q ≡ true
      → w < v → start < i → Prepared c q (history_of q trace) w i batch
      → HasBatch c (primary c v) (history_of (primary c v) trace) batch

-- Nobody has stopped. If all that was ever sent is delivered, each correct replica is active in the next view.
abbrev pub NextViewsAreEntered : Type 0
NextViewsAreEntered =
    (c : Configuration) → IsConfiguration c → (trace : List Entry) → IsRun c trace → OnlyTheseStopped c [] trace
    → Unforged c trace → (v start : ℕ) (root : List ℕ) → NextViewIsReady c trace v start root → AllDelivered c trace
    → (q : ℕ) → is_correct_replica c q ≡ true → is_active_in c (history_of q trace) v ≡ true
