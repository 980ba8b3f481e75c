-- The rules of a new view, said of the view changes that it carries (Castro and Liskov, TOCS 2002, on view changes).
use Rattle.std.specs.Prelude.{◌≡◌, ◌↔◌, ℕ, suc, ◌+◌, ◌*◌, ◌≤◌, ◌<◌, ◌⊎◌, true, List, [], ◌∷◌, length, slice_get, Some, AllPairs, ⊤}
use Rattle.sha2.specs.Sha256.{sha256}
use Rattle.protocol.specs.System.Configuration.{Configuration}
use Rattle.wire_format.specs.Messages.{NewViewData, ViewChangeData, CheckpointEntryData as CheckpointEntry, BatchEntryData as BatchEntry}
use Rattle.protocol.specs.System.Trace.{Has}
use Rattle.protocol.specs.Replica.Selection.{may_select}
use Rattle.evidence.specs.Refused.{SoManyHave, SaysNothingAgainst, SaysForIt, SaysNothing}
use Rattle.evidence.specs.RefusedMarks.{SpellsChange}
use Rattle.protocol.specs.Laws.Bounds.{IsBounded}
use Rattle.wire_format.specs.Lists.{Each}

-- the frames spell these view changes, each signed by its sender
abbrev pub AreSigned : Configuration → List (List ℕ) → List (ℕ × ViewChangeData) → Type 0
AreSigned c [] [] = ⊤
AreSigned c (frame ∷ frames) (x ∷ xs) = SpellsChange c frame x.0 x.1 × AreSigned c frames xs
AreSigned c [] (x ∷ xs) = ⊥
AreSigned c (frame ∷ frames) [] = ⊥

-- a quorum of different replicas has a view change in the set of which this holds
abbrev pub QuorumHas : Configuration → List (ℕ × ViewChangeData) → (ViewChangeData → Type 0) → Type 0
QuorumHas c set P = SoManyHave (2 * c.faults + 1) c set P

-- f + 1 different replicas have one
abbrev pub WeakQuorumHas : Configuration → List (ℕ × ViewChangeData) → (ViewChangeData → Type 0) → Type 0
WeakQuorumHas c set P = SoManyHave (c.faults + 1) c set P

-- some view change of the set has prepared the number
abbrev pub SomePrepared : List (ℕ × ViewChangeData) → ℕ → Type 0
SomePrepared set i =
    Has (λ (x : ℕ × ViewChangeData). Has (λ (batch_entry : BatchEntry). batch_entry.number ≡ i) x.1.prepared) set

-- A batch may stand at a number if, for some earlier view, a quorum has nothing against its digest and f + 1 speak for
-- it, or if it is the null batch and a quorum has nothing prepared for the number.
abbrev pub MayStand : Configuration → ℕ → List (ℕ × ViewChangeData) → ℕ → List ℕ → Type 0
MayStand c view set i batch =
    ((v : ℕ) × (v < view) × QuorumHas c set (SaysNothingAgainst i v (sha256 batch))
    × WeakQuorumHas c set (SaysForIt i v (sha256 batch)))
    ⊎ ((batch ≡ 0 ∷ []) × QuorumHas c set (SaysNothing i))

-- What a new view carries is a set of signed view changes for it, within their bounds, of a quorum of different
-- replicas, in ascending order. A quorum of them has its low mark at or below its start, and f + 1 list the start's
-- checkpoint. It has a batch that may stand for each number from the one after the start to the greatest, within the
-- span, that some view change has prepared, and none beyond.
pub record IsSelected (c : Configuration) (new : NewViewData) : Type 0 where
  pub set : List (ℕ × ViewChangeData)
  pub signed : AreSigned c new.changes set
  pub ascending : AllPairs (λ x y. x.0 < y.0) set
  pub enough : QuorumHas c set (λ vc. ⊤)
  pub within : Each (λ x. (x.1.view ≡ new.view) × IsBounded c x.1) set
  pub started : QuorumHas c set (λ vc. vc.low ≤ new.start)
  pub listed : WeakQuorumHas c set
      (λ vc. Has (λ (checkpoint : CheckpointEntry). (checkpoint.number ≡ new.start)
      × (checkpoint.digest ≡ new.root)) vc.checkpoints)
  pub filled : (i : ℕ) → SomePrepared set i → i ≤ new.start + 2 * c.period → i ≤ new.start + length new.batches
  pub ends : (new.batches ≡ [])
      ⊎ (SomePrepared set (new.start + length new.batches) × (length new.batches ≤ 2 * c.period))
  pub stands : (k : ℕ) (batch : List ℕ) → slice_get new.batches k ≡ Some batch
      → MayStand c new.view set (suc new.start + k) batch

-- The definition refuses each new view that breaks a rule, and no other.
abbrev pub NewViewsMeetTheRules : Type 0
NewViewsMeetTheRules = (c : Configuration) (new : NewViewData) → (may_select c new ≡ true) ↔ IsSelected c new
