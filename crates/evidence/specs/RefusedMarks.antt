-- Small histories that the definitions of a new view's view changes, of the low mark and of checkpoints refuse.
use Rattle.std.specs.Prelude.{◌≡◌, ℕ, ◌+◌, ◌*◌, ◌^◌, ◌≤◌, ◌<◌, ◌⊎◌, true, Bool, List, [], ◌∷◌, length, slice_get, Some}
use Rattle.quorum.specs.Quorum.{count_below}
use Rattle.protocol.specs.System.Configuration.{Configuration, replicas, members, signers}
use Rattle.wire_format.specs.Messages.{ViewChangeData, NewViewData, CheckpointEntryData as CheckpointEntry, checkpoint as Checkpoint, view_change as ViewChange}
use Rattle.signing.specs.AuthenticBody.{authentic, signed_body}
use Rattle.wire_format.specs.Words.{said}
use Rattle.protocol.specs.System.Trace.{Entry, Once, Has}
use Rattle.protocol.specs.System.Trace.Entry.{Got, Installed, Sent}
use Rattle.protocol.specs.Replica.Selection.{changes_of}
use Rattle.protocol.specs.Replica.Certificates.{taken, checkpoints_of, low}
use Rattle.evidence.specs.Refused.{HasFrom}
use Rattle.protocol.specs.Laws.Bounds.{IsBounded}

-- ---- the view changes of a new view

-- the bytes spell a signed view change
abbrev pub SpellsChange : Configuration → List ℕ → ℕ → ViewChangeData → Type 0
SpellsChange c bytes s vc = signed_body (signers c) bytes ≡ Some (record { sender = s; message = ViewChange vc })

-- With bytes that are no signed view change, a sender twice or out of order, a view change for another view or
-- beyond its bounds, a start below the low mark of all but 2f, or one that only f list: such a new view is not
-- taken.
pub record IsWellFounded (c : Configuration) (new : NewViewData) : Type 0 where
  pub signed : (bytes : List ℕ) → Has (λ x. x ≡ bytes) new.changes
      → (s : ℕ) × (vc : ViewChangeData) × SpellsChange c bytes s vc
  pub carried : (s : ℕ) (vc : ViewChangeData) → Has (λ x. x ≡ (s, vc)) (changes_of c new)
      → Has (λ bytes. SpellsChange c bytes s vc) new.changes
  pub ascending : (i j : ℕ) (a b : ℕ × ViewChangeData) → i < j → slice_get (changes_of c new) i ≡ Some a
      → slice_get (changes_of c new) j ≡ Some b → a.0 < b.0
  pub of_its_view : (s : ℕ) (vc : ViewChangeData) → Has (λ x. x ≡ (s, vc)) (changes_of c new) → vc.view ≡ new.view
  pub bounded : (s : ℕ) (vc : ViewChangeData) → Has (λ x. x ≡ (s, vc)) (changes_of c new) → IsBounded c vc
  pub started : HasFrom (2 * c.faults + 1) c new (λ vc. vc.low ≤ new.start)
  pub listed : HasFrom (c.faults + 1) c new
      (λ vc. Has (λ (checkpoint : CheckpointEntry). (checkpoint.number ≡ new.start)
      × (checkpoint.digest ≡ new.root)) vc.checkpoints)

-- Each new view that is taken is well founded.
abbrev pub TakesWellFounded : Type 0
TakesWellFounded =
    (c : Configuration) (past : List Entry) (e : Entry) (new : NewViewData) → taken c past e ≡ Some new
    → IsWellFounded c new

-- ---- the low mark

-- the replica's checkpoints have this number with this root
abbrev pub HasCheckpoint : Configuration → List Entry → ℕ → List ℕ → ℕ → Type 0
HasCheckpoint c past k root s =
    Has (λ (checkpoint : CheckpointEntry). (checkpoint.number ≡ k) × (checkpoint.digest ≡ root))
    (checkpoints_of c past s)

-- checkpoints of 2f + 1 different replicas are alike, the replica's own among them
pub record IsStable (c : Configuration) (me : ℕ) (past : List Entry) (k : ℕ) (root : List ℕ) : Type 0 where
  pub from : ℕ → Bool
  pub enough : 2 * c.faults + 1 ≤ count_below from (replicas c)
  pub alike : (s : ℕ) → from s ≡ true → HasCheckpoint c past k root s
  pub own : HasCheckpoint c past k root me

-- a state of this number is installed here
abbrev pub InstallsNumber : ℕ → Entry → Type 0
InstallsNumber k (Installed replica number root) = number ≡ k
InstallsNumber k _ = ⊥

-- the number is stable after the entry, or the entry installs a state of that number, or the new view taken at the
-- entry starts there
abbrev pub IsMarkAt : Configuration → ℕ → ℕ → List Entry → Entry → Type 0
IsMarkAt c me k past e =
    ((root : List ℕ) × IsStable c me (e ∷ past) k root)
    ⊎ (InstallsNumber k e ⊎ ((new : NewViewData) × (taken c past e ≡ Some new) × (new.start ≡ k)))

-- A low mark below a number that is or was stable, whose state was installed, or at which a new view that was taken
-- starts.
abbrev pub LowIsNoLower : Type 0
LowIsNoLower = (c : Configuration) (me k : ℕ) (past : List Entry) → Once (IsMarkAt c me k) past → k ≤ low c me past

-- A low mark above 0 that was none of these, for example if all but the replica's own checkpoint are alike, or only 2f
-- are.
abbrev pub LowIsMarked : Type 0
LowIsMarked =
    (c : Configuration) (me : ℕ) (past : List Entry) → (low c me past ≡ 0) ⊎ Once (IsMarkAt c me (low c me past)) past

-- ---- checkpoints

-- the entry brings a checkpoint of the replica: the replica receives it, or sends it
abbrev pub BringsCheckpoint : Configuration → ℕ → ℕ → List ℕ → Entry → Type 0
BringsCheckpoint c s k root (Got p bytes) =
    authentic (members c p) p bytes ≡ Some (record { sender = s; message = Checkpoint k root })
BringsCheckpoint c s k root (Sent p bytes) = said bytes ≡ Some (record { sender = s; message = Checkpoint k root })
BringsCheckpoint c s k root _ = ⊥

-- A second checkpoint of a number, of the first's root or another, that changes anything.
abbrev pub FirstCheckpointCounts : Type 0
FirstCheckpointCounts =
    (c : Configuration) (s k : ℕ) (root : List ℕ) (e : Entry) (past : List Entry) → BringsCheckpoint c s k root e
    → Has (λ (checkpoint : CheckpointEntry). checkpoint.number ≡ k) (checkpoints_of c past s)
    → checkpoints_of c (e ∷ past) s ≡ checkpoints_of c past s

-- A checkpoint of another number that is lost, though its sender has less than three, or one of a lower number.
abbrev pub NewCheckpointCounts : Type 0
NewCheckpointCounts =
    (c : Configuration) (s k : ℕ) (root : List ℕ) (e : Entry) (past : List Entry) → BringsCheckpoint c s k root e
    → k < 2 ^ 48
    → (Has (λ (checkpoint : CheckpointEntry). checkpoint.number ≡ k) (checkpoints_of c past s) → ⊥)
    → (length (checkpoints_of c past s) < 3)
    ⊎ Has (λ (checkpoint : CheckpointEntry). checkpoint.number < k) (checkpoints_of c past s)
    → HasCheckpoint c (e ∷ past) k root s

-- One that is dropped, though no three are of greater numbers.
abbrev pub CheckpointsStay : Type 0
CheckpointsStay =
    (c : Configuration) (s : ℕ) (checkpoint : CheckpointEntry) (e : Entry) (past : List Entry)
    → Has (λ x. x ≡ checkpoint) (checkpoints_of c past s)
    → Has (λ x. x ≡ checkpoint) (checkpoints_of c (e ∷ past) s)
    ⊎ ((x y z : CheckpointEntry) × (checkpoints_of c (e ∷ past) s ≡ x ∷ y ∷ z ∷ []) × (checkpoint.number < z.number))

-- More than three of a sender, or not from the greatest number down.
abbrev pub CheckpointsAreFew : Type 0
CheckpointsAreFew = (c : Configuration) (s : ℕ) (past : List Entry) → length (checkpoints_of c past s) ≤ 3

abbrev pub CheckpointsDescend : Type 0
CheckpointsDescend =
    (c : Configuration) (s i j : ℕ) (a b : CheckpointEntry) (past : List Entry)
    → i < j → slice_get (checkpoints_of c past s) i ≡ Some a → slice_get (checkpoints_of c past s) j ≡ Some b
    → b.number < a.number

-- One that its sender's checkpoints never brought, or of no number.
abbrev pub CheckpointsWereBrought : Type 0
CheckpointsWereBrought =
    (c : Configuration) (s : ℕ) (checkpoint : CheckpointEntry) (past : List Entry)
    → Has (λ x. x ≡ checkpoint) (checkpoints_of c past s)
    → (checkpoint.number < 2 ^ 48) × Once (λ earlier e. BringsCheckpoint c s checkpoint.number checkpoint.digest e) past
