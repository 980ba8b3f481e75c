-- Small histories that the definitions refuse: parts of states that are not kept, and view changes that list other
-- checkpoints than those of the kept states.
use Rattle.std.specs.Prelude.{◌≡◌, ℕ, ◌%◌, ◌≤◌, ◌<◌, ◌⊎◌, List, ◌∷◌, slice_get, Some}
use Rattle.protocol.specs.System.Configuration.{Configuration}
use Rattle.terms.specs.declared.state.Level.{Level}
use Rattle.wire_format.specs.Messages.{ViewChangeData, CheckpointEntryData as CheckpointEntry, meta as Meta, page as Page}
use Rattle.wire_format.specs.Words.{said}
use Rattle.protocol.specs.System.Trace.{Entry, Once, Has}
use Rattle.protocol.specs.System.Trace.Entry.{Installed, Sent}
use Rattle.protocol.specs.Replica.Certificates.{low}
use Rattle.protocol.specs.Replica.RightReplica.{SafeReplica, Executes}
use Rattle.evidence.specs.RefusedChanges.{SendsNewChange}

-- ---- parts of states

-- Digests, or a page, of a number below the low mark.
abbrev pub SendsNoLowDigests : Type 0
SendsNoLowDigests =
    (c : Configuration) (me k index : ℕ) (level : Level) (digests : List (List ℕ)) (bytes : List ℕ) (past : List Entry)
    → said bytes ≡ Some (record { sender = me; message = Meta k level index digests })
    → SafeReplica c me (Sent me bytes ∷ past)
    → low c me past ≤ k

abbrev pub SendsNoLowPages : Type 0
SendsNoLowPages =
    (c : Configuration) (me k index : ℕ) (text bytes : List ℕ) (past : List Entry)
    → said bytes ≡ Some (record { sender = me; message = Page k index text }) → SafeReplica c me (Sent me bytes ∷ past)
    → low c me past ≤ k

-- ---- the checkpoints of a new view change

-- a state of this number is installed here
abbrev pub InstallsStateOf : ℕ → List Entry → Entry → Type 0
InstallsStateOf k past (Installed r number root) = number ≡ k
InstallsStateOf k past _ = ⊥

-- the number is 0, or a multiple of the period that was executed, or was installed
abbrev pub HasSnapshot : Configuration → ℕ → List Entry → Type 0
HasSnapshot c k past = (k ≡ 0) ⊎ (((k % c.period ≡ 0) × Once (Executes k) past) ⊎ Once (InstallsStateOf k) past)

-- A new view change with another low mark than its sender's.
abbrev pub ChangesFromLowMark : Type 0
ChangesFromLowMark =
    (c : Configuration) (me : ℕ) (vc : ViewChangeData) (bytes : List ℕ) (past : List Entry)
    → SendsNewChange c me vc bytes past → vc.low ≡ low c me past

-- A new view change that lists a checkpoint below the low mark.
abbrev pub ListsNoneBelow : Type 0
ListsNoneBelow =
    (c : Configuration) (me : ℕ) (vc : ViewChangeData) (checkpoint : CheckpointEntry) (bytes : List ℕ)
    (past : List Entry) → SendsNewChange c me vc bytes past
    → Has (λ x. x ≡ checkpoint) vc.checkpoints → low c me past ≤ checkpoint.number

-- A new view change that lists a checkpoint of a number that was neither executed, as a multiple of the period, nor
-- installed.
abbrev pub ListsSnapshots : Type 0
ListsSnapshots =
    (c : Configuration) (me : ℕ) (vc : ViewChangeData) (checkpoint : CheckpointEntry) (bytes : List ℕ)
    (past : List Entry) → SendsNewChange c me vc bytes past
    → Has (λ x. x ≡ checkpoint) vc.checkpoints → HasSnapshot c checkpoint.number past

-- A new view change that leaves out such a number at or above the low mark.
abbrev pub ListsEachSnapshot : Type 0
ListsEachSnapshot =
    (c : Configuration) (me k : ℕ) (vc : ViewChangeData) (bytes : List ℕ) (past : List Entry)
    → SendsNewChange c me vc bytes past
    → HasSnapshot c k past → low c me past ≤ k
    → Has (λ (checkpoint : CheckpointEntry). checkpoint.number ≡ k) vc.checkpoints

-- A new view change whose checkpoints don't ascend.
abbrev pub CheckpointsAscend : Type 0
CheckpointsAscend =
    (c : Configuration) (me i j : ℕ) (vc : ViewChangeData) (a b : CheckpointEntry) (bytes : List ℕ) (past : List Entry)
    → SendsNewChange c me vc bytes past
    → i < j → slice_get vc.checkpoints i ≡ Some a → slice_get vc.checkpoints j ≡ Some b → a.number < b.number
