-- Which states a desk keeps (Castro and Liskov, TOCS 2002, on garbage collection).
use Rattle.std.specs.Prelude.{◌≡◌, ℕ, Bool, ◌%◌, ◌<◌, ◌≤◌, List, [], ◌∷◌, length, slice_index_or, take, ⊤}
use Rattle.partition_tree.specs.declared.tree.TheConstants.{PAGES}
use Rattle.wire_format.specs.Lists.{Each, ascends}
use Rattle.wire_format.specs.Messages.{CheckpointEntryData as CheckpointEntry}
use Rattle.wire_format.specs.Spelling.{checkpoint_entry_before}
use Rattle.replica_histories.specs.Desk.{Snapshot}

-- Each number is greater than all later ones in the list.
abbrev pub Descend : List Snapshot → Type 0
Descend [] = ⊤
Descend (x ∷ older) = Each (λ y. y.number < x.number) older × Descend older

-- At most three states are kept, the newest first, so that a view change may list them.
pub record AreFew (snapshots : List Snapshot) : Type 0 where
  pub few : length snapshots ≤ 3
  pub descend : Descend snapshots

-- All but the oldest have multiples of the period as their numbers.
abbrev pub AreDue : ℕ → List Snapshot → Type 0
AreDue period [] = ⊤
AreDue period (x ∷ []) = ⊤
AreDue period (x ∷ y ∷ older) = (x.number % period ≡ 0) × AreDue period (y ∷ older)

-- A desk with this period that has executed the number keeps these.
pub record AreKept (period number : ℕ) (snapshots : List Snapshot) : Type 0 where
  pub below : Each (λ x. x.number ≤ number) snapshots
  pub due : AreDue period snapshots

-- No page is longer than a state's can be: 64 tuples of 1,024 bytes, each after the 8 bytes of its birth number.
abbrev pub HaveShortPages : List (List ℕ) → Type 0
HaveShortPages pages = (i : ℕ) → i < PAGES → length (slice_index_or pages i []) ≤ 66176

-- The numbers of these checkpoints ascend, as in a view change.
abbrev pub is_ascending : List CheckpointEntry → Bool
is_ascending checkpoints = ascends checkpoint_entry_before checkpoints

-- A state is kept beside the newest two.
abbrev pub newest_with : Snapshot → List Snapshot → List Snapshot
newest_with x older = take 3 (x ∷ older)
