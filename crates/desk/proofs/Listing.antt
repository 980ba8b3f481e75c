-- The checkpoints that a view change lists.
use Rattle.std.proofs.Common.{◌≡◌, List, [], ◌∷◌, map, drop, refl, ap}
use mathlib.Core.List.{reverse_aux}
use Rattle.wire_format.specs.Messages.{CheckpointEntryData as CheckpointEntry}
use Rattle.replica_histories.specs.Views.{checkpoint_entry_of, entries_of}
use Rattle.desk.specs.declared.snapshots.KeptState.{KeptState}
use Rattle.desk.specs.SnapshotsView.{kept_data}

abbrev pub listed : KeptState → CheckpointEntry
listed state = checkpoint_entry_of (kept_data state)

listed_mapped : (xs : List KeptState) → map listed xs ≡ map checkpoint_entry_of (map kept_data xs)
listed_mapped [] = refl
listed_mapped (x ∷ xs) = ap (λ (ys : List CheckpointEntry). listed x ∷ ys) (listed_mapped xs)

pub none_listed : (xs : List KeptState) → reverse_aux (map listed (drop 0 xs)) [] ≡ entries_of (map kept_data xs)
none_listed [] = refl
none_listed (x ∷ xs) = ap (λ (ys : List CheckpointEntry). reverse_aux ys []) (listed_mapped (x ∷ xs))
