-- The checkpoints of one replica: those of the three largest numbers, the largest first (Castro and Liskov, TOCS 2002,
-- on garbage collection).
use Rattle.std.specs.Prelude.{ℕ, Bool, ◌&&◌, nat_lt, List, [], ◌∷◌, ◌==◌, if◌then◌else◌, take, find, bytes_eq, Option, option_map}
use Rattle.std.specs.List.{list_any}
use Rattle.wire_format.specs.Messages.{CheckpointEntryData}

-- with one more in its place; of one number the earlier checkpoint stays
abbrev pub insert_checkpoint : CheckpointEntryData → List CheckpointEntryData → List CheckpointEntryData
insert_checkpoint entry [] = entry ∷ []
insert_checkpoint entry (e ∷ es) =
    if e.number == entry.number then e ∷ es
    else if nat_lt e.number entry.number then entry ∷ e ∷ es
    else e ∷ insert_checkpoint entry es

-- with one more, of which three are kept
abbrev pub with_checkpoint : CheckpointEntryData → List CheckpointEntryData → List CheckpointEntryData
with_checkpoint entry entries = take 3 (insert_checkpoint entry entries)

-- the root of the checkpoint of the number
abbrev pub root_at : List CheckpointEntryData → ℕ → Option (List ℕ)
root_at entries number = option_map (λ e. e.digest) (find (λ e. e.number == number) entries)

-- whether one of these checkpoints has this number and root
abbrev pub lists_checkpoint : CheckpointEntryData → List CheckpointEntryData → Bool
lists_checkpoint entry entries =
    list_any (λ e. (e.number == entry.number) && bytes_eq e.digest entry.digest) entries
