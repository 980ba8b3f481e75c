-- Words of the private functions that change a list in one place.
use Rattle.std.specs.Prelude.{ℕ, zero, suc, Bool, false, ◌&&◌, nat_le, bytes_eq, List, [], ◌∷◌, ◌==◌, if◌then◌else◌, Some, slice_set, slice_index_or}
use Rattle.wire_format.specs.Messages.{CheckpointEntryData}
use Rattle.wire_format.specs.declared.messages.CheckpointEntry.{CheckpointEntry}
use Rattle.ordering.specs.declared.votes.Phase.{Phase}
use Rattle.ordering.specs.declared.votes.Vote.{Vote}
use Rattle.ordering.specs.Checkpoints.{with_checkpoint}
use Rattle.ordering.specs.Log.{Row, no_row, with_row_vote}

-- the rows with a batch, or one more vote, in the row at a place
abbrev pub batch_put : List Row → ℕ → List ℕ → List Row
batch_put rows at text =
    slice_set rows at (record (slice_index_or rows at no_row) { batch = Some text })

abbrev pub vote_put : Phase → List Row → ℕ → Vote → List Row
vote_put phase rows at vote =
    slice_set rows at (with_row_vote phase (slice_index_or rows at no_row) vote)

-- the checkpoints of all replicas, with one more of the replica at a place
abbrev pub checkpoint_put : List (List CheckpointEntryData) → ℕ → CheckpointEntryData
    → List (List CheckpointEntryData)
checkpoint_put checkpoints at entry =
    slice_set checkpoints at (with_checkpoint entry (slice_index_or checkpoints at []))

-- an entry has the number and the root of this one
abbrev pub is_entry : CheckpointEntry → CheckpointEntry → Bool
is_entry wanted entry =
    (entry.number.0 == wanted.number.0) && bytes_eq entry.digest wanted.digest

-- how many checkpoints stand before the first whose number is not larger
abbrev pub place_in : ℕ → List CheckpointEntryData → ℕ
place_in number [] = 0
place_in number (e ∷ es) = if nat_le e.number number then 0 else suc (place_in number es)

-- whether a checkpoint of the number stands at the place
abbrev pub stands_at : ℕ → ℕ → List CheckpointEntryData → Bool
stands_at place number [] = false
stands_at zero number (e ∷ es) = e.number == number
stands_at (suc place) number (e ∷ es) = stands_at place number es
