-- Words of the private functions that find batches.
use Rattle.std.specs.Prelude.{◌≡◌, ℕ, ◌≤◌, ◌⊎◌, List, ◌∷◌, map, Option, Some, None}
use Rattle.std.specs.Borrow.{Bor}
use Rattle.wire_format.specs.Lists.{Each}
use Rattle.protocol.specs.System.Trace.{Entry, Has}
use Rattle.protocol.specs.Replica.Certificates.{first_given}
use Rattle.protocol.specs.Space.Linear.{batch_at, last_executed}
use Rattle.points.specs.Numbering.{Numbered, AscendsFrom}

-- a number with its batch, in the program
abbrev pub numbered : ℕ × Bor (List ℕ) → Numbered
numbered e = record { number = e.0; batch = e.1.now }

abbrev pub numbered_of : List (ℕ × Bor (List ℕ)) → List Numbered
numbered_of entries = map numbered entries

-- the batch of the first execution of the number
abbrev pub first_batch : List Entry → ℕ → Option (List ℕ)
first_batch past k = first_given (λ past e. batch_at k e) past

-- The numbers from 1 on that were executed, ascending, each with the batch of its first execution.
pub record CollectsBatches (past : List Entry) (xs : List Numbered) : Type 0 where
  pub ascends : AscendsFrom 1 xs
  pub each : Each (λ x. (first_batch past x.number ≡ Some x.batch) × (x.number ≤ last_executed past)) xs
  pub other : (j : ℕ) → 1 ≤ j → Has (λ x. x.number ≡ j) xs ⊎ (first_batch past j ≡ None)

-- an entry leads from the earlier numbers to the later ones
abbrev pub NotesBatch : Entry → List (ℕ × Bor (List ℕ)) → List (ℕ × Bor (List ℕ)) → Type 0
NotesBatch e old new = (past : List Entry) → CollectsBatches past (numbered_of old)
    → CollectsBatches (e ∷ past) (numbered_of new)
