-- Words of the private functions that select: the batch at a number, the batches after a start, and the starts.
use Rattle.std.specs.Prelude.{◌≡◌, ℕ, suc, ◌<◌, true, false, ◌&&◌, List, [], ◌∷◌, length, nat_lt, if◌then◌else◌, Option, Some, None}
use Rattle.protocol.specs.System.Configuration.{Configuration}
use Rattle.protocol.specs.Replica.Selection.{is_start, may_stand, may_all_stand}
use Rattle.wire_format.specs.Messages.{ViewChangeData, CheckpointEntryData as CheckpointEntry}
use Rattle.view_change.specs.Selecting.{how_many_from, meets, IsAvailable, AreFrom, IsFirstChoice, AreFirstChoices, NothingFrom}

-- ---- one number

-- The first batch in order, which may stand at the number.
pub record StandsAt (c : Configuration) (view : ℕ) (set : List (ℕ × ViewChangeData)) (texts : List (List ℕ))
    (number : ℕ) (batch : List ℕ) : Type 0 where
  pub stands : may_stand c view set number batch ≡ true
  pub from : IsAvailable texts batch
  pub first : IsFirstChoice c set texts number batch

-- No batch may stand at the number.
abbrev pub NoneStandsAt : Configuration → ℕ → List (ℕ × ViewChangeData) → List (List ℕ) → ℕ → Type 0
NoneStandsAt c view set texts number =
    (batch : List ℕ) → IsAvailable texts batch → may_stand c view set number batch ≡ false

-- ---- all numbers

-- All batches after a start.
pub record FillsAfterStart (c : Configuration) (view : ℕ) (set : List (ℕ × ViewChangeData)) (texts : List (List ℕ))
    (start : ℕ)
    (batches : List (List ℕ)) : Type 0 where
  pub long : length batches ≡ how_many_from c set start
  pub stand : may_all_stand c view set (suc start) batches ≡ true
  pub from : AreFrom texts batches
  pub first : AreFirstChoices c set texts (suc start) batches

-- No batches fill the numbers after the start, whatever its root.
abbrev pub NothingFills : Configuration → ℕ → List (ℕ × ViewChangeData) → List (List ℕ) → ℕ → Type 0
NothingFills c view set texts start = (root : List ℕ) → NothingFrom c view set texts start root

-- ---- the starts

-- the greater of two
abbrev pub greater_start : Option CheckpointEntry → Option CheckpointEntry → Option CheckpointEntry
greater_start None b = b
greater_start (Some a) None = Some a
greater_start (Some a) (Some b) = if nat_lt a.number b.number then Some b else Some a

-- the greatest of these below the limit at which a new view may start
abbrev pub start_in : Configuration → List (ℕ × ViewChangeData) → ℕ → List CheckpointEntry → Option CheckpointEntry
start_in c set limit [] = None
start_in c set limit (checkpoint ∷ checkpoints) =
    if nat_lt checkpoint.number limit && is_start c set checkpoint.number checkpoint.digest then
    greater_start (Some checkpoint) (start_in c set limit checkpoints) else
    start_in c set limit checkpoints

abbrev pub start_of : Configuration → List (ℕ × ViewChangeData) → ℕ → List (ℕ × ViewChangeData) → Option CheckpointEntry
start_of c set limit [] = None
start_of c set limit (x ∷ xs) = greater_start (start_in c set limit x.1.checkpoints) (start_of c set limit xs)

-- The selection from the starts below the limit.
pub record SelectsBelow (c : Configuration) (view : ℕ) (set : List (ℕ × ViewChangeData)) (texts : List (List ℕ))
    (limit start : ℕ) (root : List ℕ) (batches : List (List ℕ)) : Type 0 where
  pub meets : meets c view set start root batches ≡ true
  pub from : AreFrom texts batches
  pub first : AreFirstChoices c set texts (suc start) batches
  pub greatest : (above : ℕ) (other : List ℕ) → start < above → above < limit
      → NothingFrom c view set texts above other

abbrev pub NothingBelow : Configuration → ℕ → List (ℕ × ViewChangeData) → List (List ℕ) → ℕ → Type 0
NothingBelow c view set texts limit =
    (start : ℕ) (root : List ℕ) → start < limit → NothingFrom c view set texts start root
