-- Which messages a log takes, and why it drops the others (Castro and Liskov, TOCS 2002, on normal-case operation and
-- garbage collection). The first fault that applies is told.
use Rattle.std.specs.Prelude.{◌≡◌, ℕ, ◌^◌, Bool, ◌&&◌, not, List, nat_le, nat_lt, ◌==◌, if◌then◌else◌, Option, Some, None, Result, Ok, Err, bytes_eq}
use Rattle.sha2.specs.Sha256.{sha256}
use Rattle.quorum.specs.Votes.{or_else}
use Rattle.ordering.specs.declared.dropped.Dropped.{Dropped}
use Rattle.ordering.specs.declared.dropped.Dropped.TheVariants.{WrongView, OutOfMarks, Conflict, UnknownSender, Duplicate}
use Rattle.ordering.specs.Checkpoints.{root_at}
use Rattle.ordering.specs.Log.{LogData, replicas, primary, is_active_in, is_in_marks, checkpoints_of, logged_digest, prepare_of, commit_of}

-- The first digest stays: the same one again is a duplicate, another one a conflict.
abbrev pub fault_beside : Option (List ℕ) → List ℕ → Option Dropped
fault_beside None digest = None
fault_beside (Some first) digest = Some (if bytes_eq first digest then Duplicate else Conflict)

-- Why a log drops an ordering message for this view and number, whatever its batch. The flag says whether the sender
-- may send it.
abbrev pub ordering_fault : LogData → Bool → ℕ → ℕ → Option Dropped
ordering_fault m may_send v i =
    if not may_send then Some UnknownSender
    else if not (is_active_in m v) then Some WrongView
    else if not (is_in_marks m i) then Some OutOfMarks
    else None

-- The same of a pre-prepare, which only the primary may send.
abbrev pub proposal_fault : LogData → ℕ → ℕ → ℕ → Option Dropped
proposal_fault m s v i = ordering_fault m (s == primary m v) v i

-- The primary sends pre-prepares, backups send prepares, and all send commits.
abbrev pub preprepare_fault : LogData → ℕ → ℕ → ℕ → List ℕ → Option Dropped
preprepare_fault m s v i text =
    or_else (proposal_fault m s v i) (fault_beside (logged_digest m i) (sha256 text))

abbrev pub prepare_fault : LogData → ℕ → ℕ → ℕ → List ℕ → Option Dropped
prepare_fault m s v i digest =
    or_else (ordering_fault m (nat_lt s (replicas m) && not (s == primary m v)) v i)
    (fault_beside (prepare_of m i s) digest)

abbrev pub commit_fault : LogData → ℕ → ℕ → ℕ → List ℕ → Option Dropped
commit_fault m s v i digest =
    or_else (ordering_fault m (nat_lt s (replicas m)) v i) (fault_beside (commit_of m i s) digest)

-- a checkpoint may be of any number above the low mark
abbrev pub checkpoint_fault : LogData → ℕ → ℕ → List ℕ → Option Dropped
checkpoint_fault m s i root =
    if nat_le (replicas m) s then Some UnknownSender
    else if not (nat_lt m.low i && nat_lt i (2 ^ 48)) then Some OutOfMarks
    else fault_beside (root_at (checkpoints_of m s) i) root

-- If there is no fault, the log takes the message and changes so. Else it drops the message for that fault, and stays
-- as it was.
abbrev pub TakesOrDrops : Result Unit Dropped → Option Dropped → LogData → LogData → LogData → Type 0
TakesOrDrops (Ok done) fault old new after = (fault ≡ None) × (new ≡ after)
TakesOrDrops (Err dropped) fault old new after = (fault ≡ Some dropped) × (new ≡ old)
