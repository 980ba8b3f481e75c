-- How a process that serves a replica ends.
use Rattle.std.specs.Prelude.{◌≡◌, ℕ, List, [], ◌++◌, Option, Result, MatchResult}
use Rattle.std.specs.Io.KnownBytes.{Appends}
use Rattle.wire_format.specs.Lists.{Each}
use Rattle.protocol.specs.System.Configuration.{Configuration}
use Rattle.protocol.specs.System.Trace.{Entry}
use Rattle.protocol.specs.Replica.Owed.{IsPromptReplica}
use Rattle.party_runs.specs.Interleavings.{IsEventOf, trace_of}
use Rattle.records.specs.Records.{NoticeData, TellNotices}
use Rattle.replica_process.specs.Serving.{Serves}
use Rattle.replica_process.specs.declared.fault.ServeFault.{ServeFault}
use Rattle.replica_process.specs.declared.fault.ServeFault.TheVariants.{NoMemory, TooLarge, Read, Write}

-- For these bytes the replica has these events, and writes this text. Its history is a correct replica's, which has not
-- stopped: it is safe, and does all that it owes.
pub record ServesBytes (c : Configuration) (me needed : ℕ) (bytes : List ℕ) (events : List (List Entry))
    (written : List ℕ) : Type 0 where
  pub notices : List NoticeData
  pub told : TellNotices bytes notices
  pub serves : Serves c me needed [] [] notices events written
  pub each : Each (IsEventOf me) events
  pub right : IsPromptReplica c me (trace_of events)

-- It serves these bytes, and what it writes for them is appended.
abbrev pub Writes : Configuration → ℕ → ℕ → List ℕ → Option (List ℕ) → Option (List ℕ) → Type 0
Writes c me needed bytes old new =
    (events : List (List Entry)) × (written : List ℕ)
    × ServesBytes c me needed bytes events written × Appends old new written

-- It serves a front of these bytes, and what it writes for that is appended.
abbrev pub WritesForFront : Configuration → ℕ → ℕ → List ℕ → Option (List ℕ) → Option (List ℕ) → Type 0
WritesForFront c me needed bytes old new =
    (front left : List ℕ) × (bytes ≡ front ++ left) × Writes c me needed front old new

-- It serves a front of these bytes, and a front of what it writes for that is appended.
abbrev pub WritesFront : Configuration → ℕ → ℕ → List ℕ → Option (List ℕ) → Option (List ℕ) → Type 0
WritesFront c me needed bytes old new =
    (front left : List ℕ) × (events : List (List Entry)) × (written more : List ℕ)
    × (bytes ≡ front ++ left) × ServesBytes c me needed front events (written ++ more) × Appends old new written

-- At a fault it served a front of the bytes. Only if writing failed may some of that not be written.
abbrev pub StopsBy : Configuration → ℕ → ℕ → ServeFault → List ℕ → Option (List ℕ) → Option (List ℕ) → Type 0
StopsBy c me needed NoMemory bytes old new = WritesForFront c me needed bytes old new
StopsBy c me needed TooLarge bytes old new = WritesForFront c me needed bytes old new
StopsBy c me needed (Read error) bytes old new = WritesForFront c me needed bytes old new
StopsBy c me needed (Write error) bytes old new = WritesFront c me needed bytes old new

-- It served all bytes, or a front of them.
abbrev pub EndsServing : Configuration → ℕ → ℕ → Result (Unit {0}) ServeFault → List ℕ
    → Option (List ℕ) → Option (List ℕ) → Type 0
EndsServing c me needed result bytes old new =
    MatchResult result (λ _. Writes c me needed bytes old new) (λ fault. StopsBy c me needed fault bytes old new)
