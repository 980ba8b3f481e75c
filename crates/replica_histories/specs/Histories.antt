-- The desk and log of a new replica, and that a history which they fit is a correct replica's.
use Rattle.std.specs.Prelude.{ℕ, ◌<◌, ◌≤◌, List, [], ◌∷◌, None}
use Rattle.ordering.specs.Log.{LogData, new_log}
use Rattle.protocol.specs.System.Configuration.{Configuration, replicas, span}
use Rattle.protocol.specs.System.Trace.{Entry}
use Rattle.protocol.specs.Replica.State.{opening}
use Rattle.protocol.specs.Replica.Owed.{IsReplica}
use Rattle.replica_histories.specs.Desk.{Desk, snapshot_of}
use Rattle.replica_histories.specs.Events.{BothFitBetweenEvents}

-- the opening state alone
abbrev pub first_desk : Desk
first_desk = record {
  state = opening;
  snapshots = snapshot_of opening ∷ [];
  waiting = [];
  frames = [];
  transfer = None;
}

-- A replica begins with the opening state and a new log.
abbrev pub FirstHold : Type 0
FirstHold =
    (c : Configuration) (me : ℕ) → 1 ≤ c.faults → c.faults ≤ 3 → me < replicas c → span c ≤ 32
    → BothFitBetweenEvents c me first_desk (new_log me c.faults (span c)) []

-- A history that desk and log fit is that of a correct replica.
abbrev pub HeldAreReplicas : Type 0
HeldAreReplicas =
    (c : Configuration) (me : ℕ) (desk : Desk) (log : LogData) (history : List Entry)
    → BothFitBetweenEvents c me desk log history
    → IsReplica c me history
