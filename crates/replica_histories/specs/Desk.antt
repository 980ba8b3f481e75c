-- A replica's state beside its log: the executed state, the kept states, the waiting requests, and the open transfer
-- (Castro and Liskov, Practical Byzantine fault tolerance and proactive recovery, TOCS 2002, on the system model,
-- garbage collection and state transfer).
use Rattle.std.specs.Prelude.{ℕ, List, filter, nat_le, Option}
use Rattle.state_transfer.specs.Transfer.{TransferData}
use Rattle.protocol.specs.Replica.State.{State, Call, Ran, pages_of}
use Rattle.protocol.specs.Replica.RightReplica.{Point}

-- a kept state: its number and pages
pub record Snapshot : Type 0 where
  pub number : ℕ
  pub pages : List (List ℕ)

abbrev pub snapshot_of : State → Snapshot
snapshot_of st = record { number = st.number; pages = pages_of st }

-- the kept states at or above a low mark; older ones are dropped
abbrev pub kept_from : ℕ → List Snapshot → List Snapshot
kept_from low snapshots = filter (λ snapshot. nat_le low snapshot.number) snapshots

-- The executed state; the kept states, the newest first; the waiting requests, and the frames in which they arrived;
-- and the transfer of a later state, if one is open.
pub record Desk : Type 0 where
  pub state : State
  pub snapshots : List Snapshot
  pub waiting : List Call
  pub frames : List (List ℕ)
  pub transfer : Option TransferData

-- the desk after the low mark moved here
abbrev pub desk_from : ℕ → Desk → Desk
desk_from low desk = record desk { snapshots = kept_from low desk.snapshots }

-- the point of a desk, with all states that were ever kept, and the requests that ran in the running event
abbrev pub point_of : Desk → List State → List Ran → Point
point_of desk states ran = record { state = desk.state; snapshots = states; ran = ran; waiting = desk.waiting }
