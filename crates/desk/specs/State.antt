-- A desk's data, as plain values.
use Rattle.std.specs.Prelude.{◌≡◌, ℕ, ◌<◌, ◌≤◌, List, Option}
use Rattle.authenticator.specs.Membership.{Membership}
use Rattle.execution.specs.Executed.{ExecutedData}
use Rattle.state_transfer.specs.Transfer.{TransferData}
use Rattle.replica_histories.specs.Desk.{Snapshot}
use Rattle.desk.specs.Keeping.{AreKept}
use Rattle.desk.specs.Waiting.{WaitingData}

-- an open transfer, and the number of the executed state whose pages stand where none were fetched
pub record OpenData : Type 0 where
  pub transfer : TransferData
  pub rests_at : ℕ

-- The desk: the executed state; the number of batches from one checkpoint to the next; the kept states, the newest
-- first; the open transfer; and the waiting requests.
pub record DeskData : Type 0 where
  pub me : ℕ
  pub membership : Membership
  pub period : ℕ
  pub executed : ExecutedData
  pub snapshots : List Snapshot
  pub transfer : Option OpenData
  pub waiting : WaitingData

-- both are the same replica's, among the same members and with the same period
pub record IsSameDesk (old new : DeskData) : Type 0 where
  pub me : new.me ≡ old.me
  pub membership : new.membership ≡ old.membership
  pub period : new.period ≡ old.period

-- the state has the membership's number of clients, the replica may seal for them, the period is not 0, and these
-- states are kept
abbrev pub IsDesk : DeskData → Type 0
IsDesk d = (d.executed.clients ≡ d.membership.clients) × (d.me < 10) × (1 ≤ d.period)
    × AreKept d.period d.executed.state.number d.snapshots
