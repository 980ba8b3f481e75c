-- An orderer's data, as plain values.
use Rattle.std.specs.Prelude.{◌≡◌, ℕ, ◌<◌, List, Option, Some}
use Rattle.wire_format.specs.Lists.{Each}
use Rattle.wire_format.specs.Messages.{CheckpointEntryData as CheckpointEntry}
use Rattle.wire_format.specs.Spelling.{IsBatch}
use Rattle.frame_endpoint.specs.Endpoint.{EndpointState}
use Rattle.ordering.specs.Log.{LogData, logged_batch}
use Rattle.pq_sets.specs.PqSetsView.{PqSetsData}
use Rattle.view_change.specs.ReceivedView.{ReceivedState}

-- The orderer. endpoint: without the number of spent keys. used: the greatest number assigned in the view, by the new
-- view or by the replica as its primary. assigned: the greatest number that the new view assigned. target: the greatest
-- view that the replica sent a view change for. new_view: the frame of the new view, if the replica made it. Then the
-- sets P and Q, the stored view changes, the last sent checkpoint, and the number of leaves that have signed.
pub record OrdererData : Type 0 where
  pub endpoint : EndpointState
  pub log : LogData
  pub used : ℕ
  pub assigned : ℕ
  pub target : ℕ
  pub new_view : Option (List ℕ)
  pub pq_sets : PqSetsData
  pub received : ReceivedState
  pub last_checkpoint : Option CheckpointEntry
  pub spent : ℕ

-- Each text of Q is a batch, and each that is logged above the new view's last number has a request.
pub record HoldsBatches (assigned : ℕ) (log : LogData) (texts : List (List ℕ)) : Type 0 where
  pub logged : (i : ℕ) (text : List ℕ) → assigned < i → logged_batch log i ≡ Some text → IsBatch 1 text
  pub in_q : Each (IsBatch 0) texts

-- The log is the replica's own, with the membership's number of faults. View changes are judged by the members' public
-- keys and by the same number of faults. What it holds as batches are batches.
abbrev pub IsOrderer : OrdererData → Type 0
IsOrderer o = (o.log.me ≡ o.endpoint.me) × (o.log.faults ≡ o.endpoint.membership.faults)
    × (o.received.publics ≡ o.endpoint.membership.publics) × (o.received.sizes.faults ≡ o.endpoint.membership.faults)
    × HoldsBatches o.assigned o.log o.pq_sets.texts
