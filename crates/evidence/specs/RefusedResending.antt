-- A waiting request comes again, and a correct replica does not send again what it sent.
use Rattle.std.specs.Prelude.{◌≡◌, ℕ, ◌<◌, true, List, Some}
use Rattle.terms.specs.Parties.{client_party}
use Rattle.terms.specs.declared.order.Mode.TheVariants as modes
use Rattle.wire_format.specs.Messages.{ViewChangeData, NewViewData, CheckpointEntryData as CheckpointEntry, request as Request, pre_prepare as PrePrepare, prepare as Prepare, commit as Commit, checkpoint as Checkpoint, view_change as ViewChange, new_view as NewView}
use Rattle.signing.specs.AuthenticBody.{authentic}
use Rattle.protocol.specs.System.Configuration.{Configuration, primary, members}
use Rattle.protocol.specs.System.Trace.{Entry, Has}
use Rattle.protocol.specs.System.Trace.Entry.{Got}
use Rattle.protocol.specs.Replica.Certificates.{view, target, is_active_in, low, is_in_marks, logged, prepare_of, commit_of}
use Rattle.protocol.specs.Replica.State.{Call}
use Rattle.protocol.specs.Replica.Owed.{SendsMessage, IsAssignedBelow, latest_checkpoint}
use Rattle.evidence.specs.Refused.{AtEachPoint, ReplicaGoesOn}

-- The bytes are a request that waits already, and a correct replica that goes on gives these outputs to them.
pub record GetsAgain (c : Configuration) (me : ℕ) (bytes : List ℕ) (outputs past : List Entry) : Type 0 where
  pub call : Call
  pub receives : authentic (members c me) me bytes
      ≡ Some (record { sender = client_party call.client; message = Request call.timestamp modes.Ordered call.op })
  pub waits : AtEachPoint c me past (λ point. Has (λ x. x ≡ call) point.waiting)
  pub goes : ReplicaGoesOn c me outputs (Got me bytes) past

-- The replica is active in the view, and the number is in the marks, above the executed one.
pub record IsRunning (c : Configuration) (me : ℕ) (past : List Entry) (v i : ℕ) : Type 0 where
  pub active : is_active_in c past v ≡ true
  pub marks : is_in_marks c (low c me past) i ≡ true
  pub above : AtEachPoint c me past (λ point. point.state.number < i)

-- the replica's own prepare or commit is not sent again, or the primary's own batch that no new view has
abbrev pub SendsPreparesAgain : Type 0
SendsPreparesAgain =
    (c : Configuration) (me v i : ℕ) (digest bytes : List ℕ) (outputs past : List Entry)
    → IsRunning c me past v i → prepare_of c me past v i me ≡ Some digest → GetsAgain c me bytes outputs past
    → SendsMessage me (Prepare v i digest) outputs

abbrev pub SendsCommitsAgain : Type 0
SendsCommitsAgain =
    (c : Configuration) (me v i : ℕ) (digest bytes : List ℕ) (outputs past : List Entry)
    → IsRunning c me past v i → commit_of c me past v i me ≡ Some digest → GetsAgain c me bytes outputs past
    → SendsMessage me (Commit v i digest) outputs

abbrev pub SendsBatchesAgain : Type 0
SendsBatchesAgain =
    (c : Configuration) (me v i : ℕ) (batch bytes : List ℕ) (outputs past : List Entry)
    → IsRunning c me past v i → primary c v ≡ me → IsAssignedBelow c v i past → logged c me past v i ≡ Some batch
    → GetsAgain c me bytes outputs past → SendsMessage me (PrePrepare v i batch) outputs

-- the new view by which the primary began its view is not sent again, or the latest checkpoint
abbrev pub SendsNewViewsAgain : Type 0
SendsNewViewsAgain =
    (c : Configuration) (me v : ℕ) (bytes : List ℕ) (outputs past : List Entry)
    → is_active_in c past v ≡ true → primary c v ≡ me → 0 < v → GetsAgain c me bytes outputs past
    → (new : NewViewData) × (new.view ≡ v) × SendsMessage me (NewView new) outputs

abbrev pub SendsCheckpointsAgain : Type 0
SendsCheckpointsAgain =
    (c : Configuration) (me v : ℕ) (m : CheckpointEntry) (bytes : List ℕ) (outputs past : List Entry)
    → is_active_in c past v ≡ true → latest_checkpoint c me past ≡ Some m → GetsAgain c me bytes outputs past
    → SendsMessage me (Checkpoint m.number m.digest) outputs

-- an inactive replica does not send its view change again
abbrev pub SendsChangesAgain : Type 0
SendsChangesAgain =
    (c : Configuration) (me : ℕ) (bytes : List ℕ) (outputs past : List Entry)
    → view c past < target past → GetsAgain c me bytes outputs past
    → (vc : ViewChangeData) × (vc.view ≡ target past) × SendsMessage me (ViewChange vc) outputs
