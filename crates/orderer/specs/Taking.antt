-- What an orderer takes of what it receives.
use Rattle.std.specs.Prelude.{◌≡◌, ◌⊎◌, ℕ, ◌*◌, Bool, true, false, None, is_none, replicate}
use Rattle.terms.specs.declared.parties.ReplicaId.{ReplicaId}
use Rattle.wire_format.specs.declared.messages.PrePrepare.{PrePrepare}
use Rattle.wire_format.specs.declared.messages.Prepare.{Prepare}
use Rattle.wire_format.specs.declared.messages.Commit.{Commit}
use Rattle.wire_format.specs.Words.{requests_of}
use Rattle.ordering.specs.Log.{new_log, with_prepare, with_commit}
use Rattle.ordering.specs.Messages.{preprepare_fault_of, prepare_fault_of, commit_fault_of}
use Rattle.frame_endpoint.specs.Endpoint.{are_authentic}
use Rattle.authenticator.specs.Membership.{Membership, replicas}
use Rattle.pq_sets.specs.PqSetsView.{empty_pq_sets}
use Rattle.orderer.specs.State.{OrdererData}
use Rattle.orderer.specs.PqSets.{LogsBatch}

-- an orderer before its first message
abbrev pub IsNewOrderer : Membership → ℕ → ℕ → OrdererData → Type 0
IsNewOrderer m period me o = (o ≡ record {
  endpoint = record { membership = m; me = me; used = 0 };
  log = new_log me m.faults (2 * period);
  used = 0;
  assigned = 0;
  target = 0;
  new_view = None;
  pq_sets = empty_pq_sets;
  received = record {
    publics = m.publics;
    sizes = o.received.sizes;
    held = replicate (replicas m) None;
  };
  last_checkpoint = None;
  spent = 0;
}) × (o.received.sizes.faults ≡ m.faults) × (o.received.sizes.period ≡ period)

-- The orderer takes a batch if the log has no fault for it and its requests are authentic. Else nothing changes.
abbrev pub TakesBatch : OrdererData → ReplicaId → PrePrepare → OrdererData → Bool → Type 0
TakesBatch old sender p new true =
    (preprepare_fault_of old.log sender p ≡ None)
    × (are_authentic old.endpoint.membership old.endpoint.me (requests_of p.batch.text.items) ≡ true)
    × LogsBatch p.number.0 p.batch.text.items old new
TakesBatch old sender p new false =
    ((is_none (preprepare_fault_of old.log sender p) ≡ false)
    ⊎ (are_authentic old.endpoint.membership old.endpoint.me (requests_of p.batch.text.items) ≡ false))
    × (new ≡ old)

-- The same of votes, if the log has no fault for them.
abbrev pub TakesPrepare : OrdererData → ReplicaId → Prepare → OrdererData → Bool → Type 0
TakesPrepare old sender p new true =
    (prepare_fault_of old.log sender p ≡ None)
    × (new ≡ record old { log = with_prepare old.log p.number.0 (record { sender = sender; digest = p.digest }) })
TakesPrepare old sender p new false = (is_none (prepare_fault_of old.log sender p) ≡ false) × (new ≡ old)

abbrev pub TakesCommit : OrdererData → ReplicaId → Commit → OrdererData → Bool → Type 0
TakesCommit old sender m new true =
    (commit_fault_of old.log sender m ≡ None)
    × (new ≡ record old { log = with_commit old.log m.number.0 (record { sender = sender; digest = m.digest }) })
TakesCommit old sender m new false = (is_none (commit_fault_of old.log sender m) ≡ false) × (new ≡ old)
