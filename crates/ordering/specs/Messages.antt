-- Why a log drops the program's messages, and what taking them does.
use Rattle.std.specs.Prelude.{ℕ, List, Option, Result}
use Rattle.terms.specs.declared.order.Number.{Number}
use Rattle.terms.specs.declared.order.View.{View}
use Rattle.terms.specs.declared.parties.ReplicaId.{ReplicaId}
use Rattle.wire_format.specs.declared.messages.PrePrepare.{PrePrepare}
use Rattle.wire_format.specs.declared.messages.Prepare.{Prepare}
use Rattle.wire_format.specs.declared.messages.Commit.{Commit}
use Rattle.wire_format.specs.declared.messages.Checkpoint.{Checkpoint}
use Rattle.ordering.specs.declared.dropped.Dropped.{Dropped}
use Rattle.ordering.specs.Log.{LogData, with_batch, with_prepare, with_commit, with_checkpoint_of}
use Rattle.ordering.specs.Taking.{TakesOrDrops, preprepare_fault, prepare_fault, commit_fault, checkpoint_fault}

abbrev pub preprepare_fault_of : LogData → ReplicaId → PrePrepare → Option Dropped
preprepare_fault_of m sender p = preprepare_fault m sender.0 p.view.0 p.number.0 p.batch.text.items

abbrev pub prepare_fault_of : LogData → ReplicaId → Prepare → Option Dropped
prepare_fault_of m sender p = prepare_fault m sender.0 p.view.0 p.number.0 p.digest

abbrev pub commit_fault_of : LogData → ReplicaId → Commit → Option Dropped
commit_fault_of m sender c = commit_fault m sender.0 c.view.0 c.number.0 c.digest

abbrev pub checkpoint_fault_of : LogData → ReplicaId → Checkpoint → Option Dropped
checkpoint_fault_of m sender c = checkpoint_fault m sender.0 c.number.0 c.root

-- The log takes a message, and counts it, or drops it for its first fault.
abbrev pub LogTakesBatch : LogData → LogData → ReplicaId → View → Number → List ℕ
    → Result Unit Dropped → Type 0
LogTakesBatch old new sender view number text result =
    TakesOrDrops result (preprepare_fault old sender.0 view.0 number.0 text)
    old new (with_batch old number.0 text)

abbrev pub LogTakesPrepare : LogData → LogData → ReplicaId → Prepare → Result Unit Dropped → Type 0
LogTakesPrepare old new sender p result =
    TakesOrDrops result (prepare_fault_of old sender p)
    old new (with_prepare old p.number.0 (record { sender = sender; digest = p.digest }))

abbrev pub LogTakesCommit : LogData → LogData → ReplicaId → Commit → Result Unit Dropped → Type 0
LogTakesCommit old new sender c result =
    TakesOrDrops result (commit_fault_of old sender c)
    old new (with_commit old c.number.0 (record { sender = sender; digest = c.digest }))

abbrev pub LogTakesCheckpoint : LogData → LogData → ReplicaId → Checkpoint
    → Result Unit Dropped → Type 0
LogTakesCheckpoint old new sender c result =
    TakesOrDrops result (checkpoint_fault_of old sender c)
    old new (with_checkpoint_of old sender.0 (record { number = c.number.0; digest = c.root }))
