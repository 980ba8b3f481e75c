-- What a replica keeps for later view changes, and signed frames (Castro and Liskov, TOCS 2002, on the sets P and Q of
-- view changes).
use Rattle.std.specs.Prelude.{◌≡◌, ℕ, ◌+◌, ◌⊎◌, List, [], ◌∷◌, ◌++◌, Option, Some, None, Vec}
use Rattle.std.specs.declared.alloc.Global.{Global}
use Rattle.wire_format.specs.Messages.{MessageData as Message}
use Rattle.events.specs.declared.output.Output.{Output}
use Rattle.frame_endpoint.specs.Endpoint.{IsOwnSigned, SendsToOthers, SignedExceeds, says}
use Rattle.protocol.specs.System.Frames.{leaf_of}
use Rattle.ordering.specs.Log as logs
use Rattle.pq_sets.specs.PqSetsView.{PqSetsData, pq_entry_of}
use Rattle.pq_sets.specs.Recording.{with_prepared}
use Rattle.replica_histories.specs.Changes.{AddsLogged, CutsPqSets}
use Rattle.orderer.specs.State.{OrdererData}

-- a batch is logged in the view, and enters Q
abbrev pub LogsBatch : ℕ → List ℕ → OrdererData → OrdererData → Type 0
LogsBatch number text old new = (pq_sets : PqSetsData) × AddsLogged number old.log.view text old.pq_sets pq_sets
    × (new ≡ record old { log = logs.with_batch old.log number text; pq_sets = pq_sets })

-- a batch that is prepared in the view enters P
abbrev pub noting_prepared : ℕ → List ℕ → OrdererData → OrdererData
noting_prepared number text o = record o {
  pq_sets = record o.pq_sets { prepared = with_prepared (pq_entry_of number o.log.view text) o.pq_sets.prepared };
}

-- so does the logged batch of the number, if there is one
abbrev pub NotesPrepared : ℕ → OrdererData → OrdererData → Type 0
NotesPrepared number old new = elim (logs.logged_batch old.log number) [
  | Some text ↦ new ≡ noting_prepared number text old
  | None ↦ new ≡ old
]

-- The orderer signs the message in this frame by the next leaf, and spends it. Or it can't, and nothing changes: each
-- leaf is spent, or the frame would be too long.
abbrev pub MaySign : Message → OrdererData → OrdererData → Option (Vec ℕ Global) → Type 0
MaySign message old new None =
    (new ≡ old) × ((old.spent ≡ 64) ⊎ SignedExceeds (says old.endpoint.me message))
MaySign message old new (Some frame) =
    IsOwnSigned old.endpoint message frame.items × (leaf_of frame.items ≡ Some old.spent)
    × (new ≡ record old { spent = old.spent + 1 })

-- the bytes go to the other replicas, after the earlier outputs
pub record MulticastsFrame (o : OrdererData) (bytes : List ℕ) (before after : List Output) : Type 0 where
  pub output : Output
  pub sends : SendsToOthers o.endpoint bytes output
  pub given_is : after ≡ before ++ output ∷ []

-- the log is cut, and the entries of P and Q up to its low mark are dropped
abbrev pub CutsLog : ℕ → OrdererData → OrdererData → Type 0
CutsLog low old new = (pq_sets : PqSetsData) × CutsPqSets (logs.cut_to old.log low).low old.pq_sets pq_sets
    × (new ≡ record old { log = logs.cut_to old.log low; pq_sets = pq_sets })
