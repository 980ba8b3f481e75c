-- How an orderer enters a new view, and makes its own (Castro and Liskov, TOCS 2002, on new views).
use Rattle.std.specs.Prelude.{◌≡◌, ◌⊎◌, true, false, ℕ, ◌+◌, ◌≤◌, ◌<◌, List, Option, Some, None, Vec}
use Rattle.std.specs.declared.alloc.Global.{Global}
use Rattle.wire_format.specs.Messages.{NewViewData, new_view as NewView}
use Rattle.events.specs.declared.output.Output.{Output}
use Rattle.frame_endpoint.specs.Endpoint.{IsOwnSigned}
use Rattle.ordering.specs.Log as logs
use Rattle.pq_sets.specs.PqSetsView.{PqSetsData}
use Rattle.view_change.specs.ReceivedData.{pairs_for, frames_for}
use Rattle.view_change.specs.ReceivedView.{judging_configuration}
use Rattle.view_change.specs.Selecting.{meets, AreFrom}
use Rattle.view_change.specs.Sets.{sized}
use Rattle.protocol.specs.System.Frames.{leaf_of}
use Rattle.protocol.specs.Replica.Selection.{may_select}
use Rattle.replica_histories.specs.Changes.{AddsBatches}
use Rattle.replica_histories.specs.Primaries.{SelectsNothing}
use Rattle.replica_histories.specs.Views.{with_batches}
use Rattle.orderer.specs.State.{OrdererData}
use Rattle.orderer.specs.Going.{KeepsFitting, NoVoteIsDue, IsSameOrderer}

-- The orderer is in the view, in which the numbers up to the last have their batches.
abbrev pub entering : ℕ → ℕ → Option (List ℕ) → OrdererData → OrdererData
entering view last own o = record o {
  log = logs.entered o.log view;
  used = last;
  assigned = last;
  new_view = own;
}

-- The batches from a number on are logged and enter Q, as far as they are within the marks.
abbrev pub LogsBatches : ℕ → List (List ℕ) → OrdererData → OrdererData → Type 0
LogsBatches first texts old new = (pq_sets : PqSetsData)
    × AddsBatches old.log old.log.view first texts old.pq_sets pq_sets
    × (new ≡ record old { log = with_batches old.log first texts; pq_sets = pq_sets })

-- The orderer goes on. The log asks for no votes for the numbers after the start, up to the last, and for no more than
-- before for others.
pub record MulticastsVotesOf (start last : ℕ) (old : OrdererData) (before : List Output) (new : OrdererData)
    (after : List Output) : Type 0 where
  pub goes : KeepsFitting old before new after
  pub same : IsSameOrderer old new
  pub low : new.log.low ≡ old.log.low
  pub used : new.used ≡ old.used
  pub voted : (i : ℕ) → ((start < i) × (i ≤ last)) ⊎ NoVoteIsDue old.log i → NoVoteIsDue new.log i

-- ---- own new views

-- The replica moved to a view of which it is the primary. Over its stored view changes for the view, the start and
-- these batches, which are in its Q, satisfy the new-view rules.
pub record IsSelection (o : OrdererData) (start : ℕ) (root : List ℕ) (texts : List (List ℕ)) : Type 0 where
  pub inactive : o.log.active ≡ false
  pub primary : logs.primary o.log o.target ≡ o.log.me
  pub meets : meets (sized o.received.sizes) o.target (pairs_for o.target o.received.held) start root texts ≡ true
  pub from : AreFrom o.pq_sets.texts texts

-- If it moved to such a view, no selection exists over the stored view changes.
abbrev pub HasNoSelection : OrdererData → Type 0
HasNoSelection o = o.log.active ≡ false → logs.primary o.log o.target ≡ o.log.me
    → SelectsNothing (sized o.received.sizes) o.target o.received.held o.pq_sets

-- the new view with that start and these batches
abbrev pub new_view_of : OrdererData → ℕ → List ℕ → List (List ℕ) → NewViewData
new_view_of o start root texts = record {
  view = o.target;
  changes = frames_for o.target o.received.held;
  start = start;
  root = root;
  batches = texts;
}

-- The replica signs it in this frame by the next leaf, and it satisfies the rules.
pub record SignsView (o : OrdererData) (new : NewViewData) (frame : List ℕ) : Type 0 where
  pub signed : IsOwnSigned o.endpoint (NewView new) frame
  pub by_leaf : leaf_of frame ≡ Some o.spent
  pub right : may_select (judging_configuration o.received) new ≡ true

-- The replica does so, and spends the leaf; or all are spent, and nothing changes.
abbrev pub MaySignView : NewViewData → OrdererData → OrdererData → Option (Vec ℕ Global) → Type 0
MaySignView new old later None = (later ≡ old) × (old.spent ≡ 64)
MaySignView new old later (Some frame) = SignsView old new frame.items × (later ≡ record old { spent = old.spent + 1 })
