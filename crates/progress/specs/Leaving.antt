-- A replica that times out leaves its view, and the primary of the next view begins that over enough view changes
-- (Castro and Liskov, TOCS 2002, 4.5.2).
use Rattle.std.specs.Prelude.{◌≡◌, ◌≢◌, ℕ, suc, ◌+◌, ◌*◌, ◌≤◌, ◌<◌, ◌⊎◌, Bool, true, List, [], ◌∷◌, ◌++◌, Some}
use Rattle.quorum.specs.Quorum.{count_below}
use Rattle.wire_format.specs.Lists.{Each}
use Rattle.wire_format.specs.Messages.{ViewChangeData, NewViewData, CheckpointEntryData as CheckpointEntry, view_change as ViewChange}
use Rattle.wire_format.specs.Words.{said}
use Rattle.protocol.specs.System.Configuration.{Configuration, IsConfiguration, replicas, primary, is_number, is_correct_replica}
use Rattle.protocol.specs.System.Trace.{Entry, history_of, Has, Unforged}
use Rattle.protocol.specs.System.Trace.Entry.{Tick}
use Rattle.protocol.specs.System.Run.{IsRun, OnlyTheseStopped}
use Rattle.protocol.specs.Replica.Selection.{is_within, changes_of, may_select}
use Rattle.protocol.specs.Replica.Certificates.{view, target, Prepared}
use Rattle.protocol.specs.Replica.RightReplica.{Point, HistoryReaches, sought_view, TimesOut, JoinsOthers, IsNewViewChange}
use Rattle.protocol.specs.Replica.Owed.{AreKeysSpent, HasLatestChange, HasBatch}
use Rattle.progress.specs.Delivery.{AllDelivered}

-- ---- leaving a view

-- Whatever a right replica has logged and prepared, some new view change says it, for each view above its own and above
-- those that it left for, if it has a reason.
abbrev pub ViewChangesExist : Type 0
ViewChangesExist =
    (c : Configuration) (me : ℕ) (past : List Entry) (point behind : Point) → HistoryReaches c me past behind → (v : ℕ)
    → view c past < v → target past < v → is_number v ≡ true
    → TimesOut c me past point.waiting v ⊎ JoinsOthers c me past v
    → (vc : ViewChangeData) × (vc.view ≡ v) × IsNewViewChange c me past point vc

-- A new view change is within its bounds, if the replica is a correct one of a run. point: the one before the past, or
-- any with the same snapshots.
abbrev pub ViewChangesAreWithin : Type 0
ViewChangesAreWithin =
    (c : Configuration) → IsConfiguration c → (trace : List Entry) → IsRun c trace → Unforged c trace
    → (r : ℕ) → is_correct_replica c r ≡ true → (later past : List Entry) → history_of r trace ≡ later ++ past
    → (point behind : Point) → HistoryReaches c r past behind → behind.snapshots ≡ point.snapshots
    → (vc : ViewChangeData) → IsNewViewChange c r past point vc → is_within c vc ≡ true

-- A frame has room for each new view change for the view that the replica may send: some bytes say it.
abbrev pub FrameHasRoom : Configuration → ℕ → List Entry → Point → ℕ → Type 0
FrameHasRoom c me past point v =
    (vc : ViewChangeData) → vc.view ≡ v → IsNewViewChange c me past point vc
    → (bytes : List ℕ) × (said bytes ≡ Some (record { sender = me; message = ViewChange vc }))

-- a request waits, or the replica is inactive
abbrev pub WaitsOrIsInactive : Configuration → List Entry → Point → Type 0
WaitsOrIsInactive c past point = (point.waiting ≢ []) ⊎ (view c past < target past)

-- Nobody has stopped. Time goes by at a correct replica that has a waiting request or is inactive. Then it has sent a
-- view change for the view after the one that it was in or left for, or for a later one, if a frame has room for it and
-- its keys are not spent.
abbrev pub WaitingReplicasLeave : Type 0
WaitingReplicasLeave =
    (c : Configuration) → IsConfiguration c → (r : ℕ) (later start : List Entry) → IsRun c (later ++ Tick r ∷ start)
    → OnlyTheseStopped c [] (later ++ Tick r ∷ start) → Unforged c (later ++ Tick r ∷ start)
    → is_correct_replica c r ≡ true → is_number (suc (sought_view c (history_of r start))) ≡ true
    → ((point : Point) → HistoryReaches c r (history_of r start) point
    → WaitsOrIsInactive c (history_of r start) point
    × FrameHasRoom c r (Tick r ∷ history_of r start) point (suc (sought_view c (history_of r start))))
    → (sought_view c (history_of r start) < target (history_of r (later ++ Tick r ∷ start)))
    ⊎ AreKeysSpent (history_of r start)

-- ---- beginning a view

-- Nobody has stopped. A new view meets the rules, over the latest view changes that its primary has, with its own or
-- without, and over batches that it has. The primary left for this view and no later one. Then it began the view, or
-- its keys are spent.
abbrev pub PrimariesBeginViews : Type 0
PrimariesBeginViews =
    (c : Configuration) (trace : List Entry) → OnlyTheseStopped c [] trace
    → (p : ℕ) (new : NewViewData) → is_correct_replica c p ≡ true → primary c new.view ≡ p
    → target (history_of p trace) ≡ new.view → may_select c new ≡ true
    → Each (HasLatestChange c p (history_of p trace)) (changes_of c new)
    → Each (HasBatch c p (history_of p trace)) new.batches
    → (new.view ≤ view c (history_of p trace)) ⊎ AreKeysSpent (history_of p trace)

-- The view change starts at or below the number, lists the checkpoint of this root for it, and has nothing prepared
-- above it.
pub record HasNothingAbove (start : ℕ) (root : List ℕ) (vc : ViewChangeData) : Type 0 where
  pub low : vc.low ≤ start
  pub lists : Has (λ (m : CheckpointEntry). (m.number ≡ start) × (m.digest ≡ root)) vc.checkpoints
  pub none : (i : ℕ) → Has (λ batch_entry. batch_entry.number ≡ i) vc.prepared → i ≤ start

-- the replica's latest view change that p has is for the view, within its bounds, with nothing above the checkpoint
abbrev pub SaysNothingAbove : Configuration → ℕ → List Entry → ℕ → ℕ → List ℕ → ℕ → Type 0
SaysNothingAbove c p past v start root s =
    (vc : ViewChangeData) × HasLatestChange c p past (s, vc) × (vc.view ≡ v) × (is_within c vc ≡ true)
    × HasNothingAbove start root vc

-- So the primary begins the view, with no batch, if it has the latest view changes of 2f + 1 replicas for it, and none
-- of these has anything prepared above a checkpoint that all of them list.
abbrev pub UnpreparedViewsBegin : Type 0
UnpreparedViewsBegin =
    (c : Configuration) (trace : List Entry) → IsRun c trace → OnlyTheseStopped c [] trace
    → (p v start : ℕ) (root : List ℕ) → is_correct_replica c p ≡ true → primary c v ≡ p
    → target (history_of p trace) ≡ v
    → (from : ℕ → Bool) → 2 * c.faults + 1 ≤ count_below from (replicas c)
    → ((s : ℕ) → s < replicas c → from s ≡ true → SaysNothingAbove c p (history_of p trace) v start root s)
    → (v ≤ view c (history_of p trace)) ⊎ AreKeysSpent (history_of p trace)

-- ---- beginning a view over prepared batches

-- The replica's latest view change that p has is for the view and within its bounds. It has this low mark, and lists
-- the checkpoint of this root for it.
abbrev pub SaysFrom : Configuration → ℕ → List Entry → ℕ → ℕ → List ℕ → ℕ → Type 0
SaysFrom c p past v start root s =
    (vc : ViewChangeData) × HasLatestChange c p past (s, vc) × (vc.view ≡ v) × (is_within c vc ≡ true)
    × (vc.low ≡ start) × Has (λ (m : CheckpointEntry). (m.number ≡ start) × (m.digest ≡ root)) vc.checkpoints

-- Nobody has stopped. The primary left for its view and no later one. It has the latest view changes of 2f + 1 correct
-- replicas for that view, with one low mark and one checkpoint there. It also has each batch above the mark that one of
-- these replicas holds prepared in an earlier view. Then it began the view, or its keys are spent.
abbrev pub PreparedViewsBegin : Type 0
PreparedViewsBegin =
    (c : Configuration) → IsConfiguration c → (trace : List Entry) → IsRun c trace → OnlyTheseStopped c [] trace
    → Unforged c trace
    → (p v start : ℕ) (root : List ℕ) → is_correct_replica c p ≡ true → primary c v ≡ p
    → target (history_of p trace) ≡ v
    → (from : ℕ → Bool) → 2 * c.faults + 1 ≤ count_below from (replicas c)
    → ((s : ℕ) → s < replicas c → from s ≡ true
    → (is_correct_replica c s ≡ true) × SaysFrom c p (history_of p trace) v start root s)
    → ((s w i : ℕ) (batch : List ℕ) → is_correct_replica c s ≡ true → from s ≡ true → w < v → start < i
    → Prepared c s (history_of s trace) w i batch → HasBatch c p (history_of p trace) batch)
    → (v ≤ view c (history_of p trace)) ⊎ AreKeysSpent (history_of p trace)

-- ---- entering a view

-- Nobody has stopped. The correct primary of a view above the first begins it in this part of a trace, and all that is
-- sent in the part is delivered. Then each correct replica that has left for no later view is in the view, or in a
-- later one.
abbrev pub NewViewsAreEntered : Type 0
NewViewsAreEntered =
    (c : Configuration) (later start : List Entry) → IsRun c (later ++ start) → AllDelivered c later
    → (v : ℕ) → is_correct_replica c (primary c v) ≡ true → view c (history_of (primary c v) start) < v
    → view c (history_of (primary c v) (later ++ start)) ≡ v
    → (r : ℕ) → is_correct_replica c r ≡ true → target (history_of r (later ++ start)) ≤ v
    → v ≤ view c (history_of r (later ++ start))
