-- When the primary of the view that a replica moves to can't begin it, by its view-change data (Castro and Liskov, TOCS
-- 2002, on view changes).
use Rattle.std.specs.Prelude.{◌≡◌, ℕ, ◌⊎◌, true, false, List, map, Option}
use Rattle.sha2.specs.Sha256.{sha256}
use Rattle.wire_format.specs.Lists.{Each}
use Rattle.wire_format.specs.Messages.{ViewChangeData, BatchEntryData as PqEntry}
use Rattle.ordering.specs.Log as logs
use Rattle.ordering.specs.Log.{LogData}
use Rattle.protocol.specs.System.Configuration.{Configuration}
use Rattle.protocol.specs.System.Trace.{Entry, Has}
use Rattle.protocol.specs.Replica.Selection.{ascending, null_batch}
use Rattle.protocol.specs.Replica.RightReplica.{Point, HistoryReaches}
use Rattle.pq_sets.specs.PqSetsView.{PqSetsData, digests_of}
use Rattle.view_change.specs.ReceivedData.{HeldData, pairs_for}
use Rattle.view_change.specs.Selecting.{meets, IsPartOfSet, NothingSelects}
use Rattle.replica_histories.specs.Logs.{FitsLog}
use Rattle.replica_histories.specs.Events.{LeavesNoView}
use Rattle.replica_histories.specs.Changes.{Changes, FitsChanges}

-- the null batch, or one with a digest in Q
abbrev pub IsNullOrInQ : PqSetsData → List ℕ → Type 0
IsNullOrInQ pq_sets batch = (batch ≡ null_batch) ⊎ Has (λ pq_entry. pq_entry.digest ≡ sha256 batch) pq_sets.logged

-- Over no part of the stored view changes for the view, a start and such batches satisfy the rules.
abbrev pub SelectsNothing : Configuration → ℕ → List (Option HeldData) → PqSetsData → Type 0
SelectsNothing c view held pq_sets =
    (part : List (ℕ × ViewChangeData)) (start : ℕ) (root : List ℕ) (batches : List (List ℕ))
    → IsPartOfSet part (pairs_for view held) → ascending part ≡ true → Each (IsNullOrInQ pq_sets) batches
    → meets c view part start root batches ≡ false

-- ---- laws

-- The same, if nothing is selected with one batch of each digest in Q.
abbrev pub QSelectsNothing : Type 0
QSelectsNothing =
    (c : Configuration) (view : ℕ) (held : List (Option HeldData)) (pq_sets : PqSetsData)
    → map sha256 pq_sets.texts ≡ digests_of pq_sets.logged
    → NothingSelects c view (pairs_for view held) pq_sets.texts → SelectsNothing c view held pq_sets

-- A smaller Q allows no more.
abbrev pub FewerSelectNothing : Type 0
FewerSelectNothing =
    (c : Configuration) (view : ℕ) (held : List (Option HeldData)) (old new : PqSetsData)
    → ((pq_entry : PqEntry) → Has (λ x. x ≡ pq_entry) new.logged → Has (λ x. x ≡ pq_entry) old.logged)
    → SelectsNothing c view held old → SelectsNothing c view held new

-- If nothing is selected, or the keys are spent, the replica has no new view left to send as the primary of the view
-- that it moves to.
abbrev pub NoViewsAreLeft : Type 0
NoViewsAreLeft =
    (c : Configuration) (me : ℕ) (log : LogData) (x : Changes) (history : List Entry) (point : Point)
    → HistoryReaches c me history point → FitsLog c me log history → FitsChanges c me log x history
    → (log.active ≡ false → logs.primary log x.target ≡ log.me
    → SelectsNothing c x.target x.held x.pq_sets ⊎ (x.spent ≡ 64))
    → LeavesNoView c me history
