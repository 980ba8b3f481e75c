-- A primary's choice for a new view stays, or gets less, if no view change is taken or sent.
use Rattle.std.proofs.Common.{◌≡◌, ℕ, ◌+◌, ◌*◌, ◌%◌, ◌⊎◌, inl, inr, Bool, true, false, List, [], Vec, Option, None, IfNone, refl, sym, ap, ap₂, ◌∙◌, subst}
use Rattle.std.specs.Prelude.{nat_lt}
use Rattle.std.specs.declared.alloc.Global.{Global}
use Rattle.wire_format.specs.Messages.{ViewChangeData, NewViewData, BatchEntryData as PqEntry, CheckpointEntryData as CheckpointEntry}
use Rattle.authenticator.specs.Membership.{Membership}
use Rattle.ordering.specs.Log as logs
use Rattle.ordering.specs.Log.{LogData}
use Rattle.events.specs.declared.output.Output.{Output}
use Rattle.protocol.specs.System.Configuration.{Configuration}
use Rattle.protocol.specs.System.Trace.{Has}
use Rattle.protocol.proofs.Words.Elements.{has_filter}
use Rattle.view_change.specs.declared.changes.Selection.{Selection}
use Rattle.view_change.specs.declared.changes.Sizes.{Sizes}
use Rattle.pq_sets.specs.PqSetsView.{PqSetsData}
use Rattle.view_change.specs.ReceivedView.{ReceivedState}
use Rattle.view_change.specs.Selecting.{meets}
use Rattle.view_change.specs.Sets.{sized}
use Rattle.replica_histories.specs.Changes.{CutsPqSets}
use Rattle.replica_histories.specs.Primaries.{SelectsNothing}
use Rattle.replica_histories.proofs.Primaries.{fewer_select_nothing}
use Rattle.orderer.specs.State.{OrdererData, IsOrderer}
use Rattle.replica.specs.State.{BothPartsData, AreOne}
use Rattle.replica.specs.declared.taking.DueWork.TheVariants as due_work
use Rattle.replica.specs.Beginning.{CannotBegin, HasNoView, MayBegin}
use Rattle.replica.specs.Checkpoints.{StabilizesMarks}
use Rattle.orderer.specs.EnterView.{HasNoSelection, MaySignView}
use Rattle.orderer.specs.Going.{IsSameLog, IsSameOrderer, KeepsChoice}
use Rattle.replica.specs.Marking.{MovesMarks}
use Rattle.orderer.proofs.ChangingViews.{of_none}
use Rattle.orderer.proofs.Parties.{same_choice}

-- entries above a mark were entries before
pub cut_choice : (o : OrdererData) (log : LogData) (low : ℕ) (pq_sets : PqSetsData) → CutsPqSets low o.pq_sets pq_sets → KeepsChoice o (record o { log = log; pq_sets = pq_sets })
cut_choice o log low pq_sets cuts = record {
  received = refl;
  spent = refl;
  logged = λ pq_entry has. has_filter (λ x. x ≡ pq_entry) (λ x. nat_lt low x.number) o.pq_sets.logged (subst (λ (xs : List PqEntry). Has (λ x. x ≡ pq_entry) xs) cuts.logged has);
}

moved_choice : (low : ℕ) (old new : BothPartsData) → MovesMarks low old new → KeepsChoice old.orderer new.orderer
moved_choice low old new (o, (pq_sets, cuts, o_is), new_is) =
    subst (λ (r : BothPartsData). KeepsChoice old.orderer r.orderer) (sym new_is)
    (subst (λ (x : OrdererData). KeepsChoice old.orderer x) (sym o_is) (cut_choice old.orderer (logs.cut_to old.orderer.log low) (logs.cut_to old.orderer.log low).low pq_sets cuts))

pub settled_choice : (entry : CheckpointEntry) (old new : BothPartsData) (b : Bool) → StabilizesMarks entry old new b → KeepsChoice old.orderer new.orderer
settled_choice entry old new true (stable, moves) = moved_choice entry.number old new moves
settled_choice entry old new false (unstable, same) = subst (λ (r : BothPartsData). KeepsChoice old.orderer r.orderer) (sym same) (same_choice old.orderer)

-- ---- so no view can begin that couldn't before

pub begins_nothing_stays : (c : Configuration) (old new : OrdererData) → IsSameLog old.log new.log → new.target ≡ old.target → (old.log.active ≡ false → KeepsChoice old new) → CannotBegin c old → CannotBegin c new
begins_nothing_stays c old new log target choice cannot off own = go (choice was_off) (cannot was_off was_own)
  where
    was_off : old.log.active ≡ false
    was_off = sym log.active ∙ off

    was_own : logs.primary old.log old.target ≡ old.log.me
    was_own = ap₂ (λ (t n : ℕ). t % (3 * n + 1)) (sym target) (sym log.faults) ∙ own ∙ log.me

    go : KeepsChoice old new → SelectsNothing c old.target old.received.held old.pq_sets ⊎ (old.spent ≡ 64) → SelectsNothing c new.target new.received.held new.pq_sets ⊎ (new.spent ≡ 64)
    go k (inl nothing) =
        inl (subst (λ (t : ℕ). SelectsNothing c t new.received.held new.pq_sets) (sym target)
        (subst (λ (r : ReceivedState). SelectsNothing c old.target r.held new.pq_sets) (sym k.received) (fewer_select_nothing c old.target old.received.held old.pq_sets new.pq_sets k.logged nothing)))
    go k (inr spent) = inr (k.spent ∙ spent)

pub begins_nothing_same : (c : Configuration) (old new : OrdererData) → IsSameOrderer old new → CannotBegin c old → CannotBegin c new
begins_nothing_same c old new same = begins_nothing_stays c old new same.log same.target same.choice

-- an active replica begins no view
pub active_begins_none : (c : Configuration) (o : OrdererData) → o.log.active ≡ true → CannotBegin c o
active_begins_none c o active off own = absurd (let bad : true ≡ false = sym active ∙ off in cc)

-- ---- no selection exists, or no key is left

of_sizes : ℕ → ℕ → Configuration
of_sizes faults period = record { faults = faults; clients = 1; seed = []; publics = []; period = period; faulty_replicas = []; faulty_clients = [] }

-- the rules depend on the sizes alone
meets_sized : (c : Configuration) (s : Sizes) (view start : ℕ) (root : List ℕ) (set : List (ℕ × ViewChangeData)) (batches : List (List ℕ)) → c.faults ≡ s.faults → c.period ≡ s.period
    → meets c view set start root batches ≡ meets (sized s) view set start root batches
unfolding of_sizes
meets_sized c s view start root set batches faults period =
    let whole : meets c view set start root batches ≡ meets (of_sizes c.faults c.period) view set start root batches = refl in
    whole ∙ ap₂ (λ (n p : ℕ). meets (of_sizes n p) view set start root batches) faults period

pub none_selected : (r : BothPartsData) → AreOne r.orderer r.desk → IsOrderer r.orderer → HasNoSelection r.orderer → HasNoView r
none_selected r one own none c known period off mine =
    inl (λ part start root batches is order each.
    meets_sized c r.orderer.received.sizes r.orderer.target start root part batches faults (period ∙ sym one.1) ∙ none off mine part start root batches is order each)
  where
    faults : c.faults ≡ r.orderer.received.sizes.faults
    faults = ap (λ (m : Membership). m.faults) known ∙ sym own.3

-- so no view begins, and nothing changes
pub unselected : (r : BothPartsData) (outs : List Output) (o : Option Selection) → AreOne r.orderer r.desk → IsOrderer r.orderer → o ≡ None → IfNone o (HasNoSelection r.orderer) → MayBegin r outs due_work.Nothing r outs
unselected r outs o one own none h = (refl, refl, none_selected r one own (of_none (HasNoSelection r.orderer) o none h))

pub unsigned : (r : BothPartsData) (later : OrdererData) (new : NewViewData) (o : Option (Vec ℕ Global)) (outs : List Output) → o ≡ None → MaySignView new r.orderer later o
    → MayBegin r outs due_work.Nothing (record r { orderer = later }) outs
unsigned r later new o outs none may =
    let h = subst (MaySignView new r.orderer later) none may in
    (ap (λ (x : OrdererData). let y : BothPartsData = record r { orderer = x } in y) h.0, refl, λ c known period off mine. inr h.1)
