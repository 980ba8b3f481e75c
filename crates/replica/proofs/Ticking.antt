-- A timeout: an open transfer asks again, and the replica moves to the next view.
use Rattle.std.proofs.Common.{◌≡◌, ◌≢◌, ℕ, suc, ◌+◌, ◌^◌, ◌<◌, ◌⊎◌, max, inl, inr, true, false, List, [], ◌∷◌, map, Option, None, Some, Result, Ok, Err, IfOk, option_map}
use Rattle.std.proofs.Common.{refl, sym, ap, ap₂, ◌∙◌, subst, arith}
use Rattle.std.proofs.lemmas.Bool.{leb-false, leb-true, ltb-true}
use Rattle.events.specs.declared.output.Output.{Output}
use Rattle.protocol.specs.System.Configuration.{Configuration}
use Rattle.protocol.specs.System.Trace.{Entry}
use Rattle.protocol.specs.System.Trace.Entry.{Tick}
use Rattle.protocol.specs.Replica.Certificates.{view, target}
use Rattle.protocol.specs.Replica.RightReplica.{Point, kept_states, sought_view}
use Rattle.protocol.specs.Replica.Owed.{HasToMove}
use Rattle.protocol.proofs.Words.Options.{some_injective}
use Rattle.frame_endpoint.specs.Endpoint.{EndpointState}
use Rattle.view_change.specs.Laws.{ChangesAreJudged}
use Rattle.replica_histories.specs.Changes.{FitsChanges, LogPassesEntry}
use Rattle.replica_histories.specs.Desk.{snapshot_of}
use Rattle.replica_histories.specs.Questions.{AnswersInput, OwesViewChange}
use Rattle.replica_histories.specs.Inputs.{again_due}
use Rattle.replica_histories.specs.Views.{entries_of}
use Rattle.replica_histories.specs.Transfers.{FitsStateTransfer}
use Rattle.replica_histories.specs.Events as histories
use Rattle.replica_histories.specs.Events.{Start, after_outputs}
use Rattle.replica_histories.proofs.ChangesKept.{silent_keep}
use Rattle.replica_histories.proofs.ChangesPassing.{changes_stay, pq_sets_are_above, inputs_enter}
use Rattle.replica_histories.proofs.Entering.{ticks_fit}
use Rattle.replica_histories.proofs.Leaves.{all_are_spent}
use Rattle.replica_histories.proofs.Questions.{others_owe_no_part}
use Rattle.replica_histories.proofs.Transfers.{ticks_may_ask}
use Rattle.replica.specs.declared.taking.DueWork.{DueWork}
use Rattle.replica.specs.declared.taking.DueWork.TheVariants as due_work
use Rattle.state_transfer.specs.Transfer.{TransferData}
use Rattle.orderer.specs.State.{OrdererData}
use Rattle.replica.specs.State.{BothPartsData, AreOne, Gives}
use Rattle.desk.specs.State.{OpenData}
use Rattle.desk.specs.DeskOf.{waiting_calls, desk_of}
use Rattle.replica.specs.Beginning.{MayBegin, HasNoView}
use Rattle.replica.specs.Changing.{ChangesView, HasReason, IsDue, IsNotDue, LeavesView}
use Rattle.replica.specs.Desks.{PartsFitEvent}
use Rattle.orderer.specs.ViewChangeOut.{IsUnsendable, target_view, change_for}
use Rattle.orderer.specs.Fitting.{given, FitsEvent, changes_held}
use Rattle.replica.specs.Entering.{event_with, IsLeftToDo, TakesTick}
use Rattle.replica.specs.Fetching.{MulticastsFetch}
use Rattle.replica.specs.BothParts.{BothPartsMatchHistory, me_of}
use Rattle.replica.specs.Going.{NothingIsLeft}
use Rattle.replica.specs.Numbering.{IsAllNumbered}
use Rattle.orderer.specs.Receiving.{JudgesAlike}
use Rattle.orderer.proofs.Voting.{asks_again}
use Rattle.replica.proofs.Beginning.{rests}
use Rattle.replica.proofs.Choosing.{active_begins_none}
use Rattle.orderer.proofs.ChangingViews.{unsaid_spent}
use Rattle.replica.proofs.Parties.{gives_on, one_self, ones_twice}
use Rattle.orderer.proofs.Staying.{numbers_beside, said_on}

module _ (r : BothPartsData) (one : AreOne r.orderer r.desk) where
  abbrev me : ℕ
  me = me_of r

  abbrev o : OrdererData
  o = r.orderer

  abbrev tick : Entry
  tick = Tick me

  -- ---- the event begins

  module _ (c : Configuration) (past : List Entry) (runs : BothPartsMatchHistory c r past) where
    abbrev start : Start
    start = event_with c r past runs tick

    entered : histories.BothFitWithinEvent c me start (desk_of c r.desk) o.log (again_due (desk_of c r.desk).transfer) []
    entered = ticks_fit c me (desk_of c r.desk) o.log past runs.holds

    -- the view-change data stay
    held : FitsChanges c me o.log (changes_held o) (tick ∷ past)
    held = changes_stay c me past tick o.log o.log (changes_held o) o.pq_sets
        (inputs_enter c me (desk_of c r.desk) (desk_of c r.desk) o.log o.log (again_due (desk_of c r.desk).transfer) past tick runs.holds entered)
        (record { view = refl; active = refl }) (silent_keep c me past tick tt)
        (pq_sets_are_above c me o.log past o.pq_sets runs.holds.of_log.fits runs.changes.pq_sets) runs.changes

    begins : FitsEvent c me start o (desk_of c r.desk) r.desk.waiting (again_due (desk_of c r.desk).transfer) []
    begins = record {
      fits = entered;
      numbers = numbers_beside c me r.desk.waiting o (desk_of c r.desk) past tick runs.holds.of_log.fits.faults
          runs.holds.of_log.fits.own (record { here = refl; none = refl; sends = refl }) runs.numbers;
      said = said_on me o.last_checkpoint past tick runs.said;
      changes = held;
      meant = tt;
    }

    open_is : (x : OpenData) → r.desk.transfer ≡ Some x → (desk_of c r.desk).transfer ≡ Some x.transfer
    open_is x there = ap (option_map (λ (y : OpenData). y.transfer)) there

    -- an open transfer asks again
    goes_on : (outs : List Output) → Gives c o → MulticastsFetch r [] outs
        → FitsEvent c me start o (desk_of c r.desk) r.desk.waiting [] outs
    goes_on outs known (inl (none, same)) =
        let closed : (desk_of c r.desk).transfer ≡ None = ap (option_map (λ (y : OpenData). y.transfer)) none in
        subst (λ (os : List Output). FitsEvent c me start o (desk_of c r.desk) r.desk.waiting [] os) (sym same)
        (subst (λ (t : Option TransferData). FitsEvent c me start o (desk_of c r.desk) r.desk.waiting (again_due t) []) closed begins)
    goes_on outs known (inr (x, there, says)) =
        let again = ticks_may_ask c me x.transfer r.desk.executed.state.number r.desk.executed.state past
        (subst (λ (t : Option TransferData). FitsStateTransfer c me t r.desk.executed.state.number past) (open_is x there)
        runs.holds.of_desk.opened) in
        asks_again c start o (desk_of c r.desk) r.desk.waiting [] outs x.transfer known says [] (open_is x there) again.0 again.1
        (subst (λ (t : Option TransferData). FitsEvent c me start o (desk_of c r.desk) r.desk.waiting (again_due t) []) (open_is x there) begins)

    stands : (outs : List Output) → Gives c r.orderer → MulticastsFetch r [] outs
        → PartsFitEvent c start o r.desk [] outs
    stands outs known says = record {
      is = runs.is_desk;
      fits = subst (λ (m : ℕ). FitsEvent c m start o (desk_of c r.desk) r.desk.waiting [] outs) (sym one.0)
          (goes_on outs known says);
    }

    -- ---- whether a view change is due

    abbrev point : Point
    point = runs.holds.of_desk.point

    waits_none : r.desk.waiting.requests ≡ [] → point.waiting ≡ []
    waits_none none = ap (λ (p : Point). p.waiting) runs.holds.of_desk.is ∙ ap (waiting_calls c) none

    sought_is : sought_view c past ≡ target_view o
    sought_is = ap₂ (λ (a b : ℕ). max a b) runs.holds.of_log.fits.view runs.changes.target

    -- why it is, and for which view
    times : (v : ℕ) → HasToMove c me past tick point.waiting v → ((point.waiting ≢ []) ⊎ (view c past < target past)) × (v ≡ suc (sought_view c past))
    times v (inl t) =
        let same : past ≡ t.before = ap (λ (x : Entry × List Entry). x.1) (some_injective (tick, past) (Tick me, t.before) t.tick) in
        subst (λ (b : List Entry). ((point.waiting ≢ []) ⊎ (view c b < target b)) × (v ≡ suc (sought_view c b))) (sym same) (t.waits, t.next)
    times v (inr (taken, joins)) = absurd taken.2

    -- none is where none is due
    no_move : IsNotDue r → (outputs : List Entry) → OwesViewChange c me past tick outputs point
    no_move (inl (none, active)) outputs vc bytes reason may within says = absurd (go (times vc.view reason).0)
      where
        go : (point.waiting ≢ []) ⊎ (view c past < target past) → ⊥
        go (inl some) = some (waits_none none)
        go (inr left) =
            let stays = leb-true (target past) o.log.view (runs.holds.of_log.fits.active ∙ active) in
            let is = runs.holds.of_log.fits.view in
            absurd (omega (arith, left, stays, is))
    no_move (inr most) outputs vc bytes reason may within says =
        let next = (times vc.view reason).1 in
        let is = sought_is in
        let few = ltb-true vc.view (2 ^ 48) may.is_view in
        absurd (omega (arith, most, next, is, few))

    view_due : (v w : ℕ) → IsDue r v → HasToMove c me past tick point.waiting w → w ≡ v
    view_due v w due reason = let next = (times w reason).1 in let is = sought_is in let due_is = due.1 in omega (arith, next, is, due_is)

    -- nor if it can't be sent
    unsaid_move : (v : ℕ) → JudgesAlike o → ChangesAreJudged → Gives c r.orderer → IsDue r v → IsUnsendable o (change_for v (entries_of r.desk.snapshots) o) → (outputs : List Entry)
        → OwesViewChange c me past tick outputs point
    unsaid_move v alike judge known due unsaid outputs vc bytes reason may within says = inr (all_are_spent c me o.log (changes_held o) past spent runs.changes)
      where
        passes : LogPassesEntry c me past tick o.log o.log
        passes = inputs_enter c me (desk_of c r.desk) (desk_of c r.desk) o.log o.log (again_due (desk_of c r.desk).transfer) past tick runs.holds entered

        kept : map snapshot_of (kept_states o.log.low point.snapshots) ≡ r.desk.snapshots
        kept = subst (λ (h : ℕ). map snapshot_of (kept_states h point.snapshots) ≡ r.desk.snapshots) runs.holds.of_log.fits.low runs.holds.of_desk.kept

        spent : o.spent ≡ 64
        spent =
            unsaid_spent c me (desk_of c r.desk) o (tick ∷ past) point passes.new v passes.fits_behind passes.goes (rests c r past runs).0 kept held runs.holds.of_log.fits.own refl judge
            (λ x. sym ((alike c known (runs.is_desk.period_is ∙ sym one.1)).within x))
            unsaid vc bytes (view_due v vc.view due reason) may within says

    -- what a tick asks for
    answers : (outputs : List Entry) (executed : ℕ) → OwesViewChange c me past tick outputs point → AnswersInput c me past tick outputs point executed
    answers outputs executed moves = let parts = others_owe_no_part c me past tick outputs point executed refl in (parts.0, parts.1, parts.2, parts.3, parts.4, moves)

    -- if nothing more is to be done
    leaves : (new : BothPartsData) (outs : List Output) → NothingIsLeft new → IsAllNumbered new
        → AnswersInput c (me_of new) past tick (given (me_of new) outs) point new.desk.executed.state.number
        → IsLeftToDo c start due_work.Nothing new outs
    leaves new outs rest all answered = (rest, all, answered, inr tt)

  -- ---- what a timeout does

  pub ticks_nothing : (new : BothPartsData) (outs : List Output) → new ≡ r → IsNotDue new → MulticastsFetch r [] outs
      → TakesTick r due_work.Nothing new outs
  ticks_nothing new outs same none says =
      subst (λ (d : BothPartsData). TakesTick r due_work.Nothing d outs) (sym same) (record {
        party = one_self r;
        begins = λ c past runs known. (
          stands c past runs outs known says,
          leaves c past runs r outs (rests c r past runs) runs.all
              (answers c past runs (given me outs) r.desk.executed.state.number (no_move c past runs (subst (λ (d : BothPartsData). IsNotDue d) same none) (given me outs))),
          runs.nothing_begins,
        );
      })

  -- the view stays, since no view change can be sent
  pub ticks_in_place : (v : ℕ) (mid new : BothPartsData) (x outs : List Output) → JudgesAlike o → ChangesAreJudged → mid ≡ r
      → MulticastsFetch r [] x → IsDue mid v → ChangesView v mid x new outs false → TakesTick r due_work.Nothing new outs
  ticks_in_place v mid new x outs alike judge same says due stays =
      subst (λ (d : BothPartsData). TakesTick r due_work.Nothing d outs) (sym (stays.0 ∙ same)) (record {
        party = one_self r;
        begins = λ c past runs known. (
          stands c past runs outs known (subst (MulticastsFetch r []) (sym stays.1) says),
          leaves c past runs r outs (rests c r past runs) runs.all
              (answers c past runs (given me outs) r.desk.executed.state.number (unsaid_move c past runs v alike judge known (subst (λ (d : BothPartsData). IsDue d v) same due)
              (subst (λ (d : BothPartsData). IsUnsendable d.orderer (change_for v (entries_of d.desk.snapshots) d.orderer)) same stays.2) (given me outs))),
          runs.nothing_begins,
        );
      })

  -- it has a reason to leave the view, if it is due to
  has_reason : (v : ℕ) → IsDue r v → (c : Configuration) (past : List Entry) (runs : BothPartsMatchHistory c r past) → HasReason c (start c past runs) r v
  has_reason v due c past runs = inl (refl, either due.0, next)
    where
      target_is : target past ≡ o.target
      target_is = runs.changes.target

      view_is : view c past ≡ o.log.view
      view_is = runs.holds.of_log.fits.view

      either : (r.desk.waiting.requests ≢ []) ⊎ (o.log.active ≡ false) → (r.desk.waiting.requests ≢ []) ⊎ (view c past < target past)
      either (inl some) = inl some
      either (inr off) = inr (let left = leb-false (target past) o.log.view (runs.holds.of_log.fits.active ∙ off) in omega (arith, left, view_is))

      next : v ≡ suc (sought_view c past)
      next = due.1 ∙ ap (λ (n : ℕ). n + 1) (ap₂ (λ (a b : ℕ). max a b) (sym view_is) (sym target_is)) ∙ one_more (sought_view c past)
        where
          one_more : (n : ℕ) → n + 1 ≡ suc n
          one_more n = omega arith

  module _ (v : ℕ) (due : IsDue r v) (mid : BothPartsData) (x y : List Output) (says : MulticastsFetch r [] x) (left : LeavesView v r x mid y) where
    -- no message is left to send and no batch to execute, and a replica that isn't active assigns no number
    at_rest : (c : Configuration) (past : List Entry) → BothPartsMatchHistory c r past → NothingIsLeft mid
    at_rest c past runs = let rest = rests c r past runs in (left.voted, left.executed rest.1)

    none_numbered : IsAllNumbered mid
    none_numbered next = absurd (let active = next.3 in let inactive = left.inactive in cc)

    stands_left : (c : Configuration) (past : List Entry) (runs : BothPartsMatchHistory c r past) → Gives c r.orderer
        → PartsFitEvent c (start c past runs) mid.orderer mid.desk [] y
    stands_left c past runs known =
        left.stands c (start c past runs) known (rests c r past runs).0 (has_reason v due c past runs) (stands c past runs x known says)

    -- the replica left it by a view change for the due view
    moved : (c : Configuration) (past : List Entry) (runs : BothPartsMatchHistory c r past) (outputs : List Entry) (executed : ℕ)
        → target (after_outputs (start c past runs) outputs) ≡ v → AnswersInput c me past tick outputs runs.holds.of_desk.point executed
    moved c past runs outputs executed at = answers c past runs outputs executed (λ vc bytes reason may within says_it.
        let same = view_due c past runs v vc.view due reason in inl (omega (arith, same, at)))

    mine : mid.desk.me ≡ me
    mine = left.party.me ∙ one.0

    target_left : (c : Configuration) (past : List Entry) (runs : BothPartsMatchHistory c r past) → Gives c r.orderer → target (after_outputs (start c past runs) (given me y)) ≡ v
    target_left c past runs known =
        subst (λ (m : ℕ). target (after_outputs (start c past runs) (given m y)) ≡ mid.orderer.target) mine (stands_left c past runs known).fits.changes.target ∙ left.target

    -- the replica leaves the view, and no view begins
    ticks_left : HasNoView mid → TakesTick r due_work.Nothing mid y
    ticks_left none = record {
      party = left.party;
      begins = λ c past runs known. (
        stands_left c past runs known,
        leaves c past runs mid y (at_rest c past runs) none_numbered
            (subst (λ (e : EndpointState). AnswersInput c e.me past tick (given e.me y) runs.holds.of_desk.point mid.desk.executed.state.number) (sym left.party.endpoint)
            (moved c past runs (given me y) mid.desk.executed.state.number (target_left c past runs known))),
        none c (gives_on c o mid.orderer left.party.endpoint known) (stands_left c past runs known).is.period_is,
      );
    }

    -- or the next one begins
    begins_then : (what : DueWork) (new : BothPartsData) (outs : List Output) → MayBegin mid y what new outs
        → TakesTick r what new outs
    begins_then due_work.Nothing new outs (same, still, none) =
        subst (λ (d : BothPartsData). TakesTick r due_work.Nothing d outs) (sym same)
        (subst (λ (os : List Output). TakesTick r due_work.Nothing mid os) (sym still) (ticks_left none))
    begins_then due_work.View new outs b = record {
      party = ones_twice r mid new left.party b.party;
      begins = λ c past runs known. (
        b.stands c (start c past runs) (gives_on c o mid.orderer left.party.endpoint known) (at_rest c past runs)
            (stands_left c past runs known),
        (
          b.voted (at_rest c past runs),
          (
            tt,
            λ outputs executed at. subst (λ (e : EndpointState). AnswersInput c e.me past tick outputs runs.holds.of_desk.point executed) (sym (ones_twice r mid new left.party b.party).endpoint)
                (moved c past runs outputs executed (at ∙ b.target ∙ left.target)),
          ),
        ),
        active_begins_none c new.orderer b.active,
      );
    }
    begins_then _ new outs h = absurd h

  pub ticks_on : {E : Type 0} (result : Result DueWork E) (v : ℕ) (fetched mid new : BothPartsData) (x y outs : List Output)
      → fetched ≡ r → MulticastsFetch r [] x → IsDue fetched v → ChangesView v fetched x mid y true
      → IfOk result (λ what. MayBegin mid y what new outs) → IfOk result (λ what. TakesTick r what new outs)
  ticks_on (Err e) v fetched mid new x y outs same says due left h = h
  ticks_on (Ok what) v fetched mid new x y outs same says due left h =
      begins_then v (subst (λ (d : BothPartsData). IsDue d v) same due) mid x y says
      (subst (λ (d : BothPartsData). LeavesView v d x mid y) same left) what new outs h
