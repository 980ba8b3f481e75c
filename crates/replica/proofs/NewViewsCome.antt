-- A new view arrives. The replica refuses it, and nothing changes, or enters its view.
use Rattle.std.proofs.Common.{◌≡◌, ◌≢◌, ℕ, ◌≤◌, ◌<◌, ◌^◌, inl, Bool, true, false, ◌&&◌, ◌==◌, List, [], length, Option, Some, None, refl, sym, ap, ◌∙◌, subst, arith}
use Rattle.std.specs.Prelude.{option_and_then}
use Rattle.std.specs.Bool.{then_some}
use Rattle.std.specs.Option.{option_map_or}
use Rattle.std.proofs.lemmas.Bool.{and_parts}
use Rattle.terms.specs.declared.parties.ReplicaId.{ReplicaId}
use Rattle.wire_format.specs.Messages.{BodyData as Body, NewViewData, new_view as NewView}
use Rattle.signing.specs.AuthenticBody.{authentic}
use Rattle.events.specs.declared.output.Output.{Output}
use Rattle.authenticator.specs.Membership.{Membership}
use Rattle.frame_endpoint.specs.Endpoint.{EndpointState}
use Rattle.view_change.specs.Checking.{new_view_refusal}
use Rattle.view_change.specs.Laws.{AreAlikeConfigurations, NewViewsAreJudged, SizesDecide}
use Rattle.view_change.specs.ReceivedView.{ReceivedState, judging_configuration}
use Rattle.protocol.specs.System.Configuration.{Configuration, members, primary}
use Rattle.protocol.specs.System.Trace.{Entry}
use Rattle.protocol.specs.System.Trace.Entry.{Got}
use Rattle.protocol.specs.Replica.Selection.{may_select}
use Rattle.protocol.specs.Replica.Certificates.{is_later, new_view_from, taken, target, view}
use Rattle.protocol.specs.Replica.RightReplica.{with_waiting}
use Rattle.protocol.specs.Replica.State.{call_in}
use Rattle.protocol.proofs.Agreement.Marks.{few_batches}
use Rattle.replica_histories.specs.Questions.{AnswersInput, has_question}
use Rattle.replica_histories.specs.Changes.{IsNoChange, LogPassesEntry}
use Rattle.replica_histories.specs.Desk.{desk_from}
use Rattle.replica_histories.specs.Events as histories
use Rattle.replica_histories.specs.Events.{IsTaken}
use Rattle.replica_histories.specs.Inputs.{IsBesideLog, replies_again}
use Rattle.replica_histories.specs.Views.{entered_log, start_due}
use Rattle.replica_histories.proofs.Beginning.{start_small, new_small, still_brings}
use Rattle.replica_histories.proofs.ChangesKept.{got_keep, others_bring_none}
use Rattle.replica_histories.proofs.ChangesPassing.{inputs_enter}
use Rattle.replica_histories.proofs.Counting.{others_drop}
use Rattle.replica_histories.proofs.Entering.{inputs_fit}
use Rattle.replica_histories.proofs.NewViews.{new_views_enter}
use Rattle.replica_histories.proofs.Questions.{others_owe_none}
use Rattle.replica_histories.proofs.ChangesMade.{not_mine}
use Rattle.replica.specs.declared.taking.DueWork.TheVariants as due_work
use Rattle.orderer.specs.State.{IsOrderer}
use Rattle.replica.specs.State.{BothPartsData, AreOne, Gives, heard}
use Rattle.orderer.specs.Fitting.{FitsEvent}
use Rattle.replica.specs.Desks.{PartsFitEvent}
use Rattle.replica.specs.Entering.{event_of, IsTakenAnswered, TakesBytes, TakesMessage}
use Rattle.replica.specs.BothParts.{BothPartsMatchHistory}
use Rattle.replica.proofs.Beginning.{changes_kept, heard_by, rests}
use Rattle.replica.specs.EnteringViews.{EntersView}
use Rattle.orderer.proofs.Parties.{same_log}
use Rattle.replica.proofs.Parties.{one_self}
use Rattle.orderer.proofs.Staying.{numbers_beside, said_on}
use Rattle.replica.proofs.Choosing.{active_begins_none}
use Rattle.replica.proofs.ViewsEntered.{Entered, entered, entered_active, entered_party, entered_stands, entered_votes, start_in}
use Rattle.desk.specs.DeskOf.{waiting_calls, desk_of}

-- ---- which new views the replica takes

-- a new view that is not refused starts at a number, with few batches
pub right_views_are_small : NewViewsAreJudged → (r : ReceivedState) (v t sender : ℕ) (new : NewViewData) → new_view_refusal (judging_configuration r) v t sender new ≡ None → (new.start < 2 ^ 48) × (length new.batches ≤ 32)
right_views_are_small judge r v t sender new h =
    let selected = (and_parts (sender == primary (judging_configuration r) new.view) (may_select (judging_configuration r) new) ((judge (judging_configuration r) v t sender new).0 h).0).1 in
    let few = (few_batches (judging_configuration r) new selected).0 in
    let short = r.sizes.short in
    (start_small (judging_configuration r) new selected, omega (arith, few, short))

-- the replica takes exactly the received new views that it does not refuse
module _ (judge : NewViewsAreJudged) (c : Configuration) (me sender : ℕ) (past : List Entry) (new : NewViewData) (bytes : List ℕ) (receives : authentic (members c me) me bytes ≡ Some (record { sender = sender; message = NewView new })) where
  abbrev Later : NewViewData → Bool
  Later x = is_later (view c past) (target past) x

  taken_is : taken c past (Got me bytes) ≡ option_and_then (λ x. then_some (Later x) x) (then_some ((sender == primary c new.view) && may_select c new) new)
  taken_is = ap (λ (o : Option Body). option_and_then (λ x. then_some (Later x) x) (option_and_then (new_view_from c) o)) receives

  right_taken : new_view_refusal c (view c past) (target past) sender new ≡ None → taken c past (Got me bytes) ≡ Some new
  right_taken h =
      let j = (judge c (view c past) (target past) sender new).0 h in
      taken_is ∙ ap (λ (b : Bool). option_and_then (λ x. then_some (Later x) x) (then_some b new)) j.0 ∙ ap (λ (b : Bool). then_some b new) j.1

  refused_untaken : new_view_refusal c (view c past) (target past) sender new ≢ None → taken c past (Got me bytes) ≡ None
  refused_untaken refused = taken_is ∙ go ((sender == primary c new.view) && may_select c new) (Later new) refl refl
    where
      go : (a b : Bool) → ((sender == primary c new.view) && may_select c new) ≡ a → Later new ≡ b → option_and_then (λ x. then_some (Later x) x) (then_some a new) ≡ None
      go false b p q = refl
      go true false p q = ap (λ (b : Bool). then_some b new) q
      go true true p q = absurd (refused ((judge c (view c past) (target past) sender new).1 (p, q)))

-- ---- it arrives

module _ (judge : NewViewsAreJudged) (decide : SizesDecide) (r : BothPartsData) (one : AreOne r.orderer r.desk) (own : IsOrderer r.orderer) (sender : ℕ) (new : NewViewData) (bytes : List ℕ)
    (h : heard r.orderer bytes ≡ Some (record { sender = sender; message = NewView new })) where
  abbrev me : ℕ
  me = r.orderer.endpoint.me

  abbrev body : Body
  body = record { sender = sender; message = NewView new }

  abbrev e : Entry
  e = Got me bytes

  receives : (c : Configuration) → Gives c r.orderer → authentic (members c me) me bytes ≡ Some body
  receives c known = heard_by r one c bytes body known h

  -- it is judged as the history's configuration judges it
  judged : (c : Configuration) (past : List Entry) → BothPartsMatchHistory c r past → Gives c r.orderer
      → new_view_refusal c (view c past) (target past) sender new ≡ new_view_refusal (judging_configuration r.orderer.received) r.orderer.log.view r.orderer.target sender new
  judged c past runs known =
      ap (λ (v : ℕ). new_view_refusal c v (target past) sender new) runs.holds.of_log.fits.view
      ∙ ap (λ (t : ℕ). new_view_refusal c r.orderer.log.view t sender new) runs.changes.target
      ∙ (decide c (judging_configuration r.orderer.received) alike).refused r.orderer.log.view r.orderer.target sender new
    where
      alike : AreAlikeConfigurations c (judging_configuration r.orderer.received)
      alike = record {
        publics = ap (λ (m : Membership). m.publics) known ∙ sym own.2;
        faults = ap (λ (m : Membership). m.faults) known ∙ sym own.3;
        period = runs.is_desk.period_is ∙ sym one.1;
      }

  -- it asks for no part of a state
  asks_no_part : (c : Configuration) → Gives c r.orderer → has_question (authentic (members c me) me bytes) ≡ false
  asks_no_part c known = ap has_question (receives c known)

  -- ---- the replica refuses it

  module _ (c : Configuration) (past : List Entry) (runs : BothPartsMatchHistory c r past) (known : Gives c r.orderer) (free : taken c past e ≡ None) where
    enters : histories.BothFitWithinEvent c me (event_of c r past runs bytes) (desk_of c r.desk) r.orderer.log [] []
    enters = inputs_fit c me (desk_of c r.desk) (desk_of c r.desk) r.orderer.log r.orderer.log [] past bytes runs.holds free (record {
      takes = others_drop c me r.orderer.log past bytes runs.holds.of_log.fits (subst IsBesideLog (sym (receives c known)) tt);
      state = refl;
      snapshots = refl;
      waiting = ap (λ (o : Option Body). option_map_or (with_waiting r.desk.executed.state (waiting_calls c r.desk.waiting.requests)) (option_and_then (call_in c) o) (waiting_calls c r.desk.waiting.requests)) (sym (receives c known));
      transfer = refl;
      frames = λ frame k. inl k;
      due_is = ap (replies_again r.desk.executed.state) (sym (receives c known));
    })

    event : FitsEvent c me (event_of c r past runs bytes) r.orderer (desk_of c r.desk) r.desk.waiting [] []
    event = record {
      fits = enters;
      numbers = numbers_beside c me r.desk.waiting r.orderer (desk_of c r.desk) past e runs.holds.of_log.fits.faults runs.holds.of_log.fits.own (record { here = refl; none = free; sends = refl }) runs.numbers;
      said = said_on me r.orderer.last_checkpoint past e runs.said;
      changes = changes_kept r one c past runs bytes r.orderer.log (same_log r.orderer.log) refl
          (λ passes. got_keep c me past bytes r.orderer.log r.orderer.log passes (record { view = refl; active = refl }) free (λ i within. refl)
          (λ s other. others_bring_none c me s past bytes (subst IsNoChange (sym (receives c known)) tt) other))
          (inputs_enter c me (desk_of c r.desk) (desk_of c r.desk) r.orderer.log r.orderer.log [] past e runs.holds enters);
      meant = tt;
    }

    untaken_stands : PartsFitEvent c (event_of c r past runs bytes) r.orderer r.desk [] []
    untaken_stands = record {
      is = runs.is_desk;
      fits = subst (λ (m : ℕ). FitsEvent c m (event_of c r past runs bytes) r.orderer (desk_of c r.desk) r.desk.waiting [] []) (sym one.0) event;
    }

  refused_dropped : new_view_refusal (judging_configuration r.orderer.received) r.orderer.log.view r.orderer.target sender new ≢ None → TakesBytes bytes r due_work.Nothing r []
  refused_dropped refused = record {
    party = one_self r;
    begins = λ c past runs known. (
      untaken_stands c past runs known (refused_untaken judge c me sender past new bytes (receives c known) (λ none. refused (sym (judged c past runs known) ∙ none))),
      (rests c r past runs, runs.all, others_owe_none c me past e [] runs.holds.of_desk.point r.desk.executed.state.number (asks_no_part c known), inl refl),
      runs.nothing_begins,
    );
  }

  -- ---- the replica takes it

  module _ (clients : r.desk.executed.clients ≡ r.desk.membership.clients) (n : BothPartsData) (outs : List Output) (x : Entered new None r [] n outs) (c : Configuration) (past : List Entry) (runs : BothPartsMatchHistory c r past)
      (known : Gives c r.orderer) (t : taken c past e ≡ Some new) where
    begins_it : histories.BothFitWithinEvent c me (event_of c r past runs bytes) (desk_from (entered_log r.orderer.log new).low (desk_of c r.desk)) (entered_log r.orderer.log new) (start_due (desk_of c r.desk) new) []
    begins_it = new_views_enter c me (desk_of c r.desk) r.orderer.log past sender new bytes runs.holds (receives c known) t

    passes : LogPassesEntry c me past e r.orderer.log (entered_log r.orderer.log new)
    passes = inputs_enter c me (desk_of c r.desk) (desk_from (entered_log r.orderer.log new).low (desk_of c r.desk)) r.orderer.log (entered_log r.orderer.log new) (start_due (desk_of c r.desk) new) past e runs.holds begins_it

    taken_stands : PartsFitEvent c (event_of c r past runs bytes) n.orderer n.desk [] outs
    taken_stands = entered_stands c (event_of c r past runs bytes) r new None [] past e sender one clients runs.is_desk known refl tt begins_it passes t (receives c known) (not_mine c me past sender new bytes (receives c known) t) (omega arith, λ sent leaf is now. absurd now, λ leaf l. inl l) runs.said runs.changes n outs x

    taken_answered : IsTakenAnswered c n (event_of c r past runs bytes)
    taken_answered =
        let party = entered_party new None r [] n outs x in (
          subst (λ (k : EndpointState). IsTaken c k.me (event_of c r past runs bytes)) (sym party.endpoint) (body, receives c known, t),
          λ outputs executed at. subst (λ (k : EndpointState). AnswersInput c k.me past e outputs runs.holds.of_desk.point executed) (sym party.endpoint)
              (others_owe_none c me past e outputs runs.holds.of_desk.point executed (asks_no_part c known)),
        )

  right_entered : r.desk.executed.clients ≡ r.desk.membership.clients → (n : BothPartsData) (outs : List Output) → new_view_refusal (judging_configuration r.orderer.received) r.orderer.log.view r.orderer.target sender new ≡ None
      → EntersView new.view (start_in new) new.batches None r [] n outs → TakesBytes bytes r due_work.View n outs
  right_entered clients n outs right enters = record {
    party = entered_party new None r [] n outs x;
    begins = λ c past runs known.
        let t = right_taken judge c me sender past new bytes (receives c known) (judged c past runs known ∙ right) in (
          taken_stands clients n outs x c past runs known t,
          (
            entered_votes c (event_of c r past runs bytes) r new None [] past e sender one clients runs.is_desk known refl tt (begins_it clients n outs x c past runs known t) (passes clients n outs x c past runs known t) t (receives c known) (not_mine c me past sender new bytes (receives c known) t)
                (omega arith, λ sent leaf is now. absurd now, λ leaf l. inl l) runs.said runs.changes n outs x,
            taken_answered clients n outs x c past runs known t,
          ),
          active_begins_none c n.orderer
              (entered_active new None r [] n outs runs.holds.of_log.fits.is_log (new_small c me r.orderer.log past e new runs.holds.of_log.fits (still_brings c me past e sender (NewView new) tt (receives c known)) t) x),
        );
  }
    where
      x : Entered new None r [] n outs
      x = entered new None r [] n outs enters

-- ---- the function's own words

-- the replica enters with the selection in the new view
pub enters_with : (new : NewViewData) (start : ℕ) (root : List ℕ) (texts : List (List ℕ)) (r n : BothPartsData) (before after : List Output) → start ≡ new.start → root ≡ new.root → texts ≡ new.batches → before ≡ []
    → EntersView new.view (record { number = start; digest = root }) texts None r before n after → EntersView new.view (start_in new) new.batches None r [] n after
enters_with new start root texts r n before after start_is root_is texts_are none x =
    subst (λ (k : ℕ). EntersView new.view (record { number = k; digest = new.root }) new.batches None r [] n after) start_is
    (subst (λ (d : List ℕ). EntersView new.view (record { number = start; digest = d }) new.batches None r [] n after) root_is
    (subst (λ (ts : List (List ℕ)). EntersView new.view (record { number = start; digest = root }) ts None r [] n after) texts_are
    (subst (λ (outs : List Output). EntersView new.view (record { number = start; digest = root }) texts None r outs n after) none x)))

pub new_view_dropped : NewViewsAreJudged → SizesDecide → (r : BothPartsData) (sender : ReplicaId) (new : NewViewData) → AreOne r.orderer r.desk → IsOrderer r.orderer
    → new_view_refusal (judging_configuration r.orderer.received) r.orderer.log.view r.orderer.target sender.0 new ≢ None → TakesMessage sender (NewView new) r due_work.Nothing r []
new_view_dropped judge decide r sender new one own refused bytes h = refused_dropped judge decide r one own sender.0 new bytes h refused

pub new_view_entered : NewViewsAreJudged → SizesDecide → (r : BothPartsData) (sender : ReplicaId) (new : NewViewData) (n : BothPartsData) (outs : List Output) → AreOne r.orderer r.desk → IsOrderer r.orderer → r.desk.executed.clients ≡ r.desk.membership.clients
    → new_view_refusal (judging_configuration r.orderer.received) r.orderer.log.view r.orderer.target sender.0 new ≡ None → EntersView new.view (start_in new) new.batches None r [] n outs
    → TakesMessage sender (NewView new) r due_work.View n outs
new_view_entered judge decide r sender new n outs one own clients right enters bytes h = right_entered judge decide r one own sender.0 new bytes h clients n outs right enters
