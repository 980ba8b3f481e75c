-- The replica begins a view by a new view of its own.
use Rattle.std.proofs.Common.{◌≡◌, ℕ, zero, suc, ◌+◌, ◌^◌, ◌<◌, ◌≤◌, inl, inr, Bool, true, false, cond, ◌&&◌, ◌==◌, nat_lt, nat_le, List, [], ◌∷◌, length, map, Vec, Option, Some, None, refl, sym, ap, ◌∙◌, subst, arith, eqb-true, eq-eqb}
use Rattle.std.specs.Prelude.{option_and_then}
use Rattle.std.specs.Arc.{arc_value}
use Rattle.std.specs.Bool.{then_some}
use Rattle.std.specs.declared.alloc.Global.{Global}
use Rattle.std.specs.declared.sync.Arc.{Arc}
use Rattle.std.proofs.lemmas.Bool.{and_from, and_parts, lt-ltb, le-leb, leb-false}
use Rattle.std.proofs.lemmas.List.{length-map}
use Rattle.wire_format.specs.Lists.{Each}
use Rattle.wire_format.specs.Messages.{NewViewData, ViewChangeData, new_view as NewView}
use Rattle.wire_format.specs.Words.{requests_of, requests_of_all, carried}
use Rattle.wire_format.proofs.Telling.{reads_requests}
use Rattle.ordering.specs.Keeping.{IsLog}
use Rattle.events.specs.declared.output.Output.{Output}
use Rattle.protocol.specs.System.Configuration.{Configuration, primary, span}
use Rattle.protocol.specs.System.Frames.{IsOutgoing}
use Rattle.protocol.specs.System.Trace.{Entry, Once, Has}
use Rattle.protocol.specs.System.Trace.Entry.{Sent}
use Rattle.protocol.specs.Replica.Certificates.{view, target, is_later, new_view_from, new_view_in, taken}
use Rattle.protocol.specs.Replica.RightReplica.{HasSeen}
use Rattle.protocol.specs.Replica.Selection.{is_start, may_all_stand, may_select, null_batch}
use Rattle.protocol.proofs.Agreement.Marks.{largest_of-le}
use Rattle.protocol.proofs.Words.Elements.{each_append, each_has}
use Rattle.view_change.specs.Laws.{AreAlikeConfigurations, SizesDecide}
use Rattle.view_change.specs.ReceivedData.{HeldData, held_of, held_for, frames_for, pairs_for}
use Rattle.view_change.specs.ReceivedView.{judging_configuration}
use Rattle.view_change.specs.Selecting.{AreFrom, how_many_from, meets}
use Rattle.view_change.specs.Sets.{sized, texts_of}
use Rattle.replica_histories.specs.Changes.{FitsChanges}
use Rattle.replica_histories.specs.PqSets.{WasLogged}
use Rattle.replica_histories.specs.Desk.{Desk, desk_from}
use Rattle.replica_histories.specs.Events as events
use Rattle.replica_histories.specs.Events.{Start, after_outputs}
use Rattle.replica_histories.specs.Views.{entered_log, start_due}
use Rattle.replica_histories.proofs.Batches.{entered_view}
use Rattle.replica_histories.proofs.Beginning.{start_small}
use Rattle.replica_histories.proofs.ChangesMade.{changes_follow_new_views}
use Rattle.replica_histories.proofs.ChangesPassing.{outputs_pass}
use Rattle.replica_histories.proofs.Leaves.{next_leaf_is_own, next_is_spent}
use Rattle.replica_histories.proofs.NewViews.{new_views_fit}
use Rattle.replica_histories.proofs.NumbersAssigned.{logs_are_of_no_later_view}
use Rattle.replica_histories.proofs.Seeing.{logged_are_seen}
use Rattle.replica_histories.proofs.Words.{primary_same}
use Rattle.orderer.specs.State.{OrdererData, IsOrderer}
use Rattle.replica.specs.State.{BothPartsData, AreOne, Gives}
use Rattle.desk.specs.Waiting.{with_view}
use Rattle.desk.specs.DeskOf.{desk_of, IsDeskOf}
use Rattle.replica.specs.Beginning.{BeginsView}
use Rattle.orderer.specs.PqSets.{MulticastsFrame}
use Rattle.replica.specs.Desks.{PartsFitEvent}
use Rattle.replica.specs.EnteringViews.{EntersView}
use Rattle.orderer.specs.Flags.{FitsFlags}
use Rattle.orderer.specs.Fitting.{given, changes_held, FitsEvent, FitsWaiting}
use Rattle.orderer.specs.EnterView.{IsSelection, MaySignView, SignsView, new_view_of}
use Rattle.replica.specs.Going.{NothingIsLeft}
use Rattle.replica.proofs.EnteredViews.{Begins, begins, entered_orderer, entered_log_stands, all_voted, one_active, one_party, one_target, start_of}
use Rattle.orderer.proofs.Flags.{flags_assigned}
use Rattle.orderer.proofs.Staying.{fits_behind, EmitsOne, emits_one}

-- ---- sizes

pub few_batches : (c : Configuration) (view : ℕ) (set : List (ℕ × ViewChangeData)) (start : ℕ) (root : List ℕ) (batches : List (List ℕ)) → meets c view set start root batches ≡ true → c.period ≤ 16 → length batches ≤ 32
few_batches c view set start root batches fit short =
    let p = and_parts (is_start c set start root && (length batches == how_many_from c set start)) (may_all_stand c view set (suc start) batches) fit in
    let q = and_parts (is_start c set start root) (length batches == how_many_from c set start) p.0 in
    let long = eqb-true (length batches) (how_many_from c set start) q.1 in
    let most = largest_of-le (start + span c) set in
    omega (arith, long, most, short)

-- a selection has as few batches
pub selects_few : (o : OrdererData) (start : ℕ) (root : List ℕ) (batches : List (Arc (List ℕ) Global)) → IsSelection o start root (texts_of batches) → length batches ≤ 32
selects_few o start root batches sel =
    let few = few_batches (sized o.received.sizes) o.target (pairs_for o.target o.received.held) start root (texts_of batches) sel.meets o.received.sizes.short in
    let same = length-map batches arc_value in
    omega (arith, few, same)

pub starts_small : (o : OrdererData) (start : ℕ) (root frame : List ℕ) (texts : List (List ℕ)) → SignsView o (new_view_of o start root texts) frame → start < 2 ^ 48
starts_small o start root frame texts signs = start_small (judging_configuration o.received) (new_view_of o start root texts) signs.right

-- ---- what the new view carries was seen

-- the stored view changes
frames_are : (P : List ℕ → Type 0) (v : ℕ) (held : List (Option HeldData)) → ((s : ℕ) (h : HeldData) → held_of held s ≡ Some h → P h.frame) → Each P (frames_for v held)
frames_are P v [] f = tt
frames_are P v (None ∷ held) f = frames_are P v held (λ s h is. f (suc s) h is)
frames_are P v (Some x ∷ held) f = go (x.change.view == v) (frames_are P v held (λ s h is. f (suc s) h is))
  where
    go : (b : Bool) → Each P (frames_for v held) → Each P (map (λ (h : HeldData). h.frame) (cond b (x ∷ held_for v held) (held_for v held)))
    go true e = (f zero x refl, e)
    go false e = e

-- the requests of batches of Q
requests_are : (P : List ℕ → Type 0) (texts batches : List (List ℕ)) → ((text : List ℕ) → Has (λ t. t ≡ text) texts → Each P (requests_of text)) → AreFrom texts batches → Each P (requests_of_all batches)
requests_are P texts [] f from = tt
requests_are P texts (batch ∷ batches) f from = each_append P (requests_of batch) (requests_of_all batches) (go from.0) (requests_are P texts batches f from.1)
  where
    none : requests_of null_batch ≡ []
    none = reads_requests [] (omega arith) tt

    go : Has (λ t. t ≡ batch) (null_batch ∷ texts) → Each P (requests_of batch)
    go (inl same) = subst (λ (b : List ℕ). Each P (requests_of b)) same (subst (Each P) (sym none) tt)
    go (inr has) = f batch has

-- ---- it is taken

module _ (decide : SizesDecide) (o : OrdererData) (start : ℕ) (root frame : List ℕ) (texts : List (List ℕ)) (own : IsOrderer o) (sel : IsSelection o start root texts) (signs : SignsView o (new_view_of o start root texts) frame) where
  abbrev new : NewViewData
  new = new_view_of o start root texts

  abbrev me : ℕ
  me = o.endpoint.me

  module _ (c : Configuration) (past : List Entry) (known : Gives c o) (period : c.period ≡ o.received.sizes.period)
      (faults : o.log.faults ≡ c.faults) (is_me : o.log.me ≡ me) (is_view : view c past ≡ o.log.view) (is_active : nat_le (target past) o.log.view ≡ o.log.active) (is_target : target past ≡ o.target) where
    pub is_outgoing : IsOutgoing c me (NewView new) [] frame
    is_outgoing = signs.signed c (ap (λ m. m.publics) known)

    alike : AreAlikeConfigurations c (judging_configuration o.received)
    alike = record { publics = ap (λ m. m.publics) known ∙ sym own.2; faults = ap (λ m. m.faults) known ∙ sym own.3; period = period }

    right : may_select c new ≡ true
    right = (decide c (judging_configuration o.received) alike).selected new ∙ signs.right

    pub is_primary : primary c new.view ≡ me
    is_primary = sym (primary_same c o.log new.view faults) ∙ sel.primary ∙ is_me

    later : is_later (view c past) (target past) new ≡ true
    later =
        let above = leb-false (target past) o.log.view (is_active ∙ sel.inactive) in
        and_from (nat_lt (view c past) o.target) (nat_le (target past) o.target)
        (lt-ltb (view c past) o.target (omega (arith, above, is_view, is_target))) (le-leb (target past) o.target (omega (arith, is_target)))

    brings : new_view_in c (Sent me frame) ≡ Some new
    brings =
        ap (option_and_then (new_view_from c)) is_outgoing.says
        ∙ ap (λ (b : Bool). then_some b new) (and_from (me == primary c new.view) (may_select c new) (eq-eqb me (primary c new.view) (sym is_primary)) right)

    pub is_taken : taken c past (Sent me frame) ≡ Some new
    is_taken =
        ap (option_and_then (λ (x : NewViewData). then_some (is_later (view c past) (target past) x) x)) brings
        ∙ ap (λ (b : Bool). then_some b new) later

    pub is_seen : FitsChanges c me o.log (changes_held o) past → Each (λ bytes. Once (HasSeen bytes) past) (carried (NewView new))
    is_seen x =
        each_append (λ bytes. Once (HasSeen bytes) past) (frames_for o.target o.received.held) (requests_of_all texts)
        (frames_are (λ bytes. Once (HasSeen bytes) past) o.target o.received.held x.received.seen)
        (requests_are (λ bytes. Once (HasSeen bytes) past) o.pq_sets.texts texts
        (λ text has. let was : WasLogged c me past text = each_has (WasLogged c me past) o.pq_sets.texts text x.pq_sets.texts has in logged_are_seen c me was.0 was.1 text past was.2) sel.from)

-- ---- all stands after it

-- the leaf is spent
abbrev signing : BothPartsData → BothPartsData
signing r = record r { orderer = record r.orderer { spent = r.orderer.spent + 1 } }

module _ (decide : SizesDecide) (r : BothPartsData) (start : ℕ) (root frame : List ℕ) (texts : List (List ℕ)) (before said after : List Output) (n : BothPartsData)
    (one : AreOne r.orderer r.desk) (own : IsOrderer r.orderer) (is_log : IsLog r.orderer.log) (clients : r.desk.executed.clients ≡ r.desk.membership.clients)
    (sel : IsSelection r.orderer start root texts) (signs : SignsView r.orderer (new_view_of r.orderer start root texts) frame) (says : MulticastsFrame r.orderer frame before said)
    (enters : EntersView r.orderer.target (start_of (new_view_of r.orderer start root texts)) texts (Some frame) (signing r) said n after) where
  abbrev o : OrdererData
  o = r.orderer

  abbrev its : NewViewData
  its = new_view_of r.orderer start root texts

  abbrev mine : ℕ
  mine = r.orderer.endpoint.me

  small : start < 2 ^ 48
  small = starts_small r.orderer start root frame texts signs

  k : Begins its (Some frame) (signing r) said n after
  k = begins its (Some frame) (signing r) said n after is_log small enters

  abbrev assigned : OrdererData
  assigned = entered_orderer (signing r).orderer its (Some frame) k.pq_sets

  abbrev low : ℕ
  low = (entered_log o.log its).low

  module _ (c : Configuration) (s : Start) (known : Gives c r.orderer) (rests : NothingIsLeft r) (is : IsDeskOf c r.desk) (f : FitsEvent c mine s o (desk_of c r.desk) r.desk.waiting [] before) where
    abbrev desk : Desk
    desk = desk_of c r.desk

    abbrev past : List Entry
    past = after_outputs s (given mine before)

    abbrev e : Entry
    e = Sent mine frame

    period : c.period ≡ o.received.sizes.period
    period = is.period_is ∙ sym one.1

    signed : IsOutgoing c mine (NewView its) [] frame
    signed = is_outgoing decide o start root frame texts own sel signs c past known period f.fits.of_log.faults own.0 f.fits.of_log.view f.fits.of_log.active f.changes.target

    leads : primary c its.view ≡ mine
    leads = is_primary decide o start root frame texts own sel signs c past known period f.fits.of_log.faults own.0 f.fits.of_log.view f.fits.of_log.active f.changes.target

    takes : taken c past e ≡ Some its
    takes = is_taken decide o start root frame texts own sel signs c past known period f.fits.of_log.faults own.0 f.fits.of_log.view f.fits.of_log.active f.changes.target

    seen : Each (λ bytes. Once (HasSeen bytes) past) (carried (NewView its))
    seen = is_seen decide o start root frame texts own sel signs c past known period f.fits.of_log.faults own.0 f.fits.of_log.view f.fits.of_log.active f.changes.target f.changes

    on : events.BothFitWithinEvent c mine s (desk_from low desk) (entered_log o.log its) (start_due desk its) (e ∷ given mine before)
    on =
        new_views_fit c mine s desk o.log (given mine before) its frame (λ i. (rests.0 i).1) rests.1 leads takes seen signed
        (next_leaf_is_own frame o.spent past signs.by_leaf f.changes.leaves) f.fits

    changes : FitsChanges c mine (entered_log o.log its) (changes_held assigned) (e ∷ past)
    changes =
        changes_follow_new_views c mine past e o.log (changes_held o) its (Some frame) k.pq_sets mine (o.spent + 1)
        (outputs_pass c mine s desk (desk_from low desk) o.log (entered_log o.log its) [] (start_due desk its) (given mine before) e f.fits on)
        takes signed.says k.kept (refl, leads, signed) (next_is_spent mine o.spent past frame signs.by_leaf) f.changes

    numbers : FitsWaiting c mine assigned (with_view k.calls r.desk.waiting) (desk_from low desk) (e ∷ past)
    numbers own =
        subst (λ (v : ℕ). FitsFlags c mine v assigned.used (with_view k.calls r.desk.waiting) desk.state desk.waiting (e ∷ past)) (sym (entered_view o.log its is_log small))
        (flags_assigned c mine r.desk.waiting k.calls desk.state past e its is.differ takes (logs_are_of_no_later_view c mine o.log past f.fits.of_log)
        (k.are c (ap (λ m. m.clients) is.members_are ∙ sym clients)))

    gives : EmitsOne c mine before said e
    gives = emits_one c mine before said says.output e says.given_is says.sends.sends (says.sends.meant c (NewView its) known signed)

    fits : FitsEvent c mine s assigned (desk_from low desk) (with_view k.calls r.desk.waiting) (start_due desk its) said
    fits =
        fits_behind c mine s o assigned desk (desk_from low desk) r.desk.waiting (with_view k.calls r.desk.waiting) [] (start_due desk its) before said e gives refl f on numbers changes

    once : Once (λ earlier x. taken c earlier x ≡ Some its) (after_outputs s (given mine said))
    once = subst (λ (es : List Entry). Once (λ earlier x. taken c earlier x ≡ Some its) (after_outputs s es)) (sym gives.is) (inl takes)

    stands : PartsFitEvent c s n.orderer n.desk [] after
    stands = entered_log_stands its (Some frame) (signing r) said n after k c s known one.0 is once fits

  pub own_view_begins : BeginsView r before n after
  own_view_begins = record {
    stands = λ c s known rests st. stands c s known rests st.is (subst (λ (m : ℕ). FitsEvent c m s o (desk_of c r.desk) r.desk.waiting [] before) one.0 st.fits);
    party = let p = one_party its (Some frame) (signing r) said n after k in record { endpoint = p.endpoint; me = p.me; membership = p.membership };
    target = one_target its (Some frame) (signing r) said n after k;
    active = one_active its (Some frame) (signing r) said n after k is_log small;
    voted = λ rests. all_voted its (Some frame) (signing r) said n after k is_log small;
  }

-- what the replica signs in an existing frame
pub signs_in : (o : OrdererData) (its : NewViewData) (later : OrdererData) (r : Option (Vec ℕ Global)) (frame : Vec ℕ Global) → r ≡ Some frame → MaySignView its o later r → SignsView o its frame.items × (later ≡ record o { spent = o.spent + 1 })
signs_in o its later r frame is h = subst (MaySignView its o later) is h

-- by equal parts
pub begins_so : (decide : SizesDecide) (r : BothPartsData) (start : ℕ) (root frame : List ℕ) (texts : List (List ℕ)) (before said after : List Output) (n : BothPartsData)
    (view : ℕ) (bytes : List ℕ) (signed : OrdererData) (mid : BothPartsData)
    → AreOne r.orderer r.desk → IsOrderer r.orderer → IsLog r.orderer.log → r.desk.executed.clients ≡ r.desk.membership.clients
    → IsSelection r.orderer start root texts → SignsView r.orderer (new_view_of r.orderer start root texts) frame
    → signed ≡ (signing r).orderer → bytes ≡ frame → MulticastsFrame signed bytes before said
    → view ≡ r.orderer.target → mid ≡ signing r → EntersView view (start_of (new_view_of r.orderer start root texts)) texts (Some frame) mid said n after
    → BeginsView r before n after
begins_so decide r start root frame texts before said after n view bytes signed mid one own is_log clients sel signs same_orderer same_bytes says same_view same enters =
    own_view_begins decide r start root frame texts before said after n one own is_log clients sel signs
    (let k = subst (λ (o : OrdererData). MulticastsFrame o frame before said) same_orderer (subst (λ (b : List ℕ). MulticastsFrame signed b before said) same_bytes says) in
    record { output = k.output; sends = k.sends; given_is = k.given_is })
    (subst (λ (v : ℕ). EntersView v (start_of (new_view_of r.orderer start root texts)) texts (Some frame) (signing r) said n after) same_view
    (subst (λ (m : BothPartsData). EntersView view (start_of (new_view_of r.orderer start root texts)) texts (Some frame) m said n after) same enters))
