-- The replica enters a view by a new view that it took or sent: what stands after it, with all that it asks for.
use Rattle.std.proofs.Common.{◌≡◌, ℕ, suc, ◌+◌, ◌-◌, ◌≤◌, ◌<◌, ◌^◌, ◌⊎◌, inl, inr, Bool, true, false, cond, not, ◌&&◌, ◌==◌, List, [], ◌∷◌, length, Option, Some, None, refl, sym, ap, ◌∙◌, subst, arith, nat_lt, nat_le}
use Rattle.std.specs.Prelude.{is_none, option_map}
use Rattle.std.proofs.lemmas.Bool.{leb-true, leb-false, ltb-true, ltb-false, le-ltb, lt-ltb}
use Rattle.std.proofs.lemmas.Option.{slice_get_past}
use Rattle.sha2.specs.Sha256.{sha256}
use Rattle.terms.specs.declared.state.Level.TheVariants as levels
use Rattle.wire_format.specs.Messages.{MessageData as Message, CheckpointEntryData as CheckpointEntry, NewViewData, new_view as NewView, fetch as Fetch}
use Rattle.wire.proofs.Skipping.{none_chosen}
use Rattle.events.specs.declared.output.Output.{Output}
use Rattle.events.specs.Outputs.{AreSentAsMeant}
use Rattle.ordering.specs.Log as logs
use Rattle.ordering.specs.Log.{LogData}
use Rattle.ordering.specs.Keeping.{IsLog}
use Rattle.ordering.proofs.Reading.{above_low}
use Rattle.authenticator.specs.Membership.{Membership}
use Rattle.pq_sets.specs.PqSetsView.{PqSetsData}
use Rattle.protocol.specs.System.Configuration.{Configuration}
use Rattle.protocol.specs.System.Trace.{Entry, Once}
use Rattle.protocol.specs.Replica.Certificates.{brought, taken}
use Rattle.protocol.proofs.Words.Options.{some_injective}
use Rattle.protocol.proofs.Agreement.Marks.{takes, selected_in}
use Rattle.replica_histories.specs.Desk.{Desk, desk_from}
use Rattle.replica_histories.specs.Events as histories
use Rattle.replica_histories.specs.Events.{Start, after_outputs}
use Rattle.replica_histories.specs.Views.{entered_log, start_due, with_batches}
use Rattle.replica_histories.specs.Changes.{AddsBatches, BeginsPqSets, FitsChanges, IsOwnFrame, LogPassesEntry, SpendsLeaves}
use Rattle.replica_histories.proofs.Batches.{entered_log_active, entered_batch, entered_low, entered_view, stays}
use Rattle.replica_histories.proofs.Beginning.{start_small}
use Rattle.replica_histories.proofs.ChangesMade.{changes_follow_new_views}
use Rattle.replica_histories.proofs.Cutting.{cut_same}
use Rattle.replica_histories.proofs.NumbersAssigned.{logs_are_of_no_later_view}
use Rattle.replica_histories.proofs.Words.{given_not}
use Rattle.desk.specs.declared.waiting.AssignedCall.{AssignedCall}
use Rattle.replica.specs.State.{BothPartsData, AreOne, Gives}
use Rattle.orderer.specs.State.{OrdererData}
use Rattle.desk.specs.State.{OpenData, DeskData}
use Rattle.desk.specs.Waiting.{WaitingData, with_view}
use Rattle.orderer.specs.Flags.{FitsFlags}
use Rattle.replica.specs.Desks.{PartsFitEvent}
use Rattle.orderer.specs.Fitting.{FitsEvent, FitsWaiting, WasSent, changes_held, given}
use Rattle.desk.specs.Desking.{desk_above}
use Rattle.replica.specs.Fetching.{MulticastsFetch}
use Rattle.desk.specs.Fetching.{target_number, with_target, fetch_of}
use Rattle.orderer.specs.Going.{NoVoteIsDue, IsVotedAll}
use Rattle.replica.specs.Going.{IsOneParty}
use Rattle.orderer.specs.Multicasting.{Multicasts}
use Rattle.orderer.specs.EnterView.{MulticastsVotesOf, entering}
use Rattle.replica.specs.EnteringViews.{EntersView, FetchesStart}
use Rattle.desk.specs.Assigned.{AreAssigned}
use Rattle.desk.specs.DeskOf.{desk_of, IsDeskOf}
use Rattle.replica.proofs.EnteringViews.{entered_desk, assigned_is}
use Rattle.orderer.proofs.Flags.{flags_assigned}
use Rattle.replica.proofs.Following.{aim_of, aimed_same, aims_desk}
use Rattle.replica.proofs.StartsFetched.{start_aims}
use Rattle.orderer.proofs.Staying.{said_on}

-- ---- the parts then

abbrev pub start_in : NewViewData → CheckpointEntry
start_in new = record { number = new.start; digest = new.root }

-- the orderer after the batches
abbrev pub entered_orderer : NewViewData → Option (List ℕ) → PqSetsData → OrdererData → OrdererData
entered_orderer new own pq_sets o = record o {
  log = entered_log o.log new;
  used = new.start + length new.batches;
  assigned = new.start + length new.batches;
  new_view = own;
  pq_sets = pq_sets;
}

-- and the desk, whose calls alone have numbers
abbrev pub entered_parts : NewViewData → Option (List ℕ) → PqSetsData → List AssignedCall → BothPartsData → BothPartsData
entered_parts new own pq_sets calls r = record r {
  orderer = entered_orderer new own pq_sets r.orderer;
  desk = desk_above (logs.cut_to (logs.entered r.orderer.log new.view) new.start).low (record r.desk { waiting = with_view calls r.desk.waiting });
}

-- the entered view: the parts, and then the fetches and votes
pub record Entered (new : NewViewData) (own : Option (List ℕ)) (r : BothPartsData) (before : List Output) (n : BothPartsData) (after : List Output) : Type 0 where
  pub calls : List AssignedCall
  pub are : AreAssigned r.desk.executed.clients new.batches calls
  pub pq_sets : PqSetsData
  pub begins : BeginsPqSets r.orderer.log new r.orderer.pq_sets pq_sets
  pub fetched : BothPartsData
  pub said : List Output
  pub fetches : FetchesStart (start_in new) (entered_parts new own pq_sets calls r) before fetched said
  pub orderer : OrdererData
  pub votes : MulticastsVotesOf new.start (new.start + length new.batches) fetched.orderer said orderer after
  pub new_is : n ≡ record fetched { orderer = orderer }

pub entered : (new : NewViewData) (own : Option (List ℕ)) (r : BothPartsData) (before : List Output) (n : BothPartsData) (after : List Output) → EntersView new.view (start_in new) new.batches own r before n after → Entered new own r before n after
entered new own r before n after x = record {
  calls = x.noted.calls;
  are = x.noted.are;
  pq_sets = x.logs.0;
  begins = record { mid = x.cuts.1.0; cuts = x.cuts.1.1; adds = adds };
  fetched = x.fetched;
  said = x.said;
  fetches = subst (λ (y : BothPartsData). FetchesStart (start_in new) y before x.fetched x.said) whole x.fetches;
  orderer = x.orderer;
  votes = x.votes;
  new_is = x.new_is;
}
  where
    in_view : LogData
    in_view = logs.entered r.orderer.log new.view

    cut_orderer : OrdererData
    cut_orderer = record (entering new.view (new.start + length new.batches) own r.orderer) { log = logs.cut_to in_view new.start; pq_sets = x.cuts.1.0 }

    cut_is : x.cut.orderer ≡ cut_orderer
    cut_is = ap (λ (y : BothPartsData). y.orderer) x.cuts.2 ∙ x.cuts.1.2

    adds : AddsBatches (logs.cut_to in_view new.start) new.view (suc new.start) new.batches x.cuts.1.0 x.logs.0
    adds =
        subst (λ (v : ℕ). AddsBatches (logs.cut_to in_view new.start) v (suc new.start) new.batches x.cuts.1.0 x.logs.0) (cut_same (λ m. m.view) (λ m h rows. refl) in_view new.start)
        (subst (λ (o : OrdererData). AddsBatches o.log o.log.view (suc new.start) new.batches o.pq_sets x.logs.0) cut_is x.logs.1)

    logged_is : x.logged ≡ entered_orderer new own x.logs.0 r.orderer
    logged_is = x.logs.2 ∙ ap (λ (o : OrdererData). let k : OrdererData = record o { log = with_batches o.log (suc new.start) new.batches; pq_sets = x.logs.0 } in k) cut_is

    whole : record x.cut { orderer = x.logged } ≡ entered_parts new own x.logs.0 x.noted.calls r
    whole =
        ap (λ (o : OrdererData). let k : BothPartsData = record x.cut { orderer = o } in k) logged_is
        ∙ ap (λ (y : BothPartsData). let k : BothPartsData = record y { orderer = entered_orderer new own x.logs.0 r.orderer } in k) x.cuts.2
        ∙ ap (λ (d : DeskData). let k : BothPartsData = record r { orderer = entered_orderer new own x.logs.0 r.orderer; desk = desk_above (logs.cut_to in_view new.start).low d } in k) x.noted.new_is

-- ---- the party, and the fetch

-- the orderer stays, and so does the party
pub record FetchedSo (r n : BothPartsData) : Type 0 where
  pub orderer : n.orderer ≡ r.orderer
  pub me : n.desk.me ≡ r.desk.me
  pub membership : n.desk.membership ≡ r.desk.membership

fetched_so : (entry : CheckpointEntry) (r n : BothPartsData) (before after : List Output) → FetchesStart entry r before n after → FetchedSo r n
fetched_so entry r n before after (inl (d, aims, same, says)) = record {
  orderer = ap (λ (y : BothPartsData). y.orderer) same;
  me = ap (λ (y : BothPartsData). y.desk.me) same ∙ ap (λ (k : DeskData). k.me) aims.1;
  membership = ap (λ (y : BothPartsData). y.desk.membership) same ∙ ap (λ (k : DeskData). k.membership) aims.1;
}
fetched_so entry r n before after (inr (behind_it, same, none)) = record {
  orderer = ap (λ (y : BothPartsData). y.orderer) same;
  me = ap (λ (y : BothPartsData). y.desk.me) same;
  membership = ap (λ (y : BothPartsData). y.desk.membership) same;
}

pub entered_party : (new : NewViewData) (own : Option (List ℕ)) (r : BothPartsData) (before : List Output) (n : BothPartsData) (after : List Output) → Entered new own r before n after → IsOneParty r n
entered_party new own r before n after x = record {
  endpoint = ap (λ (y : BothPartsData). y.orderer.endpoint) x.new_is ∙ x.votes.same.endpoint ∙ ap (λ (o : OrdererData). o.endpoint) so.orderer;
  me = ap (λ (y : BothPartsData). y.desk.me) x.new_is ∙ so.me;
  membership = ap (λ (y : BothPartsData). y.desk.membership) x.new_is ∙ so.membership;
}
  where
    so : FetchedSo (entered_parts new own x.pq_sets x.calls r) x.fetched
    so = fetched_so (start_in new) (entered_parts new own x.pq_sets x.calls r) x.fetched before x.said x.fetches

module _ (c : Configuration) (s : Start) (r n : BothPartsData) (new : NewViewData) (before after : List Output) (known : Gives c r.orderer) (mine : r.desk.me ≡ r.orderer.endpoint.me)
    (is : IsDeskOf c r.desk) (once : Once (λ past e. taken c past e ≡ Some new) (after_outputs s (given r.orderer.endpoint.me before)))
    (f : FitsEvent c r.orderer.endpoint.me s r.orderer (desk_of c r.desk) r.desk.waiting (start_due (desk_of c r.desk) new) before) where
  -- the fetch is due, if the start is above the fetched number
  with_due : (b : Bool) → nat_lt (target_number r.desk) new.start ≡ b
      → FitsEvent c r.orderer.endpoint.me s r.orderer (desk_of c r.desk) r.desk.waiting (cond b (Fetch new.start levels.Root 0 ∷ []) []) before
  with_due b e =
      subst (λ (due : List Message). FitsEvent c r.orderer.endpoint.me s r.orderer (desk_of c r.desk) r.desk.waiting due before)
      (ap (λ (t : Bool). cond t (Fetch new.start levels.Root 0 ∷ []) []) (ap (λ (m : ℕ). nat_lt m new.start) (aimed_same r.desk.executed.state.number r.desk.transfer) ∙ e)) f

  abbrev aimed : BothPartsData
  aimed = record r { desk = with_target (start_in new) r.desk }

  aimed_stands : target_number r.desk < new.start → MulticastsFetch aimed before after → PartsFitEvent c s r.orderer (with_target (start_in new) r.desk) [] after
  aimed_stands ahead (inl (none, unsaid)) = absurd (given_not (Some (aim_of (start_in new) r.desk)) (aim_of (start_in new) r.desk) refl none)
  aimed_stands ahead (inr (o, there, says)) = record {
    is = aims_desk c s r.orderer r.desk r.desk.waiting (start_in new) before after is;
    fits = subst (λ (m : ℕ). FitsEvent c m s r.orderer (desk_of c aimed.desk) r.desk.waiting [] after) (sym mine)
        (start_aims c s r.orderer r.desk r.desk.waiting new before after [] known once ahead
        (subst (λ (k : OpenData). Multicasts r.orderer (fetch_of k.transfer) before after) (sym (some_injective (aim_of (start_in new) r.desk) o there)) says)
        (with_due true (lt-ltb (target_number r.desk) new.start ahead)));
  }

  pub fetched_stands : FetchesStart (start_in new) r before n after → PartsFitEvent c s n.orderer n.desk [] after
  fetched_stands (inl (d, aims, same, says)) =
      subst (λ (y : BothPartsData). PartsFitEvent c s y.orderer y.desk [] after) (sym at) (aimed_stands aims.0 (subst (λ (y : BothPartsData). MulticastsFetch y before after) at says))
    where
      at : n ≡ aimed
      at = same ∙ ap (λ (k : DeskData). let y : BothPartsData = record r { desk = k } in y) aims.1
  fetched_stands (inr (behind_it, same, none)) =
      subst (λ (y : BothPartsData). PartsFitEvent c s y.orderer y.desk [] after) (sym same)
      (subst (λ (outs : List Output). PartsFitEvent c s r.orderer r.desk [] outs) (sym none) (record {
        is = is;
        fits = subst (λ (m : ℕ). FitsEvent c m s r.orderer (desk_of c r.desk) r.desk.waiting [] before) (sym mine) (with_due false (le-ltb (target_number r.desk) new.start behind_it));
      }))

-- ---- no vote is left

-- the log asks for no vote of a number without a batch
pub unlogged_voted : (m : LogData) (i : ℕ) → logs.logged_batch m i ≡ None → NoVoteIsDue m i
unlogged_voted m i none = (
  none_chosen (m.active && not (m.me == logs.primary m m.view) && is_none (logs.prepare_of m i m.me)) (logs.logged_digest m i) digest,
  none_chosen (m.active && logs.is_prepared m i && is_none (logs.commit_of m i m.me)) (logs.logged_digest m i) digest,
)
  where
    go : (b : Bool) → cond b (logs.row_of m i).batch None ≡ None → cond b (logs.digest_of (logs.row_of m i)) None ≡ None
    go true h = ap (option_map sha256) h
    go false h = refl

    digest : logs.logged_digest m i ≡ None
    digest = go (logs.is_in_marks m i) none

-- if a view begins, it asks only for votes of the new view's numbers
entered_log_votes : (log : LogData) (new : NewViewData) (i : ℕ) → IsLog log → new.start < 2 ^ 48 → ((new.start < i) × (i ≤ new.start + length new.batches)) ⊎ NoVoteIsDue (entered_log log new) i
entered_log_votes log new i is small = go (nat_lt new.start i) (nat_le i (new.start + length new.batches)) refl refl
  where
    nothing : (new.start < i → new.start + length new.batches < i) → (b : Bool) → logs.is_in_marks (entered_log log new) i ≡ b → logs.logged_batch (entered_log log new) i ≡ None
    nothing out false w = ap (λ (t : Bool). cond t (logs.row_of (entered_log log new) i).batch None) w
    nothing out true w =
        let low = entered_low log new is small in
        let over = above_low (entered_log log new) i w in
        let above : new.start < i = omega (arith, low, over) in
        let past = out above in
        entered_batch log new is small i w above ∙ slice_get_past new.batches (i - suc new.start) (omega (arith, past, above))

    none : (new.start < i → new.start + length new.batches < i) → NoVoteIsDue (entered_log log new) i
    none out = unlogged_voted (entered_log log new) i (nothing out (logs.is_in_marks (entered_log log new) i) refl)

    go : (a b : Bool) → nat_lt new.start i ≡ a → nat_le i (new.start + length new.batches) ≡ b → ((new.start < i) × (i ≤ new.start + length new.batches)) ⊎ NoVoteIsDue (entered_log log new) i
    go true true h k = inl (ltb-true new.start i h, leb-true i (new.start + length new.batches) k)
    go true false h k = inr (none (λ above. leb-false i (new.start + length new.batches) k))
    go false b h k = inr (none (λ above. let under = ltb-false new.start i h in absurd (omega (arith, above, under))))

pub entered_voted : (new : NewViewData) (own : Option (List ℕ)) (r : BothPartsData) (before : List Output) (n : BothPartsData) (after : List Output) → IsLog r.orderer.log → new.start < 2 ^ 48 → Entered new own r before n after → IsVotedAll n.orderer.log
entered_voted new own r before n after is small x i = subst (λ (y : BothPartsData). NoVoteIsDue y.orderer.log i) (sym x.new_is) (x.votes.voted i (pick (entered_log_votes r.orderer.log new i is small)))
  where
    pick : ((new.start < i) × (i ≤ new.start + length new.batches)) ⊎ NoVoteIsDue (entered_log r.orderer.log new) i → ((new.start < i) × (i ≤ new.start + length new.batches)) ⊎ NoVoteIsDue x.fetched.orderer.log i
    pick (inl within) = inl within
    pick (inr voted) =
        inr (subst (λ (o : OrdererData). NoVoteIsDue o.log i)
        (sym (fetched_so (start_in new) (entered_parts new own x.pq_sets x.calls r) x.fetched before x.said x.fetches).orderer) voted)

-- and the replica is active
pub entered_active : (new : NewViewData) (own : Option (List ℕ)) (r : BothPartsData) (before : List Output) (n : BothPartsData) (after : List Output) → IsLog r.orderer.log → new.start < 2 ^ 48 → Entered new own r before n after → n.orderer.log.active ≡ true
entered_active new own r before n after is small x =
    ap (λ (y : BothPartsData). y.orderer.log.active) x.new_is ∙ x.votes.same.log.active
    ∙ ap (λ (o : OrdererData). o.log.active) (fetched_so (start_in new) (entered_parts new own x.pq_sets x.calls r) x.fetched before x.said x.fetches).orderer
    ∙ entered_log_active r.orderer.log new is small

-- ---- the view begins

-- What fits after the new view, before any fetch: the numbers are those of its calls, and its batches are in Q.
module _ (c : Configuration) (s : Start) (r : BothPartsData) (new : NewViewData) (own : Option (List ℕ)) (before : List Output) (past : List Entry) (e : Entry) (sender : ℕ)
    (one : AreOne r.orderer r.desk) (clients : r.desk.executed.clients ≡ r.desk.membership.clients) (is : IsDeskOf c r.desk) (known : Gives c r.orderer)
    (at : after_outputs s (given r.orderer.endpoint.me before) ≡ e ∷ past) (meant : AreSentAsMeant c r.orderer.endpoint.me before)
    (fits : histories.BothFitWithinEvent c r.orderer.endpoint.me s (desk_from (entered_log r.orderer.log new).low (desk_of c r.desk)) (entered_log r.orderer.log new) (start_due (desk_of c r.desk) new) (given r.orderer.endpoint.me before))
    (passes : LogPassesEntry c r.orderer.endpoint.me past e r.orderer.log (entered_log r.orderer.log new)) (t : taken c past e ≡ Some new) (brings : brought c e ≡ Some (record { sender = sender; message = NewView new }))
    (frame : IsOwnFrame c r.orderer.endpoint.me e new own) (spends : SpendsLeaves r.orderer.spent r.orderer.spent past e) (was_said : WasSent r.orderer.endpoint.me r.orderer.last_checkpoint past)
    (changes : FitsChanges c r.orderer.endpoint.me r.orderer.log (changes_held r.orderer) past) where
  abbrev me : ℕ
  me = r.orderer.endpoint.me

  abbrev log : LogData
  log = r.orderer.log

  abbrev later : Desk
  later = desk_from (entered_log log new).low (desk_of c r.desk)

  small : new.start < 2 ^ 48
  small = start_small c new (selected_in c e new (takes c me past e new t).brought)

  module _ (n : BothPartsData) (after : List Output) (x : Entered new own r before n after) where
    abbrev o : OrdererData
    o = entered_orderer new own x.pq_sets r.orderer

    abbrev w : WaitingData
    w = with_view x.calls r.desk.waiting

    numbers : FitsWaiting c me o w later (e ∷ past)
    numbers mine =
        subst (λ (v : ℕ). FitsFlags c me v o.used w later.state later.waiting (e ∷ past)) (sym (entered_view log new passes.fits.is_log small))
        (flags_assigned c me r.desk.waiting x.calls later.state past e new is.differ t (logs_are_of_no_later_view c me log past passes.fits)
        (x.are c (ap (λ (m : Membership). m.clients) is.members_are ∙ sym clients)))

    fits_event : FitsEvent c me s o later w (start_due later new) before
    fits_event = record {
      fits = fits;
      numbers = subst (FitsWaiting c me o w later) (sym at) numbers;
      said = subst (WasSent me o.last_checkpoint) (sym at) (said_on me r.orderer.last_checkpoint past e was_said);
      changes = subst (FitsChanges c me o.log (changes_held o)) (sym at)
          (changes_follow_new_views c me past e log (changes_held r.orderer) new own x.pq_sets sender r.orderer.spent passes t brings x.begins frame spends changes);
      meant = meant;
    }

    abbrev assigned : BothPartsData
    assigned = entered_parts new own x.pq_sets x.calls r

    abbrev low : ℕ
    low = (logs.cut_to (logs.entered log new.view) new.start).low

    desk_is : desk_of c assigned.desk ≡ later
    desk_is = entered_desk c low x.calls r.desk ∙ ap (λ (h : ℕ). desk_from h (desk_of c r.desk)) (sym (stays log new passes.fits.is_log small).low)

    fetched : PartsFitEvent c s x.fetched.orderer x.fetched.desk [] x.said
    fetched =
        fetched_stands c s assigned x.fetched new before x.said known one.0 (assigned_is c low x.calls r.desk is) (subst (Once (λ past e. taken c past e ≡ Some new)) (sym at) (inl t))
        (subst (λ (desk : Desk). FitsEvent c me s o desk w (start_due later new) before) (sym desk_is) fits_event) x.fetches

    same : FetchedSo assigned x.fetched
    same = fetched_so (start_in new) assigned x.fetched before x.said x.fetches

    mine : x.fetched.desk.me ≡ x.fetched.orderer.endpoint.me
    mine = same.me ∙ one.0 ∙ ap (λ (k : OrdererData). k.endpoint.me) (sym same.orderer)

    still_known : Gives c x.fetched.orderer
    still_known = subst (Gives c) (sym same.orderer) known

    pub entered_stands : PartsFitEvent c s n.orderer n.desk [] after
    entered_stands = subst (λ (y : BothPartsData). PartsFitEvent c s y.orderer y.desk [] after) (sym x.new_is) (record {
      is = fetched.is;
      fits = subst (λ (m : ℕ). FitsEvent c m s x.orderer (desk_of c x.fetched.desk) x.fetched.desk.waiting [] after) (sym mine)
          (x.votes.goes c s (desk_of c x.fetched.desk) x.fetched.desk.waiting [] still_known (subst (λ (m : ℕ). FitsEvent c m s x.fetched.orderer (desk_of c x.fetched.desk) x.fetched.desk.waiting [] x.said) mine fetched.fits));
    })

    pub entered_votes : IsVotedAll n.orderer.log
    entered_votes = entered_voted new own r before n after passes.fits.is_log small x
