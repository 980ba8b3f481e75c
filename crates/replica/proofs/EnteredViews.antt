-- A view begins by a new view that the replica takes or sends: what stood still stands, with its batches.
use Rattle.std.proofs.Common.{◌≡◌, ℕ, zero, suc, ◌+◌, ◌-◌, ◌^◌, ◌<◌, ◌≤◌, ◌⊎◌, inl, inr, Bool, true, false, cond, nat_lt, nat_le, List, [], ◌∷◌, length, Option, Some, None, slice_get, refl, sym, ap, ◌∙◌, subst, arith}
use Rattle.std.proofs.lemmas.Bool.{le-ltb, lt-ltb, leb-true, leb-false}
use Rattle.terms.specs.declared.state.Level.TheVariants as levels
use Rattle.wire_format.specs.Messages.{MessageData as Message, NewViewData, CheckpointEntryData as CheckpointEntry, fetch as Fetch}
use Rattle.ordering.specs.Log as logs
use Rattle.ordering.specs.Log.{LogData}
use Rattle.ordering.specs.Keeping.{IsLog}
use Rattle.ordering.proofs.Reading.{above_low}
use Rattle.events.specs.declared.output.Output.{Output}
use Rattle.protocol.specs.System.Configuration.{Configuration}
use Rattle.protocol.specs.System.Trace.{Once}
use Rattle.protocol.specs.Replica.Certificates.{taken}
use Rattle.protocol.proofs.Words.Options.{some_injective}
use Rattle.pq_sets.specs.PqSetsView.{PqSetsData}
use Rattle.replica_histories.specs.Changes.{AddsBatches, BeginsPqSets}
use Rattle.replica_histories.specs.Desk.{Desk, desk_from}
use Rattle.replica_histories.specs.Events.{Start, after_outputs}
use Rattle.replica_histories.specs.Views.{entered_log, start_due, with_batches}
use Rattle.replica_histories.proofs.Batches.{stays, entered_log_active, entered_batch, entered_low}
use Rattle.replica_histories.proofs.Cutting.{cut_same}
use Rattle.desk.specs.declared.waiting.AssignedCall.{AssignedCall}
use Rattle.replica.specs.State.{BothPartsData, Gives}
use Rattle.orderer.specs.State.{OrdererData}
use Rattle.desk.specs.State.{DeskData, OpenData}
use Rattle.desk.specs.Waiting.{with_view}
use Rattle.desk.specs.Desking.{desk_above}
use Rattle.replica.specs.Desks.{PartsFitEvent}
use Rattle.replica.specs.EnteringViews.{EntersView, FetchesStart}
use Rattle.orderer.specs.Fitting.{given, FitsEvent}
use Rattle.orderer.specs.EnterView.{MulticastsVotesOf, entering}
use Rattle.desk.specs.Assigned.{AreAssigned}
use Rattle.replica.specs.Fetching.{MulticastsFetch}
use Rattle.desk.specs.Fetching.{target_number, with_target, fetch_of}
use Rattle.desk.specs.DeskOf.{desk_of, IsDeskOf}
use Rattle.replica.specs.Going.{IsOneParty}
use Rattle.orderer.specs.Multicasting.{Multicasts}
use Rattle.replica.proofs.EnteringViews.{entered_data, entered_desk, assigned_is}
use Rattle.replica.proofs.Following.{aim_of, aimed_same, aims_desk}
use Rattle.orderer.specs.Going.{KeepsFitting, NoVoteIsDue, IsVotedAll}
use Rattle.replica.proofs.StartsFetched.{start_aims}
use Rattle.replica.proofs.ViewsEntered.{FetchedSo, unlogged_voted}

-- ---- votes that the log asks for

past_end : (xs : List (List ℕ)) (k : ℕ) → length xs ≤ k → slice_get xs k ≡ None
past_end [] zero l = refl
past_end [] (suc k) l = refl
past_end (x ∷ xs) zero l = absurd (omega (arith, l))
past_end (x ∷ xs) (suc k) l = past_end xs k (omega (arith, l))

-- if a view begins, only for numbers of the new view
pub asks_there : (log : LogData) (new : NewViewData) → IsLog log → new.start < 2 ^ 48 → (i : ℕ) → ((new.start < i) × (i ≤ new.start + length new.batches)) ⊎ NoVoteIsDue (entered_log log new) i
asks_there log new is small i = go (logs.is_in_marks (entered_log log new) i) refl
  where
    inside : new.start < i → logs.is_in_marks (entered_log log new) i ≡ true → (b : Bool) → nat_le i (new.start + length new.batches) ≡ b
        → ((new.start < i) × (i ≤ new.start + length new.batches)) ⊎ NoVoteIsDue (entered_log log new) i
    inside above w true l = inl (above, leb-true i (new.start + length new.batches) l)
    inside above w false l =
        let over = leb-false i (new.start + length new.batches) l in
        inr (unlogged_voted (entered_log log new) i (entered_batch log new is small i w above ∙ past_end new.batches (i - suc new.start) (omega (arith, over, above))))

    go : (b : Bool) → logs.is_in_marks (entered_log log new) i ≡ b → ((new.start < i) × (i ≤ new.start + length new.batches)) ⊎ NoVoteIsDue (entered_log log new) i
    go true w =
        let over = above_low (entered_log log new) i w in
        let low = entered_low log new is small in
        inside (omega (arith, over, low)) w (nat_le i (new.start + length new.batches)) refl
    go false w = inr (unlogged_voted (entered_log log new) i (ap (λ (b : Bool). cond b (logs.row_of (entered_log log new) i).batch None) w))

-- ---- all parts of it

abbrev pub entered_orderer : OrdererData → NewViewData → Option (List ℕ) → PqSetsData → OrdererData
entered_orderer o new own pq_sets = record o {
  log = entered_log o.log new;
  used = new.start + length new.batches;
  assigned = new.start + length new.batches;
  new_view = own;
  pq_sets = pq_sets;
}

abbrev pub start_of : NewViewData → CheckpointEntry
start_of new = record { number = new.start; digest = new.root }

-- The replica has entered the view by the new view, and sends the votes that follow.
pub record Begins (new : NewViewData) (own : Option (List ℕ)) (r : BothPartsData) (before : List Output) (n : BothPartsData) (after : List Output) : Type 0 where
  pub pq_sets : PqSetsData
  pub kept : BeginsPqSets r.orderer.log new r.orderer.pq_sets pq_sets
  pub calls : List AssignedCall
  pub are : AreAssigned r.desk.executed.clients new.batches calls
  pub fetched : BothPartsData
  pub said : List Output
  pub fetches : FetchesStart (start_of new) (record r { orderer = entered_orderer r.orderer new own pq_sets; desk = entered_data (entered_log r.orderer.log new).low calls r.desk }) before fetched said
  pub orderer : OrdererData
  pub votes : MulticastsVotesOf new.start (new.start + length new.batches) fetched.orderer said orderer after
  pub new_is : n ≡ record fetched { orderer = orderer }

module _ (new : NewViewData) (own : Option (List ℕ)) (r : BothPartsData) (before : List Output) (n : BothPartsData) (after : List Output) (is : IsLog r.orderer.log) (small : new.start < 2 ^ 48)
    (k : EntersView new.view (start_of new) new.batches own r before n after) where
  abbrev last : ℕ
  last = new.start + length new.batches

  abbrev entered : OrdererData
  entered = entering new.view last own r.orderer

  abbrev at : LogData
  at = logs.cut_to (logs.entered r.orderer.log new.view) new.start

  abbrev pq_sets : PqSetsData
  pq_sets = k.cuts.1.0

  abbrev cut_orderer : OrdererData
  cut_orderer = record entered { log = at; pq_sets = pq_sets }

  cut_is : k.cut.orderer ≡ cut_orderer
  cut_is = ap (λ (x : BothPartsData). x.orderer) k.cuts.2 ∙ k.cuts.1.2

  view_is : at.view ≡ new.view
  view_is = cut_same (λ m. m.view) (λ m h rows. refl) (logs.entered r.orderer.log new.view) new.start

  adds : AddsBatches at new.view (suc new.start) new.batches pq_sets k.logs.0
  adds =
      subst (λ (v : ℕ). AddsBatches at v (suc new.start) new.batches pq_sets k.logs.0) view_is
      (subst (λ (x : OrdererData). AddsBatches x.log x.log.view (suc new.start) new.batches x.pq_sets k.logs.0) cut_is k.logs.1)

  logged_is : k.logged ≡ entered_orderer r.orderer new own k.logs.0
  logged_is = k.logs.2 ∙ ap (λ (x : OrdererData). let y : OrdererData = record x { log = with_batches x.log (suc new.start) new.batches; pq_sets = k.logs.0 } in y) cut_is

  low_is : at.low ≡ (entered_log r.orderer.log new).low
  low_is = sym (stays r.orderer.log new is small).low

  mid_is : ◌≡◌ {A = BothPartsData} (record k.cut { orderer = k.logged })
      (record r { orderer = entered_orderer r.orderer new own k.logs.0; desk = entered_data (entered_log r.orderer.log new).low k.noted.calls r.desk })
  mid_is =
      ap (λ (x : BothPartsData). let y : BothPartsData = record x { orderer = k.logged } in y) k.cuts.2
      ∙ ap (λ (x : OrdererData). let y : BothPartsData = record r { orderer = x; desk = desk_above at.low k.desk } in y) logged_is
      ∙ ap (λ (d : DeskData). let y : BothPartsData = record r { orderer = entered_orderer r.orderer new own k.logs.0; desk = desk_above at.low d } in y) k.noted.new_is
      ∙ ap (λ (l : ℕ). let y : BothPartsData = record r { orderer = entered_orderer r.orderer new own k.logs.0; desk = entered_data l k.noted.calls r.desk } in y) low_is

  pub begins : Begins new own r before n after
  begins = record {
    pq_sets = k.logs.0;
    kept = record { mid = pq_sets; cuts = k.cuts.1.1; adds = adds };
    calls = k.noted.calls;
    are = k.noted.are;
    fetched = k.fetched;
    said = k.said;
    fetches = subst (λ (x : BothPartsData). FetchesStart (start_of new) x before k.fetched k.said) mid_is k.fetches;
    orderer = k.orderer;
    votes = k.votes;
    new_is = k.new_is;
  }

-- ---- after the fetch

fetched_from : (entry : CheckpointEntry) (m fetched : BothPartsData) (before said : List Output) → FetchesStart entry m before fetched said → FetchedSo m fetched
fetched_from entry m fetched before said (inl h) = subst (FetchedSo m) (sym h.2) (record {
  orderer = refl;
  me = ap (λ (d : DeskData). d.me) h.1.1;
  membership = ap (λ (d : DeskData). d.membership) h.1.1;
})
fetched_from entry m fetched before said (inr h) = subst (FetchedSo m) (sym h.1) (record { orderer = refl; me = refl; membership = refl })

module _ (new : NewViewData) (own : Option (List ℕ)) (r : BothPartsData) (before : List Output) (n : BothPartsData) (after : List Output) (k : Begins new own r before n after) where
  abbrev me : ℕ
  me = r.orderer.endpoint.me

  abbrev pub the_orderer : OrdererData
  the_orderer = entered_orderer r.orderer new own k.pq_sets

  abbrev the_low : ℕ
  the_low = (entered_log r.orderer.log new).low

  abbrev the_desk : DeskData
  the_desk = entered_data the_low k.calls r.desk

  abbrev mid : BothPartsData
  mid = record r { orderer = the_orderer; desk = the_desk }

  from : FetchedSo mid k.fetched
  from = fetched_from (start_of new) mid k.fetched before k.said k.fetches

  pub one_party : IsOneParty r n
  one_party = subst (IsOneParty r) (sym k.new_is) (record {
    endpoint = k.votes.same.endpoint ∙ ap (λ (o : OrdererData). o.endpoint) from.orderer;
    me = from.me;
    membership = from.membership;
  })

  pub one_target : n.orderer.target ≡ r.orderer.target
  one_target = ap (λ (y : BothPartsData). y.orderer.target) k.new_is ∙ k.votes.same.target ∙ ap (λ (o : OrdererData). o.target) from.orderer

  pub one_active : IsLog r.orderer.log → new.start < 2 ^ 48 → n.orderer.log.active ≡ true
  one_active is small = ap (λ (y : BothPartsData). y.orderer.log.active) k.new_is ∙ k.votes.same.log.active ∙ ap (λ (o : OrdererData). o.log.active) from.orderer ∙ entered_log_active r.orderer.log new is small

  pub all_voted : IsLog r.orderer.log → new.start < 2 ^ 48 → IsVotedAll n.orderer.log
  all_voted is small i =
      subst (λ (x : BothPartsData). NoVoteIsDue x.orderer.log i) (sym k.new_is)
      (k.votes.voted i (subst (λ (x : OrdererData). ((new.start < i) × (i ≤ new.start + length new.batches)) ⊎ NoVoteIsDue x.log i) (sym from.orderer) (asks_there r.orderer.log new is small i)))

  -- What fits once the replica has entered the view, stands in the end.
  module _ (c : Configuration) (s : Start) (known : Gives c r.orderer) (own_me : r.desk.me ≡ me) (is : IsDeskOf c r.desk)
      (once : Once (λ past e. taken c past e ≡ Some new) (after_outputs s (given me before)))
      (f : FitsEvent c me s the_orderer (desk_from the_low (desk_of c r.desk)) (with_view k.calls r.desk.waiting) (start_due (desk_of c r.desk) new) before) where
    with_due : (b : Bool) → nat_lt (target_number r.desk) new.start ≡ b
        → FitsEvent c me s the_orderer (desk_of c the_desk) the_desk.waiting (cond b (Fetch new.start levels.Root 0 ∷ []) []) before
    with_due b e =
        subst (λ (due : List Message). FitsEvent c me s the_orderer (desk_of c the_desk) the_desk.waiting due before)
        (ap (λ (t : Bool). cond t (Fetch new.start levels.Root 0 ∷ []) []) (ap (λ (m : ℕ). nat_lt m new.start) (aimed_same r.desk.executed.state.number r.desk.transfer) ∙ e))
        (subst (λ (desk : Desk). FitsEvent c me s the_orderer desk the_desk.waiting (start_due (desk_of c r.desk) new) before) (sym (entered_desk c the_low k.calls r.desk)) f)

    -- the fetch is sent
    aimed : (said : List Output) → target_number r.desk < new.start → Multicasts the_orderer (fetch_of (aim_of (start_of new) the_desk).transfer) before said → PartsFitEvent c s the_orderer (with_target (start_of new) the_desk) [] said
    aimed said ahead says = record {
      is = aims_desk c s the_orderer the_desk the_desk.waiting (start_of new) before said (assigned_is c the_low k.calls r.desk is);
      fits = subst (λ (m : ℕ). FitsEvent c m s the_orderer (desk_of c (with_target (start_of new) the_desk)) the_desk.waiting [] said) (sym own_me)
          (start_aims c s the_orderer the_desk the_desk.waiting new before said [] known once ahead says (with_due true (lt-ltb (target_number r.desk) new.start ahead)));
    }

    -- or there is none
    unaimed : new.start ≤ target_number r.desk → PartsFitEvent c s the_orderer the_desk [] before
    unaimed least = record {
      is = assigned_is c the_low k.calls r.desk is;
      fits = subst (λ (m : ℕ). FitsEvent c m s the_orderer (desk_of c the_desk) the_desk.waiting [] before) (sym own_me) (with_due false (le-ltb (target_number r.desk) new.start least));
    }

    says_it : (said : List Output) → target_number r.desk < new.start → MulticastsFetch (record mid { desk = with_target (start_of new) the_desk }) before said → PartsFitEvent c s the_orderer (with_target (start_of new) the_desk) [] said
    says_it said ahead (inl h) = absurd (let bad : Some (aim_of (start_of new) the_desk) ≡ None = h.0 in cc)
    says_it said ahead (inr h) =
        aimed said ahead (subst (λ (o : OpenData). Multicasts the_orderer (fetch_of o.transfer) before said) (sym (some_injective (aim_of (start_of new) the_desk) h.0 h.1)) h.2)

    at_start : (fetched : BothPartsData) (said : List Output) → FetchesStart (start_of new) mid before fetched said → PartsFitEvent c s the_orderer fetched.desk [] said
    at_start fetched said (inl h) =
        let same : fetched ≡ record mid { desk = with_target (start_of new) the_desk } = h.2 ∙ ap (λ (d : DeskData). let y : BothPartsData = record mid { desk = d } in y) h.1.1 in
        subst (λ (x : BothPartsData). PartsFitEvent c s the_orderer x.desk [] said) (sym same) (says_it said h.1.0 (subst (λ (x : BothPartsData). MulticastsFetch x before said) same h.3))
    at_start fetched said (inr h) =
        subst (λ (x : BothPartsData). PartsFitEvent c s the_orderer x.desk [] said) (sym h.1) (subst (λ (outs : List Output). PartsFitEvent c s the_orderer the_desk [] outs) (sym h.2) (unaimed h.0))

    pub entered_log_stands : PartsFitEvent c s n.orderer n.desk [] after
    entered_log_stands = subst (λ (x : BothPartsData). PartsFitEvent c s x.orderer x.desk [] after) (sym k.new_is) (record {
      is = st.is;
      fits = subst (λ (m : ℕ). FitsEvent c m s k.orderer (desk_of c k.fetched.desk) k.fetched.desk.waiting [] after) (sym named)
          (goes c s (desk_of c k.fetched.desk) k.fetched.desk.waiting [] known
          (subst (λ (m : ℕ). FitsEvent c m s the_orderer (desk_of c k.fetched.desk) k.fetched.desk.waiting [] k.said) named st.fits));
    })
      where
        st : PartsFitEvent c s the_orderer k.fetched.desk [] k.said
        st = at_start k.fetched k.said k.fetches

        named : k.fetched.desk.me ≡ me
        named = from.me ∙ own_me

        goes : KeepsFitting the_orderer k.said k.orderer after
        goes = subst (λ (x : OrdererData). KeepsFitting x k.said k.orderer after) from.orderer k.votes.goes
