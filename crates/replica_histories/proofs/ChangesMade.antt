-- A replica's view-change data after it sends or takes a view change, and after a new view begins its view.
use Rattle.std.proofs.Common.{◌≡◌, ◌≢◌, ℕ, suc, ◌+◌, ◌-◌, ◌≤◌, ◌<◌, ◌^◌, ◌⊎◌, inl, inr, Bool, true, false, cond, List, [], ◌∷◌, length, Option, Some, None, slice_get, refl, sym, ap, ◌∙◌, subst, arith, eqb-true}
use Rattle.std.specs.Prelude.{◌==◌, option_and_then}
use Rattle.std.specs.Option.{option_map_or}
use Rattle.std.proofs.lemmas.Bool.{eqb-false}
use Rattle.std.proofs.lemmas.List.{length-set}
use Rattle.wire_format.specs.Messages.{BodyData as Body, BatchEntryData as PqEntry, NewViewData, view_change as ViewChange, new_view as NewView}
use Rattle.wire_format.specs.Lists.{Each}
use Rattle.signing.specs.AuthenticBody.{authentic}
use Rattle.ordering.specs.Log as logs
use Rattle.ordering.specs.Log.{LogData}
use Rattle.ordering.proofs.Reading.{above_low}
use Rattle.protocol.specs.System.Configuration.{Configuration, primary, replicas, members}
use Rattle.protocol.specs.System.Trace.{Entry, Once, Has}
use Rattle.protocol.specs.System.Trace.Entry.{Got, Sent}
use Rattle.protocol.specs.Replica.Selection.{signed_change}
use Rattle.protocol.specs.Replica.Certificates.{view, checkpoint_from, taken, new_view_from, change_sent, change_from, low, is_in_marks, logged}
use Rattle.protocol.specs.Replica.RightReplica.{SendsBytes}
use Rattle.protocol.proofs.Words.Options.{some_injective}
use Rattle.protocol.proofs.Words.Elements.{each_has, has_weaker}
use Rattle.protocol.proofs.Agreement.Marks.{view_grows, takes}
use Rattle.protocol.proofs.Agreement.Voting.{logged_stays}
use Rattle.pq_sets.specs.PqSetsView.{pq_entry_of, IsAmongTexts}
use Rattle.pq_sets.specs.Recording.{with_logged, with_all, above_mark, IsLoggedAs, AddsPqEntries}
use Rattle.view_change.specs.ReceivedData.{HeldData, held_of, view_change_refusal, with_held}
use Rattle.replica_histories.specs.Logs.{LogStays}
use Rattle.replica_histories.specs.PqSets.{WasLogged}
use Rattle.replica_histories.specs.Views.{entered_log}
use Rattle.replica_histories.specs.Changes.{IsOwnView, LogPassesEntry, CutsPqSets, pq_entries_from, texts_in_marks, IsOwnFrame, ChangesAreSent, ChangesAreTaken, ChangesFollowNewViews}
use Rattle.replica_histories.proofs.Words.{apart, given_not, marks_are, marks_stay}
use Rattle.replica_histories.proofs.Logging.{none_taken}
use Rattle.replica_histories.proofs.OwnCheckpoints.{none_later}
use Rattle.replica_histories.proofs.Speaking.{heard_other}
use Rattle.replica_histories.proofs.Batches.{stays, entered_low, entered_view, entered_log_active, entered_batch}
use Rattle.replica_histories.proofs.Beginning.{Still, still_brings, still_commit, new_small, logged_cases, logged_here}
use Rattle.replica_histories.proofs.Changing.{same_logged}
use Rattle.replica_histories.proofs.PqSetsAdding.{no_batch_adds, no_commit_adds}
use Rattle.replica_histories.proofs.Leaves.{leaves_stay, leaves_remain, leaves_sent, leaves_spent}
use Rattle.replica_histories.proofs.Received.{put_there, put_elsewhere, received_stays, received_takes, received_own}
use Rattle.replica_histories.proofs.ChangesPassing.{pq_sets_are_above, pq_sets_pass, assigned_before, assigned_by_stays, own_stays, own_view_stays, changes_nothing, sends_none}
use Rattle.replica_histories.proofs.ChangesKept.{received_are_signed}

-- ---- a view change is sent

pub changes_are_sent : ChangesAreSent
changes_are_sent c me spent past log x own p known mine is_outgoing above spends f = record {
  leaves = leaves_spent x.spent spent past e spends f.leaves;
  signed = leaves_sent x.spent spent past e spends f.signed;
  own_latest = λ last is. let same : own ≡ last = some_injective own last (sym held_there ∙ is) in subst (λ (h : HeldData). h.change.view ≤ own.change.view) same (omega arith);
  target = (let newer = above in let was = f.target in let says = says_view in omega arith);
  pq_sets = pq_sets_pass c me past e log (logs.left log) x.pq_sets x.pq_sets [] [] p (no_commit_adds c me past e (λ v i. still_commit c me past e q v i me)) (no_batch_adds c me past e (same_logged c me past e q none))
      cuts.prepared cuts.logged (λ text has. inl has) f.pq_sets;
  received = received_own c me past x.held own mine is_place f.received;
  places = length-set x.held own.sender (Some own) ∙ f.places;
  assigned = λ new once at. f.assigned new (assigned_before c past e new none once) at;
  assigned_by = assigned_by_stays c past e log.view log.view x.assigned refl f.assigned_by;
  own_begins = f.own_begins;
  latest = none_later c me past e (ap (option_and_then checkpoint_from) is_outgoing.says) ∙ f.latest;
  own_change = λ rests. record { own = own; held = held_there; view = refl; sent = inl refl; is_outgoing = is_outgoing };
  own_view = λ frame is. own_view_stays c me past e log.view log.view frame refl (f.own_view frame is);
}
  where
    e : Entry
    e = Sent me own.frame

    q : Still c me past e
    q = still_brings c me past e me (ViewChange own.change) tt is_outgoing.says

    none : taken c past e ≡ None
    none = none_taken c past e (ap (option_and_then (new_view_from c)) is_outgoing.says)

    says_view : change_sent e ≡ own.change.view
    says_view = ap (λ (o : Option Body). option_map_or change_from o 0) is_outgoing.says

    cuts : CutsPqSets log.low x.pq_sets x.pq_sets
    cuts = pq_sets_are_above c me log past x.pq_sets p.fits f.pq_sets

    is_place : me < length x.held
    is_place = subst (λ (n : ℕ). me < n) (sym f.places) known

    held_there : held_of (with_held own x.held) me ≡ Some own
    held_there = subst (λ (r : ℕ). held_of (with_held own x.held) r ≡ Some own) mine (put_there x.held own.sender (Some own) (subst (λ (r : ℕ). r < length x.held) (sym mine) is_place))

-- ---- a view change is taken

pub changes_are_taken : ChangesAreTaken
changes_are_taken c me past log x s vc bytes p receives refused f = record {
  leaves = leaves_stay x.spent past e (λ sent leaf is now. absurd now) f.leaves;
  signed = leaves_remain x.spent past e f.signed;
  own_latest = λ own is. f.own_latest own (sym (put_elsewhere x.held s me (Some h) (λ same. signed.1 (sym same))) ∙ is);
  target = (let was = f.target in omega arith);
  pq_sets = pq_sets_pass c me past e log log x.pq_sets x.pq_sets [] [] p (no_commit_adds c me past e (λ v i. still_commit c me past e q v i me)) (no_batch_adds c me past e (same_logged c me past e q none))
      cuts.prepared cuts.logged (λ text has. inl has) f.pq_sets;
  received = received_takes c me s bytes past x.held vc signed.0 (subst (λ (v : ℕ). view_change_refusal c v x.held (s, vc) ≡ None) (sym p.fits.view) refused) (subst (λ (n : ℕ). s < n) (sym f.places) signed.2) f.received;
  places = length-set x.held s (Some h) ∙ f.places;
  assigned = λ new once at. f.assigned new (assigned_before c past e new none once) at;
  assigned_by = assigned_by_stays c past e log.view log.view x.assigned refl f.assigned_by;
  own_begins = f.own_begins;
  latest = none_later c me past e (ap (option_and_then checkpoint_from) receives) ∙ f.latest;
  own_change = λ rests. own_stays c me past e x (record x { held = with_held h x.held }) refl (put_elsewhere x.held s me (Some h) (λ same. signed.1 (sym same))) (f.own_change rests);
  own_view = λ frame is. own_view_stays c me past e log.view log.view frame refl (f.own_view frame is);
}
  where
    e : Entry
    e = Got me bytes

    h : HeldData
    h = record { sender = s; change = vc; frame = bytes }

    signed : (signed_change c bytes ≡ Some (s, vc)) × (s ≢ me) × (s < replicas c)
    signed = received_are_signed c me s vc bytes receives

    q : Still c me past e
    q = still_brings c me past e s (ViewChange vc) tt receives

    none : taken c past e ≡ None
    none = none_taken c past e (ap (option_and_then (new_view_from c)) receives)

    cuts : CutsPqSets log.low x.pq_sets x.pq_sets
    cuts = pq_sets_are_above c me log past x.pq_sets p.fits f.pq_sets

-- ---- Q with a new view's batches

next_place : (i j : ℕ) → suc i ≤ j → j - i ≡ suc (j - suc i)
next_place i j l = omega arith

no_place : (i : ℕ) → i - i ≡ 0
no_place i = omega arith

module _ (m : LogData) (v : ℕ) where
  -- each is of a batch at its number, within the marks
  each_pq_entry : (P : PqEntry → Type 0) (i : ℕ) (batches : List (List ℕ)) → ((j : ℕ) (batch : List ℕ) → i ≤ j → slice_get batches (j - i) ≡ Some batch → logs.is_in_marks m j ≡ true → P (pq_entry_of j v batch))
      → Each P (pq_entries_from m v i batches)
  each_pq_entry P i [] f = tt
  each_pq_entry P i (b ∷ batches) f = go (logs.is_in_marks m i) refl
      (each_pq_entry P (suc i) batches (λ j batch l is w. f j batch (omega arith) (ap (slice_get (b ∷ batches)) (next_place i j l) ∙ is) w))
    where
      go : (t : Bool) → logs.is_in_marks m i ≡ t → Each P (pq_entries_from m v (suc i) batches) → Each P (cond t (pq_entry_of i v b ∷ pq_entries_from m v (suc i) batches) (pq_entries_from m v (suc i) batches))
      go true w rest = (f i b (omega arith) (ap (slice_get (b ∷ batches)) (no_place i)) w, rest)
      go false w rest = rest

  -- and there is one for each of these
  has_pq_entry : (i j : ℕ) (batches : List (List ℕ)) (batch : List ℕ) → i ≤ j → slice_get batches (j - i) ≡ Some batch → logs.is_in_marks m j ≡ true
      → Has (λ x. x ≡ pq_entry_of j v batch) (pq_entries_from m v i batches)
  has_pq_entry i j [] batch l is w = absurd cc
  has_pq_entry i j (b ∷ batches) batch l is w = go (i == j) refl (has_pq_entry (suc i) j batches batch)
    where
      first : (t : Bool) → t ≡ true → pq_entry_of i v b ≡ pq_entry_of j v batch → Has (λ x. x ≡ pq_entry_of j v batch) (cond t (pq_entry_of i v b ∷ pq_entries_from m v (suc i) batches) (pq_entries_from m v (suc i) batches))
      first true w same = inl same
      first false w same = absurd cc

      later : (t : Bool) → Has (λ x. x ≡ pq_entry_of j v batch) (pq_entries_from m v (suc i) batches) → Has (λ x. x ≡ pq_entry_of j v batch) (cond t (pq_entry_of i v b ∷ pq_entries_from m v (suc i) batches) (pq_entries_from m v (suc i) batches))
      later true h = inr h
      later false h = h

      go : (t : Bool) → (i == j) ≡ t → (suc i ≤ j → slice_get batches (j - suc i) ≡ Some batch → logs.is_in_marks m j ≡ true → Has (λ x. x ≡ pq_entry_of j v batch) (pq_entries_from m v (suc i) batches))
          → Has (λ x. x ≡ pq_entry_of j v batch) (pq_entries_from m v i (b ∷ batches))
      go true e rest =
          let same : i ≡ j = eqb-true i j e in
          let at : j - i ≡ 0 = omega arith in
          let text : b ≡ batch = some_injective b batch (ap (slice_get (b ∷ batches)) (sym at) ∙ is) in
          first (logs.is_in_marks m i) (subst (λ (n : ℕ). logs.is_in_marks m n ≡ true) (sym same) w)
          (ap (λ (n : ℕ). pq_entry_of n v b) same ∙ ap (pq_entry_of j v) text)
      go false e rest =
          let other = eqb-false i j e in
          let over : suc i ≤ j = above l other in
          later (logs.is_in_marks m i) (rest over (ap (slice_get (b ∷ batches)) (sym (next_place i j over)) ∙ is) w)
        where
          above : i ≤ j → i ≢ j → suc i ≤ j
          above l n = omega arith

  -- a text is that of a batch at a number within the marks
  record IsThere (i : ℕ) (batches : List (List ℕ)) (text : List ℕ) : Type 0 where
    number : ℕ
    above : i ≤ number
    is : slice_get batches (number - i) ≡ Some text
    inside : logs.is_in_marks m number ≡ true

  text_there : (i : ℕ) (batches : List (List ℕ)) (text : List ℕ) → IsAmongTexts (texts_in_marks m i batches) text → IsThere i batches text
  text_there i [] text h = absurd h
  text_there i (b ∷ batches) text h = go (logs.is_in_marks m i) refl h (text_there (suc i) batches text)
    where
      later : IsThere (suc i) batches text → IsThere i (b ∷ batches) text
      later r =
          let over = r.above in
          record { number = r.number; above = omega arith; is = ap (slice_get (b ∷ batches)) (next_place i r.number over) ∙ r.is; inside = r.inside }

      go : (t : Bool) → logs.is_in_marks m i ≡ t → IsAmongTexts (cond t (b ∷ texts_in_marks m (suc i) batches) (texts_in_marks m (suc i) batches)) text → (IsAmongTexts (texts_in_marks m (suc i) batches) text → IsThere (suc i) batches text) → IsThere i (b ∷ batches) text
      go true w (inl same) rest = record { number = i; above = omega arith; is = ap (slice_get (b ∷ batches)) (no_place i) ∙ ap Some same; inside = w }
      go true w (inr k) rest = later (rest k)
      go false w k rest = later (rest k)

-- ---- a new view begins

-- no new view that the replica took is of a later view
taken_at_most : (c : Configuration) (new : NewViewData) (past : List Entry) → Once (λ past e. taken c past e ≡ Some new) past → new.view ≤ view c past
taken_at_most c new [] h = absurd h
taken_at_most c new (e ∷ past) (inl h) = let is = (takes c 0 past e new h).view_is in omega arith
taken_at_most c new (e ∷ past) (inr h) = let most = taken_at_most c new past h in let grows = view_grows c e past in omega arith

module _ (c : Configuration) (me : ℕ) (past : List Entry) (e : Entry) (log : LogData) (new : NewViewData) (p : LogPassesEntry c me past e log (entered_log log new)) (t : taken c past e ≡ Some new) (q : Still c me past e) where
  abbrev cut_log : LogData
  cut_log = logs.cut_to (logs.entered log new.view) new.start

  small : new.start < 2 ^ 48
  small = new_small c me log past e new p.fits q t

  keeps : LogStays cut_log (entered_log log new)
  keeps = stays log new p.fits.is_log small

  marks_behind : (i : ℕ) → is_in_marks c (low c me (e ∷ past)) i ≡ logs.is_in_marks cut_log i
  marks_behind i = marks_are c me (entered_log log new) (e ∷ past) i p.fits_behind ∙ marks_stay cut_log (entered_log log new) i keeps

  in_assigned : (i : ℕ) → logs.is_in_marks cut_log i ≡ true → logs.is_in_marks (entered_log log new) i ≡ true
  in_assigned i w = marks_stay cut_log (entered_log log new) i keeps ∙ w

  -- within the marks its batches are logged
  assigned_here : (i : ℕ) → logs.is_in_marks cut_log i ≡ true → (logged c me (e ∷ past) new.view i ≡ slice_get new.batches (i - suc new.start)) × (suc new.start ≤ i)
  assigned_here i w =
      let over = above_low (entered_log log new) i (in_assigned i w) in
      let is = entered_low log new p.fits.is_log small in
      let above : new.start < i = omega arith in
      (logged_here c me log past e new p.fits q t i (in_assigned i w) ∙ entered_batch log new p.fits.is_log small i (in_assigned i w) above, above)

  batches_add : AddsPqEntries (IsLoggedAs c me past) (IsLoggedAs c me (e ∷ past)) (is_in_marks c (low c me (e ∷ past))) (pq_entries_from cut_log new.view (suc new.start) new.batches)
  batches_add = record {
    stays = λ v i digest h. (h.0, logged_stays c me v i h.0 e past h.1, h.2);
    new = each_pq_entry cut_log new.view (λ pq_entry. IsLoggedAs c me (e ∷ past) pq_entry.view pq_entry.number pq_entry.digest × (is_in_marks c (low c me (e ∷ past)) pq_entry.number ≡ true)) (suc new.start) new.batches
        (λ j batch l is w. ((batch, (assigned_here j w).0 ∙ is, refl), marks_behind j ∙ w));
    only = λ v i digest w h. only v i digest w h (logged_cases c me log past e new p.fits q t v i h.0 h.1);
  }
    where
      only : (v i : ℕ) (digest : List ℕ) → is_in_marks c (low c me (e ∷ past)) i ≡ true → (h : IsLoggedAs c me (e ∷ past) v i digest)
          → (logged c me past v i ≡ Some h.0) ⊎ ((v ≡ new.view) × (logs.is_in_marks (entered_log log new) i ≡ true))
          → IsLoggedAs c me past v i digest ⊎ Has (λ pq_entry. (pq_entry.view ≡ v) × (pq_entry.number ≡ i) × (pq_entry.digest ≡ digest)) (pq_entries_from cut_log new.view (suc new.start) new.batches)
      only v i digest w h (inl k) = inl (h.0, k, h.2)
      only v i digest w h (inr k) =
          let inside : logs.is_in_marks cut_log i ≡ true = sym (marks_behind i) ∙ w in
          let here = assigned_here i inside in
          let is : slice_get new.batches (i - suc new.start) ≡ Some h.0 = sym here.0 ∙ subst (λ (y : ℕ). logged c me (e ∷ past) y i ≡ Some h.0) k.0 h.1 in
          inr (has_weaker (λ (pq_entry : PqEntry). pq_entry ≡ pq_entry_of i new.view h.0) (λ (pq_entry : PqEntry). (pq_entry.view ≡ v) × (pq_entry.number ≡ i) × (pq_entry.digest ≡ digest))
          (λ pq_entry same. (ap (λ (y : PqEntry). y.view) same ∙ sym k.0, ap (λ (y : PqEntry). y.number) same, ap (λ (y : PqEntry). y.digest) same ∙ h.2))
          (pq_entries_from cut_log new.view (suc new.start) new.batches) (has_pq_entry cut_log new.view (suc new.start) i new.batches h.0 here.1 is inside))

  text_logged : (text : List ℕ) → IsAmongTexts (texts_in_marks cut_log (suc new.start) new.batches) text → WasLogged c me (e ∷ past) text
  text_logged text h = let r = text_there cut_log new.view (suc new.start) new.batches text h in (new.view, r.number, (assigned_here r.number r.inside).0 ∙ r.is)

pub changes_follow_new_views : ChangesFollowNewViews
changes_follow_new_views c me past e log x new frame pq_sets s spent p t brings begins own spends f = record {
  leaves = leaves_spent x.spent spent past e spends f.leaves;
  signed = leaves_sent x.spent spent past e spends f.signed;
  own_latest = f.own_latest;
  target = (let still = sends_none c e s (NewView new) brings refl in let was = f.target in omega arith);
  pq_sets = pq_sets_pass c me past e log (entered_log log new) x.pq_sets pq_sets [] (pq_entries_from (cut_log c me past e log new p t q) new.view (suc new.start) new.batches) p
      (no_commit_adds c me past e (λ v i. still_commit c me past e q v i me)) (batches_add c me past e log new p t q)
      (begins.adds.prepared ∙ begins.cuts.prepared ∙ ap (λ (h : ℕ). above_mark h x.pq_sets.prepared) (sym low_same))
      (begins.adds.logged ∙ ap (with_all with_logged (pq_entries_from (cut_log c me past e log new p t q) new.view (suc new.start) new.batches)) (begins.cuts.logged ∙ ap (λ (h : ℕ). above_mark h x.pq_sets.logged) (sym low_same)))
      texts f.pq_sets;
  received = received_stays c me past e x.held (λ r other. changes_nothing c past e (record { sender = s; message = NewView new }) r brings refl) f.received;
  places = f.places;
  assigned = assigned;
  assigned_by = inr (new, inl t, sym view_is, refl);
  own_begins = λ mine. own_begins frame own (ap (primary c) (sym view_is) ∙ mine);
  latest = none_later c me past e (ap (option_and_then checkpoint_from) brings) ∙ f.latest;
  own_change = λ rests. absurd (apart (entered_log log new).active (entered_log_active log new p.fits.is_log (small c me past e log new p t q)) rests);
  own_view = λ text is. own_view text (subst (IsOwnFrame c me e new) is own);
}
  where
    q : Still c me past e
    q = still_brings c me past e s (NewView new) tt brings

    view_is : (entered_log log new).view ≡ new.view
    view_is = entered_view log new p.fits.is_log (small c me past e log new p t q)

    low_same : (entered_log log new).low ≡ (logs.cut_to (logs.entered log new.view) new.start).low
    low_same = (keeps c me past e log new p t q).low

    texts : (text : List ℕ) → IsAmongTexts pq_sets.texts text → IsAmongTexts x.pq_sets.texts text ⊎ WasLogged c me (e ∷ past) text
    texts text has = pick (each_has (λ y. IsAmongTexts begins.mid.texts y ⊎ IsAmongTexts (texts_in_marks (cut_log c me past e log new p t q) (suc new.start) new.batches) y) pq_sets.texts text begins.adds.texts has)
      where
        pick : IsAmongTexts begins.mid.texts text ⊎ IsAmongTexts (texts_in_marks (cut_log c me past e log new p t q) (suc new.start) new.batches) text → IsAmongTexts x.pq_sets.texts text ⊎ WasLogged c me (e ∷ past) text
        pick (inl k) = inl (each_has (IsAmongTexts x.pq_sets.texts) begins.mid.texts text begins.cuts.texts k)
        pick (inr k) = inr (text_logged c me past e log new p t q text k)

    assigned : (other : NewViewData) → Once (λ past e. taken c past e ≡ Some other) (e ∷ past) → other.view ≡ (entered_log log new).view → other.start + length other.batches ≤ new.start + length new.batches
    assigned other (inl h) at =
        let same : other ≡ new = some_injective other new (sym h ∙ t) in
        subst (λ (y : NewViewData). y.start + length y.batches ≤ new.start + length new.batches) (sym same) (omega arith)
    assigned other (inr h) at =
        let most = taken_at_most c other past h in
        let over = (takes c me past e new t).above in
        let is = view_is in
        absurd (omega arith)

    own_view : (text : List ℕ) → IsOwnFrame c me e new (Some text) → IsOwnView c me (entered_log log new).view (e ∷ past) text
    own_view text k = record { new = new; view = sym view_is; primary = k.1; sent = inl (subst (SendsBytes text past) (sym k.0) refl); is_outgoing = k.2 }

    own_begins : (o : Option (List ℕ)) → IsOwnFrame c me e new o → primary c new.view ≡ me → ((entered_log log new).view ≡ 0) ⊎ ((text : List ℕ) × (o ≡ Some text))
    own_begins None other mine = absurd (other mine)
    own_begins (Some text) k mine = inr (text, refl)

-- a received new view is of another primary
pub not_mine : (c : Configuration) (me : ℕ) (past : List Entry) (s : ℕ) (new : NewViewData) (bytes : List ℕ) → authentic (members c me) me bytes ≡ Some (record { sender = s; message = NewView new }) → taken c past (Got me bytes) ≡ Some new
    → primary c new.view ≢ me
not_mine c me past s new bytes h t mine = go (s == primary c new.view) refl
  where
    go : (b : Bool) → (s == primary c new.view) ≡ b → ⊥
    go true e = heard_other c me bytes (record { sender = s; message = NewView new }) h (eqb-true s (primary c new.view) e ∙ mine)
    go false e = given_not (taken c past (Got me bytes)) new t (none_taken c past (Got me bytes) (ap (option_and_then (new_view_from c)) h ∙ rw e refl))
