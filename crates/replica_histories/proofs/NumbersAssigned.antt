-- A new view begins a view: the requests in its batches have numbers in it, and no others.
use Rattle.std.proofs.Common.{◌≡◌, ℕ, zero, suc, ◌+◌, ◌-◌, ◌^◌, ◌≤◌, ◌<◌, ◌⊎◌, inl, inr, Bool, true, false, ◌&&◌, List, [], ◌∷◌, length, map, slice_get, is_some, refl, sym, ap, ◌∙◌, subst, arith, Option, Some, None, eq-eqb}
use Rattle.std.specs.Prelude.{◌==◌, nat_lt, nat_le, option_and_then}
use Rattle.std.specs.List.{filter_map, flat_map, cons_option}
use Rattle.std.proofs.lemmas.Bool.{and_from, lt-ltb, le-leb}
use Rattle.wire_format.specs.Messages.{MessageData as Message, NewViewData}
use Rattle.wire_format.specs.Words.{requests_of}
use Rattle.wire_format.specs.Lists.{Each}
use Rattle.wire.proofs.Skipping.{none_chosen}
use Rattle.protocol.specs.System.Configuration.{Configuration, span}
use Rattle.protocol.specs.System.Trace.{Entry, Has, either}
use Rattle.protocol.specs.Replica.Certificates.{brought, view, taken, new_view_from, low, is_in_marks, counts_at, batch_from, assigned_batch, assigned_proposal, entry_proposal, proposal, logged}
use Rattle.protocol.specs.Replica.State.{Call, call_of}
use Rattle.protocol.specs.Replica.Owed.{IsOfView, HasRequest, IsNumbered}
use Rattle.protocol.proofs.Words.Options.{and_then_some, some_injective, or_else_second, or_else_alone}
use Rattle.protocol.proofs.Words.Elements.{has_some, has_weaker, has_left, has_right, has_either, has_map, has_mapped, each_mapped, each_where}
use Rattle.protocol.proofs.Agreement.Marks.{takes, begins, few_batches, selected_in, proposes}
use Rattle.replica_histories.specs.Numbers.{Waiting, AssignedCall, assigned_in, is_assigned, arrived, IsInNewView, CallHasNumber, CallHasNoNumber, IsRightly, AreOfNoLaterView, LogsAreOfNoLaterView, LaterNumberNothing, ViewsBegin}
use Rattle.replica_histories.proofs.Words.{passed, apart, given_not}
use Rattle.replica_histories.proofs.NumbersLists.{IsAt, Spells}
use Rattle.replica_histories.proofs.NumbersFlags.{assigned_is, is_assigned_where}

-- ---- views above the current one

pub logs_are_of_no_later_view : LogsAreOfNoLaterView
logs_are_of_no_later_view c me log history f = record {
  logged = λ v i batch h. subst (λ (n : ℕ). v ≤ n) (sym f.view) (f.within v i batch h).view;
  begins = λ v batch h. subst (λ (n : ℕ). v ≤ n) (sym f.view) (f.begins v batch h);
}

of_no_later : (c : Configuration) (me v : ℕ) (batch : List ℕ) (history : List Entry) → AreOfNoLaterView c me history → IsOfView c me history v batch → v ≤ view c history
of_no_later c me v batch history none (inl (i, h)) = none.logged v i batch h
of_no_later c me v batch history none (inr h) = none.begins v batch h

pub later_number_nothing : LaterNumberNothing
later_number_nothing c me v client timestamp history none above (batch, of, has) =
    let below = of_no_later c me v batch history none of in omega (arith, above, below)

-- ---- the calls in its batches

given_mapped : {A B : Type 0} (P : B → Type 0) (h : A → Option B) (xs : List A) → Has P (filter_map h xs) → Has (λ x. (y : B) × (h x ≡ Some y) × P y) xs
given_mapped P h [] k = k
given_mapped P h (x ∷ xs) k = go (h x) refl k (given_mapped P h xs)
  where
    go : (o : Option _) → h x ≡ o → Has P (cons_option o (filter_map h xs)) → (Has P (filter_map h xs) → Has (λ x. (y : _) × (h x ≡ Some y) × P y) xs)
        → ((y : _) × (h x ≡ Some y) × P y) ⊎ Has (λ x. (y : _) × (h x ≡ Some y) × P y) xs
    go None e k below = inr (below k)
    go (Some y) e (inl k) below = inl (y, e, k)
    go (Some y) e (inr k) below = inr (below k)

mapped_given : {A B : Type 0} (P : B → Type 0) (h : A → Option B) (xs : List A) → Has (λ x. (y : B) × (h x ≡ Some y) × P y) xs → Has P (filter_map h xs)
mapped_given P h [] k = k
mapped_given P h (x ∷ xs) k = go (h x) refl k (mapped_given P h xs)
  where
    go : (o : Option _) → h x ≡ o → ((y : _) × (h x ≡ Some y) × P y) ⊎ Has (λ x. (y : _) × (h x ≡ Some y) × P y) xs
        → (Has (λ x. (y : _) × (h x ≡ Some y) × P y) xs → Has P (filter_map h xs)) → Has P (cons_option o (filter_map h xs))
    go None e (inl (y, is, p)) below = absurd (given_not (h x) y is e)
    go (Some z) e (inl (y, is, p)) below = inl (subst P (some_injective y z (sym is ∙ e)) p)
    go None e (inr k) below = below k
    go (Some z) e (inr k) below = inr (below k)

has_joined : {A B : Type 0} (P : B → Type 0) (f : A → List B) (xs : List A) → Has P (flat_map f xs) → Has (λ x. Has P (f x)) xs
has_joined P f [] h = h
has_joined P f (x ∷ xs) h = go (has_either P (f x) (flat_map f xs) h) (has_joined P f xs)
  where
    go : Has P (f x) ⊎ Has P (flat_map f xs) → (Has P (flat_map f xs) → Has (λ y. Has P (f y)) xs) → Has P (f x) ⊎ Has (λ y. Has P (f y)) xs
    go (inl k) below = inl k
    go (inr k) below = inr (below k)

joined_has : {A B : Type 0} (P : B → Type 0) (f : A → List B) (xs : List A) → Has (λ x. Has P (f x)) xs → Has P (flat_map f xs)
joined_has P f [] h = h
joined_has P f (x ∷ xs) (inl h) = has_left P (f x) (flat_map f xs) h
joined_has P f (x ∷ xs) (inr h) = has_right P (f x) (flat_map f xs) (joined_has P f xs h)

module _ (c : Configuration) (client timestamp : ℕ) where
  abbrev IsGiven : List ℕ → Type 0
  IsGiven = λ frame. (call : Call) × (call_of c frame ≡ Some call) × IsAt client timestamp call

  abbrev assigned_by : Call → AssignedCall
  assigned_by = λ call. record { client = call.client; timestamp = call.timestamp }

  abbrev IsIt : AssignedCall → Type 0
  IsIt = λ b. (b.client ≡ client) × (b.timestamp ≡ timestamp)

  -- the new view has a call if some batch has its request
  in_batches : (batches : List (List ℕ)) → IsInNewView (assigned_in c batches) client timestamp → Has (HasRequest c client timestamp) batches
  in_batches batches h =
      let calls = has_map IsIt assigned_by (filter_map (call_of c) (flat_map requests_of batches)) h in
      let frames = given_mapped (IsAt client timestamp) (call_of c) (flat_map requests_of batches) calls in
      has_weaker (λ batch. Has IsGiven (requests_of batch)) (HasRequest c client timestamp)
      (λ batch. has_weaker IsGiven (Spells c client timestamp) (λ frame x. (x.0, x.1, x.2.0, x.2.1)) (requests_of batch)) batches
      (has_joined IsGiven requests_of batches frames)

  of_batches : (batches : List (List ℕ)) → Has (HasRequest c client timestamp) batches → IsInNewView (assigned_in c batches) client timestamp
  of_batches batches h =
      has_mapped IsIt assigned_by (filter_map (call_of c) (flat_map requests_of batches))
      (mapped_given (IsAt client timestamp) (call_of c) (flat_map requests_of batches) (joined_has IsGiven requests_of batches
      (has_weaker (HasRequest c client timestamp) (λ batch. Has IsGiven (requests_of batch))
      (λ batch. has_weaker (Spells c client timestamp) IsGiven (λ frame x. (x.0, x.1, (x.2, x.3))) (requests_of batch)) batches h)))

-- ---- logged batches

given_at : (xs : List (List ℕ)) (k : ℕ) → k < length xs → (x : List ℕ) × (slice_get xs k ≡ Some x)
given_at [] k l = absurd (omega (arith, l))
given_at (x ∷ xs) zero l = (x, refl)
given_at (x ∷ xs) (suc k) l = given_at xs k (omega (arith, l))

get_has : (a : List ℕ) (xs : List (List ℕ)) (k : ℕ) → slice_get xs k ≡ Some a → Has (λ x. x ≡ a) xs
get_has a [] k h = absurd cc
get_has a (x ∷ xs) zero h = inl (some_injective x a h)
get_has a (x ∷ xs) (suc k) h = inr (get_has a xs k h)

module _ (c : Configuration) (me : ℕ) (past : List Entry) (e : Entry) (new : NewViewData) (enters : taken c past e ≡ Some new) (none : AreOfNoLaterView c me past) where
  abbrev now : List Entry
  now = e ∷ past

  abbrev used : ℕ
  used = new.start + length new.batches

  above : view c past < new.view
  above = (takes c me past e new enters).above

  start_low : new.start ≤ low c me now
  start_low = (takes c me past e new enters).low_is

  -- it brings no pre-prepare
  no_entry : (i : ℕ) → entry_proposal c me past e new.view i ≡ None
  no_entry i =
      let r = and_then_some (new_view_from c) (brought c e) new (takes c me past e new enters).brought in
      let message = (begins c r.0 new r.2).message_is in
      none_chosen (counts_at c me past e new.view i) (option_and_then (batch_from c me new.view i) (brought c e))
      (ap (option_and_then (batch_from c me new.view i)) r.1 ∙ ap (λ (m : Message). batch_from c me new.view i (record { sender = r.0.sender; message = m })) message)

  -- and no batch was logged before
  nothing_logged : (i : ℕ) → logged c me past new.view i ≡ None
  nothing_logged i = go (logged c me past new.view i) refl
    where
      go : (o : Option (List ℕ)) → logged c me past new.view i ≡ o → o ≡ None
      go None h = refl
      go (Some batch) h = let below = none.logged new.view i batch h in let over = above in absurd (omega (arith, over, below))

  logged_assigned : (i : ℕ) → logged c me now new.view i ≡ assigned_proposal c me past e new.view i
  unfolding logged
  logged_assigned i =
      or_else_second (logged c me past new.view i) (proposal c me past e new.view i) (nothing_logged i)
      ∙ or_else_alone (assigned_proposal c me past e new.view i) (entry_proposal c me past e new.view i) (no_entry i)

  proposed : (i : ℕ) (batch : List ℕ) → assigned_proposal c me past e new.view i ≡ Some batch → assigned_batch new.view i new ≡ Some batch
  proposed i batch h =
      let p = passed (is_in_marks c (low c me now) i) (option_and_then (assigned_batch new.view i) (taken c past e)) batch h in
      ap (option_and_then (assigned_batch new.view i)) (sym enters) ∙ p.1

  -- nothing above its last batch
  free : (j : ℕ) → used < j → logged c me now new.view j ≡ None
  free j higher = logged_assigned j ∙ go (assigned_proposal c me past e new.view j) refl
    where
      go : (o : Option (List ℕ)) → assigned_proposal c me past e new.view j ≡ o → o ≡ None
      go None h = refl
      go (Some batch) h =
          let p = proposes c new.view j new batch (proposed j batch h) in
          let start = p.above in
          let within = p.within in
          absurd (omega (arith, higher, start, within))

  -- each number above the low mark up to it is logged
  full : (j : ℕ) → low c me now < j → j ≤ used → is_some (logged c me now new.view j) ≡ true
  full j over upto =
      let start = start_low in
      let most = few.0 in
      let batch = given_at new.batches (j - new.start - 1) (omega (arith, over, start, upto)) in
      let small = few.1 j (omega (arith, over, start)) (omega (arith, over, start, upto)) in
      let marks : is_in_marks c (low c me now) j ≡ true =
      and_from (nat_lt (low c me now) j && nat_le j (low c me now + span c)) (nat_lt j (2 ^ 48))
      (and_from (nat_lt (low c me now) j) (nat_le j (low c me now + span c)) (lt-ltb (low c me now) j over) (le-leb j (low c me now + span c) (omega (arith, start, most, upto))))
      (lt-ltb j (2 ^ 48) small) in
      let assigned : assigned_batch new.view j new ≡ Some batch.0 = rw (eq-eqb new.view new.view refl, lt-ltb new.start j (omega (arith, over, start))) batch.1 in
      let there : assigned_proposal c me past e new.view j ≡ Some batch.0 = rw marks (ap (option_and_then (assigned_batch new.view j)) enters ∙ assigned) in
      ap is_some (logged_assigned j ∙ there)
    where
      few : (length new.batches ≤ span c) × ((i : ℕ) → new.start < i → i - new.start - 1 < length new.batches → i < 2 ^ 48)
      few = few_batches c new (selected_in c e new (takes c me past e new enters).brought)

  -- ---- which requests have a number

  assigned_has : (i : ℕ) (batch : List ℕ) → assigned_batch new.view i new ≡ Some batch → Has (λ x. x ≡ batch) new.batches
  assigned_has i batch h = get_has batch new.batches (i - new.start - 1) (passed ((new.view == new.view) && nat_lt new.start i) (slice_get new.batches (i - new.start - 1)) batch h).1

  of_view : (batch : List ℕ) → IsOfView c me now new.view batch → Has (λ x. x ≡ batch) new.batches
  of_view batch (inl (i, h)) = assigned_has i batch (proposed i batch (sym (logged_assigned i) ∙ h))
  of_view batch (inr (inl (other, taken_is, view_is, has))) =
      subst (λ (x : NewViewData). Has (λ y. y ≡ batch) x.batches) (some_injective other new (sym taken_is ∙ enters)) has
  of_view batch (inr (inr before)) = let below = none.begins new.view batch before in let over = above in absurd (omega (arith, over, below))

  known : (client timestamp : ℕ) → IsNumbered c me now new.view client timestamp → IsInNewView (assigned_in c new.batches) client timestamp
  known client timestamp (batch, of, has) = of_batches c client timestamp new.batches
      (has_weaker (λ x. x ≡ batch) (HasRequest c client timestamp) (λ x same. subst (HasRequest c client timestamp) (sym same) has) new.batches (of_view batch of))

  numbered : (client timestamp : ℕ) → IsInNewView (assigned_in c new.batches) client timestamp → IsNumbered c me now new.view client timestamp
  numbered client timestamp h =
      let x = has_some (HasRequest c client timestamp) new.batches (in_batches c client timestamp new.batches h) in
      (x.0, inr (inl (new, enters, refl, x.1)), x.2)

  rightly : (call : Call) → IsRightly c me new.view now (arrived (assigned_in c new.batches) call)
  rightly call = go (is_assigned (assigned_in c new.batches) call) refl
    where
      go : (b : Bool) → is_assigned (assigned_in c new.batches) call ≡ b → either b (CallHasNumber c me new.view now call) (CallHasNoNumber c me new.view now call)
      go true h = numbered call.client call.timestamp (assigned_is (assigned_in c new.batches) call h)
      go false h = λ has. apart (is_assigned (assigned_in c new.batches) call) (is_assigned_where (assigned_in c new.batches) call (known call.client call.timestamp has)) h

  each_assigned : Each (λ b. IsNumbered c me now new.view b.client b.timestamp) (assigned_in c new.batches)
  each_assigned = each_where (λ b. IsNumbered c me now new.view b.client b.timestamp) (assigned_in c new.batches)
      (λ b has. numbered b.client b.timestamp (has_weaker (λ x. x ≡ b) (λ x. (x.client ≡ b.client) × (x.timestamp ≡ b.timestamp))
      (λ x same. (ap (λ (y : AssignedCall). y.client) same, ap (λ (y : AssignedCall). y.timestamp) same)) (assigned_in c new.batches) has))

calls_arrived : (assigned : List AssignedCall) (calls : List Call) → map (λ (w : Waiting). w.call) (map (arrived assigned) calls) ≡ calls
calls_arrived assigned [] = refl
calls_arrived assigned (x ∷ calls) = ap (λ ys. x ∷ ys) (calls_arrived assigned calls)

pub views_begin : ViewsBegin
views_begin c me st waiting past e new enters none differ = record {
  calls = calls_arrived (assigned_in c new.batches) waiting;
  free = free c me past e new enters none;
  full = full c me past e new enters none;
  rightly = each_mapped (IsRightly c me new.view (e ∷ past)) (arrived (assigned_in c new.batches)) waiting
      (each_where (λ call. IsRightly c me new.view (e ∷ past) (arrived (assigned_in c new.batches) call)) waiting (λ call has. rightly c me past e new enters none call));
  numbered = each_assigned c me past e new enters none;
  known = λ client timestamp h. inr (known c me past e new enters none client timestamp h);
  differ = differ;
}
