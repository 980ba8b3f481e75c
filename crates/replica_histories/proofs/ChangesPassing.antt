-- A replica's view-change data stay if an entry changes nothing. Each batch that is logged or committed enters Q or P.
use Rattle.std.proofs.Common.{◌≡◌, ◌≢◌, ℕ, zero, suc, ◌+◌, ◌^◌, ◌⊎◌, inl, inr, Bool, true, false, cond, ◌&&◌, List, [], ◌∷◌, length, filter, replicate, Option, Some, None, is_none, refl, sym, ap, ◌∙◌, subst, arith, eq-eqb}
use Rattle.std.specs.Prelude.{◌==◌, nat_lt, nat_le, option_and_then}
use Rattle.std.specs.Bool.{then_some}
use Rattle.std.specs.Option.{option_map_or}
use Rattle.std.proofs.lemmas.Bool.{and_parts, ne_eqb}
use Rattle.wire_format.specs.Messages.{BodyData as Body, MessageData as Message, BatchEntryData as PqEntry, NewViewData, CheckpointEntryData as CheckpointEntry, pre_prepare as PrePrepare, commit as Commit}
use Rattle.wire_format.specs.Words.{said}
use Rattle.wire.proofs.Skipping.{none_chosen}
use Rattle.signing.specs.AuthenticBody.{signed_body}
use Rattle.ordering.specs.Log as logs
use Rattle.ordering.specs.Log.{LogData}
use Rattle.ordering.proofs.Reading.{batches_are_logged}
use Rattle.protocol.specs.System.Configuration.{Configuration, primary, replicas, span, signers}
use Rattle.protocol.specs.System.Trace.{Entry, Once, Has}
use Rattle.protocol.specs.System.Trace.Entry.{Got, Sent}
use Rattle.protocol.specs.Replica.Selection.{change_in, signed_change}
use Rattle.protocol.specs.Replica.Certificates.{brought, checkpoint_from, taken, new_view_from, change_sent, change_from, counts_at, low, is_in_marks, logged, commit_from, commit_of, vote_in, latest_change}
use Rattle.protocol.specs.Replica.Owed.{latest_checkpoint}
use Rattle.protocol.proofs.Words.Options.{some_injective, or_else_alone, or_else_second}
use Rattle.protocol.proofs.Words.Elements.{each_has, each_where}
use Rattle.protocol.proofs.Words.Plain.{Plain, said_plain, taken_none, plain_target, plain_low}
use Rattle.protocol.proofs.Words.Linking.{heard_said, signed_said}
use Rattle.pq_sets.specs.PqSetsView.{PqSetsData, pq_entry_of, IsAmongTexts}
use Rattle.pq_sets.specs.Recording.{with_prepared, with_logged, with_all, above_mark, IsLoggedAs, AddsPqEntries}
use Rattle.view_change.specs.ReceivedData.{HeldData, held_of}
use Rattle.protocol.proofs.Words.Reacting.{proceeds_leaves}
use Rattle.replica_histories.specs.Desk.{point_of}
use Rattle.replica_histories.specs.Events.{start_at}
use Rattle.replica_histories.specs.PqSets.{SentCommit, WasLogged, FitsPqSets}
use Rattle.replica_histories.specs.Numbers.{is_pre_prepare}
use Rattle.replica_histories.specs.Changes.{Changes, HasOwnChange, IsOwnView, IsAssignedUpTo, FitsChanges, IsSameView, KeepsViews, LogPassesEntry, CutsPqSets, OutputsPass, InputsEnter, PqSetsAreAbove, ChangesBegin, ChangesStay, CommitsEnterP, BatchesEnterQ}
use Rattle.replica_histories.proofs.Words.{passed, given_not, marks_are}
use Rattle.replica_histories.proofs.Certified.{is_prepared_in}
use Rattle.replica_histories.proofs.Logging.{none_taken}
use Rattle.replica_histories.proofs.Ending.{steps_leave}
use Rattle.replica_histories.proofs.NumbersKept.{view_of, number_of, proposal_said, logged_same}
use Rattle.replica_histories.proofs.PqSets.{pq_sets_begin, pq_sets_grow}
use Rattle.replica_histories.proofs.PqSetsAdding.{no_batch_adds, no_commit_adds, batch_adds, commit_adds}
use Rattle.replica_histories.proofs.Leaves.{leaves_stay, leaves_remain, unsigned_sends_none}
use Rattle.replica_histories.proofs.OwnCheckpoints.{none_first, none_later}
use Rattle.replica_histories.proofs.Received.{none_held, received_begin, received_stays, sent_bring_none, unsigned_bring_none}

-- ---- the logs, at an entry

pub outputs_pass : OutputsPass
outputs_pass c me s desk later log after due rest outputs e f g = record {
  old = point_of desk f.of_desk.states f.of_desk.ran;
  new = point_of later g.of_desk.states g.of_desk.ran;
  leaves = steps_leave c me s outputs (point_of desk f.of_desk.states f.of_desk.ran) f.of_desk.leaves f.of_desk.steps;
  goes = steps_leave c me s (e ∷ outputs) (point_of later g.of_desk.states g.of_desk.ran) g.of_desk.leaves g.of_desk.steps;
  fits = f.of_log;
  fits_behind = g.of_log;
}

pub inputs_enter : InputsEnter
inputs_enter c me desk later log after due past input held g = record {
  old = held.of_desk.point;
  new = point_of later g.of_desk.states g.of_desk.ran;
  leaves = proceeds_leaves c me past [] held.of_desk.point held.of_desk.point held.of_desk.proceeds;
  goes = steps_leave c me (start_at c me desk log past held input) [] (point_of later g.of_desk.states g.of_desk.ran) g.of_desk.leaves g.of_desk.steps;
  fits = held.of_log.fits;
  fits_behind = g.of_log;
}

-- ---- P and Q

all_kept : {A : Type 0} (test : A → Bool) (xs : List A) → ((x : A) → Has (λ y. y ≡ x) xs → test x ≡ true) → xs ≡ filter test xs
all_kept test [] f = refl
all_kept {A} test (x ∷ xs) f = go (test x) (f x (inl refl)) (all_kept test xs (λ y has. f y (inr has)))
  where
    go : (b : Bool) → b ≡ true → xs ≡ filter test xs → (x ∷ xs) ≡ cond b (x ∷ filter test xs) (filter test xs)
    go true h same = ap (λ (ys : List A). x ∷ ys) same
    go false h same = absurd cc

over_low : (c : Configuration) (h i : ℕ) → is_in_marks c h i ≡ true → nat_lt h i ≡ true
over_low c h i k = (and_parts (nat_lt h i) (nat_le i (h + span c)) (and_parts (nat_lt h i && nat_le i (h + span c)) (nat_lt i (2 ^ 48)) k).0).0

pub pq_sets_are_above : PqSetsAreAbove
pq_sets_are_above c me log history pq_sets f fits = record {
  prepared = all_kept (λ (x : PqEntry). nat_lt log.low x.number) pq_sets.prepared (λ x has. at x.number (fits.prepared.listed x has).1);
  logged = all_kept (λ (x : PqEntry). nat_lt log.low x.number) pq_sets.logged (λ x has. at x.number (fits.logged.listed x has).1);
  texts = each_where (IsAmongTexts pq_sets.texts) pq_sets.texts (λ text has. has);
}
  where
    at : (i : ℕ) → is_in_marks c (low c me history) i ≡ true → nat_lt log.low i ≡ true
    at i k = subst (λ (h : ℕ). nat_lt h i ≡ true) f.low (over_low c (low c me history) i k)

-- P and Q grow at an entry
pub pq_sets_pass : (c : Configuration) (me : ℕ) (past : List Entry) (e : Entry) (log after : LogData) (pq_sets new : PqSetsData) (commits batches : List PqEntry) → LogPassesEntry c me past e log after
    → AddsPqEntries (SentCommit c me past) (SentCommit c me (e ∷ past)) (is_in_marks c (low c me (e ∷ past))) commits
    → AddsPqEntries (IsLoggedAs c me past) (IsLoggedAs c me (e ∷ past)) (is_in_marks c (low c me (e ∷ past))) batches
    → new.prepared ≡ with_all with_prepared commits (above_mark after.low pq_sets.prepared)
    → new.logged ≡ with_all with_logged batches (above_mark after.low pq_sets.logged)
    → ((text : List ℕ) → IsAmongTexts new.texts text → IsAmongTexts pq_sets.texts text ⊎ WasLogged c me (e ∷ past) text)
    → FitsPqSets c me past pq_sets → FitsPqSets c me (e ∷ past) new
pq_sets_pass c me past e log after pq_sets new commits batches p says logs_it prepared logged texts f =
    pq_sets_grow c me log past e p.old p.new pq_sets new commits batches p.fits p.leaves p.goes says logs_it
    (record {
      prepared = prepared ∙ ap (λ (h : ℕ). with_all with_prepared commits (above_mark h pq_sets.prepared)) (sym p.fits_behind.low);
      logged = logged ∙ ap (λ (h : ℕ). with_all with_logged batches (above_mark h pq_sets.logged)) (sym p.fits_behind.low);
    }) texts f

-- ---- data that stay

pub assigned_before : (c : Configuration) (past : List Entry) (e : Entry) (new : NewViewData) → taken c past e ≡ None → Once (λ past e. taken c past e ≡ Some new) (e ∷ past)
    → Once (λ past e. taken c past e ≡ Some new) past
assigned_before c past e new none (inl h) = absurd (given_not (taken c past e) new h none)
assigned_before c past e new none (inr h) = h

pub own_stays : (c : Configuration) (me : ℕ) (past : List Entry) (e : Entry) (x y : Changes) → y.target ≡ x.target → held_of y.held me ≡ held_of x.held me → HasOwnChange c me x past → HasOwnChange c me y (e ∷ past)
own_stays c me past e x y target_same held_same o = record { own = o.own; held = held_same ∙ o.held; view = o.view ∙ sym target_same; sent = inr o.sent; is_outgoing = o.is_outgoing }

pub own_view_stays : (c : Configuration) (me : ℕ) (past : List Entry) (e : Entry) (v w : ℕ) (frame : List ℕ) → w ≡ v → IsOwnView c me v past frame → IsOwnView c me w (e ∷ past) frame
own_view_stays c me past e v w frame same o = record { new = o.new; view = o.view ∙ sym same; primary = o.primary; sent = inr o.sent; is_outgoing = o.is_outgoing }

pub assigned_by_stays : (c : Configuration) (past : List Entry) (e : Entry) (v w i : ℕ) → w ≡ v → (i ≡ 0) ⊎ IsAssignedUpTo c v i past → (i ≡ 0) ⊎ IsAssignedUpTo c w i (e ∷ past)
assigned_by_stays c past e v w i same (inl none) = inl none
assigned_by_stays c past e v w i same (inr (new, once, at, is)) = inr (new, inr once, at ∙ sym same, is)

abbrev pub OwnBegins : Configuration → ℕ → ℕ → Option (List ℕ) → Type 0
OwnBegins c me v frame = primary c v ≡ me → (v ≡ 0) ⊎ ((text : List ℕ) × (frame ≡ Some text))

pub own_begins_stays : (c : Configuration) (me v w : ℕ) (frame : Option (List ℕ)) → w ≡ v → OwnBegins c me v frame → OwnBegins c me w frame
own_begins_stays c me v w frame same h = subst (λ (x : ℕ). OwnBegins c me x frame) (sym same) h

places_of : (n : ℕ) → length (replicate n (let o : Option HeldData = None in o)) ≡ n
places_of zero = refl
places_of (suc n) = ap suc (places_of n)

pub changes_begin : ChangesBegin
changes_begin c me = record {
  target = refl;
  pq_sets = pq_sets_begin c me;
  received = received_begin c me (replicas c);
  places = places_of (replicas c);
  assigned = λ new once at. absurd once;
  own_change = λ rests. absurd cc;
  assigned_by = inl refl;
  own_view = λ frame is. absurd cc;
  own_begins = λ own. inl refl;
  latest = none_first c me;
  leaves = λ sent leaf is before. absurd before;
  signed = λ leaf l. absurd (omega (arith, l));
  own_latest = λ own is. let bad : None ≡ Some own = sym (none_held (replicas c) me) ∙ is in absurd cc;
}

-- with whatever own checkpoint is the latest then
pub changes_noted : (c : Configuration) (me : ℕ) (past : List Entry) (e : Entry) (log after : LogData) (x : Changes) (pq_sets : PqSetsData) (last : Option CheckpointEntry) → LogPassesEntry c me past e log after → IsSameView log after
    → KeepsViews c me past e → latest_checkpoint c me (e ∷ past) ≡ last → CutsPqSets after.low x.pq_sets pq_sets → FitsChanges c me log x past
    → FitsChanges c me after (record x { pq_sets = pq_sets; last_checkpoint = last }) (e ∷ past)
changes_noted c me past e log after x pq_sets last p same k latest cuts f = record {
  target = k.target ∙ f.target;
  pq_sets = pq_sets_pass c me past e log after x.pq_sets pq_sets [] [] p (no_commit_adds c me past e k.commits) (no_batch_adds c me past e k.logged) cuts.prepared cuts.logged
      (λ text has. inl (each_has (IsAmongTexts x.pq_sets.texts) pq_sets.texts text cuts.texts has)) f.pq_sets;
  received = received_stays c me past e x.held k.changes f.received;
  places = f.places;
  assigned = λ new once at. f.assigned new (assigned_before c past e new k.none once) (at ∙ same.view);
  assigned_by = assigned_by_stays c past e log.view after.view x.assigned same.view f.assigned_by;
  own_change = λ rests. own_stays c me past e x (record x { pq_sets = pq_sets; last_checkpoint = last }) refl refl (f.own_change (sym same.active ∙ rests));
  own_view = λ frame is. own_view_stays c me past e log.view after.view frame same.view (f.own_view frame is);
  own_begins = own_begins_stays c me log.view after.view x.new_view same.view f.own_begins;
  latest = latest;
  leaves = leaves_stay x.spent past e k.leaves f.leaves;
  signed = leaves_remain x.spent past e f.signed;
  own_latest = f.own_latest;
}

pub changes_stay : ChangesStay
changes_stay c me past e log after x pq_sets p same k cuts f = changes_noted c me past e log after x pq_sets x.last_checkpoint p same k.views (k.checkpoint ∙ f.latest) cuts f

-- ---- what a body brings

-- no batch
pub logs_nothing : (c : Configuration) (me : ℕ) (past : List Entry) (e : Entry) (sender : ℕ) (message : Message) → taken c past e ≡ None → brought c e ≡ Some (record { sender = sender; message = message })
    → is_pre_prepare message ≡ false → (v i : ℕ) → logged c me (e ∷ past) v i ≡ logged c me past v i
logs_nothing c me past e sender message none brings other v i = logged_same c me v i past e
    (λ batch h free.
    let s = proposal_said c me v i batch past e none h in
    let same : ◌≡◌ {A = Body} (record { sender = sender; message = message }) s.0 = some_injective _ _ (sym brings ∙ s.1) in
    let bad : true ≡ false = ap is_pre_prepare (sym (ap (λ (b : Body). b.message) same ∙ s.2)) ∙ other in
    cc)

-- no commit of the replica's own
pub commit_quiet : (c : Configuration) (me : ℕ) (past : List Entry) (e : Entry) (v i : ℕ) → option_and_then (commit_from me v i) (brought c e) ≡ None → commit_of c me (e ∷ past) v i me ≡ commit_of c me past v i me
unfolding commit_of
commit_quiet c me past e v i none =
    or_else_alone (commit_of c me past v i me) (vote_in c me past e (commit_from me v i) v i) (none_chosen (counts_at c me past e v i) (option_and_then (commit_from me v i) (brought c e)) none)

-- no view change
pub said_no_change : (c : Configuration) (bytes : List ℕ) (body : Body) → said bytes ≡ Some body → change_in body ≡ None → signed_change c bytes ≡ None
said_no_change c bytes body says none = go (signed_body (signers c) bytes) refl
  where
    go : (o : Option Body) → signed_body (signers c) bytes ≡ o → signed_change c bytes ≡ None
    go None is = ap (option_and_then change_in) is
    go (Some b) is = ap (option_and_then change_in) is ∙ ap change_in (some_injective b body (sym (signed_said c bytes b is) ∙ says)) ∙ none

pub changes_nothing : (c : Configuration) (past : List Entry) (e : Entry) (body : Body) (s : ℕ) → brought c e ≡ Some body → change_in body ≡ None → latest_change c (e ∷ past) s ≡ latest_change c past s
changes_nothing c past (Got p bytes) body s h none = unsigned_bring_none c p s bytes past (said_no_change c bytes body (heard_said c p bytes body h) none)
changes_nothing c past (Sent p bytes) body s h none = sent_bring_none c p s bytes past
changes_nothing c past _ body s h none = omega arith

-- no view change of the replica's own
pub sends_none : (c : Configuration) (e : Entry) (sender : ℕ) (message : Message) → brought c e ≡ Some (record { sender = sender; message = message }) → change_from (record { sender = sender; message = message }) ≡ 0 → change_sent e ≡ 0
sends_none c (Sent p bytes) sender message h none = ap (λ (o : Option Body). option_map_or change_from o 0) h ∙ none
sends_none c _ sender message h none = refl

-- ---- the replica's own commit

commit_new : (c : Configuration) (me : ℕ) (past : List Entry) (e : Entry) (v i : ℕ) (digest : List ℕ) → commit_of c me past v i me ≡ None → vote_in c me past e (commit_from me v i) v i ≡ Some digest
    → commit_of c me (e ∷ past) v i me ≡ Some digest
unfolding commit_of
commit_new c me past e v i digest free h = or_else_second (commit_of c me past v i me) (vote_in c me past e (commit_from me v i) v i) free ∙ h

is_none_true : (o : Option (List ℕ)) → is_none o ≡ true → o ≡ None
is_none_true None h = refl
is_none_true (Some x) h = absurd cc

none_of : (a b d : Bool) (x : List ℕ) → (b ≡ false) ⊎ (d ≡ false) → then_some (a && b && d) x ≡ None
none_of false b d x h = refl
none_of true false d x h = refl
none_of true true false x h = refl
none_of true true true x (inl h) = absurd cc
none_of true true true x (inr h) = absurd cc

pub commits_enter_p : CommitsEnterP
commits_enter_p c me past log after x i digest bytes p same low_same due says f = record {
  target = plain_target c past e plain ∙ f.target;
  pq_sets = pq_sets_pass c me past e log after x.pq_sets (record x.pq_sets { prepared = with_prepared pq_entry x.pq_sets.prepared }) (pq_entry ∷ []) [] p
      (commit_adds c me past e log.view i digest inside_behind here elsewhere)
      (no_batch_adds c me past e (logs_nothing c me past e me (Commit log.view i digest) none says refl))
      (ap (with_prepared pq_entry) above.prepared) above.logged (λ text has. inl has) f.pq_sets;
  received = received_stays c me past e x.held (λ s other. sent_bring_none c me s bytes past) f.received;
  places = f.places;
  assigned = λ new once at. f.assigned new (assigned_before c past e new none once) (at ∙ same.view);
  assigned_by = assigned_by_stays c past e log.view after.view x.assigned same.view f.assigned_by;
  own_begins = own_begins_stays c me log.view after.view x.new_view same.view f.own_begins;
  latest = none_later c me past e (ap (option_and_then checkpoint_from) says) ∙ f.latest;
  own_change = λ rests. own_stays c me past e x (record x { pq_sets = record x.pq_sets { prepared = with_prepared pq_entry x.pq_sets.prepared } }) refl refl (f.own_change (sym same.active ∙ rests));
  own_view = λ frame is. own_view_stays c me past e log.view after.view frame same.view (f.own_view frame is);
  leaves = leaves_stay x.spent past e (unsigned_sends_none c past e (record { sender = me; message = Commit log.view i digest }) says refl) f.leaves;
  signed = leaves_remain x.spent past e f.signed;
  own_latest = f.own_latest;
}
  where
    e : Entry
    e = Sent me bytes

    pq_entry : PqEntry
    pq_entry = record { number = i; digest = digest; view = log.view }

    plain : Plain c past e
    plain = said_plain c past me bytes (record { sender = me; message = Commit log.view i digest }) says tt

    none : taken c past e ≡ None
    none = taken_none c past e plain

    above : CutsPqSets after.low x.pq_sets x.pq_sets
    above = subst (λ (h : ℕ). CutsPqSets h x.pq_sets x.pq_sets) (sym low_same) (pq_sets_are_above c me log past x.pq_sets p.fits f.pq_sets)

    tests : (logs.is_in_marks log i ≡ true) × (logs.commit_of log i log.me ≡ None)
    tests =
        let t = passed (log.active && logs.is_prepared log i && is_none (logs.commit_of log i log.me)) (logs.logged_digest log i) digest due in
        let a = and_parts (log.active && logs.is_prepared log i) (is_none (logs.commit_of log i log.me)) t.0 in
        let b = and_parts log.active (logs.is_prepared log i) a.0 in
        ((is_prepared_in log i b.1).1.within, is_none_true (logs.commit_of log i log.me) a.1)

    inside_behind : is_in_marks c (low c me (e ∷ past)) i ≡ true
    inside_behind = ap (λ (h : ℕ). is_in_marks c h i) (plain_low c me past e plain) ∙ marks_are c me log past i p.fits ∙ tests.0

    free : commit_of c me past log.view i me ≡ None
    free = p.fits.commits i me tests.0 ∙ ap (logs.commit_of log i) (sym p.fits.own) ∙ tests.1

    here : commit_of c me (e ∷ past) log.view i me ≡ Some digest
    here = commit_new c me past e log.view i digest free (ap (option_and_then (commit_from me log.view i)) says ∙ rw (eq-eqb me me refl, eq-eqb log.view log.view refl, eq-eqb i i refl) refl)

    elsewhere : (w j : ℕ) → (w ≢ log.view) ⊎ (j ≢ i) → commit_of c me (e ∷ past) w j me ≡ commit_of c me past w j me
    elsewhere w j other = commit_quiet c me past e w j (ap (option_and_then (commit_from me w j)) says ∙ none_of (me == me) (log.view == w) (i == j) digest (differs other))
      where
        differs : (w ≢ log.view) ⊎ (j ≢ i) → ((log.view == w) ≡ false) ⊎ ((i == j) ≡ false)
        differs (inl d) = inl (ne_eqb log.view w (λ at. d (sym at)))
        differs (inr d) = inr (ne_eqb i j (λ at. d (sym at)))

-- ---- one batch

pub batches_enter_q : BatchesEnterQ
batches_enter_q c me past e log x pq_sets s i text p inside free brings adds f = record {
  target = (let still = sends_none c e s (PrePrepare log.view i text) brings refl in let was = f.target in omega arith);
  pq_sets = pq_sets_pass c me past e log (logs.with_batch log i text) x.pq_sets pq_sets [] (pq_entry_of i log.view text ∷ []) p
      (no_commit_adds c me past e (λ v j. commit_quiet c me past e v j (ap (option_and_then (commit_from me v j)) brings)))
      (batch_adds c me past e log.view i text inside_behind here elsewhere)
      (adds.prepared ∙ above.prepared) (adds.logged ∙ ap (with_logged (pq_entry_of i log.view text)) above.logged) texts f.pq_sets;
  received = received_stays c me past e x.held (λ r other. changes_nothing c past e (record { sender = s; message = PrePrepare log.view i text }) r brings refl) f.received;
  places = f.places;
  assigned = λ new once at. f.assigned new (assigned_before c past e new none once) at;
  assigned_by = assigned_by_stays c past e log.view log.view x.assigned refl f.assigned_by;
  own_begins = f.own_begins;
  latest = none_later c me past e (ap (option_and_then checkpoint_from) brings) ∙ f.latest;
  own_change = λ rests. own_stays c me past e x (record x { pq_sets = pq_sets }) refl refl (f.own_change rests);
  own_view = λ frame is. own_view_stays c me past e log.view log.view frame refl (f.own_view frame is);
  leaves = leaves_stay x.spent past e (unsigned_sends_none c past e (record { sender = s; message = PrePrepare log.view i text }) brings refl) f.leaves;
  signed = leaves_remain x.spent past e f.signed;
  own_latest = f.own_latest;
}
  where
    none : taken c past e ≡ None
    none = none_taken c past e (ap (option_and_then (new_view_from c)) brings)

    above : CutsPqSets log.low x.pq_sets x.pq_sets
    above = pq_sets_are_above c me log past x.pq_sets p.fits f.pq_sets

    inside_behind : is_in_marks c (low c me (e ∷ past)) i ≡ true
    inside_behind = ap (λ (h : ℕ). is_in_marks c h i) (p.fits_behind.low ∙ sym p.fits.low) ∙ marks_are c me log past i p.fits ∙ inside

    here : logged c me (e ∷ past) log.view i ≡ Some text
    here = p.fits_behind.batches i inside ∙ (batches_are_logged log i i log.me text p.fits.is_log inside).0 ∙ rw (eq-eqb i i refl) refl

    elsewhere : (w j : ℕ) → (w ≢ log.view) ⊎ (j ≢ i) → logged c me (e ∷ past) w j ≡ logged c me past w j
    elsewhere w j other = logged_same c me w j past e
        (λ batch h gone.
        let r = proposal_said c me w j batch past e none h in
        let same : ◌≡◌ {A = Body} (record { sender = s; message = PrePrepare log.view i text }) r.0 = some_injective _ _ (sym brings ∙ r.1) in
        let message : PrePrepare log.view i text ≡ PrePrepare w j batch = ap (λ (b : Body). b.message) same ∙ r.2 in
        differs other (ap view_of message) (ap number_of message))
      where
        differs : (w ≢ log.view) ⊎ (j ≢ i) → log.view ≡ w → i ≡ j → ⊥
        differs (inl d) v k = d (sym v)
        differs (inr d) v k = d (sym k)

    texts : (t : List ℕ) → IsAmongTexts pq_sets.texts t → IsAmongTexts x.pq_sets.texts t ⊎ WasLogged c me (e ∷ past) t
    texts t has = pick (each_has (IsAmongTexts (text ∷ x.pq_sets.texts)) pq_sets.texts t adds.texts has)
      where
        pick : IsAmongTexts (text ∷ x.pq_sets.texts) t → IsAmongTexts x.pq_sets.texts t ⊎ WasLogged c me (e ∷ past) t
        pick (inl same) = inr (log.view, i, here ∙ ap Some same)
        pick (inr k) = inl k
