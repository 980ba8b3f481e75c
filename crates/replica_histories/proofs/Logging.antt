-- How an entry that takes no new view and leaves the marks changes the log.
use Rattle.std.proofs.Common.{◌≡◌, ◌≢◌, ℕ, ◌+◌, ◌^◌, ◌≤◌, ◌<◌, ◌⊎◌, inl, inr, Bool, true, false, cond, ◌&&◌, List, [], ◌∷◌, slice_index_or, refl, sym, ap, ◌∙◌, subst, arith, Option, Some, None, eqb-true}
use Rattle.std.specs.Prelude.{◌==◌, nat_le, nat_lt, option_and_then, ⊤}
use Rattle.std.specs.Bool.{then_some}
use Rattle.std.specs.Option.{option_map_or}
use Rattle.std.proofs.lemmas.Bool.{and_parts, eqb-false, leb-true, ltb-true, ltb-false}
use Rattle.quorum.specs.Votes.{or_else}
use Rattle.wire_format.specs.Messages.{BodyData as Body, MessageData as Message, NewViewData, CheckpointEntryData as CheckpointEntry, pre_prepare as PrePrepare, prepare as Prepare, commit as Commit, view_change as ViewChange, new_view as NewView}
use Rattle.wire_format.specs.Words.{said}
use Rattle.wire.proofs.Skipping.{none_chosen}
use Rattle.signing.specs.AuthenticBody.{authentic}
use Rattle.ordering.specs.Log as logs
use Rattle.ordering.specs.Log.{LogData}
use Rattle.protocol.specs.System.Configuration.{Configuration, members}
use Rattle.protocol.specs.System.Trace.{Entry, Once}
use Rattle.protocol.specs.System.Trace.Entry.{Got, Sent}
use Rattle.protocol.specs.Replica.Certificates.{brought, view, view_after, target, taken, change_sent, change_from, installed_at, new_view_in, new_view_from, is_later, is_active_in, checkpoint_in, checkpoints_of, is_stable, stable_at, started_at, low, is_in_marks, counts_at, assigned_batch, batch_from, assigned_proposal, entry_proposal, proposal, logged, prepare_from, prepare_of, commit_from, commit_of, vote_in}
use Rattle.protocol.specs.Replica.Owed.{BeginsViewWith}
use Rattle.protocol.proofs.Words.Options.{or_else_alone, or_else_cases, or_else_second}
use Rattle.protocol.proofs.Words.Plain.{Plain, taken_none}
use Rattle.replica_histories.specs.Logs.{checkpoints_above, AreLatest, MayBeLogged, FitsViews, FitsLog, IsVoted, LogStays, while_active, LogTakesBody}
use Rattle.replica_histories.proofs.Words.{apart, marks_are, marks_stay, below_marks}
use Rattle.replica_histories.proofs.Latest.{behind_above}
use Rattle.replica_histories.proofs.Certified.{active, active_view, Same, same_turned, prepared_back, committed_back}
use Rattle.replica_histories.proofs.Checking.{latest_of, stable_above, stable_are_low}
use Rattle.replica_histories.proofs.Settling.{voted_goes}

-- ---- a quiet entry

-- It takes no new view, sends no view change, and installs nothing.
pub record Quiet (c : Configuration) (past : List Entry) (e : Entry) : Type 0 where
  pub no_view : taken c past e ≡ None
  pub no_change : change_sent e ≡ 0
  pub not_installed : installed_at e ≡ 0

plain_quiet : (c : Configuration) (past : List Entry) (e : Entry) → Plain c past e → Quiet c past e
plain_quiet c past e q = record { no_view = taken_none c past e q; no_change = q.change; not_installed = q.installed }

got_quiet : (c : Configuration) (me : ℕ) (past : List Entry) (bytes : List ℕ) → taken c past (Got me bytes) ≡ None → Quiet c past (Got me bytes)
got_quiet c me past bytes none = record { no_view = none; no_change = refl; not_installed = refl }

-- messages that change no view
abbrev pub KeepsView : Message → Type 0
KeepsView message = elim message [ ViewChange vc ↦ ⊥ | NewView new ↦ ⊥ | _ ↦ ⊤ ]

pub begins_none : (c : Configuration) (sender : ℕ) (message : Message) → KeepsView message → new_view_from c (record { sender = sender; message = message }) ≡ None
begins_none c sender (NewView new) h = absurd h
begins_none c sender _ h = refl

pub changes_none : (sender : ℕ) (message : Message) → KeepsView message → change_from (record { sender = sender; message = message }) ≡ 0
changes_none sender (ViewChange vc) h = absurd h
changes_none sender _ h = refl

pub none_taken : (c : Configuration) (past : List Entry) (e : Entry) → new_view_in c e ≡ None → taken c past e ≡ None
none_taken c past e h = ap (option_and_then (λ (new : NewViewData). then_some (is_later (view c past) (target past) new) new)) h

sent_quiet : (c : Configuration) (me : ℕ) (past : List Entry) (bytes : List ℕ) (sender : ℕ) (message : Message) → said bytes ≡ Some (record { sender = sender; message = message }) → KeepsView message → Quiet c past (Sent me bytes)
sent_quiet c me past bytes sender message says keeps = record {
  no_view = none_taken c past (Sent me bytes) (ap (option_and_then (new_view_from c)) says ∙ begins_none c sender message keeps);
  no_change = ap (λ (o : Option Body). option_map_or change_from o 0) says ∙ changes_none sender message keeps;
  not_installed = refl;
}

-- ---- what the entry leaves

after_none : (v t : ℕ) (o : Option NewViewData) → option_and_then (λ (new : NewViewData). then_some (is_later v t new) new) o ≡ None → view_after v t o ≡ v
after_none v t None h = refl
after_none v t (Some new) h = go (is_later v t new) h
  where
    go : (b : Bool) → then_some b new ≡ None → cond b new.view v ≡ v
    go true h = absurd cc
    go false h = refl

pub view_quiet : (c : Configuration) (past : List Entry) (e : Entry) → taken c past e ≡ None → view c (e ∷ past) ≡ view c past
unfolding view
view_quiet c past e none = after_none (view c past) (target past) (new_view_in c e) none

-- above the mark it adds no checkpoint that the log lacks
checks_quiet : (c : Configuration) (me : ℕ) (log new : LogData) (past : List Entry) (e : Entry) → FitsLog c me log past → LogTakesBody c me (brought c e) log new → (s : ℕ)
    → checkpoints_above log.low (checkpoints_of c (e ∷ past) s) ≡ checkpoints_above log.low (logs.checkpoints_of log s)
unfolding checkpoints_of
checks_quiet c me log new past e f t s = behind_above log.low s (checkpoint_in c e) (checkpoints_of c past s) (logs.checkpoints_of log s) (latest_of c past s) (f.latest s) (f.checkpoints s) ∙ t.checkpoint s

-- so the low mark stays
pub low_goes : (c : Configuration) (me : ℕ) (log new : LogData) (past : List Entry) (e : Entry) → FitsLog c me log past → Quiet c past e → LogTakesBody c me (brought c e) log new → low c me (e ∷ past) ≡ low c me past
unfolding low
low_goes c me log new past e f q t =
    let stable : stable_at c me past e ≤ low c me past = most (checkpoint_in c e) in
    let started : started_at c past e ≡ 0 = ap (λ (o : Option NewViewData). option_map_or (λ (new : NewViewData). new.start) o 0) q.no_view in
    let installed = q.not_installed in
    omega arith
  where
    was : (m : CheckpointEntry) → is_stable c me (e ∷ past) m ≡ true → m.number ≤ low c me past
    was m h = go (nat_lt log.low m.number) refl
      where
        go : (b : Bool) → nat_lt log.low m.number ≡ b → m.number ≤ low c me past
        go true k =
            stable_are_low c me past m
            (sym (stable_above c me log.low (checkpoints_of c (e ∷ past)) (checkpoints_of c past) m (ltb-true log.low m.number k) (λ s. checks_quiet c me log new past e f t s ∙ sym (f.checkpoints s))) ∙ h)
        go false k = let l = ltb-false log.low m.number k in let same = f.low in omega arith

    most : (o : Option (ℕ × CheckpointEntry)) → option_map_or (λ (x : ℕ × CheckpointEntry). cond (is_stable c me (e ∷ past) x.1) x.1.number 0) o 0 ≤ low c me past
    most None = omega arith
    most (Some x) = pick (is_stable c me (e ∷ past) x.1) refl
      where
        pick : (b : Bool) → is_stable c me (e ∷ past) x.1 ≡ b → cond b x.1.number 0 ≤ low c me past
        pick true k = was x.1 k
        pick false k = omega arith

-- its own message decides what it logs
pub proposal_quiet : (c : Configuration) (me : ℕ) (past : List Entry) (e : Entry) (v i : ℕ) → taken c past e ≡ None → proposal c me past e v i ≡ entry_proposal c me past e v i
proposal_quiet c me past e v i none =
    or_else_second (assigned_proposal c me past e v i) (entry_proposal c me past e v i)
    (none_chosen (is_in_marks c (low c me (e ∷ past)) i) (option_and_then (assigned_batch v i) (taken c past e)) (ap (option_and_then (assigned_batch v i)) none))

-- so no later view begins
pub begins_quiet : (c : Configuration) (past : List Entry) (e : Entry) (most : ℕ) → taken c past e ≡ None → ((v : ℕ) (batch : List ℕ) → Once (BeginsViewWith c v batch) past → v ≤ most) → (v : ℕ) (batch : List ℕ)
    → Once (BeginsViewWith c v batch) (e ∷ past) → v ≤ most
begins_quiet c past e most none before v batch (inl h) = let bad : None ≡ Some h.0 = sym none ∙ h.1 in absurd cc
begins_quiet c past e most none before v batch (inr h) = before v batch h

-- the target stays, and with it whether the replica is active
pub active_goes : (past : List Entry) (e : Entry) (log new : LogData) → change_sent e ≡ 0 → new.view ≡ log.view → new.active ≡ log.active → nat_le (target past) log.view ≡ log.active → nat_le (target (e ∷ past)) new.view ≡ new.active
active_goes past e log new none ev ea was =
    let same : target (e ∷ past) ≡ target past = omega arith in
    ap (λ (n : ℕ). nat_le n new.view) same ∙ ap (nat_le (target past)) ev ∙ was ∙ sym ea

-- ---- the log

-- How an entry is read: within the marks by its message, while the replica is active in the view of the log. Elsewhere
-- it logs nothing and casts no vote.
pub record Read (c : Configuration) (me : ℕ) (log : LogData) (past : List Entry) (e : Entry) : Type 0 where
  pub quiet : Quiet c past e
  pub batch : (i : ℕ) → logs.is_in_marks log i ≡ true → entry_proposal c me past e log.view i ≡ while_active log (option_and_then (batch_from c me log.view i) (brought c e))
  pub prepare : (i s : ℕ) → logs.is_in_marks log i ≡ true → vote_in c me past e (prepare_from c s log.view i) log.view i ≡ while_active log (option_and_then (prepare_from c s log.view i) (brought c e))
  pub commit : (i s : ℕ) → logs.is_in_marks log i ≡ true → vote_in c me past e (commit_from s log.view i) log.view i ≡ while_active log (option_and_then (commit_from s log.view i) (brought c e))
  pub place : (v i : ℕ) (batch : List ℕ) → entry_proposal c me past e v i ≡ Some batch → (v ≡ log.view) × (logs.is_in_marks log i ≡ true)
  pub outside : (v i s : ℕ) → (v ≢ log.view) ⊎ (logs.is_in_marks log i ≡ false)
      → (vote_in c me past e (prepare_from c s v i) v i ≡ None) × (vote_in c me past e (commit_from s v i) v i ≡ None)

-- a number within the marks, in the view of the log
pub within_marks : (log : LogData) (v i : ℕ) → v ≡ log.view → logs.is_in_marks log i ≡ true → MayBeLogged log v i
within_marks log v i at k =
    let p = and_parts (nat_lt log.low i && nat_le i (log.low + log.span)) (nat_lt i (2 ^ 48)) k in
    let q = and_parts (nat_lt log.low i) (nat_le i (log.low + log.span)) p.0 in
    record { view = omega arith; marks = λ same. inr k; ahead = (leb-true i (log.low + log.span) q.1, ltb-true i (2 ^ 48) p.1) }

pub within_stays : (log new : LogData) (v i : ℕ) → LogStays log new → MayBeLogged log v i → MayBeLogged new v i
within_stays log new v i s w = record {
  view = subst (λ (x : ℕ). v ≤ x) (sym s.view) w.view;
  marks = λ at. there (w.marks (at ∙ s.view));
  ahead = (subst (λ (n : ℕ). i ≤ n) (sym high) w.ahead.0, w.ahead.1);
}
  where
    high : new.low + new.span ≡ log.low + log.span
    high = rw (s.low, s.span) refl

    there : (i ≤ log.low) ⊎ (logs.is_in_marks log i ≡ true) → (i ≤ new.low) ⊎ (logs.is_in_marks new i ≡ true)
    there (inl k) = inl (subst (λ (n : ℕ). i ≤ n) (sym s.low) k)
    there (inr k) = inr (marks_stay log new i s ∙ k)

-- An entry leaves the certificates of other views, and those outside the marks.
pub same_elsewhere : (c : Configuration) (me : ℕ) (log : LogData) (past : List Entry) (e : Entry) (v i : ℕ) → Read c me log past e → (v ≢ log.view) ⊎ (logs.is_in_marks log i ≡ false) → Same c me (e ∷ past) past v i
unfolding logged prepare_of commit_of
same_elsewhere c me log past e v i r other = record {
  logged = or_else_alone (logged c me past v i) (proposal c me past e v i) (nothing (proposal c me past e v i) refl);
  prepare = λ s. or_else_alone (prepare_of c me past v i s) (vote_in c me past e (prepare_from c s v i) v i) (r.outside v i s other).0;
  commit = λ s. or_else_alone (commit_of c me past v i s) (vote_in c me past e (commit_from s v i) v i) (r.outside v i s other).1;
}
  where
    clash : (v ≡ log.view) × (logs.is_in_marks log i ≡ true) → (v ≢ log.view) ⊎ (logs.is_in_marks log i ≡ false) → ⊥
    clash w (inl differs) = differs w.0
    clash w (inr out) = apart (logs.is_in_marks log i) w.1 out

    nothing : (o : Option (List ℕ)) → proposal c me past e v i ≡ o → o ≡ None
    nothing None h = refl
    nothing (Some batch) h = absurd (clash (r.place v i batch (sym (proposal_quiet c me past e v i r.quiet.no_view) ∙ h)) other)

-- All of them, if the replica is inactive.
pub same_resting : (c : Configuration) (me : ℕ) (log : LogData) (past : List Entry) (e : Entry) (v i : ℕ) → Read c me log past e → log.active ≡ false → Same c me (e ∷ past) past v i
unfolding logged prepare_of commit_of
same_resting c me log past e v i r resting = at_view (v == log.view) refl
  where
    none : (o : Option (List ℕ)) → while_active log o ≡ None
    none o = ap (λ (b : Bool). cond b o None) resting

    here : logs.is_in_marks log i ≡ true → Same c me (e ∷ past) past log.view i
    here k = record {
      logged = or_else_alone (logged c me past log.view i) (proposal c me past e log.view i) (proposal_quiet c me past e log.view i r.quiet.no_view ∙ r.batch i k ∙ none (option_and_then (batch_from c me log.view i) (brought c e)));
      prepare = λ s. or_else_alone (prepare_of c me past log.view i s) (vote_in c me past e (prepare_from c s log.view i) log.view i) (r.prepare i s k ∙ none (option_and_then (prepare_from c s log.view i) (brought c e)));
      commit = λ s. or_else_alone (commit_of c me past log.view i s) (vote_in c me past e (commit_from s log.view i) log.view i) (r.commit i s k ∙ none (option_and_then (commit_from s log.view i) (brought c e)));
    }

    within : (b : Bool) → logs.is_in_marks log i ≡ b → Same c me (e ∷ past) past log.view i
    within true k = here k
    within false k = same_elsewhere c me log past e log.view i r (inr k)

    at_view : (b : Bool) → (v == log.view) ≡ b → Same c me (e ∷ past) past v i
    at_view true h = subst (λ (x : ℕ). Same c me (e ∷ past) past x i) (sym (eqb-true v log.view h)) (within (logs.is_in_marks log i) refl)
    at_view false h = same_elsewhere c me log past e v i r (inl (eqb-false v log.view h))

-- the log keeps what it has of other views
module _ (c : Configuration) (me : ℕ) (log new : LogData) (past : List Entry) (e : Entry) (f : FitsLog c me log past) (r : Read c me log past e) (t : LogTakesBody c me (brought c e) log new) where
  -- a view below the current one, or any if the replica is inactive
  same_earlier : (v i : ℕ) → (v < log.view) ⊎ (log.active ≡ false) → Same c me (e ∷ past) past v i
  same_earlier v i (inl below) = same_elsewhere c me log past e v i r (inl (λ same. absurd (omega arith)))
  same_earlier v i (inr resting) = same_resting c me log past e v i r resting

  was_in : (i : ℕ) → logs.is_in_marks new i ≡ true → logs.is_in_marks log i ≡ true
  was_in i k = sym (marks_stay log new i t.stays) ∙ k

  was_below : (v : ℕ) → v < new.view → v < log.view
  was_below v below = subst (λ (x : ℕ). v < x) t.stays.view below

  was_earlier : (v : ℕ) → (v < new.view) ⊎ (new.active ≡ false) → (v < log.view) ⊎ (log.active ≡ false)
  was_earlier v (inl below) = inl (was_below v below)
  was_earlier v (inr resting) = inr (sym t.stays.active ∙ resting)

  pub views_go : FitsViews c me new (e ∷ past)
  views_go = record {
    decided = λ i batch k h.
        let d = f.views.decided i batch (was_in i k) (sym (t.decided i (was_in i k)) ∙ h) in
        (d.0, subst (λ (x : ℕ). d.0 < x) (sym t.stays.view) d.1, committed_back c me past (e ∷ past) d.0 i batch (same_turned c me (e ∷ past) past d.0 i (same_earlier d.0 i (inl d.1))) d.2);
    all_decided = λ v i batch below k h.
        let known = f.views.all_decided v i batch (was_below v below) (was_in i k) (committed_back c me (e ∷ past) past v i batch (same_earlier v i (inl (was_below v below))) h) in
        (known.0, t.decided i (was_in i k) ∙ known.1);
    voted = λ v i batch k earlier h.
        let same = same_earlier v i (was_earlier v earlier) in
        let own = f.views.voted v i batch (was_in i k) (was_earlier v earlier) (prepared_back c me (e ∷ past) past v i batch same h) in
        (own.0, same.commit me ∙ own.1);
    later = λ v i s above.
        let over : log.view < v = subst (λ (x : ℕ). x < v) t.stays.view above in
        let same = same_elsewhere c me log past e v i r (inl (λ is. absurd (omega arith))) in
        let none = f.views.later v i s over in
        (same.prepare s ∙ none.0, same.commit s ∙ none.1);
  }

pub log_goes : (c : Configuration) (me : ℕ) (log new : LogData) (past : List Entry) (e : Entry) → FitsLog c me log past → Read c me log past e → LogTakesBody c me (brought c e) log new → FitsLog c me new (e ∷ past)
unfolding logged prepare_of commit_of
log_goes c me log new past e f r t = record {
  is_log = t.stays.is_log;
  own = t.stays.me ∙ f.own;
  faults = t.stays.faults ∙ f.faults;
  span = t.stays.span ∙ f.span;
  active = active_goes past e log new r.quiet.no_change ev t.stays.active f.active;
  view = view_quiet c past e r.quiet.no_view ∙ f.view ∙ sym ev;
  low = low_goes c me log new past e f r.quiet t ∙ f.low ∙ sym el;
  batches = λ i k. subst (λ (v : ℕ). logged c me (e ∷ past) v i ≡ logs.logged_batch new i) (sym ev) (logs_at i (was i k));
  prepares = λ i s k. subst (λ (v : ℕ). prepare_of c me (e ∷ past) v i s ≡ logs.prepare_of new i s) (sym ev)
      (ap (λ (o : Option (List ℕ)). or_else o (vote_in c me past e (prepare_from c s log.view i) log.view i)) (f.prepares i s (was i k))
      ∙ ap (or_else (logs.prepare_of log i s)) (r.prepare i s (was i k)) ∙ sym (t.prepare i s (was i k)));
  commits = λ i s k. subst (λ (v : ℕ). commit_of c me (e ∷ past) v i s ≡ logs.commit_of new i s) (sym ev)
      (ap (λ (o : Option (List ℕ)). or_else o (vote_in c me past e (commit_from s log.view i) log.view i)) (f.commits i s (was i k))
      ∙ ap (or_else (logs.commit_of log i s)) (r.commit i s (was i k)) ∙ sym (t.commit i s (was i k)));
  within = λ v i batch h. within_stays log new v i t.stays (within v i batch (or_else_cases (logged c me past v i) (proposal c me past e v i) batch h));
  above = λ i s l out.
      let outside = sym (marks_stay log new i t.stays) ∙ out in
      let none = f.above i s (subst (λ (n : ℕ). n < i) el l) outside in
      let same = same_elsewhere c me log past e log.view i r (inr outside) in
      at_view (λ v. (prepare_of c me (e ∷ past) v i s ≡ None) × (commit_of c me (e ∷ past) v i s ≡ None)) (same.prepare s ∙ none.0, same.commit s ∙ none.1);
  begins = λ v batch h. subst (λ (x : ℕ). v ≤ x) (sym ev) (begins_quiet c past e log.view r.quiet.no_view f.begins v batch h);
  settled = λ is i batch l h. at_view (λ v. IsVoted c me (e ∷ past) v i batch)
      (settled i batch (subst (λ (n : ℕ). i ≤ n) el l) (sym t.stays.active ∙ is) (subst (λ (v : ℕ). logged c me (e ∷ past) v i ≡ Some batch) ev h));
  views = views_go c me log new past e f r t;
  checkpoints = λ s. subst (λ (n : ℕ). checkpoints_above n (checkpoints_of c (e ∷ past) s) ≡ checkpoints_above n (logs.checkpoints_of new s)) (sym el)
      (checks_quiet c me log new past e f t s ∙ ap (checkpoints_above log.low) (held s));
  latest = λ s. subst AreLatest (held s) (f.latest s);
}
  where
    ev : new.view ≡ log.view
    ev = t.stays.view

    el : new.low ≡ log.low
    el = t.stays.low

    held : (s : ℕ) → logs.checkpoints_of log s ≡ logs.checkpoints_of new s
    held s = ap (λ (xs : List (List CheckpointEntry)). slice_index_or xs s []) (sym t.stays.checkpoints)

    at_view : (P : ℕ → Type 0) → P log.view → P new.view
    at_view P h = subst P (sym ev) h

    was : (i : ℕ) → logs.is_in_marks new i ≡ true → logs.is_in_marks log i ≡ true
    was i k = sym (marks_stay log new i t.stays) ∙ k

    logs_at : (i : ℕ) → logs.is_in_marks log i ≡ true → or_else (logged c me past log.view i) (proposal c me past e log.view i) ≡ logs.logged_batch new i
    logs_at i k =
        ap (λ (o : Option (List ℕ)). or_else o (proposal c me past e log.view i)) (f.batches i k)
        ∙ ap (or_else (logs.logged_batch log i)) (proposal_quiet c me past e log.view i r.quiet.no_view ∙ r.batch i k) ∙ sym (t.batch i k)

    within : (v i : ℕ) (batch : List ℕ) → (logged c me past v i ≡ Some batch) ⊎ (proposal c me past e v i ≡ Some batch) → MayBeLogged log v i
    within v i batch (inl h) = f.within v i batch h
    within v i batch (inr h) = let w = r.place v i batch (sym (proposal_quiet c me past e v i r.quiet.no_view) ∙ h) in within_marks log v i w.0 w.1

    settled : (i : ℕ) (batch : List ℕ) → i ≤ log.low → log.active ≡ true → logged c me (e ∷ past) log.view i ≡ Some batch → IsVoted c me (e ∷ past) log.view i batch
    settled i batch l is h =
        let same = same_elsewhere c me log past e log.view i r (inr (below_marks log i l)) in
        let was_logged : logged c me past log.view i ≡ Some batch = sym same.logged ∙ h in
        voted_goes c me e past log.view i batch was_logged same.prepare (f.settled is i batch l was_logged)

-- ---- how entries are read

-- received bytes are read while active in the view
pub got_reads : (c : Configuration) (me : ℕ) (log : LogData) (past : List Entry) (bytes : List ℕ) (i : ℕ) (vote : Body → Option (List ℕ)) → FitsLog c me log past → logs.is_in_marks log i ≡ true
    → vote_in c me past (Got me bytes) vote log.view i ≡ while_active log (option_and_then vote (authentic (members c me) me bytes))
got_reads c me log past bytes i vote f k = go log.active (active c me log past f)
  where
    go : (b : Bool) → is_active_in c past log.view ≡ b → cond (is_active_in c past log.view && is_in_marks c (low c me past) i) (option_and_then vote (authentic (members c me) me bytes)) None ≡ cond b (option_and_then vote (authentic (members c me) me bytes)) None
    go true a = rw (a, marks_are c me log past i f ∙ k) refl
    go false a = rw a refl

pub got_read : (c : Configuration) (me : ℕ) (log : LogData) (past : List Entry) (bytes : List ℕ) → FitsLog c me log past → taken c past (Got me bytes) ≡ None → Read c me log past (Got me bytes)
got_read c me log past bytes f none = record {
  quiet = got_quiet c me past bytes none;
  batch = λ i k. got_reads c me log past bytes i (batch_from c me log.view i) f k;
  prepare = λ i s k. got_reads c me log past bytes i (prepare_from c s log.view i) f k;
  commit = λ i s k. got_reads c me log past bytes i (commit_from s log.view i) f k;
  place = λ v i batch h. place v i batch (is_active_in c past v && is_in_marks c (low c me past) i) refl h;
  outside = λ v i s other. (shut v i other (prepare_from c s v i), shut v i other (commit_from s v i));
}
  where
    at : (v i : ℕ) → (is_active_in c past v && is_in_marks c (low c me past) i) ≡ true → (v ≡ log.view) × (logs.is_in_marks log i ≡ true)
    at v i e =
        let p = and_parts (is_active_in c past v) (is_in_marks c (low c me past) i) e in
        (active_view c me log past v f p.0, sym (marks_are c me log past i f) ∙ p.1)

    shut : (v i : ℕ) → (v ≢ log.view) ⊎ (logs.is_in_marks log i ≡ false) → (vote : Body → Option (List ℕ)) → cond (is_active_in c past v && is_in_marks c (low c me past) i) (option_and_then vote (authentic (members c me) me bytes)) None ≡ None
    shut v i other vote = go (is_active_in c past v && is_in_marks c (low c me past) i) refl other
      where
        go : (b : Bool) → (is_active_in c past v && is_in_marks c (low c me past) i) ≡ b → (v ≢ log.view) ⊎ (logs.is_in_marks log i ≡ false) → cond b (option_and_then vote (authentic (members c me) me bytes)) None ≡ None
        go false e other = refl
        go true e (inl differs) = absurd (differs (at v i e).0)
        go true e (inr out) = absurd (apart (logs.is_in_marks log i) (at v i e).1 out)

    place : (v i : ℕ) (batch : List ℕ) (b : Bool) → (is_active_in c past v && is_in_marks c (low c me past) i) ≡ b → cond b (option_and_then (batch_from c me v i) (authentic (members c me) me bytes)) None ≡ Some batch
        → (v ≡ log.view) × (logs.is_in_marks log i ≡ true)
    place v i batch false e h = absurd cc
    place v i batch true e h = at v i e

-- entries that neither receive nor send
pub silent_read : (c : Configuration) (me : ℕ) (log : LogData) (past : List Entry) (e : Entry) → Plain c past e → brought c e ≡ None → Read c me log past e
silent_read c me log past e q none = record {
  quiet = plain_quiet c past e q;
  batch = λ i k. nothing (counts_at c me past e log.view i) (batch_from c me log.view i) ∙ sym (nothing log.active (batch_from c me log.view i));
  prepare = λ i s k. nothing (counts_at c me past e log.view i) (prepare_from c s log.view i) ∙ sym (nothing log.active (prepare_from c s log.view i));
  commit = λ i s k. nothing (counts_at c me past e log.view i) (commit_from s log.view i) ∙ sym (nothing log.active (commit_from s log.view i));
  place = λ v i batch h. absurd (let bad : None ≡ Some batch = sym (nothing (counts_at c me past e v i) (batch_from c me v i)) ∙ h in cc);
  outside = λ v i s other. (nothing (counts_at c me past e v i) (prepare_from c s v i), nothing (counts_at c me past e v i) (commit_from s v i));
}
  where
    nothing : (b : Bool) (vote : Body → Option (List ℕ)) → cond b (option_and_then vote (brought c e)) None ≡ None
    nothing true vote = ap (option_and_then vote) none
    nothing false vote = refl

-- The replica's own message: its proposal is in the view and marks, and so is its vote. If the replica is inactive, it
-- makes neither.
pub record IsPlaced (c : Configuration) (me : ℕ) (log : LogData) (body : Body) : Type 0 where
  pub batch : (v i : ℕ) (batch : List ℕ) → batch_from c me v i body ≡ Some batch → (v ≡ log.view) × (logs.is_in_marks log i ≡ true)
  pub votes : (v i s : ℕ) → (v ≢ log.view) ⊎ (logs.is_in_marks log i ≡ false) → (prepare_from c s v i body ≡ None) × (commit_from s v i body ≡ None)
  pub resting : log.active ≡ false → (i s : ℕ) → (batch_from c me log.view i body ≡ None) × (prepare_from c s log.view i body ≡ None) × (commit_from s log.view i body ≡ None)

-- a message that orders nothing
abbrev pub OrdersNothing : Message → Type 0
OrdersNothing message = elim message [ PrePrepare v i batch ↦ ⊥ | Prepare v i digest ↦ ⊥ | Commit v i digest ↦ ⊥ | _ ↦ ⊤ ]

pub beside_placed : (c : Configuration) (me : ℕ) (log : LogData) (sender : ℕ) (message : Message) → OrdersNothing message → IsPlaced c me log (record { sender = sender; message = message })
beside_placed c me log sender (PrePrepare v i batch) h = absurd h
beside_placed c me log sender (Prepare v i digest) h = absurd h
beside_placed c me log sender (Commit v i digest) h = absurd h
beside_placed c me log sender _ h = record { batch = λ v i batch h. absurd cc; votes = λ v i s other. (refl, refl); resting = λ rests i s. (refl, refl, refl) }

-- a sent message that changes no view
pub sent_read : (c : Configuration) (me : ℕ) (log : LogData) (past : List Entry) (bytes : List ℕ) (sender : ℕ) (message : Message) → said bytes ≡ Some (record { sender = sender; message = message }) → KeepsView message
    → IsPlaced c me log (record { sender = sender; message = message }) → Read c me log past (Sent me bytes)
sent_read c me log past bytes sender message says keeps p = record {
  quiet = sent_quiet c me past bytes sender message says keeps;
  batch = λ i k. counted (batch_from c me log.view i) log.active refl (λ rests. (p.resting rests i 0).0);
  prepare = λ i s k. counted (prepare_from c s log.view i) log.active refl (λ rests. (p.resting rests i s).1);
  commit = λ i s k. counted (commit_from s log.view i) log.active refl (λ rests. (p.resting rests i s).2);
  place = λ v i batch h. p.batch v i batch (sym (ap (option_and_then (batch_from c me v i)) says) ∙ h);
  outside = λ v i s other.
      let none = p.votes v i s other in
      (ap (option_and_then (prepare_from c s v i)) says ∙ none.0, ap (option_and_then (commit_from s v i)) says ∙ none.1);
}
  where
    counted : (vote : Body → Option (List ℕ)) (b : Bool) → log.active ≡ b → (log.active ≡ false → vote (record { sender = sender; message = message }) ≡ None) → option_and_then vote (said bytes) ≡ cond b (option_and_then vote (said bytes)) None
    counted vote true is none = refl
    counted vote false is none = ap (option_and_then vote) says ∙ none is
