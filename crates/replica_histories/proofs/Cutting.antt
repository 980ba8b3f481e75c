-- The marks move: the log is cut when a checkpoint becomes stable, or a state is installed.
use Rattle.std.proofs.Common.{◌≡◌, ℕ, suc, ◌+◌, ◌-◌, ◌≤◌, ◌<◌, ◌⊎◌, inl, inr, Bool, true, false, cond, ◌&&◌, List, [], ◌∷◌, length, drop, replicate, min, max, slice_index_or, slice_set, take, refl, sym, ap, ◌∙◌, subst, arith, Option, Some, None, eqb-true}
use Rattle.std.specs.Prelude.{◌==◌, nat_le, nat_lt, option_and_then, ◌^◌}
use Rattle.std.specs.Bool.{then_some}
use Rattle.std.specs.Option.{option_map_or}
use Rattle.std.proofs.lemmas.Bool.{and_parts, and_from, eqb-false, ltb-true, ltb-false, leb-true, le-leb}
use Rattle.std.proofs.lemmas.List.{length-append, length-drop, length-replicate, length-set, get_or-set_same, get_or-set_other}
use Rattle.std.proofs.lemmas.List.Elements.{All-append, All-drop, All-replicate}
use Rattle.wire_format.specs.Messages.{BodyData as Body, MessageData as Message, NewViewData, CheckpointEntryData as CheckpointEntry}
use Rattle.wire.proofs.Skipping.{none_chosen}
use Rattle.ordering.specs.Log as logs
use Rattle.ordering.specs.Log.{Row, no_row, LogData}
use Rattle.ordering.specs.Keeping.{IsRow, IsLog}
use Rattle.ordering.specs.Checkpoints as held
use Rattle.ordering.proofs.Reading.{above_low}
use Rattle.ordering.proofs.Moving.{cuts_keep}
use Rattle.protocol.specs.System.Configuration.{Configuration}
use Rattle.protocol.specs.System.Trace.{Entry, Has}
use Rattle.protocol.specs.System.Trace.Entry.{Installed, Sent}
use Rattle.protocol.specs.Replica.Certificates.{brought, taken, new_view_from, change_sent, change_from, installed_at, checkpoint_in, checkpoint_from, checkpoints_of, with_checkpoint, insert_checkpoint, is_stable, stable_at, started_at, low, counts_at, batch_from, entry_proposal, proposal, logged, prepare_from, prepare_of, commit_from, commit_of, vote_in}
use Rattle.protocol.specs.Replica.Owed.{IsSending}
use Rattle.protocol.proofs.Words.Options.{or_else_alone}
use Rattle.protocol.proofs.Agreement.States.{checking}
use Rattle.replica_histories.specs.Logs.{checkpoints_above, AreLatest, MayBeLogged, FitsViews, FitsLog, IsVoted}
use Rattle.replica_histories.specs.Events.{LowMarkIsReached}
use Rattle.replica_histories.specs.Marks.{checked_log, IsVotedTo, BringsCheckpoint, MarksMove, InstallationsMove}
use Rattle.replica_histories.proofs.Words.{passed}
use Rattle.replica_histories.proofs.Certified.{Same, same_turned, prepared_back, committed_back, logged_within}
use Rattle.replica_histories.proofs.Latest.{inserts_same, behind_latest, behind_above, above_higher}
use Rattle.replica_histories.proofs.Checking.{latest_of, log_stable}
use Rattle.replica_histories.proofs.Settling.{votes_said, voted_goes}
use Rattle.replica_histories.proofs.Logging.{none_taken, view_quiet, proposal_quiet, begins_quiet, active_goes}
use Rattle.replica_histories.proofs.Reaching.{reached_by}

-- ---- the log after a cut

pub cut_low : (log : LogData) (h : ℕ) → log.low ≤ h → (logs.cut_to log h).low ≡ h
cut_low log h above = go (nat_le h log.low) refl
  where
    go : (b : Bool) → nat_le h log.low ≡ b → (cond b log (record log { low = h; rows = logs.cut_rows (min (h - log.low) log.span) log.rows })).low ≡ h
    go true e = let l = leb-true h log.low e in omega arith
    go false e = refl

-- what stays after a cut
pub cut_same : {A : Type 0} (of : LogData → A) → ((log : LogData) (h : ℕ) (rows : List Row) → of (record log { low = h; rows = rows }) ≡ of log) → (log : LogData) (h : ℕ) → of (logs.cut_to log h) ≡ of log
cut_same of same log h = go (nat_le h log.low)
  where
    go : (b : Bool) → of (cond b log (record log { low = h; rows = logs.cut_rows (min (h - log.low) log.span) log.rows })) ≡ of log
    go true = refl
    go false = same log h (logs.cut_rows (min (h - log.low) log.span) log.rows)

-- a cut at the low mark, or below it, changes nothing
cut_none : (log : LogData) (h : ℕ) → h ≤ log.low → logs.cut_to log h ≡ log
cut_none log h l = rw (le-leb h log.low l) refl

-- so a cut is at the larger one
pub cut_at : (log : LogData) (h : ℕ) → logs.cut_to log (max log.low h) ≡ logs.cut_to log h
cut_at log h = go (nat_lt log.low h) refl
  where
    go : (b : Bool) → nat_lt log.low h ≡ b → logs.cut_to log (max log.low h) ≡ logs.cut_to log h
    go true e = let l = ltb-true log.low h e in let most : max log.low h ≡ h = omega arith in ap (logs.cut_to log) most
    go false e = let l = ltb-false log.low h e in cut_none log (max log.low h) (omega arith) ∙ sym (cut_none log h l)

pub cut_is_log : (log : LogData) (h : ℕ) → IsLog log → h < 2 ^ 48 → IsLog (logs.cut_to log h)
cut_is_log log h is small = go (nat_le h log.low)
  where
    size : length (logs.cut_rows (min (h - log.low) log.span) log.rows) ≡ log.span
    size =
        let a = length-append (drop (min (h - log.low) log.span) log.rows) (replicate (min (h - log.low) log.span) no_row) in
        let d = length-drop (min (h - log.low) log.span) log.rows in
        let r = length-replicate (min (h - log.low) log.span) no_row in
        let s = is.size in
        omega arith

    go : (b : Bool) → IsLog (cond b log (record log { low = h; rows = logs.cut_rows (min (h - log.low) log.span) log.rows }))
    go true = is
    go false = record {
      some = is.some;
      few = is.few;
      me = is.me;
      span = is.span;
      low = small;
      size = size;
      rows = All-append (IsRow (logs.replicas log)) (drop (min (h - log.low) log.span) log.rows) (replicate (min (h - log.low) log.span) no_row) (All-drop (IsRow (logs.replicas log)) (min (h - log.low) log.span) log.rows is.rows)
          (All-replicate (IsRow (logs.replicas log)) (min (h - log.low) log.span) no_row (record { prepares = tt; commits = tt }));
      checkpoints = is.checkpoints;
    }

-- ---- an entry that proposes nothing and casts no vote

record Mute (c : Configuration) (me : ℕ) (past : List Entry) (e : Entry) : Type 0 where
  pub no_view : taken c past e ≡ None
  pub no_change : change_sent e ≡ 0
  pub batch : (v i : ℕ) → entry_proposal c me past e v i ≡ None
  pub prepare : (v i s : ℕ) → vote_in c me past e (prepare_from c s v i) v i ≡ None
  pub commit : (v i s : ℕ) → vote_in c me past e (commit_from s v i) v i ≡ None

-- it leaves all certificates
mute_same : (c : Configuration) (me : ℕ) (past : List Entry) (e : Entry) (v i : ℕ) → Mute c me past e → Same c me (e ∷ past) past v i
unfolding logged prepare_of commit_of
mute_same c me past e v i q = record {
  logged = or_else_alone (logged c me past v i) (proposal c me past e v i) (proposal_quiet c me past e v i q.no_view ∙ q.batch v i);
  prepare = λ s. or_else_alone (prepare_of c me past v i s) (vote_in c me past e (prepare_from c s v i) v i) (q.prepare v i s);
  commit = λ s. or_else_alone (commit_of c me past v i s) (vote_in c me past e (commit_from s v i) v i) (q.commit v i s);
}

-- The log with these checkpoints, cut at the low mark of the history after the entry.
module _ (c : Configuration) (me : ℕ) (log : LogData) (past : List Entry) (e : Entry) (f : FitsLog c me log past) (q : Mute c me past e) (held : List (List CheckpointEntry)) (mark : ℕ) where
  abbrev counted : LogData
  counted = record log { checkpoints = held }

  abbrev new : LogData
  new = logs.cut_to counted mark

  same : (v i : ℕ) → Same c me (e ∷ past) past v i
  same v i = mute_same c me past e v i q

  log_next : (v i : ℕ) → logged c me (e ∷ past) v i ≡ logged c me past v i
  log_next v i = (same v i).logged

  prepare_next : (v i s : ℕ) → prepare_of c me (e ∷ past) v i s ≡ prepare_of c me past v i s
  prepare_next v i s = (same v i).prepare s

  commit_next : (v i s : ℕ) → commit_of c me (e ∷ past) v i s ≡ commit_of c me past v i s
  commit_next v i s = (same v i).commit s

  module _ (is : IsLog counted) (up : log.low ≤ mark) (small : mark < 2 ^ 48) (low_is : low c me (e ∷ past) ≡ mark) (voted : (i : ℕ) → log.low < i → i ≤ mark → (logs.due_prepare log i ≡ None) × (logs.due_commit log i ≡ None))
      (checks : (s : ℕ) → checkpoints_above mark (checkpoints_of c (e ∷ past) s) ≡ checkpoints_above mark (logs.checkpoints_of counted s)) (latest : (s : ℕ) → AreLatest (logs.checkpoints_of counted s)) where
    low_new : new.low ≡ mark
    low_new = cut_low counted mark up

    ev : new.view ≡ log.view
    ev = cut_same (λ m. m.view) (λ m h rows. refl) counted mark

    es : new.span ≡ log.span
    es = cut_same (λ m. m.span) (λ m h rows. refl) counted mark

    -- a number above the new mark was above the old one
    above_new : (i : ℕ) → logs.is_in_marks new i ≡ true → log.low < i
    above_new i k = let a = above_low new i k in let n = low_new in omega arith

    -- a number in the old marks is cut or in the new ones
    cut_or_in : (i : ℕ) → logs.is_in_marks log i ≡ true → (i ≤ new.low) ⊎ (logs.is_in_marks new i ≡ true)
    cut_or_in i k = go (nat_lt new.low i) refl
      where
        p : (nat_lt log.low i && nat_le i (log.low + log.span) ≡ true) × (nat_lt i (2 ^ 48) ≡ true)
        p = and_parts (nat_lt log.low i && nat_le i (log.low + log.span)) (nat_lt i (2 ^ 48)) k

        go : (t : Bool) → nat_lt new.low i ≡ t → (i ≤ new.low) ⊎ (logs.is_in_marks new i ≡ true)
        go true h =
            let within = leb-true i (log.low + log.span) (and_parts (nat_lt log.low i) (nat_le i (log.low + log.span)) p.0).1 in
            let n = low_new in
            let same = es in
            inr (and_from (nat_lt new.low i && nat_le i (new.low + new.span)) (nat_lt i (2 ^ 48)) (and_from (nat_lt new.low i) (nat_le i (new.low + new.span)) h (le-leb i (new.low + new.span) (omega arith))) p.1)
        go false h = inl (let l = ltb-false new.low i h in omega arith)

    -- an answer within the new marks: the old one, or none on both sides
    read : (i : ℕ) → logs.is_in_marks new i ≡ true → (now old behind : Option (List ℕ)) → behind ≡ cond (logs.is_in_marks new i) old None → (logs.is_in_marks log i ≡ true → now ≡ old)
        → (logs.is_in_marks log i ≡ false → (now ≡ None) × (old ≡ None)) → now ≡ behind
    read i k now old behind cut there beyond = go (logs.is_in_marks log i) refl ∙ sym (cut ∙ ap (λ (t : Bool). cond t old None) k)
      where
        go : (t : Bool) → logs.is_in_marks log i ≡ t → now ≡ old
        go true h = there h
        go false h = let n = beyond h in n.0 ∙ sym n.1

    nothing_logged : (i : ℕ) → log.low < i → logs.is_in_marks log i ≡ false → logged c me past log.view i ≡ None
    nothing_logged i l out = go (logged c me past log.view i) refl
      where
        go : (o : Option (List ℕ)) → logged c me past log.view i ≡ o → logged c me past log.view i ≡ None
        go None h = h
        go (Some batch) h = at ((f.within log.view i batch h).marks refl)
          where
            at : (i ≤ log.low) ⊎ (logs.is_in_marks log i ≡ true) → logged c me past log.view i ≡ None
            at (inl k) = absurd (omega arith)
            at (inr k) = absurd (let bad : true ≡ false = sym k ∙ out in cc)

    outside : (i : ℕ) (o : Option (List ℕ)) → logs.is_in_marks log i ≡ false → cond (logs.is_in_marks log i) o None ≡ None
    outside i o out = ap (λ (t : Bool). cond t o None) out

    at_view : (P : ℕ → Type 0) → P log.view → P new.view
    at_view P h = subst P (sym ev) h

    place : (i : ℕ) → (i ≤ log.low) ⊎ (logs.is_in_marks log i ≡ true) → (i ≤ new.low) ⊎ (logs.is_in_marks new i ≡ true)
    place i (inl k) = inl (let n = low_new in omega arith)
    place i (inr k) = cut_or_in i k

    beyond : (i s : ℕ) → new.low < i → logs.is_in_marks new i ≡ false → (prepare_of c me past log.view i s ≡ None) × (commit_of c me past log.view i s ≡ None)
    beyond i s l out = go (logs.is_in_marks log i) refl
      where
        go : (t : Bool) → logs.is_in_marks log i ≡ t → (prepare_of c me past log.view i s ≡ None) × (commit_of c me past log.view i s ≡ None)
        go false h = f.above i s (let n = low_new in omega arith) h
        go true h = at (cut_or_in i h)
          where
            at : (i ≤ new.low) ⊎ (logs.is_in_marks new i ≡ true) → (prepare_of c me past log.view i s ≡ None) × (commit_of c me past log.view i s ≡ None)
            at (inl k) = absurd (omega arith)
            at (inr k) = absurd (let bad : true ≡ false = sym k ∙ out in cc)

    settled : log.active ≡ true → (i : ℕ) (batch : List ℕ) → i ≤ mark → logged c me past log.view i ≡ Some batch → IsVoted c me (e ∷ past) log.view i batch
    settled is_active i batch l h = voted_goes c me e past log.view i batch h (prepare_next log.view i) (votes_said c me log past f i batch is_active (λ above. voted i above l) h)

    ea : new.active ≡ log.active
    ea = cut_same (λ m. m.active) (λ m h rows. refl) counted mark

    within : (v i : ℕ) (batch : List ℕ) → logged c me past v i ≡ Some batch → MayBeLogged new v i
    within v i batch h =
        let w = f.within v i batch h in
        let n = low_new in
        let k = es in
        let high = w.ahead.0 in
        record { view = subst (λ (x : ℕ). v ≤ x) (sym ev) w.view; marks = λ at. place i (w.marks (at ∙ ev)); ahead = (omega arith, w.ahead.1) }

    -- a batch that is committed in an earlier view, within the new marks, was within the old ones
    known_in : (v i : ℕ) (batch : List ℕ) → logs.is_in_marks new i ≡ true → logged c me past v i ≡ Some batch → logs.is_in_marks log i ≡ true
    known_in v i batch k h = logged_within c me log past v i batch f (above_new i k) h

    row_decided : (i : ℕ) → logs.is_in_marks new i ≡ true → (logs.row_of new i).decided ≡ cond (logs.is_in_marks log i) (logs.row_of log i).decided None
    row_decided i k = (cuts_keep counted mark i me is).3 k

    was_below : (v : ℕ) → v < new.view → v < log.view
    was_below v below = subst (λ (x : ℕ). v < x) ev below

    was_earlier : (v : ℕ) → (v < new.view) ⊎ (new.active ≡ false) → (v < log.view) ⊎ (log.active ≡ false)
    was_earlier v (inl below) = inl (was_below v below)
    was_earlier v (inr resting) = inr (sym ea ∙ resting)

    views : FitsViews c me new (e ∷ past)
    views = record {
      decided = λ i batch k h.
          let p = passed (logs.is_in_marks log i) (logs.row_of log i).decided batch (sym (row_decided i k) ∙ h) in
          let d = f.views.decided i batch p.0 p.1 in
          (d.0, subst (λ (x : ℕ). d.0 < x) (sym ev) d.1, committed_back c me past (e ∷ past) d.0 i batch (same_turned c me (e ∷ past) past d.0 i (same d.0 i)) d.2);
      all_decided = λ v i batch below k h.
          let was = committed_back c me (e ∷ past) past v i batch (same v i) h in
          let inside = known_in v i batch k was.prepared.logged in
          let known = f.views.all_decided v i batch (was_below v below) inside was in
          (known.0, row_decided i k ∙ ap (λ (b : Bool). cond b (logs.row_of log i).decided None) inside ∙ known.1);
      voted = λ v i batch k earlier h.
          let was = prepared_back c me (e ∷ past) past v i batch (same v i) h in
          let own = f.views.voted v i batch (known_in v i batch k was.logged) (was_earlier v earlier) was in
          (own.0, commit_next v i me ∙ own.1);
      later = λ v i s above.
          let none = f.views.later v i s (subst (λ (x : ℕ). x < v) ev above) in
          (prepare_next v i s ∙ none.0, commit_next v i s ∙ none.1);
    }

    moved : FitsLog c me new (e ∷ past)
    moved = record {
      is_log = cut_is_log counted mark is small;
      own = cut_same (λ m. m.me) (λ m h rows. refl) counted mark ∙ f.own;
      faults = cut_same (λ m. m.faults) (λ m h rows. refl) counted mark ∙ f.faults;
      span = es ∙ f.span;
      active = active_goes past e log new q.no_change ev ea f.active;
      view = view_quiet c past e q.no_view ∙ f.view ∙ sym ev;
      low = low_is ∙ sym low_new;
      batches = λ i k. at_view (λ v. logged c me (e ∷ past) v i ≡ logs.logged_batch new i) (log_next log.view i ∙
          read i k (logged c me past log.view i) (logs.logged_batch log i) (logs.logged_batch new i) ((cuts_keep counted mark i me is).0) (f.batches i)
          (λ out. (nothing_logged i (above_new i k) out, outside i (logs.row_of log i).batch out)));
      prepares = λ i s k. at_view (λ v. prepare_of c me (e ∷ past) v i s ≡ logs.prepare_of new i s) (prepare_next log.view i s ∙
          read i k (prepare_of c me past log.view i s) (logs.prepare_of log i s) (logs.prepare_of new i s) ((cuts_keep counted mark i s is).1) (f.prepares i s)
          (λ out. ((f.above i s (above_new i k) out).0, outside i _ out)));
      commits = λ i s k. at_view (λ v. commit_of c me (e ∷ past) v i s ≡ logs.commit_of new i s) (commit_next log.view i s ∙
          read i k (commit_of c me past log.view i s) (logs.commit_of log i s) (logs.commit_of new i s) ((cuts_keep counted mark i s is).2) (f.commits i s)
          (λ out. ((f.above i s (above_new i k) out).1, outside i _ out)));
      within = λ v i batch h. within v i batch (sym (log_next v i) ∙ h);
      above = λ i s l out. at_view (λ v. (prepare_of c me (e ∷ past) v i s ≡ None) × (commit_of c me (e ∷ past) v i s ≡ None))
          (let n = beyond i s l out in (prepare_next log.view i s ∙ n.0, commit_next log.view i s ∙ n.1));
      begins = λ v batch h. subst (λ (x : ℕ). v ≤ x) (sym ev) (begins_quiet c past e log.view q.no_view f.begins v batch h);
      views = views;
      settled = λ is_active i batch l h. at_view (λ v. IsVoted c me (e ∷ past) v i batch)
          (settled (sym ea ∙ is_active) i batch (subst (λ (n : ℕ). i ≤ n) low_new l) (sym (log_next log.view i) ∙ subst (λ (v : ℕ). logged c me (e ∷ past) v i ≡ Some batch) ev h));
      checkpoints = λ s. subst (λ (n : ℕ). checkpoints_above n (checkpoints_of c (e ∷ past) s) ≡ checkpoints_above n (logs.checkpoints_of new s)) (sym low_new)
          (checks s ∙ ap (checkpoints_above mark) (sym (kept s)));
      latest = λ s. subst AreLatest (sym (kept s)) (latest s);
    }
      where
        kept : (s : ℕ) → logs.checkpoints_of new s ≡ logs.checkpoints_of counted s
        kept s = cut_same (λ m. logs.checkpoints_of m s) (λ m h rows. refl) counted mark

-- ---- a checkpoint

changes_nothing : (c : Configuration) (s k : ℕ) (root : List ℕ) (e : Entry) → brought c e ≡ Some (checking s k root) → change_sent e ≡ 0
changes_nothing c s k root (Sent p bytes) h = ap (λ (o : Option Body). option_map_or change_from o 0) h
changes_nothing c s k root _ h = refl

pub installs_nothing : (c : Configuration) (body : Body) (e : Entry) → brought c e ≡ Some body → installed_at e ≡ 0
installs_nothing c body (Installed x y z) h = absurd (let bad : None ≡ Some body = h in cc)
installs_nothing c body _ h = refl

-- the checkpoints of each sender with one more
pub counts_one : (log : LogData) (s x : ℕ) (entry : CheckpointEntry) → IsLog log → s < logs.replicas log → logs.checkpoints_of (logs.with_checkpoint_of log s entry) x ≡ with_checkpoint x (Some (s, entry)) (logs.checkpoints_of log x)
counts_one log s x entry is known = go (s == x) refl
  where
    put : List CheckpointEntry
    put = held.with_checkpoint entry (logs.checkpoints_of log s)

    size : length log.checkpoints ≡ logs.replicas log
    size = is.checkpoints

    go : (b : Bool) → (s == x) ≡ b → slice_index_or (slice_set log.checkpoints s (held.with_checkpoint entry (logs.checkpoints_of log s))) x [] ≡ cond b (take 3 (insert_checkpoint entry (logs.checkpoints_of log x))) (logs.checkpoints_of log x)
    go true e =
        let same : s ≡ x = eqb-true s x e in
        let n = size in
        ap (λ (y : ℕ). slice_index_or (slice_set log.checkpoints s (held.with_checkpoint entry (logs.checkpoints_of log s))) y []) (sym same)
        ∙ get_or-set_same log.checkpoints s (held.with_checkpoint entry (logs.checkpoints_of log s)) [] (omega arith)
        ∙ ap (take 3) (sym (inserts_same entry (logs.checkpoints_of log s))) ∙ ap (λ (y : ℕ). take 3 (insert_checkpoint entry (logs.checkpoints_of log y))) same
    go false e = get_or-set_other log.checkpoints s x (held.with_checkpoint entry (logs.checkpoints_of log s)) [] (λ same. eqb-false s x e (sym same))

-- The checkpoints of log and history with one more are the same above the mark.
pub counts_alike : (c : Configuration) (log : LogData) (past : List Entry) (e : Entry) (s x : ℕ) (entry : CheckpointEntry) → IsLog log → s < logs.replicas log → checkpoint_in c e ≡ Some (s, entry)
    → checkpoints_above log.low (checkpoints_of c past x) ≡ checkpoints_above log.low (logs.checkpoints_of log x) → AreLatest (logs.checkpoints_of log x)
    → checkpoints_above log.low (checkpoints_of c (e ∷ past) x) ≡ checkpoints_above log.low (logs.checkpoints_of (logs.with_checkpoint_of log s entry) x)
unfolding checkpoints_of
counts_alike c log past e s x entry is known marked same latest =
    ap (λ (o : Option (ℕ × CheckpointEntry)). checkpoints_above log.low (with_checkpoint x o (checkpoints_of c past x))) marked
    ∙ behind_above log.low x (Some (s, entry)) (checkpoints_of c past x) (logs.checkpoints_of log x) (latest_of c past x) latest same
    ∙ ap (checkpoints_above log.low) (sym (counts_one log s x entry is known))

module _ (c : Configuration) (me : ℕ) (log : LogData) (past : List Entry) (e : Entry) (s : ℕ) (entry : CheckpointEntry) (f : FitsLog c me log past) (b : BringsCheckpoint c e s entry) (known : s < logs.replicas log) where
  abbrev more : LogData
  more = logs.with_checkpoint_of log s entry

  -- the low mark after it
  abbrev next : ℕ
  next = cond (logs.is_stable more entry) (max log.low entry.number) log.low

  pub marked : checkpoint_in c e ≡ Some (s, entry)
  marked = ap (option_and_then checkpoint_from) b.brings ∙ ap (λ (t : Bool). then_some t (let x : ℕ × CheckpointEntry = (s, entry) in x)) b.number

  mute : Mute c me past e
  mute = record {
    no_view = none_taken c past e (ap (option_and_then (new_view_from c)) b.brings);
    no_change = changes_nothing c s entry.number entry.digest e b.brings;
    batch = λ v i. none_chosen (counts_at c me past e v i) (option_and_then (batch_from c me v i) (brought c e)) (ap (option_and_then (batch_from c me v i)) b.brings);
    prepare = λ v i x. none_chosen (counts_at c me past e v i) (option_and_then (prepare_from c x v i) (brought c e)) (ap (option_and_then (prepare_from c x v i)) b.brings);
    commit = λ v i x. none_chosen (counts_at c me past e v i) (option_and_then (commit_from x v i) (brought c e)) (ap (option_and_then (commit_from x v i)) b.brings);
  }

  pub alike : (x : ℕ) → checkpoints_above log.low (checkpoints_of c (e ∷ past) x) ≡ checkpoints_above log.low (logs.checkpoints_of more x)
  alike x = counts_alike c log past e s x entry f.is_log known marked (f.checkpoints x) (f.latest x)

  latest : (x : ℕ) → AreLatest (logs.checkpoints_of more x)
  latest x = subst AreLatest (sym (counts_one log s x entry f.is_log known)) (behind_latest x (Some (s, entry)) (logs.checkpoints_of log x) (f.latest x))

  is_log : IsLog more
  is_log = record {
    some = f.is_log.some;
    few = f.is_log.few;
    me = f.is_log.me;
    span = f.is_log.span;
    low = f.is_log.low;
    size = f.is_log.size;
    rows = f.is_log.rows;
    checkpoints = length-set log.checkpoints s (held.with_checkpoint entry (logs.checkpoints_of log s)) ∙ f.is_log.checkpoints;
  }

  up : log.low ≤ next
  up = go (logs.is_stable more entry)
    where
      go : (t : Bool) → log.low ≤ cond t (max log.low entry.number) log.low
      go true = omega arith
      go false = omega arith

  small : next < 2 ^ 48
  small = go (logs.is_stable more entry)
    where
      go : (t : Bool) → cond t (max log.low entry.number) log.low < 2 ^ 48
      go true = let a = f.is_log.low in let n = ltb-true entry.number (2 ^ 48) b.number in omega arith
      go false = f.is_log.low

  low_is : low c me (e ∷ past) ≡ next
  unfolding low
  low_is =
      let stable : stable_at c me past e ≡ cond (is_stable c me (e ∷ past) entry) entry.number 0 =
      ap (λ (o : Option (ℕ × CheckpointEntry)). option_map_or (λ (x : ℕ × CheckpointEntry). cond (is_stable c me (e ∷ past) x.1) x.1.number 0) o 0) marked in
      let started : started_at c past e ≡ 0 = ap (λ (o : Option NewViewData). option_map_or (λ (new : NewViewData). new.start) o 0) mute.no_view in
      let installed = installs_nothing c (checking s entry.number entry.digest) e b.brings in
      let was = f.low in
      let same : max log.low (cond (is_stable c me (e ∷ past) entry) entry.number 0) ≡ cond (logs.is_stable more entry) (max log.low entry.number) log.low = go (nat_lt log.low entry.number) refl in
      omega arith
    where
      low_mark : (t u : Bool) → entry.number ≤ log.low → max log.low (cond t entry.number 0) ≡ cond u (max log.low entry.number) log.low
      low_mark true true l = refl
      low_mark true false l = omega arith
      low_mark false true l = omega arith
      low_mark false false l = omega arith

      high_mark : (t : Bool) → max log.low (cond t entry.number 0) ≡ cond t (max log.low entry.number) log.low
      high_mark true = refl
      high_mark false = omega arith

      go : (t : Bool) → nat_lt log.low entry.number ≡ t → max log.low (cond (is_stable c me (e ∷ past) entry) entry.number 0) ≡ cond (logs.is_stable more entry) (max log.low entry.number) log.low
      go true l =
          high_mark (is_stable c me (e ∷ past) entry)
          ∙ ap (λ (t : Bool). cond t (max log.low entry.number) log.low) (log_stable c me more (e ∷ past) entry f.faults f.own (ltb-true log.low entry.number l) alike)
      go false l = low_mark (is_stable c me (e ∷ past) entry) (logs.is_stable more entry) (ltb-false log.low entry.number l)

  cut_is : logs.cut_to more next ≡ checked_log log s entry
  cut_is = go (logs.is_stable more entry)
    where
      go : (t : Bool) → logs.cut_to more (cond t (max log.low entry.number) log.low) ≡ cond t (logs.cut_to more entry.number) more
      go true = cut_at more entry.number
      go false = cut_none more log.low (omega arith)

  pub checked : IsVotedTo log (checked_log log s entry).low → FitsLog c me (checked_log log s entry) (e ∷ past)
  checked voted = subst (λ (m : LogData). FitsLog c me m (e ∷ past)) cut_is
      (moved c me log past e f mute more.checkpoints next is_log up small low_is (λ i above l. voted i (subst (λ (n : ℕ). i ≤ n) mark_is l))
      (λ x. sym (above_higher log.low next (checkpoints_of c (e ∷ past) x) up) ∙ ap (checkpoints_above next) (alike x) ∙ above_higher log.low next (logs.checkpoints_of more x) up) latest)
    where
      mark_is : next ≡ (checked_log log s entry).low
      mark_is = sym (cut_low more next up) ∙ ap (λ (m : LogData). m.low) cut_is

  checked_low : (checked_log log s entry).low ≡ next
  checked_low = sym (ap (λ (m : LogData). m.low) cut_is) ∙ cut_low more next up

  pub checked_up : log.low ≤ (checked_log log s entry).low
  checked_up = let is = checked_low in let l = up in omega arith

  -- the low mark stays, or is at most the stable number; so it is reached if the stable state was executed
  pub checked_reached : (number : ℕ) (due rest : List Message) → ((x : Message) → Has (λ y. y ≡ x) due → Has (λ y. y ≡ x) rest ⊎ IsSending me x e) → LowMarkIsReached c me log.low number due past
      → (is_stable c me (e ∷ past) entry ≡ true → entry.number ≤ number) → LowMarkIsReached c me (checked_log log s entry).low number rest (e ∷ past)
  checked_reached number due rest paid was stable = subst (λ (x : ℕ). LowMarkIsReached c me x number rest (e ∷ past)) (sym checked_low) (go (logs.is_stable more entry) refl)
    where
      kept : LowMarkIsReached c me log.low number rest (e ∷ past)
      kept = reached_by c me log.low number due rest past e (λ v below. mute_same c me past e v (suc number) mute) paid was

      above : (t : Bool) → nat_lt log.low entry.number ≡ t → logs.is_stable more entry ≡ true → LowMarkIsReached c me (max log.low entry.number) number rest (e ∷ past)
      above true l is = inl (let k = ltb-true log.low entry.number l in let a = stable (log_stable c me more (e ∷ past) entry f.faults f.own k alike ∙ is) in omega arith)
      above false l is = let k = ltb-false log.low entry.number l in let same : max log.low entry.number ≡ log.low = omega arith in subst (λ (x : ℕ). LowMarkIsReached c me x number rest (e ∷ past)) (sym same) kept

      go : (t : Bool) → logs.is_stable more entry ≡ t → LowMarkIsReached c me (cond t (max log.low entry.number) log.low) number rest (e ∷ past)
      go true is = above (nat_lt log.low entry.number) refl is
      go false is = kept

pub marks_move : MarksMove
marks_move c me log past e s entry f b known voted = checked c me log past e s entry f b known voted

-- ---- an installation

pub installations_move : InstallationsMove
unfolding low checkpoints_of
installations_move c me log past k root f small voted =
    subst (λ (m : LogData). FitsLog c me m (Installed me k root ∷ past)) (cut_at log k)
    (moved c me log past (Installed me k root) f mute log.checkpoints (max log.low k) f.is_log (omega arith) (let l = f.is_log.low in omega arith) (let was = f.low in omega arith) (λ i above l. voted i (omega arith))
    (λ s. sym (above_higher log.low (max log.low k) (checkpoints_of c past s) (omega arith)) ∙ ap (checkpoints_above (max log.low k)) (f.checkpoints s) ∙ above_higher log.low (max log.low k) (logs.checkpoints_of log s) (omega arith)) f.latest)
  where
    mute : Mute c me past (Installed me k root)
    mute = record { no_view = refl; no_change = refl; batch = λ v i. refl; prepare = λ v i s. refl; commit = λ v i s. refl }
