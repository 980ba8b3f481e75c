-- The log when a new view begins fits the longer history: the new view's batches are logged, nobody has voted, and the
-- batches that were committed in earlier views are known.
use Rattle.std.proofs.Common.{◌≡◌, ℕ, suc, ◌+◌, ◌-◌, ◌*◌, ◌≤◌, ◌<◌, ◌^◌, ◌⊎◌, inl, inr, Bool, true, false, cond, List, [], ◌∷◌, Option, Some, None, slice_get, slice_index_or, refl, sym, ap, ◌∙◌, subst, arith, eq-eqb, eqb-true}
use Rattle.std.specs.Prelude.{◌==◌, nat_le, nat_lt, option_and_then, bytes_eq, ◌&&◌, ⊤}
use Rattle.std.specs.List.{list_any}
use Rattle.std.specs.Option.{option_map_or}
use Rattle.std.proofs.lemmas.Bool.{and_parts, leb-true, le-leb, lt-ltb, ltb-true, ltb-false}
use Rattle.sha2.specs.Sha256.{sha256}
use Rattle.quorum.specs.Votes.{has_digest}
use Rattle.quorum.proofs.Counting.{count_same}
use Rattle.wire_format.specs.Messages.{BodyData as Body, MessageData as Message, ViewChangeData, NewViewData, CheckpointEntryData as CheckpointEntry, view_change as ViewChange, new_view as NewView}
use Rattle.wire.proofs.Skipping.{none_chosen}
use Rattle.ordering.specs.Log as logs
use Rattle.ordering.specs.Log.{LogData}
use Rattle.ordering.proofs.Reading.{above_low}
use Rattle.protocol.specs.System.Configuration.{Configuration, replicas}
use Rattle.protocol.specs.System.Trace.{Entry, Once}
use Rattle.protocol.specs.Replica.Selection.{is_quorum, is_weak_quorum, changes_of, passes_by, count_in, is_within, may_select}
use Rattle.protocol.specs.Replica.Certificates.{brought, target, taken, installed_at, checkpoint_in, checkpoint_from, checkpoints_of, with_checkpoint, is_stable, stable_at, started_at, low, is_in_marks, counts_at, batch_from, assigned_batch, assigned_proposal, entry_proposal, proposal, logged, prepare_from, prepare_of, commit_from, commit_of, vote_in, Prepared, Committed}
use Rattle.protocol.specs.Replica.Owed.{BeginsViewWith}
use Rattle.protocol.proofs.Words.Options.{or_else_alone, or_else_cases, or_else_second, some_injective}
use Rattle.protocol.proofs.Words.Elements.{every_has, some_of_has}
use Rattle.protocol.proofs.Words.Lists.{some_below, passes_change, change_there}
use Rattle.protocol.proofs.Words.Bounds.{bounded}
use Rattle.protocol.proofs.Agreement.Marks.{Takes, takes, selects, selected_in, proposes}
use Rattle.protocol.proofs.Agreement.Executing.{commit_stays, committed_later}
use Rattle.replica_histories.specs.Logs.{checkpoints_above, AreLatest, IsVoted, MayBeLogged, FitsViews, FitsLog}
use Rattle.replica_histories.specs.Views.{entered_log}
use Rattle.replica_histories.proofs.Words.{apart, passed, given_not, marks_same}
use Rattle.replica_histories.proofs.Latest.{above_higher}
use Rattle.replica_histories.proofs.Certified.{logged_within, prepared_there, committed_here, committed_there}
use Rattle.replica_histories.proofs.Settling.{own_commit}
use Rattle.replica_histories.proofs.Batches.{entered_is_log, entered_me, entered_faults, entered_span, entered_view, entered_log_active, entered_checkpoints, entered_low, entered_batch, assigned_prepare, assigned_commit, assigned_decided}
use Rattle.replica_histories.proofs.Cutting.{installs_nothing}

-- ---- an entry that brings a view change or a new view

-- It alone proposes nothing, casts no vote, brings no checkpoint and installs nothing.
pub record Still (c : Configuration) (me : ℕ) (past : List Entry) (e : Entry) : Type 0 where
  pub batch : (v i : ℕ) → entry_proposal c me past e v i ≡ None
  pub prepare : (v i s : ℕ) → vote_in c me past e (prepare_from c s v i) v i ≡ None
  pub commit : (v i s : ℕ) → vote_in c me past e (commit_from s v i) v i ≡ None
  pub checkpoint : checkpoint_in c e ≡ None
  pub installed : installed_at e ≡ 0

abbrev pub IsOfViews : Message → Type 0
IsOfViews message = elim message [ ViewChange vc ↦ ⊤ | NewView new ↦ ⊤ | _ ↦ ⊥ ]

pub still_brings : (c : Configuration) (me : ℕ) (past : List Entry) (e : Entry) (sender : ℕ) (message : Message) → IsOfViews message → brought c e ≡ Some (record { sender = sender; message = message }) → Still c me past e
still_brings c me past e sender message is h = record {
  batch = λ v i. nothing (counts_at c me past e v i) (batch_from c me v i) (no_batch v i message is);
  prepare = λ v i s. nothing (counts_at c me past e v i) (prepare_from c s v i) (no_prepare v i s message is);
  commit = λ v i s. nothing (counts_at c me past e v i) (commit_from s v i) (no_commit v i s message is);
  checkpoint = ap (option_and_then checkpoint_from) h ∙ no_checkpoint message is;
  installed = installs_nothing c (record { sender = sender; message = message }) e h;
}
  where
    nothing : (b : Bool) (vote : Body → Option (List ℕ)) → vote (record { sender = sender; message = message }) ≡ None → cond b (option_and_then vote (brought c e)) None ≡ None
    nothing b vote none = none_chosen b (option_and_then vote (brought c e)) (ap (option_and_then vote) h ∙ none)

    no_batch : (v i : ℕ) (m : Message) → IsOfViews m → batch_from c me v i (record { sender = sender; message = m }) ≡ None
    no_batch v i (ViewChange vc) k = refl
    no_batch v i (NewView new) k = refl
    no_batch v i _ k = absurd k

    no_prepare : (v i s : ℕ) (m : Message) → IsOfViews m → prepare_from c s v i (record { sender = sender; message = m }) ≡ None
    no_prepare v i s (ViewChange vc) k = refl
    no_prepare v i s (NewView new) k = refl
    no_prepare v i s _ k = absurd k

    no_commit : (v i s : ℕ) (m : Message) → IsOfViews m → commit_from s v i (record { sender = sender; message = m }) ≡ None
    no_commit v i s (ViewChange vc) k = refl
    no_commit v i s (NewView new) k = refl
    no_commit v i s _ k = absurd k

    no_checkpoint : (m : Message) → IsOfViews m → checkpoint_from (record { sender = sender; message = m }) ≡ None
    no_checkpoint (ViewChange vc) k = refl
    no_checkpoint (NewView new) k = refl
    no_checkpoint _ k = absurd k

module _ (c : Configuration) (me : ℕ) (past : List Entry) (e : Entry) (q : Still c me past e) where
  pub still_prepare : (v i s : ℕ) → prepare_of c me (e ∷ past) v i s ≡ prepare_of c me past v i s
  unfolding prepare_of
  still_prepare v i s = or_else_alone (prepare_of c me past v i s) (vote_in c me past e (prepare_from c s v i) v i) (q.prepare v i s)

  pub still_commit : (v i s : ℕ) → commit_of c me (e ∷ past) v i s ≡ commit_of c me past v i s
  unfolding commit_of
  still_commit v i s = or_else_alone (commit_of c me past v i s) (vote_in c me past e (commit_from s v i) v i) (q.commit v i s)

  pub still_checkpoints : (s : ℕ) → checkpoints_of c (e ∷ past) s ≡ checkpoints_of c past s
  unfolding checkpoints_of
  still_checkpoints s = ap (λ (o : Option (ℕ × CheckpointEntry)). with_checkpoint s o (checkpoints_of c past s)) q.checkpoint

  -- a batch that is prepared or committed after it, and was logged, was so before
  pub still_prepared : (v i : ℕ) (batch : List ℕ) → logged c me past v i ≡ Some batch → Prepared c me (e ∷ past) v i batch → Prepared c me past v i batch
  still_prepared v i batch was p = record {
    logged = was;
    backups = subst (λ (n : ℕ). 2 * c.faults ≤ n)
        (count_same (λ s. has_digest (sha256 batch) (prepare_of c me (e ∷ past) v i s)) (λ s. has_digest (sha256 batch) (prepare_of c me past v i s)) (λ s. ap (has_digest (sha256 batch)) (still_prepare v i s)) (replicas c)) p.backups;
  }

  pub still_committed : (v i : ℕ) (batch : List ℕ) → logged c me past v i ≡ Some batch → Committed c me (e ∷ past) v i batch → Committed c me past v i batch
  still_committed v i batch was k = record {
    prepared = still_prepared v i batch was k.prepared;
    commits = subst (λ (n : ℕ). 2 * c.faults + 1 ≤ n)
        (count_same (λ s. has_digest (sha256 batch) (commit_of c me (e ∷ past) v i s)) (λ s. has_digest (sha256 batch) (commit_of c me past v i s)) (λ s. ap (has_digest (sha256 batch)) (still_commit v i s)) (replicas c)) k.commits;
    own = sym (still_commit v i me) ∙ k.own;
  }

-- ---- a new view that the replica takes or sends

-- it starts at a number, since its view changes list checkpoints of numbers alone
pub start_small : (c : Configuration) (new : NewViewData) → may_select c new ≡ true → new.start < 2 ^ 48
start_small c new h =
    let s = selects c new h in
    let set = changes_of c new in
    let is_it : CheckpointEntry → Bool = λ checkpoint. (checkpoint.number == new.start) && bytes_eq checkpoint.digest new.root in
    let lists : ViewChangeData → Bool = λ vc. list_any is_it vc.checkpoints in
    let p = and_parts (is_quorum c (count_in c (λ vc. nat_le vc.low new.start) set)) (is_weak_quorum c (count_in c lists set)) s.start in
    let enough = leb-true (c.faults + 1) (count_in c lists set) p.1 in
    let some = some_below (passes_by lists set) (replicas c) (lt-ltb 0 (count_in c lists set) (omega arith)) in
    let r = passes_change lists set some.0 some.2 in
    let fit = every_has (λ (x : ℕ × ViewChangeData). (x.1.view == new.view) && is_within c x.1) set (some.0, r.0) s.each (change_there set some.0 r.0 r.1) in
    let bounds = bounded c r.0 (and_parts (r.0.view == new.view) (is_within c r.0) fit).1 in
    let k = some_of_has is_it r.0.checkpoints r.2 in
    let same = eqb-true k.0.number new.start (and_parts (k.0.number == new.start) (bytes_eq k.0.digest new.root) k.2).0 in
    let small = (bounds.checkpoints k.0 k.1).number in
    omega arith

module _ (c : Configuration) (me : ℕ) (log : LogData) (past : List Entry) (e : Entry) (new : NewViewData) (f : FitsLog c me log past) (q : Still c me past e) (t : taken c past e ≡ Some new) where
  it : Takes c me past e new
  it = takes c me past e new t

  pub new_above : log.view < new.view
  new_above = let a = it.above in let v = f.view in omega arith

  pub new_small : new.start < 2 ^ 48
  new_small = start_small c new (selected_in c e new it.brought)

  abbrev assigned : LogData
  assigned = entered_log log new

  pub low_behind : low c me (e ∷ past) ≡ assigned.low
  unfolding low
  low_behind =
      let stable : stable_at c me past e ≡ 0 = ap (λ (o : Option (ℕ × CheckpointEntry)). option_map_or (λ (x : ℕ × CheckpointEntry). cond (is_stable c me (e ∷ past) x.1) x.1.number 0) o 0) q.checkpoint in
      let started : started_at c past e ≡ new.start = ap (λ (o : Option NewViewData). option_map_or (λ (x : NewViewData). x.start) o 0) t in
      let installed = q.installed in
      let was = f.low in
      let is = entered_low log new f.is_log new_small in
      omega arith

  marks_behind : (i : ℕ) → is_in_marks c (low c me (e ∷ past)) i ≡ logs.is_in_marks assigned i
  marks_behind i = ap (λ (h : ℕ). is_in_marks c h i) low_behind ∙ marks_same c assigned i (entered_span log new f.is_log new_small ∙ f.span)

  pub entered_high : log.low ≤ assigned.low
  entered_high = let is = entered_low log new f.is_log new_small in omega arith

  assigned_start : new.start ≤ assigned.low
  assigned_start = let is = entered_low log new f.is_log new_small in omega arith

  -- its proposals are for its view, within the marks after it
  proposed : (v i : ℕ) (batch : List ℕ) → proposal c me past e v i ≡ Some batch → (v ≡ new.view) × (logs.is_in_marks assigned i ≡ true)
  proposed v i batch h = go (or_else_cases (assigned_proposal c me past e v i) (entry_proposal c me past e v i) batch h)
    where
      go : (assigned_proposal c me past e v i ≡ Some batch) ⊎ (entry_proposal c me past e v i ≡ Some batch) → (v ≡ new.view) × (logs.is_in_marks assigned i ≡ true)
      go (inr k) = absurd (given_not (entry_proposal c me past e v i) batch k (q.batch v i))
      go (inl k) =
          let p = passed (is_in_marks c (low c me (e ∷ past)) i) (option_and_then (assigned_batch v i) (taken c past e)) batch k in
          (sym (proposes c v i new batch (sym (ap (option_and_then (assigned_batch v i)) t) ∙ p.1)).view_is, sym (marks_behind i) ∙ p.0)

  pub logged_cases : (v i : ℕ) (batch : List ℕ) → logged c me (e ∷ past) v i ≡ Some batch → (logged c me past v i ≡ Some batch) ⊎ ((v ≡ new.view) × (logs.is_in_marks assigned i ≡ true))
  unfolding logged
  logged_cases v i batch h = go (or_else_cases (logged c me past v i) (proposal c me past e v i) batch h)
    where
      go : (logged c me past v i ≡ Some batch) ⊎ (proposal c me past e v i ≡ Some batch) → (logged c me past v i ≡ Some batch) ⊎ ((v ≡ new.view) × (logs.is_in_marks assigned i ≡ true))
      go (inl k) = inl k
      go (inr k) = inr (proposed v i batch k)

  -- in an earlier view it logs nothing
  pub logged_before : (v i : ℕ) (batch : List ℕ) → v < new.view → logged c me (e ∷ past) v i ≡ Some batch → logged c me past v i ≡ Some batch
  logged_before v i batch l h = go (logged_cases v i batch h)
    where
      go : (logged c me past v i ≡ Some batch) ⊎ ((v ≡ new.view) × (logs.is_in_marks assigned i ≡ true)) → logged c me past v i ≡ Some batch
      go (inl k) = k
      go (inr k) = let same = k.0 in absurd (omega arith)

  -- and in its own no batch was logged
  none_logged : (i : ℕ) → logged c me past new.view i ≡ None
  none_logged i = go (logged c me past new.view i) refl
    where
      go : (o : Option (List ℕ)) → logged c me past new.view i ≡ o → o ≡ None
      go None h = refl
      go (Some batch) h = let w = (f.within new.view i batch h).view in let a = new_above in absurd (omega arith)

  pub logged_here : (i : ℕ) → logs.is_in_marks assigned i ≡ true → logged c me (e ∷ past) new.view i ≡ logs.logged_batch assigned i
  unfolding logged
  logged_here i w =
      or_else_second (logged c me past new.view i) (proposal c me past e new.view i) (none_logged i)
      ∙ or_else_alone (assigned_proposal c me past e new.view i) (entry_proposal c me past e new.view i) (q.batch new.view i)
      ∙ rw (marks_behind i ∙ w, t, eq-eqb new.view new.view refl, lt-ltb new.start i above) (ap (slice_get new.batches) place)
      ∙ sym (entered_batch log new f.is_log new_small i w above)
    where
      above : new.start < i
      above = let l = above_low assigned i w in let s = assigned_start in omega arith

      place : i - new.start - 1 ≡ i - suc new.start
      place = omega arith

  above_old : (i : ℕ) → logs.is_in_marks assigned i ≡ true → log.low < i
  above_old i w = let l = above_low assigned i w in let h = entered_high in omega arith

  nobody : (i s : ℕ) (v : ℕ) → log.view < v → (prepare_of c me (e ∷ past) v i s ≡ None) × (commit_of c me (e ∷ past) v i s ≡ None)
  nobody i s v l = let n = f.views.later v i s l in (still_prepare c me past e q v i s ∙ n.0, still_commit c me past e q v i s ∙ n.1)

  module _ (targets : target (e ∷ past) ≤ new.view) (none_due : (i : ℕ) → logs.due_commit log i ≡ None) where
    at : (P : ℕ → Type 0) → P new.view → P assigned.view
    at P h = subst P (sym (entered_view log new f.is_log new_small)) h

    decided : (i : ℕ) (batch : List ℕ) → logs.is_in_marks assigned i ≡ true → (logs.row_of assigned i).decided ≡ Some batch → (v : ℕ) × (v < assigned.view) × Committed c me (e ∷ past) v i batch
    decided i batch w h =
        let k = committed_here c me log past i batch f (sym (assigned_decided log new f.is_log new_small i w) ∙ h) in
        let a = new_above in
        let most = (f.within k.0 i batch k.1.prepared.logged).view in
        (k.0, at (λ v. k.0 < v) (omega arith), committed_later c me k.0 i batch e past k.1)

    all_decided : (v i : ℕ) (batch : List ℕ) → v < new.view → logs.is_in_marks assigned i ≡ true → Committed c me (e ∷ past) v i batch → (known : List ℕ) × ((logs.row_of assigned i).decided ≡ Some known)
    all_decided v i batch l w k =
        let was = still_committed c me past e q v i batch (logged_before v i batch l k.prepared.logged) k in
        let known = committed_there c me log past v i batch f (above_old i w) was in
        (known.0, assigned_decided log new f.is_log new_small i w ∙ known.1)

    voted : (v i : ℕ) (batch : List ℕ) → logs.is_in_marks assigned i ≡ true → v < new.view → Prepared c me (e ∷ past) v i batch → (digest : List ℕ) × (commit_of c me (e ∷ past) v i me ≡ Some digest)
    voted v i batch w l p = go (nat_lt v log.view) refl
      where
        was_logged : logged c me past v i ≡ Some batch
        was_logged = logged_before v i batch l p.logged

        was : Prepared c me past v i batch
        was = still_prepared c me past e q v i batch was_logged p

        inside : logs.is_in_marks log i ≡ true
        inside = logged_within c me log past v i batch f (above_old i w) was_logged

        later : (digest : List ℕ) × (commit_of c me past v i me ≡ Some digest) → (digest : List ℕ) × (commit_of c me (e ∷ past) v i me ≡ Some digest)
        later k = (k.0, commit_stays c me v i me k.0 e past k.1)

        own : v ≡ log.view → (b : Bool) → log.active ≡ b → (digest : List ℕ) × (commit_of c me past v i me ≡ Some digest)
        own same true a =
            subst (λ (x : ℕ). (digest : List ℕ) × (commit_of c me past x i me ≡ Some digest)) (sym same)
            (own_commit c me log past f i batch a (none_due i) (prepared_there c me log past i batch f (above_old i w) (subst (λ (x : ℕ). Prepared c me past x i batch) same was)))
        own same false a = f.views.voted v i batch inside (inr a) was

        go : (b : Bool) → nat_lt v log.view ≡ b → (digest : List ℕ) × (commit_of c me (e ∷ past) v i me ≡ Some digest)
        go true h = later (f.views.voted v i batch inside (inl (ltb-true v log.view h)) was)
        go false h = let most = (f.within v i batch was_logged).view in let least = ltb-false v log.view h in later (own (omega arith) log.active refl)

    views : FitsViews c me assigned (e ∷ past)
    views = record {
      decided = decided;
      all_decided = λ v i batch l w k. all_decided v i batch (subst (λ (n : ℕ). v < n) (entered_view log new f.is_log new_small) l) w k;
      voted = λ v i batch w when p. voted v i batch w (earlier v when) p;
      later = λ v i s l. nobody i s v (let a = new_above in let is = entered_view log new f.is_log new_small in omega arith);
    }
      where
        earlier : (v : ℕ) → (v < assigned.view) ⊎ (assigned.active ≡ false) → v < new.view
        earlier v (inl l) = subst (λ (n : ℕ). v < n) (entered_view log new f.is_log new_small) l
        earlier v (inr a) = absurd (apart assigned.active (entered_log_active log new f.is_log new_small) a)

    within : (v i : ℕ) (batch : List ℕ) → logged c me (e ∷ past) v i ≡ Some batch → MayBeLogged assigned v i
    within v i batch h = go (logged_cases v i batch h)
      where
        is_view : assigned.view ≡ new.view
        is_view = entered_view log new f.is_log new_small

        span_same : assigned.span ≡ log.span
        span_same = entered_span log new f.is_log new_small

        inside : logs.is_in_marks assigned i ≡ true → (i ≤ assigned.low + assigned.span) × (i < 2 ^ 48)
        inside w =
            let p = and_parts (nat_lt assigned.low i && nat_le i (assigned.low + assigned.span)) (nat_lt i (2 ^ 48)) w in
            (leb-true i (assigned.low + assigned.span) (and_parts (nat_lt assigned.low i) (nat_le i (assigned.low + assigned.span)) p.0).1, ltb-true i (2 ^ 48) p.1)

        go : (logged c me past v i ≡ Some batch) ⊎ ((v ≡ new.view) × (logs.is_in_marks assigned i ≡ true)) → MayBeLogged assigned v i
        go (inl k) =
            let w = f.within v i batch k in
            let most = w.view in
            let a = new_above in
            let is = is_view in
            let ahead = w.ahead.0 in
            let high = entered_high in
            let same = span_same in
            record { view = omega arith; marks = λ here. absurd (omega arith); ahead = (omega arith, w.ahead.1) }
        go (inr k) = let is = is_view in let here = k.0 in record { view = omega arith; marks = λ x. inr k.1; ahead = inside k.1 }

    begins : (v : ℕ) (batch : List ℕ) → Once (BeginsViewWith c v batch) (e ∷ past) → v ≤ assigned.view
    begins v batch (inl h) =
        let same : h.0 ≡ new = some_injective h.0 new (sym h.1 ∙ t) in
        let is = entered_view log new f.is_log new_small in
        let view_is = sym h.2 ∙ ap (λ (x : NewViewData). x.view) same in
        omega arith
    begins v batch (inr h) = let most = f.begins v batch h in let a = new_above in let is = entered_view log new f.is_log new_small in omega arith

    settled : (i : ℕ) (batch : List ℕ) → i ≤ assigned.low → logged c me (e ∷ past) new.view i ≡ Some batch → IsVoted c me (e ∷ past) new.view i batch
    settled i batch l h = go (logged_cases new.view i batch h)
      where
        go : (logged c me past new.view i ≡ Some batch) ⊎ ((new.view ≡ new.view) × (logs.is_in_marks assigned i ≡ true)) → IsVoted c me (e ∷ past) new.view i batch
        go (inl k) = absurd (given_not (logged c me past new.view i) batch k (none_logged i))
        go (inr k) = let over = above_low assigned i k.1 in absurd (omega arith)

    checks : (s : ℕ) → checkpoints_above assigned.low (checkpoints_of c (e ∷ past) s) ≡ checkpoints_above assigned.low (logs.checkpoints_of assigned s)
    checks s =
        ap (checkpoints_above assigned.low) (still_checkpoints c me past e q s)
        ∙ sym (above_higher log.low assigned.low (checkpoints_of c past s) entered_high) ∙ ap (checkpoints_above assigned.low) (f.checkpoints s) ∙ above_higher log.low assigned.low (logs.checkpoints_of log s) entered_high
        ∙ ap (λ (xs : List (List CheckpointEntry)). checkpoints_above assigned.low (slice_index_or xs s [])) (sym (entered_checkpoints log new f.is_log new_small))

    pub assigned_fits : FitsLog c me assigned (e ∷ past)
    assigned_fits = record {
      is_log = entered_is_log log new f.is_log new_small;
      own = entered_me log new f.is_log new_small ∙ f.own;
      faults = entered_faults log new f.is_log new_small ∙ f.faults;
      span = entered_span log new f.is_log new_small ∙ f.span;
      view = it.view_is ∙ sym (entered_view log new f.is_log new_small);
      active = at (λ v. nat_le (target (e ∷ past)) v ≡ assigned.active) (le-leb (target (e ∷ past)) new.view targets ∙ sym (entered_log_active log new f.is_log new_small));
      low = low_behind;
      batches = λ i w. at (λ v. logged c me (e ∷ past) v i ≡ logs.logged_batch assigned i) (logged_here i w);
      prepares = λ i s w. at (λ v. prepare_of c me (e ∷ past) v i s ≡ logs.prepare_of assigned i s) ((nobody i s new.view new_above).0 ∙ sym (assigned_prepare log new f.is_log new_small i s));
      commits = λ i s w. at (λ v. commit_of c me (e ∷ past) v i s ≡ logs.commit_of assigned i s) ((nobody i s new.view new_above).1 ∙ sym (assigned_commit log new f.is_log new_small i s));
      within = within;
      above = λ i s l out. at (λ v. (prepare_of c me (e ∷ past) v i s ≡ None) × (commit_of c me (e ∷ past) v i s ≡ None)) (nobody i s new.view new_above);
      begins = begins;
      settled = λ active i batch l h. at (λ v. IsVoted c me (e ∷ past) v i batch) (settled i batch l (subst (λ (v : ℕ). logged c me (e ∷ past) v i ≡ Some batch) (entered_view log new f.is_log new_small) h));
      views = views;
      checkpoints = checks;
      latest = λ s. subst AreLatest (ap (λ (xs : List (List CheckpointEntry)). slice_index_or xs s []) (sym (entered_checkpoints log new f.is_log new_small))) (f.latest s);
    }
