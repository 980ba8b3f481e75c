-- A replica leaves its view by a view change. What it sends again for views changes nothing.
use Rattle.std.proofs.Common.{◌≡◌, ℕ, ◌≤◌, ◌<◌, ◌⊎◌, inl, inr, Bool, true, false, cond, List, [], ◌∷◌, map, reverse, Option, Some, None, refl, sym, ap, ◌∙◌, subst, arith}
use mathlib.Core.List.{reverse_aux}
use Rattle.std.specs.Prelude.{◌==◌, suc, nat_le, nat_lt, option_and_then, ◌&&◌}
use Rattle.std.specs.Bool.{then_some}
use Rattle.std.specs.Option.{option_map_or}
use Rattle.std.proofs.lemmas.Bool.{leb-true, ltb-true, ltb-false, le-ltb}
use Rattle.wire_format.specs.Messages.{BodyData as Body, MessageData as Message, NewViewData, CheckpointEntryData as CheckpointEntry, view_change as ViewChange, new_view as NewView}
use Rattle.wire_format.specs.Words.{said, carried}
use Rattle.wire_format.specs.Lists.{Each}
use Rattle.ordering.specs.Log as logs
use Rattle.ordering.specs.Log.{LogData}
use Rattle.ordering.proofs.Reading.{above_low}
use Rattle.protocol.specs.System.Configuration.{Configuration, primary}
use Rattle.protocol.specs.System.Trace.{Entry, Once, Has, frames_in}
use Rattle.protocol.specs.System.Trace.Entry.{Sent}
use Rattle.protocol.specs.Replica.Selection.{may_select}
use Rattle.protocol.specs.Replica.Certificates.{view, target, taken, is_later, new_view_from, change_sent, change_from, is_stable, stable_at, started_at, low, proposal, logged, commit_of, Prepared, Committed, is_active_in}
use Rattle.protocol.specs.Replica.State.{State}
use Rattle.protocol.specs.Replica.RightReplica.{HasSeen, SendsBytes, SentBefore, HasOwnLeaf, checkpoint_of, kept_states, IsNewViewChange}
use Rattle.protocol.proofs.Words.Temporal.{once_weaker}
use Rattle.protocol.proofs.Words.Options.{or_else_alone}
use Rattle.protocol.proofs.Agreement.Executing.{commit_stays, committed_later}
use Rattle.protocol.proofs.Words.Outgoing.{leaf_signs_once}
use Rattle.protocol.proofs.Words.Elements.{each_where}
use Rattle.replica_histories.specs.Desk.{Desk, snapshot_of, point_of}
use Rattle.replica_histories.specs.Logs.{checkpoints_above, FitsLog, IsVoted}
use Rattle.replica_histories.specs.Events.{Start, after_outputs, LowMarkIsReached, IsFetchedOrDue, BothFitWithinEvent}
use Rattle.replica_histories.specs.Views.{checkpoint_entry_of, entries_of, ViewChangesFit, ViewChangesGoAgain, NewViewsGoAgain, ViewChangesCount}
use Rattle.replica_histories.proofs.Certified.{active, prepared_there}
use Rattle.replica_histories.proofs.Settling.{own_commit, voted_goes}
use Rattle.replica_histories.proofs.Logging.{none_taken, view_quiet, proposal_quiet, begins_quiet}
use Rattle.replica_histories.proofs.Giving.{no_proposal, signed_may_send, sent_goes}
use Rattle.replica_histories.proofs.SentOnce.{unsent, pays_none, change_is_new}
use Rattle.replica_histories.proofs.Ending.{steps_leave}
use Rattle.replica_histories.proofs.Transfers.{open_stays, asks_none}
use Rattle.replica_histories.proofs.TransfersQuorums.{no_root}
use Rattle.replica_histories.proofs.Beginning.{Still, still_brings, still_prepare, still_commit, still_checkpoints, still_prepared, still_committed}

-- ---- an entry that takes no view, brings no checkpoint and casts no vote

module _ (c : Configuration) (me : ℕ) (past : List Entry) (e : Entry) (q : Still c me past e) (none : taken c past e ≡ None) where
  pub same_logged : (v i : ℕ) → logged c me (e ∷ past) v i ≡ logged c me past v i
  unfolding logged
  same_logged v i = or_else_alone (logged c me past v i) (proposal c me past e v i) (proposal_quiet c me past e v i none ∙ q.batch v i)

  pub same_prepared : (v i : ℕ) (batch : List ℕ) → Prepared c me (e ∷ past) v i batch → Prepared c me past v i batch
  same_prepared v i batch p = still_prepared c me past e q v i batch (sym (same_logged v i) ∙ p.logged) p

  pub same_committed : (v i : ℕ) (batch : List ℕ) → Committed c me (e ∷ past) v i batch → Committed c me past v i batch
  same_committed v i batch k = still_committed c me past e q v i batch (sym (same_logged v i) ∙ k.prepared.logged) k

module _ (c : Configuration) (me : ℕ) (log : LogData) (past : List Entry) (e : Entry) (f : FitsLog c me log past) (q : Still c me past e) (none : taken c past e ≡ None) where
  same_low : low c me (e ∷ past) ≡ log.low
  unfolding low
  same_low =
      let stable : stable_at c me past e ≡ 0 = ap (λ (o : Option (ℕ × CheckpointEntry)). option_map_or (λ (x : ℕ × CheckpointEntry). cond (is_stable c me (e ∷ past) x.1) x.1.number 0) o 0) q.checkpoint in
      let started : started_at c past e ≡ 0 = ap (λ (o : Option NewViewData). option_map_or (λ (x : NewViewData). x.start) o 0) none in
      let installed = q.installed in
      let was = f.low in
      omega arith

  -- The log fits the longer history, except perhaps for whether the replica is active there. If it leaves, each
  -- prepared batch has its own commit.
  module _ (active : Bool) (is_active : nat_le (target (e ∷ past)) log.view ≡ active) (was_active : active ≡ true → log.active ≡ true) (none_due : active ≡ false → (i : ℕ) → logs.due_commit log i ≡ None) where
    abbrev after : LogData
    after = record log { active = active }

    later : (v i : ℕ) → (digest : List ℕ) × (commit_of c me past v i me ≡ Some digest) → (digest : List ℕ) × (commit_of c me (e ∷ past) v i me ≡ Some digest)
    later v i k = (k.0, commit_stays c me v i me k.0 e past k.1)

    voted : (v i : ℕ) (batch : List ℕ) → logs.is_in_marks log i ≡ true → (v < log.view) ⊎ (active ≡ false) → Prepared c me past v i batch → (digest : List ℕ) × (commit_of c me past v i me ≡ Some digest)
    voted v i batch w (inl l) p = f.views.voted v i batch w (inl l) p
    voted v i batch w (inr off) p = go (nat_lt v log.view) refl
      where
        own : v ≡ log.view → (b : Bool) → log.active ≡ b → (digest : List ℕ) × (commit_of c me past v i me ≡ Some digest)
        own same true a =
            subst (λ (x : ℕ). (digest : List ℕ) × (commit_of c me past x i me ≡ Some digest)) (sym same)
            (own_commit c me log past f i batch a (none_due off i) (prepared_there c me log past i batch f (above_low log i w) (subst (λ (x : ℕ). Prepared c me past x i batch) same p)))
        own same false a = f.views.voted v i batch w (inr a) p

        go : (b : Bool) → nat_lt v log.view ≡ b → (digest : List ℕ) × (commit_of c me past v i me ≡ Some digest)
        go true h = f.views.voted v i batch w (inl (ltb-true v log.view h)) p
        go false h = let most = (f.within v i batch p.logged).view in let least = ltb-false v log.view h in own (omega arith) log.active refl

    settled : active ≡ true → (i : ℕ) (batch : List ℕ) → i ≤ log.low → logged c me (e ∷ past) log.view i ≡ Some batch → IsVoted c me (e ∷ past) log.view i batch
    settled a i batch l h =
        let was : logged c me past log.view i ≡ Some batch = sym (same_logged c me past e q none log.view i) ∙ h in
        voted_goes c me e past log.view i batch was (λ s. still_prepare c me past e q log.view i s) (f.settled (was_active a) i batch l was)

    pub still_fits : FitsLog c me after (e ∷ past)
    still_fits = record {
      is_log = record {
        some = f.is_log.some;
        few = f.is_log.few;
        me = f.is_log.me;
        span = f.is_log.span;
        low = f.is_log.low;
        size = f.is_log.size;
        rows = f.is_log.rows;
        checkpoints = f.is_log.checkpoints;
      };
      own = f.own;
      faults = f.faults;
      span = f.span;
      view = view_quiet c past e none ∙ f.view;
      active = is_active;
      low = same_low;
      batches = λ i w. same_logged c me past e q none log.view i ∙ f.batches i w;
      prepares = λ i s w. still_prepare c me past e q log.view i s ∙ f.prepares i s w;
      commits = λ i s w. still_commit c me past e q log.view i s ∙ f.commits i s w;
      within = λ v i batch h. let w = f.within v i batch (sym (same_logged c me past e q none v i) ∙ h) in record { view = w.view; marks = w.marks; ahead = w.ahead };
      above = λ i s l out. let n = f.above i s l out in (still_prepare c me past e q log.view i s ∙ n.0, still_commit c me past e q log.view i s ∙ n.1);
      begins = begins_quiet c past e log.view none f.begins;
      settled = settled;
      views = record {
        decided = λ i batch w h. let k = f.views.decided i batch w h in (k.0, k.1, committed_later c me k.0 i batch e past k.2);
        all_decided = λ v i batch l w k. f.views.all_decided v i batch l w (same_committed c me past e q none v i batch k);
        voted = λ v i batch w when p. later v i (voted v i batch w when (same_prepared c me past e q none v i batch p));
        later = λ v i s l. let n = f.views.later v i s l in (still_prepare c me past e q v i s ∙ n.0, still_commit c me past e q v i s ∙ n.1);
      };
      checkpoints = λ s. ap (checkpoints_above log.low) (still_checkpoints c me past e q s) ∙ f.checkpoints s;
      latest = f.latest;
    }

-- ---- the low mark is reached

pub fetched_later : (mark : ℕ) (due : List Message) (e : Entry) (past : List Entry) → IsFetchedOrDue mark due past → IsFetchedOrDue mark due (e ∷ past)
fetched_later mark due e past (inl l) = inl (omega arith)
fetched_later mark due e past (inr h) = inr h

pub same_reached : (c : Configuration) (me : ℕ) (past : List Entry) (e : Entry) (q : Still c me past e) (none : taken c past e ≡ None) (mark number : ℕ) (due : List Message)
    → LowMarkIsReached c me mark number due past → LowMarkIsReached c me mark number due (e ∷ past)
same_reached c me past e q none mark number due (inl l) = inl l
same_reached c me past e q none mark number due (inr h) = inr (fetched_later mark due e past h.0, λ v batch k. h.1 v batch (same_committed c me past e q none v (suc number) batch k))

-- ---- how a view change lists kept states

turned_mapped : (xs ys : List State) → map checkpoint_of (reverse_aux xs ys) ≡ reverse_aux (map checkpoint_of xs) (map checkpoint_of ys)
turned_mapped [] ys = refl
turned_mapped (x ∷ xs) ys = turned_mapped xs (x ∷ ys)

entries_mapped : (xs : List State) → map checkpoint_entry_of (map snapshot_of xs) ≡ map checkpoint_of xs
entries_mapped [] = refl
entries_mapped (x ∷ xs) = ap (λ (ys : List CheckpointEntry). checkpoint_of x ∷ ys) (entries_mapped xs)

pub entries_are : (xs : List State) → entries_of (map snapshot_of xs) ≡ map checkpoint_of (reverse xs)
entries_are xs = ap (λ (ys : List CheckpointEntry). reverse ys) (entries_mapped xs) ∙ sym (turned_mapped xs [])

-- ---- a view change

not_at_most : (a b : ℕ) → b < a → nat_le a b ≡ false
not_at_most a b l = go (nat_le a b) refl
  where
    go : (t : Bool) → nat_le a b ≡ t → t ≡ false
    go true e = let k = leb-true a b e in absurd (omega arith)
    go false e = refl

pub view_changes_fit : ViewChangesFit
view_changes_fit c me s desk log due outputs vc bytes none_due change is_outgoing leaf f =
    sent_goes c me s desk log (logs.left log) due due outputs bytes desk.snapshots desk.transfer f
    (signed_may_send c me past (point_of desk f.of_desk.states f.of_desk.ran) (Sent me bytes) bytes (ViewChange vc) refl is_outgoing tt (inl may) leaf (change_is_new me vc bytes past is_outgoing.says change.newer))
    (still_fits c me log past e f.of_log q none false (not_at_most (target (e ∷ past)) log.view (let above = change.above in let says = says_view in omega arith)) (λ a. absurd cc) (λ a i. none_due i))
    (ap (λ (h : ℕ). map snapshot_of (kept_states h f.of_desk.states)) (sym f.of_log.low) ∙ f.of_desk.kept) (same_reached c me past e q none log.low desk.state.number due f.low)
    (open_stays c me desk.transfer desk.state.number past e (asks_none bytes me (ViewChange vc) is_outgoing.says refl) tt f.of_desk.opened) (no_root c past bytes me (ViewChange vc) desk.state.number is_outgoing.says refl) none
    (pays_none c me s desk log outputs (ViewChange vc) bytes is_outgoing.says due refl f) (no_proposal c me past bytes (ViewChange vc) is_outgoing.says tt)
  where
    past : List Entry
    past = after_outputs s outputs

    e : Entry
    e = Sent me bytes

    q : Still c me past e
    q = still_brings c me past e me (ViewChange vc) tt is_outgoing.says

    none : taken c past e ≡ None
    none = none_taken c past e (ap (option_and_then (new_view_from c)) is_outgoing.says)

    says_view : change_sent e ≡ vc.view
    says_view = ap (λ (o : Option Body). option_map_or change_from o 0) is_outgoing.says

    may : IsNewViewChange c me past (point_of desk f.of_desk.states f.of_desk.ran) vc
    may = record {
      above = subst (λ (v : ℕ). v < vc.view) (sym f.of_log.view) change.above;
      newer = change.newer;
      is_view = change.is_view;
      low = change.low ∙ sym f.of_log.low;
      checkpoints = change.checkpoints ∙ ap entries_of (sym f.of_desk.kept) ∙ entries_are (kept_states (low c me past) f.of_desk.states)
          ∙ ap (λ (h : ℕ). map checkpoint_of (reverse (kept_states h f.of_desk.states))) (f.of_log.low ∙ sym change.low);
      prepared = change.prepared;
      proposed = change.pre_prepared;
      reason = change.reason;
    }

-- ---- messages that are sent again

-- a message that was sent before carries only frames that were seen
pub seen_again : (me : ℕ) (message : Message) (bytes : List ℕ) (past : List Entry) → said bytes ≡ Some (record { sender = me; message = message }) → SentBefore bytes past
    → Each (λ frame. Once (HasSeen frame) past) (carried message)
seen_again me message bytes past says before =
    each_where (λ frame. Once (HasSeen frame) past) (carried message)
    (λ frame has. once_weaker (SendsBytes bytes) (HasSeen frame) (seen frame has) past before)
  where
    carries : (frame : List ℕ) → Has (λ x. x ≡ frame) (carried message) → Has (λ x. x ≡ frame) (frames_in bytes)
    carries frame has = inr (subst (λ (o : Option Body). Has (λ x. x ≡ frame) (option_map_or (λ (body : Body). carried body.message) o [])) (sym says) has)

    seen : (frame : List ℕ) → Has (λ x. x ≡ frame) (carried message) → (earlier : List Entry) (e : Entry) → SendsBytes bytes earlier e → HasSeen frame earlier e
    seen frame has earlier (Sent p sent) h = subst (λ (x : List ℕ). Has (λ y. y ≡ frame) (frames_in x)) (sym h) (carries frame has)
    seen frame has earlier _ h = absurd h

-- a frame that was sent before still has its leaf
leaf_again : (c : Configuration) (me : ℕ) (s : Start) (desk : Desk) (log : LogData) (due : List Message) (outputs : List Entry) (bytes : List ℕ) (f : BothFitWithinEvent c me s desk log due outputs) → SentBefore bytes (after_outputs s outputs)
    → HasOwnLeaf bytes (after_outputs s outputs)
leaf_again c me s desk log due outputs bytes f before leaf sent is was earlier =
    leaf_signs_once c me leaf sent bytes was is (after_outputs s outputs) (point_of desk f.of_desk.states f.of_desk.ran)
    (steps_leave c me s outputs (point_of desk f.of_desk.states f.of_desk.ran) f.of_desk.leaves f.of_desk.steps) earlier before

pub view_changes_go_again : ViewChangesGoAgain
view_changes_go_again c me s desk log due outputs vc bytes left last before fresh is_outgoing f =
    sent_goes c me s desk log log due due outputs bytes desk.snapshots desk.transfer f
    (signed_may_send c me past (point_of desk f.of_desk.states f.of_desk.ran) (Sent me bytes) bytes (ViewChange vc) refl is_outgoing tt (inr (subst (λ (v : ℕ). v < target past) (sym f.of_log.view) left, last, before)) (leaf_again c me s desk log due outputs bytes f before) (unsent me s (ViewChange vc) bytes outputs f.says.begins is_outgoing.says fresh))
    (still_fits c me log past e f.of_log q none log.active (ap (λ (n : ℕ). nat_le n log.view) same ∙ f.of_log.active) (λ a. a) (λ a i. rw a refl))
    (ap (λ (h : ℕ). map snapshot_of (kept_states h f.of_desk.states)) (sym f.of_log.low) ∙ f.of_desk.kept) (same_reached c me past e q none log.low desk.state.number due f.low)
    (open_stays c me desk.transfer desk.state.number past e (asks_none bytes me (ViewChange vc) is_outgoing.says refl) tt f.of_desk.opened) (no_root c past bytes me (ViewChange vc) desk.state.number is_outgoing.says refl) none
    (pays_none c me s desk log outputs (ViewChange vc) bytes is_outgoing.says due refl f) (no_proposal c me past bytes (ViewChange vc) is_outgoing.says tt)
  where
    past : List Entry
    past = after_outputs s outputs

    e : Entry
    e = Sent me bytes

    q : Still c me past e
    q = still_brings c me past e me (ViewChange vc) tt is_outgoing.says

    none : taken c past e ≡ None
    none = none_taken c past e (ap (option_and_then (new_view_from c)) is_outgoing.says)

    same : target (e ∷ past) ≡ target past
    same = let says : change_sent e ≡ vc.view = ap (λ (o : Option Body). option_map_or change_from o 0) is_outgoing.says in let is = last in omega arith

pub new_views_go_again : NewViewsGoAgain
new_views_go_again c me s desk log due outputs new bytes is_active own primary_is before fresh is_outgoing f =
    sent_goes c me s desk log log due due outputs bytes desk.snapshots desk.transfer f
    (signed_may_send c me past (point_of desk f.of_desk.states f.of_desk.ran) (Sent me bytes) bytes (NewView new) refl is_outgoing (seen_again me (NewView new) bytes past is_outgoing.says before)
    (primary_is, inr (subst (λ (v : ℕ). is_active_in c past v ≡ true) (sym own) (active c me log past f.of_log ∙ is_active), before)) (leaf_again c me s desk log due outputs bytes f before)
    (unsent me s (NewView new) bytes outputs f.says.begins is_outgoing.says fresh))
    (still_fits c me log past e f.of_log q none log.active (ap (λ (n : ℕ). nat_le n log.view) same ∙ f.of_log.active) (λ a. a) (λ a i. rw a refl))
    (ap (λ (h : ℕ). map snapshot_of (kept_states h f.of_desk.states)) (sym f.of_log.low) ∙ f.of_desk.kept) (same_reached c me past e q none log.low desk.state.number due f.low)
    (open_stays c me desk.transfer desk.state.number past e (asks_none bytes me (NewView new) is_outgoing.says refl) tt f.of_desk.opened) (no_root c past bytes me (NewView new) desk.state.number is_outgoing.says refl) none
    (pays_none c me s desk log outputs (NewView new) bytes is_outgoing.says due refl f) (no_proposal c me past bytes (NewView new) is_outgoing.says tt)
  where
    past : List Entry
    past = after_outputs s outputs

    e : Entry
    e = Sent me bytes

    q : Still c me past e
    q = still_brings c me past e me (NewView new) tt is_outgoing.says

    not_later : is_later (view c past) (target past) new ≡ false
    not_later = rw (le-ltb (view c past) new.view (let v = f.of_log.view in let o = own in omega arith)) refl

    none : taken c past e ≡ None
    none = ap (λ (o : Option Body). option_and_then (λ (x : NewViewData). then_some (is_later (view c past) (target past) x) x) (option_and_then (new_view_from c) o)) is_outgoing.says ∙ at ((me == primary c new.view) && may_select c new)
      where
        at : (b : Bool) → option_and_then (λ (x : NewViewData). then_some (is_later (view c past) (target past) x) x) (then_some b new) ≡ None
        at true = rw not_later refl
        at false = refl

    same : target (e ∷ past) ≡ target past
    same = let says : change_sent e ≡ 0 = ap (λ (o : Option Body). option_map_or change_from o 0) is_outgoing.says in omega arith

-- ---- which view changes count

pub view_changes_count : ViewChangesCount
view_changes_count c me log past point s vc bytes f above within newer = (subst (λ (v : ℕ). v < vc.view) (sym f.view) above, within, newer)
