-- While the second view goes on after a silent first one, its primary numbers from the first number on without gaps.
use Rattle.std.proofs.Common.{◌≡◌, ◌≢◌, ℕ, zero, suc, ◌+◌, ◌≤◌, ◌<◌, ◌⊎◌, inl, inr, Bool, true, false, cond, List, [], ◌∷◌, ◌++◌, map, reverse, Option, Some, None, refl, sym, ap, ◌∙◌, subst, arith, append_assoc, ◌&&◌, ◌||◌, ◌*◌, length, eqb-true, eq-eqb, bytes_eq}
use Rattle.std.specs.Prelude.{◌==◌, nat_lt, nat_le, option_and_then, is_some}
use Rattle.std.specs.List.{list_any}
use Rattle.std.specs.Option.{option_map_or}
use Rattle.std.proofs.lemmas.Bool.{and_parts, and_from, ltb-true, ltb-false, leb-true, leb-false, lt-ltb, le-leb, eqb-false}
use Rattle.quorum.specs.Quorum.{count_below}
use Rattle.quorum.specs.Votes.{or_else}
use Rattle.tuple_codec.specs.Operations.{Outcome}
use Rattle.terms.specs.declared.order.Mode.TheVariants as modes
use Rattle.reply_cache.specs.Replies.{Kept}
use Rattle.wire_format.specs.Messages.{BodyData as Body, ViewChangeData, NewViewData, CheckpointEntryData as CheckpointEntry, pre_prepare as PrePrepare}
use Rattle.signing.proofs.AuthenticBody.{authentic_was_opened}
use Rattle.protocol.specs.System.Configuration.{Configuration, IsConfiguration, primary, span, is_number, is_correct_replica, is_correct_client, members}
use Rattle.protocol.specs.System.Trace.{Entry, party_of, history_of, Once, SendsBody, Has, Unforged}
use Rattle.protocol.specs.System.Trace.Entry.{Invoke, Got, Tick, Executed, Installed, Sent, Accepted}
use Rattle.protocol.specs.System.Texts.{NoCollision}
use Rattle.protocol.specs.System.Run.{IsRun, OnlyTheseStopped}
use Rattle.protocol.specs.Replica.Selection.{changes_of, passes_by, change_by, count_in, is_quorum, is_weak_quorum}
use Rattle.protocol.specs.Replica.Certificates.{view, target, taken, is_active_in, low, is_in_marks, assigned_batch, assigned_proposal, entry_proposal, proposal, brought, first_given, logged, Committed}
use Rattle.protocol.specs.Replica.State.{State, Call, opening, last_time}
use Rattle.protocol.specs.Replica.RightReplica.{Point, HistoryReaches, IsStep, IsFree, May, MovesPoint, MaySendMessage, MayPrePrepare, SendsBytes, SentBefore, checkpoint_of, kept_states}
use Rattle.protocol.specs.Replica.Owed.{BeginsViewWith, IsOfView, IsNumbered, AreKeysSpent}
use Rattle.protocol.specs.Client.RightClient.{OpenCall, open_call}
use Rattle.protocol.specs.Space.Linear.{reached}
use Rattle.protocol.specs.Laws.Histories.{AreReplicasSafe, TakesOrSendsNewView}
use Rattle.protocol.proofs.Words.Options.{some_injective, or_else_cases, and_then_some}
use Rattle.protocol.proofs.Words.Elements.{has_left, has_right}
use Rattle.protocol.proofs.Words.Leaving.{none_kept}
use Rattle.protocol.proofs.Words.Lists.{passes_change}
use Rattle.protocol.proofs.Words.Temporal.{once_in_trace, once_weaker}
use Rattle.protocol.proofs.Words.Reacting.{is_replica_right, proceeds_leaves}
use Rattle.protocol.proofs.Agreement.Agreeing.{logged_was_offered}
use Rattle.protocol.proofs.Agreement.Changes.{NewChangeAt, change_is_new}
use Rattle.protocol.proofs.Agreement.Marks.{proposes, selects, view_grows}
use Rattle.protocol.proofs.Agreement.Offers.{entry_batch, logged_view}
use Rattle.protocol.proofs.Agreement.Signed.{changing, change_was_said}
use Rattle.protocol.proofs.Words.Linking.{Speaks}
use Rattle.protocol.proofs.Agreement.States.{correct_of, history_append, once_append}
use Rattle.protocol.proofs.Agreement.Voting.{right_always, logged_stays}
use Rattle.protocol.proofs.Points.Levels.{many_correct, number_reached, reached_history, reached_grows}
use Rattle.protocol.proofs.Points.Running.{Run, IsBy, state_by}
use Rattle.protocol.proofs.Points.Keeping.{opening_full}
use Rattle.protocol.proofs.Points.Invoking.{run_part}
use Rattle.progress.specs.Delivery.{HasEntry, AllDelivered}
use Rattle.progress.specs.Answered.{KeepsReply}
use Rattle.progress.specs.Redelivered.{AllRedelivered, StaysActive, StaysInMarks}
use Rattle.progress.specs.Waiting.{StandsAtPrimary}
use Rattle.progress.specs.SilentView.{SecondIsNext, SomeWaits}
use Rattle.progress.specs.SecondView.{SecondGoesOn, SecondCallsAreAccepted, CallsOutliveSilence}
use Rattle.progress.proofs.Replies.{run_of}
use Rattle.progress.proofs.Keeping.{by_at, by_grows, keeps_reply, open_positive}
use Rattle.progress.proofs.Clients.{Accepting, LivesOnce, lives_once, open_or_accepted}
use Rattle.progress.proofs.Waiting.{waits_since}
use Rattle.progress.proofs.Answering.{in_history, in_trace, accepted_or_not, Asked, asked, still_open, hears_request, gets_request, executed_calls_are_accepted}
use Rattle.progress.proofs.Steady.{view_later, target_later, low_later, logged_later, active_parts, marks_parts}
use Rattle.progress.proofs.Committing.{Stands, stands, Reaches, pre_prepare_is, none_logged, own_in}
use Rattle.progress.proofs.Redelivering.{reaches, begins, committed_where, all_numbers}
use Rattle.progress.proofs.Normal.{answered, in_either}
use Rattle.progress.proofs.Numbering.{open_calls_are_numbered}
use Rattle.progress.proofs.FirstView.{stable_reached, installed_reached, number_committed}
use Rattle.progress.proofs.Silence
use Rattle.progress.proofs.Happened.{At, once_at}
use Rattle.progress.proofs.SilentView.{second_is_entered}
use Rattle.progress.proofs.Faults.{faulty_primaries_are_silent, no_batches}

-- the pre-prepare by which the second view's primary assigns the number
abbrev giving : Configuration → ℕ → List ℕ → Body
giving c i batch = record { sender = primary c 1; message = PrePrepare 1 i batch }

pub sends_any : (body : Body) (past other : List Entry) (e : Entry) → SendsBody body past e → SendsBody body other e
sends_any body past other (Sent p bytes) h = h
sends_any body past other _ h = absurd h

-- ---- before anything is logged

record Untouched (point : Point) : Type 0 where
  number : point.state.number ≡ 0
  opened : point.snapshots ≡ opening ∷ []

-- in a silent first view with no installation the state is the opening one
untouched : (c : Configuration) (q : ℕ) (xs : List Entry) (point : Point) → HistoryReaches c q xs point → view c xs ≡ 0 → ((i : ℕ) (b : List ℕ) → logged c q xs 0 i ≡ Some b → ⊥)
    → ((r k : ℕ) (root : List ℕ) → HasEntry (Installed r k root) xs → ⊥) → Untouched point
untouched c q [] point leaves first silent none = record { number = ap (λ (p : Point). p.state.number) leaves; opened = ap (λ (p : Point). p.snapshots) leaves }
untouched c q (e ∷ past) point leaves first silent none =
    go e leaves.2.may leaves.2.moves (λ r k root is. none r k root (inl is)) (λ i b h. silent i b (logged_stays c q 0 i b e past h))
    (untouched c q past leaves.0 leaves.1 before (λ i b h. silent i b (logged_stays c q 0 i b e past h)) (λ r k root h. none r k root (inr h)))
  where
    before : view c past ≡ 0
    before = let g = view_grows c e past in omega arith

    same : (new : Point) → point ≡ new → new.state.number ≡ leaves.0.state.number → new.snapshots ≡ leaves.0.snapshots → Untouched leaves.0 → Untouched point
    same new is number snapshots u = record { number = ap (λ (p : Point). p.state.number) is ∙ number ∙ u.number; opened = ap (λ (p : Point). p.snapshots) is ∙ snapshots ∙ u.opened }

    go : (e : Entry) → May c q past leaves.0 e → MovesPoint c q past leaves.0 e point → ((r k : ℕ) (root : List ℕ) → e ≡ Installed r k root → ⊥) → ((i : ℕ) (b : List ℕ) → logged c q past 0 i ≡ Some b → ⊥)
        → Untouched leaves.0 → Untouched point
    go (Got p bytes) may move other below u = record { number = ap (λ (p : Point). p.state.number) move ∙ u.number; opened = ap (λ (p : Point). p.snapshots) move ∙ u.opened }
    go (Tick p) may move other below u = record { number = ap (λ (p : Point). p.state.number) move ∙ u.number; opened = ap (λ (p : Point). p.snapshots) move ∙ u.opened }
    go (Sent p bytes) may move other below u = same leaves.0 move refl refl u
    go (Invoke x y z) may move other below u = absurd may
    go (Accepted x y z) may move other below u = absurd may
    go (Installed r k root) may move other below u = absurd (other r k root refl)
    go (Executed r k batch) may move other below u =
        let h = may.committed.prepared.logged in
        let l = logged_view c q may.in_view k batch past (right_always c q past leaves.0 leaves.1) h in
        let v = before in
        absurd (below k batch (subst (λ (u : ℕ). logged c q past u k ≡ Some batch) (omega arith) h))

-- ---- low marks if each new view starts at 0

low_started : (c : Configuration) (me : ℕ) (xs : List Entry) (point : Point) → HistoryReaches c me xs point → ((new : NewViewData) → Once (TakesOrSendsNewView c new) xs → new.start ≡ 0) → low c me xs ≤ reached xs me
unfolding low
low_started c me [] point leaves zeros = omega arith
low_started c me (e ∷ past) point leaves zeros =
    let a = low_started c me past leaves.0 leaves.1 (λ new h. zeros new (inr h)) in
    let b = reached_grows e past me in
    let x = stable_reached c me e past point leaves in
    let y = installed_reached c me e past leaves.2.own in
    let z = started (taken c past e) refl in
    omega arith
  where
    started : (o : Option NewViewData) → taken c past e ≡ o → option_map_or (λ (new : NewViewData). new.start) o 0 ≡ 0
    started None is = refl
    started (Some new) is = zeros new (inl is)

-- ---- a run

module _ (c : Configuration) (setting : IsConfiguration c) (later start : List Entry) (is_run : IsRun c (later ++ start)) (goes : OnlyTheseStopped c [] (later ++ start))
    (unforged : Unforged c (later ++ start)) (apart : NoCollision c (later ++ start)) (f : SecondGoesOn c later start) where
  abbrev trace : List Entry
  trace = later ++ start

  abbrev whole : ℕ → List Entry
  whole q = history_of q (later ++ start)

  safe : AreReplicasSafe c trace
  safe p h = is_replica_right c p (history_of p trace) (is_run.replicas p h)

  installs_none : (q : ℕ) → is_correct_replica c q ≡ true → (r k : ℕ) (root : List ℕ) → HasEntry (Installed r k root) (history_of q (later ++ start)) → ⊥
  installs_none q correct r k root h =
      let own = own_in q (Installed r k root) trace h in
      f.room.none r k root (subst (λ (x : ℕ). is_correct_replica c x ≡ true) (sym own) correct) (in_trace q (Installed r k root) trace h)

  -- a new view that a correct replica takes starts at 0
  module _ (q : ℕ) (correct : is_correct_replica c q ≡ true) (new : NewViewData) (taken_it : Once (TakesOrSendsNewView c new) (history_of q (later ++ start))) where
    signer : (s : ℕ) × (is_correct_replica c s ≡ true) × (passes_by (λ vc. list_any (λ (m : CheckpointEntry). (m.number == new.start) && bytes_eq m.digest new.root) vc.checkpoints) (changes_of c new) s ≡ true)
    signer =
        let selected = Silence.selected c setting trace is_run goes unforged apart f.next q correct new taken_it in
        let listed = (and_parts (is_quorum c (count_in c (λ vc. nat_le vc.low new.start) (changes_of c new)))
        (is_weak_quorum c (count_in c (λ vc. list_any (λ (m : CheckpointEntry). (m.number == new.start) && bytes_eq m.digest new.root) vc.checkpoints) (changes_of c new))) (selects c new selected).start).1 in
        let enough = leb-true (c.faults + 1) (count_in c (λ vc. list_any (λ (m : CheckpointEntry). (m.number == new.start) && bytes_eq m.digest new.root) vc.checkpoints) (changes_of c new)) listed in
        let more : c.faults < count_below (passes_by (λ vc. list_any (λ (m : CheckpointEntry). (m.number == new.start) && bytes_eq m.digest new.root) vc.checkpoints) (changes_of c new)) (3 * c.faults + 1) = omega arith in
        correct_of c setting (passes_by (λ vc. list_any (λ (m : CheckpointEntry). (m.number == new.start) && bytes_eq m.digest new.root) vc.checkpoints) (changes_of c new)) more

    change : (vc : ViewChangeData) × (change_by (changes_of c new) signer.0 ≡ Some vc) × (list_any (λ (m : CheckpointEntry). (m.number == new.start) && bytes_eq m.digest new.root) vc.checkpoints ≡ true)
    change = passes_change (λ vc. list_any (λ (m : CheckpointEntry). (m.number == new.start) && bytes_eq m.digest new.root) vc.checkpoints) (changes_of c new) signer.0 signer.2

    says : Once (Speaks (changing signer.0 change.0)) (history_of signer.0 (later ++ start))
    says = change_was_said c trace q signer.0 new change.0 safe unforged correct signer.1 taken_it change.1

    only_first : (h : ℕ) (snapshots : List State) → snapshots ≡ opening ∷ [] → list_any (λ (m : CheckpointEntry). (m.number == new.start) && bytes_eq m.digest new.root) (map checkpoint_of (reverse (kept_states h snapshots))) ≡ true → new.start ≡ 0
    only_first h snapshots is listed = go (nat_le h 0) (subst (λ (xs : List State). list_any (λ (m : CheckpointEntry). (m.number == new.start) && bytes_eq m.digest new.root) (map checkpoint_of (reverse (kept_states h xs))) ≡ true) is listed)
      where
        go : (b : Bool) → list_any (λ (m : CheckpointEntry). (m.number == new.start) && bytes_eq m.digest new.root) (map checkpoint_of (reverse (cond b (opening ∷ []) []))) ≡ true → new.start ≡ 0
        go true k = test (0 == new.start) refl k
          where
            test : (b : Bool) → (0 == new.start) ≡ b → ((b && bytes_eq (checkpoint_of opening).digest new.root) || false) ≡ true → new.start ≡ 0
            test true e k = sym (eqb-true 0 new.start e)
            test false e k = absurd cc
        go false k = absurd cc

    pub starts_zero : new.start ≡ 0
    starts_zero = go (once_at (NewChangeAt c signer.0 change.0) (history_of signer.0 trace)
        (change_is_new c signer.0 change.0 (history_of signer.0 trace) (right_always c signer.0 (history_of signer.0 trace) (safe signer.0 signer.1).0 (safe signer.0 signer.1).1) says))
      where
        go : At (NewChangeAt c signer.0 change.0) (history_of signer.0 trace) → new.start ≡ 0
        go a = only_first change.0.low a.holds.point.snapshots u.opened (subst (λ (ms : List CheckpointEntry). list_any (λ (m : CheckpointEntry). (m.number == new.start) && bytes_eq m.digest new.root) ms ≡ true) a.holds.is_new.checkpoints change.2)
          where
            beside : history_of signer.0 trace ≡ (a.newer ++ a.entry ∷ []) ++ a.past
            beside = a.splits ∙ sym (append_assoc a.newer (a.entry ∷ []) a.past)

            first : view c a.past ≡ 0
            first =
                let above = a.holds.is_new.above in
                let l = Silence.said_target c signer.0 change.0 (history_of signer.0 trace) says in
                let most = f.next.none_beyond signer.0 signer.1 in
                omega arith

            unlogged : (i : ℕ) (b : List ℕ) → logged c signer.0 a.past 0 i ≡ Some b → ⊥
            unlogged i b h =
                let here = logged_later c signer.0 0 i b (a.newer ++ a.entry ∷ []) a.past h in
                let bad : None ≡ Some b = sym (f.next.silent signer.0 i signer.1) ∙ subst (λ (xs : List Entry). logged c signer.0 xs 0 i ≡ Some b) (sym beside) here in
                cc

            u : Untouched a.holds.point
            u = untouched c signer.0 a.past a.holds.point a.holds.leaves first unlogged
                (λ r k root h. installs_none signer.0 signer.1 r k root (subst (λ (xs : List Entry). HasEntry (Installed r k root) xs) (sym beside) (has_right (λ x. x ≡ Installed r k root) (a.newer ++ a.entry ∷ []) a.past h)))

  -- ---- a past of a correct replica

  module _ (q : ℕ) (correct : is_correct_replica c q ≡ true) (newer xs : List Entry) (splits : history_of q (later ++ start) ≡ newer ++ xs) (point : Point) (leaves : HistoryReaches c q xs point) where
    pub low_here : low c q xs ≤ reached xs q
    low_here = low_started c q xs point leaves (λ new h. starts_zero q correct new (subst (λ (ys : List Entry). Once (TakesOrSendsNewView c new) ys) (sym splits) (once_append (TakesOrSendsNewView c new) newer xs h)))

    view_here : view c xs ≤ 1
    view_here =
        let g = view_later c newer xs in
        let same : view c (history_of q (later ++ start)) ≡ view c (newer ++ xs) = ap (view c) splits in
        let m = Silence.view_most c setting trace is_run goes unforged apart f.next q correct in
        omega arith

    -- all that is logged is logged in the second view
    pub in_second : (u i : ℕ) (b : List ℕ) → logged c q xs u i ≡ Some b → u ≡ 1
    in_second u i b h = go u h
      where
        go : (u : ℕ) → logged c q xs u i ≡ Some b → u ≡ 1
        go zero h =
            let here = logged_later c q 0 i b newer xs h in
            absurd (let bad : None ≡ Some b = sym (f.next.silent q i correct) ∙ subst (λ (ys : List Entry). logged c q ys 0 i ≡ Some b) (sym splits) here in cc)
        go (suc v) h =
            let l = logged_view c q (suc v) i b xs (right_always c q xs point leaves) h in
            let m = view_here in
            omega arith

    none_inside : (r k : ℕ) (root : List ℕ) → HasEntry (Installed r k root) xs → ⊥
    none_inside r k root h = installs_none q correct r k root (subst (λ (ys : List Entry). HasEntry (Installed r k root) ys) (sym splits) (has_right (λ x. x ≡ Installed r k root) newer xs h))

    -- all that it executed was committed there
    pub committed_here : (j : ℕ) → 1 ≤ j → j ≤ point.state.number → (d : List ℕ) × Committed c q xs 1 j d
    committed_here j one l =
        let k = number_committed c q j one xs point leaves none_inside l in
        (k.1, subst (λ (u : ℕ). Committed c q xs u j k.1) (in_second k.0 j k.1 k.2.prepared.logged) k.2)

  -- ---- the primary assigned all that it logged

  record Gave (i : ℕ) (batch : List ℕ) (e : Entry) (past : List Entry) (old : Point) : Type 0 where
    sends : SendsBody (giving c i batch) past e
    may : MayPrePrepare c (primary c 1) past old e 1 i batch

  gave : (i : ℕ) (batch : List ℕ) (newer : List Entry) (e : Entry) (past : List Entry) → history_of (primary c 1) (later ++ start) ≡ newer ++ e ∷ past → (point : Point) (leaves : HistoryReaches c (primary c 1) (e ∷ past) point)
      → proposal c (primary c 1) past e 1 i ≡ Some batch → Gave i batch e past leaves.0
  gave i batch newer e past splits point leaves h = go e leaves.2 brings
    where
      none_begins : (b : Bool) → cond b (option_and_then (assigned_batch 1 i) (taken c past e)) None ≡ Some batch → ⊥
      none_begins true h =
          let t = and_then_some (assigned_batch 1 i) (taken c past e) batch h in
          let within = (proposes c 1 i t.0 batch t.2).within in
          let bare = f.bare t.0 (subst (λ (ys : List Entry). Once (TakesOrSendsNewView c t.0) ys) (sym splits) (once_append (TakesOrSendsNewView c t.0) newer (e ∷ past) (inl t.1))) in
          let none : length t.0.batches ≡ 0 = ap length bare in
          omega arith
      none_begins false h = cc

      by_entry : (assigned_proposal c (primary c 1) past e 1 i ≡ Some batch) ⊎ (entry_proposal c (primary c 1) past e 1 i ≡ Some batch) → entry_proposal c (primary c 1) past e 1 i ≡ Some batch
      by_entry (inl k) = absurd (none_begins (is_in_marks c (low c (primary c 1) (e ∷ past)) i) k)
      by_entry (inr k) = k

      brings : brought c e ≡ Some (giving c i batch)
      brings =
          let b = (entry_batch c (primary c 1) 1 i batch past e
          (by_entry (or_else_cases (assigned_proposal c (primary c 1) past e 1 i) (entry_proposal c (primary c 1) past e 1 i) batch h))).1 in
          b.1 ∙ ap Some (pre_prepare_is c (primary c 1) 1 i batch b.0.sender b.0.message b.2).0

      go : (e : Entry) → IsStep c (primary c 1) past leaves.0 e point → brought c e ≡ Some (giving c i batch) → Gave i batch e past leaves.0
      go (Sent p bytes) step is =
          let same : ◌≡◌ {A = Body} step.may.body (giving c i batch) = some_injective step.may.body (giving c i batch) (sym step.may.says ∙ is) in
          record { sends = (step.own, is); may = subst (λ (b : Body). MaySendMessage c (primary c 1) past leaves.0 (Sent p bytes) bytes b.message) same step.may.allowed }
      go (Got p bytes) step is = absurd ((authentic_was_opened (members c p) p bytes (giving c i batch) is).other (sym step.own))
      go _ step is = absurd cc

  pub record WasGiven (i : ℕ) (batch : List ℕ) (xs : List Entry) : Type 0 where
    pub says : Once (SendsBody (giving c i batch)) xs
    pub positive : 1 ≤ i
    pub number : is_number i ≡ true

  was_given : (i : ℕ) (batch : List ℕ) (newer xs : List Entry) → history_of (primary c 1) (later ++ start) ≡ newer ++ xs → (point : Point) → HistoryReaches c (primary c 1) xs point → logged c (primary c 1) xs 1 i ≡ Some batch
      → WasGiven i batch xs
  unfolding logged
  was_given i batch newer [] splits point leaves h = absurd (none_logged c (primary c 1) 1 i batch h)
  was_given i batch newer (e ∷ past) splits point leaves h =
      go (or_else_cases (first_given (λ earlier x. proposal c (primary c 1) earlier x 1 i) past) (proposal c (primary c 1) past e 1 i) batch h)
      (was_given i batch (newer ++ e ∷ []) past (splits ∙ sym (append_assoc newer (e ∷ []) past)) leaves.0 leaves.1)
    where
      go : (first_given (λ earlier x. proposal c (primary c 1) earlier x 1 i) past ≡ Some batch) ⊎ (proposal c (primary c 1) past e 1 i ≡ Some batch)
          → (first_given (λ earlier x. proposal c (primary c 1) earlier x 1 i) past ≡ Some batch → WasGiven i batch past) → WasGiven i batch (e ∷ past)
      go (inl k) below = let b = below k in record { says = inr b.says; positive = b.positive; number = b.number }
      go (inr k) below =
          let g = gave i batch newer e past splits point leaves k in
          let m = marks_parts c (low c (primary c 1) past) i g.may.in_marks in
          let above = m.0 in
          record { says = inl g.sends; positive = omega arith; number = m.2 }

  is_there : (o : Option (List ℕ)) → is_some o ≡ true → (d : List ℕ) × (o ≡ Some d)
  is_there None h = absurd cc
  is_there (Some d) h = (d, refl)

  -- without gaps
  filled : (newer xs : List Entry) → history_of (primary c 1) (later ++ start) ≡ newer ++ xs → (point : Point) → HistoryReaches c (primary c 1) xs point → (i j : ℕ) (b : List ℕ) → logged c (primary c 1) xs 1 i ≡ Some b
      → 1 ≤ j → j < i → (d : List ℕ) × (logged c (primary c 1) xs 1 j ≡ Some d)
  unfolding logged
  filled newer [] splits point leaves i j b h one l = absurd (none_logged c (primary c 1) 1 i b h)
  filled newer (e ∷ past) splits point leaves i j b h one l = stays (earlier (logged c (primary c 1) past 1 i) refl h (λ x is. filled (newer ++ e ∷ []) past beside leaves.0 leaves.1 i j x is one l))
    where
      beside : history_of (primary c 1) (later ++ start) ≡ (newer ++ e ∷ []) ++ past
      beside = splits ∙ sym (append_assoc newer (e ∷ []) past)

      stays : (d : List ℕ) × (logged c (primary c 1) past 1 j ≡ Some d) → (d : List ℕ) × (logged c (primary c 1) (e ∷ past) 1 j ≡ Some d)
      stays k = (k.0, logged_stays c (primary c 1) 1 j k.0 e past k.1)

      new : logged c (primary c 1) past 1 i ≡ None → proposal c (primary c 1) past e 1 i ≡ Some b → (d : List ℕ) × (logged c (primary c 1) past 1 j ≡ Some d)
      new is h = go (nat_lt (low c (primary c 1) past) j) refl
        where
          free : IsFree c (primary c 1) past leaves.0.state.number 1 i
          free = (gave i b newer e past splits point leaves h).may.next is

          go : (x : Bool) → nat_lt (low c (primary c 1) past) j ≡ x → (d : List ℕ) × (logged c (primary c 1) past 1 j ≡ Some d)
          go true m = is_there (logged c (primary c 1) past 1 j) (free.used j (ltb-true (low c (primary c 1) past) j m) l)
          go false m =
              let n = ltb-false (low c (primary c 1) past) j m in
              let a = low_here (primary c 1) f.next.from (newer ++ e ∷ []) past beside leaves.0 leaves.1 in
              let r = number_reached c (primary c 1) past leaves.0 leaves.1 in
              let k = committed_here (primary c 1) f.next.from (newer ++ e ∷ []) past beside leaves.0 leaves.1 j one (omega arith) in
              (k.0, k.1.prepared.logged)

      earlier : (o : Option (List ℕ)) → logged c (primary c 1) past 1 i ≡ o → or_else o (proposal c (primary c 1) past e 1 i) ≡ Some b
          → ((x : List ℕ) → logged c (primary c 1) past 1 i ≡ Some x → (d : List ℕ) × (logged c (primary c 1) past 1 j ≡ Some d)) → (d : List ℕ) × (logged c (primary c 1) past 1 j ≡ Some d)
      earlier (Some x) is h below = below x is
      earlier None is h below = new is h

  -- ---- the ends of their histories

  module _ (q : ℕ) (correct : is_correct_replica c q ≡ true) where
    point : Point
    point = (goes.replicas q correct refl).0

    leaves : HistoryReaches c q (history_of q (later ++ start)) point
    unfolding point
    leaves = proceeds_leaves c q (history_of q (later ++ start)) [] (goes.replicas q correct refl).0 (goes.replicas q correct refl).0 (goes.replicas q correct refl).1

  -- ---- if all stay in the view, and all is delivered again

  module _ (stays : (q : ℕ) → is_correct_replica c q ≡ true → StaysActive c 1 later start q) (all : AllRedelivered c later start) where
    module _ (i : ℕ) (batch : List ℕ) (says : Once (SendsBody (record { sender = primary c 1; message = PrePrepare 1 i batch })) (later ++ start)) (positive : 1 ≤ i) (number : is_number i ≡ true) where
      assigned : logged c (primary c 1) (history_of (primary c 1) (later ++ start)) 1 i ≡ Some batch
      assigned = begins c setting later start is_run goes unforged 1 f.next.from stays all i batch says

      -- a number that left the marks is committed
      left : (q : ℕ) (correct : is_correct_replica c q ≡ true) → i ≤ low c q (history_of q (later ++ start)) → Committed c q (history_of q (later ++ start)) 1 i batch
      left q correct l =
          let a = low_here q correct [] (history_of q (later ++ start)) refl (point q correct) (leaves q correct) in
          let b = number_reached c q (history_of q (later ++ start)) (point q correct) (leaves q correct) in
          let most : i ≤ (point q correct).state.number = omega arith in
          let k = committed_here q correct [] (history_of q (later ++ start)) refl (point q correct) (leaves q correct) i positive most in
          let one = logged_was_offered c trace q 1 i k.0 safe unforged correct f.next.from k.1.prepared.logged in
          let two = logged_was_offered c trace (primary c 1) 1 i batch safe unforged f.next.from f.next.from assigned in
          subst (λ (b : List ℕ). Committed c q (history_of q (later ++ start)) 1 i b) (some_injective k.0 batch (sym one ∙ two)) k.1

      settled : (q : ℕ) → is_correct_replica c q ≡ true → Committed c q (history_of q (later ++ start)) 1 i batch ⊎ Reaches c 1 i (later ++ start) q
      settled q correct = go (nat_lt (low c q (history_of q (later ++ start))) i) refl
        where
          in_marks : (h : ℕ) → h < i → i ≤ h + span c → is_in_marks c h i ≡ true
          in_marks h a b = and_from (nat_lt h i && nat_le i (h + span c)) (is_number i) (and_from (nat_lt h i) (nat_le i (h + span c)) (lt-ltb h i a) (le-leb i (h + span c) b)) number

          within : low c q (history_of q (later ++ start)) < i → StaysInMarks c i later start q
          within l =
              let near = (f.room.given i batch says q correct).0 in
              let is = history_append q later start in
              let g = low_later c q (history_of q later) (history_of q start) in
              let same : low c q (history_of q (later ++ start)) ≡ low c q (history_of q later ++ history_of q start) = ap (low c q) is in
              let below : low c q (history_of q start) < i = omega arith in
              let high : i ≤ low c q (history_of q (later ++ start)) + span c = omega arith in
              record { first = in_marks (low c q (history_of q start)) below near; last = in_marks (low c q (history_of q (later ++ start))) l high }

          go : (b : Bool) → nat_lt (low c q (history_of q (later ++ start))) i ≡ b → Committed c q (history_of q (later ++ start)) 1 i batch ⊎ Reaches c 1 i (later ++ start) q
          go true e = inr (reaches c setting later start is_run goes unforged 1 f.next.from stays all i q correct (within (ltb-true (low c q (history_of q (later ++ start))) i e)))
          go false e = inl (left q correct (ltb-false (low c q (history_of q (later ++ start))) i e))

      pub committed_second : (q : ℕ) → is_correct_replica c q ≡ true → Committed c q (history_of q (later ++ start)) 1 i batch
      committed_second q correct = committed_where c setting later start is_run goes unforged 1 f.next.from stays all i batch says settled (λ s h. (f.room.given i batch says s h).1) q correct

    module _ (i : ℕ) (b : List ℕ) (h : logged c (primary c 1) (history_of (primary c 1) (later ++ start)) 1 i ≡ Some b) where
      pub its_giving : WasGiven i b (history_of (primary c 1) (later ++ start))
      its_giving = was_given i b [] (history_of (primary c 1) (later ++ start)) refl (point (primary c 1) f.next.from) (leaves (primary c 1) f.next.from) h

      its_says : Once (SendsBody (record { sender = primary c 1; message = PrePrepare 1 i b })) (later ++ start)
      its_says =
          once_weaker (λ past e. (party_of e ≡ primary c 1) × SendsBody (giving c i b) (history_of (primary c 1) past) e) (SendsBody (giving c i b))
          (λ past e t. sends_any (giving c i b) (history_of (primary c 1) past) past e t.1) trace (once_in_trace (SendsBody (giving c i b)) (primary c 1) trace its_giving.says)

      pub its_committed : (q : ℕ) → is_correct_replica c q ≡ true → Committed c q (history_of q (later ++ start)) 1 i b
      its_committed q correct = committed_second i b its_says its_giving.positive its_giving.number q correct

    -- each correct replica reached all numbers that the primary logged
    pub all_reach : (i : ℕ) (b : List ℕ) → logged c (primary c 1) (history_of (primary c 1) (later ++ start)) 1 i ≡ Some b → (r : ℕ) → is_correct_replica c r ≡ true → i ≤ reached (later ++ start) r
    all_reach i b h r correct = all_numbers c setting later start is_run goes unforged 1 f.next.from stays all r i correct each
      where
        each : (j : ℕ) → reached start r < j → j ≤ i → (x : List ℕ) × Committed c r (history_of r (later ++ start)) 1 j x
        each j above most = go (j == i) refl
          where
            go : (x : Bool) → (j == i) ≡ x → (x : List ℕ) × Committed c r (history_of r (later ++ start)) 1 j x
            go true e =
                let same = eqb-true j i e in
                (b, subst (λ (n : ℕ). Committed c r (history_of r (later ++ start)) 1 n b) (sym same) (its_committed i b h r correct))
            go false e =
                let d = eqb-false j i e in
                let less : j < i = omega arith in
                let one : 1 ≤ j = omega arith in
                let k = filled [] (history_of (primary c 1) (later ++ start)) refl (point (primary c 1) f.next.from) (leaves (primary c 1) f.next.from) i j b h one less in
                (k.0, its_committed j k.0 k.1 r correct)

    -- so the primary's next number is free
    pub next_free : IsFree c (primary c 1) (history_of (primary c 1) (later ++ start)) (reached (later ++ start) (primary c 1)) 1 (suc (reached (later ++ start) (primary c 1)))
    next_free = record { in_marks = f.room.next; near = near; used = used; unused = unused }
      where
        near : suc (reached (later ++ start) (primary c 1)) ≤ reached (later ++ start) (primary c 1) + 2
        near = omega arith

        used : (j : ℕ) → low c (primary c 1) (history_of (primary c 1) (later ++ start)) < j → j < suc (reached (later ++ start) (primary c 1)) → is_some (logged c (primary c 1) (history_of (primary c 1) (later ++ start)) 1 j) ≡ true
        used j above less =
            let n = number_reached c (primary c 1) (history_of (primary c 1) (later ++ start)) (point (primary c 1) f.next.from) (leaves (primary c 1) f.next.from) in
            let m = reached_history (primary c 1) trace in
            let one : 1 ≤ j = omega arith in
            let most : j ≤ (point (primary c 1) f.next.from).state.number = omega arith in
            ap is_some (committed_here (primary c 1) f.next.from [] (history_of (primary c 1) (later ++ start)) refl (point (primary c 1) f.next.from) (leaves (primary c 1) f.next.from) j one most).1.prepared.logged

        unused : (j : ℕ) → suc (reached (later ++ start) (primary c 1)) ≤ j → logged c (primary c 1) (history_of (primary c 1) (later ++ start)) 1 j ≡ None
        unused j least = go (logged c (primary c 1) (history_of (primary c 1) (later ++ start)) 1 j) refl
          where
            go : (o : Option (List ℕ)) → logged c (primary c 1) (history_of (primary c 1) (later ++ start)) 1 j ≡ o → o ≡ None
            go None is = refl
            go (Some x) is = let l = all_reach j x is (primary c 1) f.next.from in absurd (omega arith)

    -- each correct replica reached the primary's executed number
    pub all_level : (r : ℕ) → is_correct_replica c r ≡ true → reached (later ++ start) (primary c 1) ≤ reached (later ++ start) r
    all_level r correct = go (reached (later ++ start) (primary c 1)) refl
      where
        go : (n : ℕ) → reached (later ++ start) (primary c 1) ≡ n → n ≤ reached (later ++ start) r
        go zero is = omega arith
        go (suc n) is =
            let a = number_reached c (primary c 1) (history_of (primary c 1) (later ++ start)) (point (primary c 1) f.next.from) (leaves (primary c 1) f.next.from) in
            let b = reached_history (primary c 1) trace in
            let one : 1 ≤ suc n = omega arith in
            let most : suc n ≤ (point (primary c 1) f.next.from).state.number = omega arith in
            let k = committed_here (primary c 1) f.next.from [] (history_of (primary c 1) (later ++ start)) refl (point (primary c 1) f.next.from) (leaves (primary c 1) f.next.from) (suc n) one most in
            all_reach (suc n) k.0 k.1.prepared.logged r correct

-- ---- the law

module _ (c : Configuration) (setting : IsConfiguration c) (again later start : List Entry) (is_run : IsRun c (later ++ start)) (goes : OnlyTheseStopped c [] (later ++ start))
    (is_whole : IsRun c (again ++ (later ++ start))) (whole_goes : OnlyTheseStopped c [] (again ++ (later ++ start))) (unforged : Unforged c (again ++ (later ++ start)))
    (apart : NoCollision c (again ++ (later ++ start))) (f : SecondGoesOn c later start) (stays : (q : ℕ) → is_correct_replica c q ≡ true → StaysActive c 1 later start q) (all : AllRedelivered c later start)
    (k : ℕ) (call : OpenCall) (client : is_correct_client c (256 + k) ≡ true)
    (tick : HasEntry (Tick (256 + k)) again) (all_again : AllDelivered c again) (still : open_call (history_of (256 + k) (later ++ start)) ≡ Some call) where
  abbrev middle : List Entry
  middle = later ++ start

  run : Run c middle
  run = run_part c again middle (run_of c setting (again ++ middle) is_whole unforged apart)

  -- the primary keeps the reply, so each correct replica does
  when_kept : KeepsReply c (primary c 1) (history_of (primary c 1) middle) k call.timestamp → (answer : Outcome) × HasEntry (Accepted k call.timestamp answer) again
  when_kept kept =
      executed_calls_are_accepted c setting again middle is_whole whole_goes unforged apart k call (is_correct_replica c) client still (many_correct c setting) (λ r h. (h, keeps r h)) tick all_again
    where
      first : IsBy c middle kept.point.state
      first = by_at c middle run (primary c 1) [] (history_of (primary c 1) middle) kept.point f.next.from refl kept.leaves

      keeps : (r : ℕ) → is_correct_replica c r ≡ true → KeepsReply c r (history_of r middle) k call.timestamp
      keeps r correct = keeps_reply c middle run k client call still r [] (history_of r middle) its correct refl leaves_r late
        where
          its : Point
          its = (goes.replicas r correct refl).0

          leaves_r : HistoryReaches c r (history_of r middle) its
          leaves_r = proceeds_leaves c r (history_of r middle) [] (goes.replicas r correct refl).0 (goes.replicas r correct refl).0 (goes.replicas r correct refl).1

          by : IsBy c middle its.state
          by = by_at c middle run r [] (history_of r middle) its correct refl leaves_r

          level : kept.point.state.number ≤ its.state.number
          level =
              let a = number_reached c (primary c 1) (history_of (primary c 1) middle) kept.point kept.leaves in
              let b = reached_history (primary c 1) middle in
              let d = number_reached c r (history_of r middle) its leaves_r in
              let e = reached_history r middle in
              let g = all_level c setting later start is_run goes run.runs.unforged run.apart f stays all r correct in
              omega arith

          late : call.timestamp ≤ last_time its.state k
          late =
              let grows = by_grows c setting middle opening 1 kept.point.state.number its.state.number k level opening_full in
              let one : last_time kept.point.state k ≡ last_time (state_by c middle opening 1 kept.point.state.number) k = ap (λ (s : State). last_time s k) first.is in
              let two : last_time its.state k ≡ last_time (state_by c middle opening 1 its.state.number) k = ap (λ (s : State). last_time s k) by.is in
              let t = (ap (λ (o : Option Kept). option_map_or (λ (x : Kept). x.timestamp) o 0) kept.is_kept ∙ kept.time) in
              omega arith

  -- the primary numbered the call, so each correct replica executed it
  when_numbered : IsNumbered c (primary c 1) (history_of (primary c 1) middle) 1 k call.timestamp → (answer : Outcome) × HasEntry (Accepted k call.timestamp answer) again
  when_numbered n = go n.1
    where
      go : IsOfView c (primary c 1) (history_of (primary c 1) middle) 1 n.0 → (answer : Outcome) × HasEntry (Accepted k call.timestamp answer) again
      go (inl h) =
          let positive = (its_giving c setting later start is_run goes run.runs.unforged run.apart f stays all h.0 n.0 h.1).positive in
          answered c setting again middle goes is_whole whole_goes unforged apart 1 h.0 (primary c 1) n.0 f.next.from
          (its_committed c setting later start is_run goes run.runs.unforged run.apart f stays all h.0 n.0 h.1 (primary c 1) f.next.from)
          (λ r correct. all_reach c setting later start is_run goes run.runs.unforged run.apart f stays all h.0 n.0 h.1 r correct) positive k call client still n.2 tick all_again
      go (inr h) = absurd (assigned_bare (once_at (BeginsViewWith c 1 n.0) (history_of (primary c 1) middle) h))
        where
          assigned_bare : At (BeginsViewWith c 1 n.0) (history_of (primary c 1) middle) → ⊥
          assigned_bare a =
              let bare = f.bare a.holds.0 (subst (λ (ys : List Entry). Once (TakesOrSendsNewView c a.holds.0) ys) (sym a.splits) (once_append (TakesOrSendsNewView c a.holds.0) a.newer (a.entry ∷ a.past) (inl a.holds.1))) in
              subst (λ (xs : List (List ℕ)). Has (λ x. x ≡ n.0) xs) bare a.holds.3

  accepts : StandsAtPrimary c 1 k call.timestamp middle → (answer : Outcome) × HasEntry (Accepted k call.timestamp answer) again
  accepts (inl kept) = when_kept kept
  accepts (inr numbers) = when_numbered (numbers (suc (reached middle (primary c 1))) (next_free c setting later start is_run goes run.runs.unforged run.apart f stays all))

pub second_calls_are_accepted : SecondCallsAreAccepted
second_calls_are_accepted c setting again later start is_run goes is_whole whole_goes unforged apart f stays all k call client opened asks tick all_again =
    go (open_calls_are_numbered c setting later start is_run goes run.runs.unforged run.apart k call client opened asks delivered 1 f.next.from (stays (primary c 1) f.next.from).last)
  where
    run : Run c (later ++ start)
    run = run_part c again (later ++ start) (run_of c setting (again ++ (later ++ start)) is_whole unforged apart)

    delivered : AllDelivered c later
    delivered p q bytes h meant_is correct = all p q bytes (has_left (λ x. x ≡ Sent p bytes) later start h) meant_is correct

    go : ((answer : Outcome) × HasEntry (Accepted k call.timestamp answer) later) ⊎ StandsAtPrimary c 1 k call.timestamp (later ++ start) → (answer : Outcome) × HasEntry (Accepted k call.timestamp answer) (again ++ later)
    go (inl a) = (a.0, has_right (λ x. x ≡ Accepted k call.timestamp a.0) again later a.1)
    go (inr stands) =
        in_either c k call again later start (is_run.clients (256 + k) client) opened
        (λ still. accepts c setting again later start is_run goes is_whole whole_goes unforged apart f stays all k call client tick all_again still stands)

-- ---- after the silence

-- the view that is next at the end was next before
next_before : (c : Configuration) (later start : List Entry) → SecondIsNext c (later ++ start) → SecondIsNext c start
next_before c later start n = record { silent = silent; from = n.from; none_beyond = none_beyond; keys = keys }
  where
    parts : (q : ℕ) → history_of q (later ++ start) ≡ history_of q later ++ history_of q start
    parts q = history_append q later start

    silent : (q i : ℕ) → is_correct_replica c q ≡ true → logged c q (history_of q start) 0 i ≡ None
    silent q i correct = go (logged c q (history_of q start) 0 i) refl
      where
        go : (o : Option (List ℕ)) → logged c q (history_of q start) 0 i ≡ o → o ≡ None
        go None is = refl
        go (Some b) is =
            let here = logged_later c q 0 i b (history_of q later) (history_of q start) is in
            let bad : None ≡ Some b = sym (n.silent q i correct) ∙ subst (λ (xs : List Entry). logged c q xs 0 i ≡ Some b) (sym (parts q)) here in
            absurd cc

    none_beyond : (q : ℕ) → is_correct_replica c q ≡ true → target (history_of q start) ≤ 1
    none_beyond q correct =
        let g = target_later (history_of q later) (history_of q start) in
        let same : target (history_of q (later ++ start)) ≡ target (history_of q later ++ history_of q start) = ap target (parts q) in
        let m = n.none_beyond q correct in
        omega arith

    keys : (q : ℕ) → is_correct_replica c q ≡ true → AreKeysSpent (history_of q start) → ⊥
    keys q correct spent = n.keys q correct (λ leaf l.
        let x = spent leaf l in
        (x.0, x.1, subst (λ (xs : List Entry). SentBefore x.0 xs) (sym (parts q)) (once_append (SendsBytes x.0) (history_of q later) (history_of q start) x.2)))

-- ---- a request that comes waits, unless it ran

module _ (c : Configuration) (setting : IsConfiguration c) (asks start : List Entry) (is_run : IsRun c (asks ++ start)) (goes : OnlyTheseStopped c [] (asks ++ start))
    (unforged : Unforged c (asks ++ start)) (apart : NoCollision c (asks ++ start)) (k : ℕ) (call : OpenCall) (client : is_correct_client c (256 + k) ≡ true)
    (opened : open_call (history_of (256 + k) start) ≡ Some call) (tick : HasEntry (Tick (256 + k)) asks) (all : AllDelivered c asks)
    (none : Accepting k call.timestamp (history_of (256 + k) asks) → ⊥) (r : ℕ) (correct : is_correct_replica c r ≡ true) where
  run_then : Run c (asks ++ start)
  run_then = run_of c setting (asks ++ start) is_run unforged apart

  pub still : open_call (history_of (256 + k) (asks ++ start)) ≡ Some call
  still = ap open_call (history_append (256 + k) asks start) ∙ still_open c setting asks start is_run goes unforged apart k call client opened all none

  request : Asked c (256 + k) modes.Ordered call asks
  request = asked c setting asks start is_run goes unforged apart k call client opened all none tick

  at : Stands (Got r request.bytes) (history_of r asks) (history_of r start)
  at = stands (Got r request.bytes) (history_of r asks) (history_of r start)
      (in_history r (Got r request.bytes) asks refl (gets_request c setting asks start is_run goes unforged apart k call client opened all none modes.Ordered request r correct))

  splits : history_of r (asks ++ start) ≡ at.newer ++ Got r request.bytes ∷ (at.middle ++ history_of r start)
  splits = history_append r asks start ∙ at.whole

  point_then : Point
  point_then = (goes.replicas r correct refl).0

  leaves_then : HistoryReaches c r (history_of r (asks ++ start)) point_then
  unfolding point_then
  leaves_then = proceeds_leaves c r (history_of r (asks ++ start)) [] (goes.replicas r correct refl).0 (goes.replicas r correct refl).0 (goes.replicas r correct refl).1

  waits : Has (λ x. x ≡ (let y : Call = record { client = k; timestamp = call.timestamp; op = call.op } in y)) point_then.waiting ⊎ (call.timestamp ≤ last_time point_then.state k)
  waits =
      waits_since c (asks ++ start) run_then k client call still r correct request.bytes (hears_request c setting asks start is_run goes unforged apart k call client opened all none modes.Ordered request r correct).receives
      [] at.newer (at.middle ++ history_of r start) point_then splits (subst (λ (xs : List Entry). HistoryReaches c r xs point_then) splits leaves_then)

  some_there : (xs : List Call) (y : Call) → Has (λ x. x ≡ y) xs → xs ≢ []
  some_there [] y h is = h
  some_there (x ∷ xs) y h is = absurd cc

  -- the state after no batch is the opening one, in which no client has a timestamp
  none_behind : (st : State) → IsBy c (asks ++ start) st → st.number ≡ 0 → last_time st k ≡ 0
  unfolding state_by
  none_behind st by zero_is =
      let first : state_by c (asks ++ start) opening 1 st.number ≡ opening = ap (state_by c (asks ++ start) opening 1) zero_is in
      ap (λ (s : State). last_time s k) (by.is ∙ first) ∙ ap (λ (o : Option Kept). option_map_or (λ (x : Kept). x.timestamp) o 0) (none_kept k)

  pub waits_or_ran : SomeWaits c r (history_of r (asks ++ start)) ⊎ (1 ≤ reached (asks ++ start) r)
  waits_or_ran = go waits
    where
      by : IsBy c (asks ++ start) point_then.state
      by = by_at c (asks ++ start) run_then r [] (history_of r (asks ++ start)) point_then correct refl leaves_then

      go : Has (λ x. x ≡ (let y : Call = record { client = k; timestamp = call.timestamp; op = call.op } in y)) point_then.waiting ⊎ (call.timestamp ≤ last_time point_then.state k)
          → SomeWaits c r (history_of r (asks ++ start)) ⊎ (1 ≤ reached (asks ++ start) r)
      go (inl w) = inl (point_then, leaves_then, some_there point_then.waiting (record { client = k; timestamp = call.timestamp; op = call.op }) w)
      go (inr l) = inr (pick (nat_le 1 (reached (asks ++ start) r)) refl)
        where
          pick : (b : Bool) → nat_le 1 (reached (asks ++ start) r) ≡ b → 1 ≤ reached (asks ++ start) r
          pick true e = leb-true 1 (reached (asks ++ start) r) e
          pick false e =
              let m = leb-false 1 (reached (asks ++ start) r) e in
              let a = number_reached c r (history_of r (asks ++ start)) point_then leaves_then in
              let b = reached_history r (asks ++ start) in
              let t = none_behind point_then.state by (omega arith) in
              let p = open_positive c (256 + k) (history_of (256 + k) (asks ++ start)) call (run_then.runs.clients (256 + k) client) still in
              absurd (omega arith)

pub calls_outlive_silence : CallsOutliveSilence
calls_outlive_silence c setting again later ticks asks start one two three four unforged apart f room k call client opened asked_it all_asked ticks_it all_ticks later_it all_later again_it all_again =
    first (accepted_or_not k call.timestamp (history_of (256 + k) asks))
  where
    whole : Run c (again ++ (later ++ (ticks ++ (asks ++ start))))
    whole = run_of c setting (again ++ (later ++ (ticks ++ (asks ++ start)))) four.0 unforged apart

    third : Run c (later ++ (ticks ++ (asks ++ start)))
    third = run_part c again (later ++ (ticks ++ (asks ++ start))) whole

    second : Run c (ticks ++ (asks ++ start))
    second = run_part c later (ticks ++ (asks ++ start)) third

    asked_run : Run c (asks ++ start)
    asked_run = run_part c ticks (asks ++ start) second

    next : SecondIsNext c (later ++ (ticks ++ (asks ++ start)))
    next = record { silent = faulty_primaries_are_silent c (later ++ (ticks ++ (asks ++ start))) three.0 f.silent f.first; from = f.from; none_beyond = f.none_beyond; keys = f.keys }

    goes_on : SecondGoesOn c later (ticks ++ (asks ++ start))
    goes_on = record {
      next = next;
      bare = λ new h. no_batches c setting (later ++ (ticks ++ (asks ++ start))) three.0 three.1 third.runs.unforged third.apart next f.silent (primary c 1) f.from new h;
      room = room;
    }

    first : Accepting k call.timestamp (history_of (256 + k) asks) ⊎ (Accepting k call.timestamp (history_of (256 + k) asks) → ⊥)
        → (answer : Outcome) × HasEntry (Accepted k call.timestamp answer) (again ++ (later ++ (ticks ++ asks)))
    first (inl a) = (
      a.0,
      has_right (λ x. x ≡ Accepted k call.timestamp a.0) again (later ++ (ticks ++ asks))
          (has_right (λ x. x ≡ Accepted k call.timestamp a.0) later (ticks ++ asks)
          (has_right (λ x. x ≡ Accepted k call.timestamp a.0) ticks asks (in_trace (256 + k) (Accepted k call.timestamp a.0) asks a.1))),
    )
    first (inr none) = then (open_or_accepted c k call (history_of (256 + k) (asks ++ start)) is_open (history_of (256 + k) ticks)
        (subst (LivesOnce c (256 + k)) (history_append (256 + k) ticks (asks ++ start)) (lives_once c (256 + k) (history_of (256 + k) (ticks ++ (asks ++ start))) (two.0.clients (256 + k) client))))
      where
        is_open : open_call (history_of (256 + k) (asks ++ start)) ≡ Some call
        is_open = ap open_call (history_append (256 + k) asks start) ∙ still_open c setting asks start one.0 one.1 asked_run.runs.unforged asked_run.apart k call client opened all_asked none

        active : (q : ℕ) → is_correct_replica c q ≡ true → is_active_in c (history_of q (ticks ++ (asks ++ start))) 1 ≡ true
        active q correct =
            second_is_entered c setting ticks (asks ++ start) two.0 two.1 second.runs.unforged second.apart (next_before c later (ticks ++ (asks ++ start)) next) all_ticks
            (λ r h. (waits_or_ran c setting asks start one.0 one.1 asked_run.runs.unforged asked_run.apart k call client opened asked_it all_asked none r h, ticks_it r h)) q correct

        stays : (q : ℕ) → is_correct_replica c q ≡ true → StaysActive c 1 later (ticks ++ (asks ++ start)) q
        stays q correct = record { first = active q correct; last = last }
          where
            last : is_active_in c (history_of q (later ++ (ticks ++ (asks ++ start)))) 1 ≡ true
            last =
                let v = (active_parts c (history_of q (ticks ++ (asks ++ start))) 1 (active q correct)).0 in
                let g = view_later c (history_of q later) (history_of q (ticks ++ (asks ++ start))) in
                let same : view c (history_of q (later ++ (ticks ++ (asks ++ start)))) ≡ view c (history_of q later ++ history_of q (ticks ++ (asks ++ start))) = ap (view c) (history_append q later (ticks ++ (asks ++ start))) in
                let m = Silence.view_most c setting (later ++ (ticks ++ (asks ++ start))) three.0 three.1 third.runs.unforged third.apart next q correct in
                let most = next.none_beyond q correct in
                let is : view c (history_of q (later ++ (ticks ++ (asks ++ start)))) ≡ 1 = omega arith in
                and_from (view c (history_of q (later ++ (ticks ++ (asks ++ start)))) == 1) (nat_le (target (history_of q (later ++ (ticks ++ (asks ++ start))))) 1)
                (eq-eqb (view c (history_of q (later ++ (ticks ++ (asks ++ start))))) 1 is) (le-leb (target (history_of q (later ++ (ticks ++ (asks ++ start))))) 1 most)

        in_end : (answer : Outcome) → HasEntry (Accepted k call.timestamp answer) (again ++ later) → HasEntry (Accepted k call.timestamp answer) (again ++ (later ++ (ticks ++ asks)))
        in_end answer h = subst (λ (xs : List Entry). HasEntry (Accepted k call.timestamp answer) xs) (append_assoc again later (ticks ++ asks))
            (has_left (λ x. x ≡ Accepted k call.timestamp answer) (again ++ later) (ticks ++ asks) h)

        then : Accepting k call.timestamp (history_of (256 + k) ticks) ⊎ (open_call (history_of (256 + k) ticks ++ history_of (256 + k) (asks ++ start)) ≡ Some call)
            → (answer : Outcome) × HasEntry (Accepted k call.timestamp answer) (again ++ (later ++ (ticks ++ asks)))
        then (inl a) = (
          a.0,
          has_right (λ x. x ≡ Accepted k call.timestamp a.0) again (later ++ (ticks ++ asks))
              (has_right (λ x. x ≡ Accepted k call.timestamp a.0) later (ticks ++ asks)
              (has_left (λ x. x ≡ Accepted k call.timestamp a.0) ticks asks (in_trace (256 + k) (Accepted k call.timestamp a.0) ticks a.1))),
        )
        then (inr o) =
            let a = second_calls_are_accepted c setting again later (ticks ++ (asks ++ start)) three.0 three.1 four.0 four.1 unforged apart goes_on stays all_later k call client
            (ap open_call (history_append (256 + k) ticks (asks ++ start)) ∙ o) later_it again_it all_again in
            (a.0, in_end a.0 a.1)
