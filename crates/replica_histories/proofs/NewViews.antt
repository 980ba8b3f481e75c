-- A new view begins: desk and log after it fit.
use Rattle.std.proofs.Common.{◌≡◌, ℕ, suc, ◌+◌, ◌≤◌, ◌<◌, ◌%◌, ◌⊎◌, inl, inr, Bool, true, false, cond, List, [], ◌∷◌, max, map, Option, Some, None, refl, sym, ap, ◌∙◌, subst, arith}
use Rattle.std.specs.Prelude.{nat_le, nat_lt, option_and_then, ⊤}
use Rattle.std.specs.Bool.{then_some}
use Rattle.std.specs.Option.{option_map_or}
use Rattle.std.proofs.lemmas.Bool.{and_parts, leb-true, leb-false, ltb-true, ltb-false}
use Rattle.terms.specs.declared.order.Mode.TheVariants as modes
use Rattle.terms.specs.declared.state.Level.TheVariants as levels
use Rattle.wire_format.specs.Messages.{BodyData as Body, MessageData as Message, NewViewData, request as Request, checkpoint as Checkpoint, new_view as NewView, fetch as Fetch}
use Rattle.signing.specs.AuthenticBody.{authentic}
use Rattle.reply_cache.specs.Replies.{Kept}
use Rattle.ordering.specs.Log as logs
use Rattle.ordering.specs.Log.{LogData}
use Rattle.protocol.specs.System.Configuration.{Configuration, members}
use Rattle.protocol.specs.System.Trace.{Entry, Has}
use Rattle.protocol.specs.System.Trace.Entry.{Got, Sent}
use Rattle.protocol.specs.Replica.Certificates.{view, target, taken, is_later, new_view_in, change_sent, change_from, checkpoint_in, commit_of, Committed}
use Rattle.protocol.specs.Replica.State.{State, call_in, last_time, root_of}
use Rattle.protocol.specs.Replica.Owed.{IsSending, SendsMessage, StartsAhead}
use Rattle.protocol.specs.Replica.RightReplica.{Point, MaySend, Executes, kept_states, reply_of, with_waiting, waiting_after, StartsAt, IsRootWanted}
use Rattle.protocol.proofs.Words.Options.{some_injective, and_then_some, then_some_gives}
use Rattle.protocol.proofs.Words.Elements.{has_weaker}
use Rattle.protocol.proofs.Words.Temporal.{once_weaker}
use Rattle.state_transfer.specs.Transfer.{TransferData}
use Rattle.protocol.proofs.Words.Reacting.{proceeds_leaves}
use Rattle.replica_histories.specs.Desk.{Desk, snapshot_of, point_of}
use Rattle.replica_histories.specs.Logs.{FitsLog}
use Rattle.replica_histories.specs.Transfers.{FitsStateTransfer, TransferMayAsk, AsksNext, transfer_to, open_number}
use Rattle.replica_histories.specs.Events.{after_outputs, IsOnItsWay, IsRepeatedRequest, MaySendDue, LowMarkIsReached, IsFetchedOrDue}
use Rattle.replica_histories.specs.Views.{entered_log, start_due, NewViewsEnter, NewViewsFit, StartsMayAsk}
use Rattle.replica_histories.proofs.Words.{given_not}
use Rattle.replica_histories.proofs.Certified.{committed_there}
use Rattle.replica_histories.proofs.Ending.{steps_leave}
use Rattle.replica_histories.proofs.SentOnce.{saying, no_reply, fetch_once, view_is_new}
use Rattle.replica_histories.proofs.Giving.{kept_on, on_way, no_proposal, signed_may_send}
use Rattle.replica_histories.proofs.Entering.{same_point}
use Rattle.replica_histories.proofs.Resting.{rests}
use Rattle.replica_histories.proofs.Transfers.{open_stays, open_above, lower_are_fetched, asks_none, start_may_ask, move_may_ask}
use Rattle.replica_histories.proofs.TransfersQuorums.{quorums_begin, quorums_go_on, no_root}
use Rattle.replica_histories.proofs.Batches.{entered_low}
use Rattle.replica_histories.proofs.Beginning.{Still, still_brings, still_commit, still_committed, new_above, new_small, entered_high, logged_before, assigned_fits}

-- a new view that the replica takes is not below the target
targets_at_most : (c : Configuration) (past : List Entry) (e : Entry) (new : NewViewData) → taken c past e ≡ Some new → target past ≤ new.view
targets_at_most c past e new t =
    let r = and_then_some (λ (x : NewViewData). then_some (is_later (view c past) (target past) x) x) (new_view_in c e) new t in
    let g = then_some_gives (is_later (view c past) (target past) r.0) r.0 new r.2 in
    subst (λ (x : NewViewData). target past ≤ x.view) g.1 (leb-true (target past) r.0.view (and_parts (nat_lt (view c past) r.0.view) (nat_le (target past) r.0.view) g.0).1)

-- ---- committed batches, fetches and due messages

module _ (c : Configuration) (me : ℕ) (log : LogData) (past : List Entry) (e : Entry) (new : NewViewData) (f : FitsLog c me log past) (q : Still c me past e) (t : taken c past e ≡ Some new) where
  -- a batch that is committed after it was so before
  committed_before : (v i : ℕ) (batch : List ℕ) → Committed c me (e ∷ past) v i batch → Committed c me past v i batch
  committed_before v i batch k = go (nat_lt log.view v) refl
    where
      go : (b : Bool) → nat_lt log.view v ≡ b → Committed c me past v i batch
      go true l = absurd (given_not (commit_of c me past v i me) _ (sym (still_commit c me past e q v i me) ∙ k.own) (f.views.later v i me (ltb-true log.view v l)).1)
      go false l =
          let most = ltb-false log.view v l in
          let above = new_above c me log past e new f q t in
          still_committed c me past e q v i batch (logged_before c me log past e new f q t v i batch (omega arith) k.prepared.logged) k

  module _ (desk : Desk) (opened : FitsStateTransfer c me desk.transfer desk.state.number past) where
    is_ahead : Bool
    is_ahead = nat_lt (open_number desk.state.number desk.transfer) new.start

    -- a start above the executed number is fetched, or its fetch is due
    start_fetched : desk.state.number < new.start → IsFetchedOrDue new.start (start_due desk new) (e ∷ past)
    start_fetched above = go (nat_lt (open_number desk.state.number desk.transfer) new.start) refl
      where
        go : (b : Bool) → nat_lt (open_number desk.state.number desk.transfer) new.start ≡ b → IsFetchedOrDue new.start (cond b (Fetch new.start levels.Root 0 ∷ []) []) (e ∷ past)
        go true l = inr (inl refl)
        go false l =
            let least = lower_are_fetched c me desk.transfer desk.state.number new.start past above (ltb-false (open_number desk.state.number desk.transfer) new.start l) opened in
            inl (omega arith)

    -- if it is above all that was fetched, its fetch is due
    start_due_then : (k : ℕ) → StartsAhead c k past e → desk.state.number < k → Has (λ x. x ≡ Fetch k levels.Root 0) (start_due desk new)
    start_due_then k h above = subst (λ (n : ℕ). Has (λ x. x ≡ Fetch n levels.Root 0) (start_due desk new)) same (go (nat_lt (open_number desk.state.number desk.transfer) new.start) refl)
      where
        same : new.start ≡ k
        same = ap (λ (x : NewViewData). x.start) (some_injective new h.0 (sym t ∙ h.1)) ∙ h.2

        go : (b : Bool) → nat_lt (open_number desk.state.number desk.transfer) new.start ≡ b → Has (λ x. x ≡ Fetch new.start levels.Root 0) (cond b (Fetch new.start levels.Root 0 ∷ []) [])
        go true l = inl refl
        go false l =
            let least = lower_are_fetched c me desk.transfer desk.state.number new.start past (omega (arith, above, same)) (ltb-false (open_number desk.state.number desk.transfer) new.start l) opened in
            let newer = h.3 in
            absurd (omega (arith, least, newer, same))

    -- the low mark is reached if it was, and no batch is committed for the next number
    assigned_reached : LowMarkIsReached c me log.low desk.state.number [] past → (log.low ≤ desk.state.number → (v : ℕ) (batch : List ℕ) → Committed c me past v (suc desk.state.number) batch → ⊥)
        → LowMarkIsReached c me (entered_log log new).low desk.state.number (start_due desk new) (e ∷ past)
    assigned_reached was next = go (nat_le (entered_log log new).low desk.state.number) refl
      where
        low_is : (entered_log log new).low ≡ max log.low new.start
        low_is = entered_low log new f.is_log (new_small c me log past e new f q t)

        none : LowMarkIsReached c me log.low desk.state.number [] past → (v : ℕ) (batch : List ℕ) → Committed c me (e ∷ past) v (suc desk.state.number) batch → ⊥
        none (inl l) v batch k = next l v batch (committed_before v (suc desk.state.number) batch k)
        none (inr h) v batch k = h.1 v batch (committed_before v (suc desk.state.number) batch k)

        old : desk.state.number < log.low → LowMarkIsReached c me log.low desk.state.number [] past → IsFetchedOrDue log.low (start_due desk new) (e ∷ past)
        old above (inl l) = absurd (omega arith)
        old above (inr h) = at h.0
          where
            at : IsFetchedOrDue log.low [] past → IsFetchedOrDue log.low (start_due desk new) (e ∷ past)
            at (inl l) = inl (omega arith)
            at (inr d) = absurd d

        fetched : desk.state.number < (entered_log log new).low → (b : Bool) → nat_lt log.low new.start ≡ b → IsFetchedOrDue (entered_log log new).low (start_due desk new) (e ∷ past)
        fetched above true l =
            let over = ltb-true log.low new.start l in
            let is = low_is in
            let same : new.start ≡ (entered_log log new).low = omega arith in
            subst (λ (n : ℕ). IsFetchedOrDue n (start_due desk new) (e ∷ past)) same (start_fetched (omega arith))
        fetched above false l =
            let under = ltb-false log.low new.start l in
            let is = low_is in
            let same : log.low ≡ (entered_log log new).low = omega arith in
            subst (λ (n : ℕ). IsFetchedOrDue n (start_due desk new) (e ∷ past)) same (old (omega arith) was)

        go : (b : Bool) → nat_le (entered_log log new).low desk.state.number ≡ b → LowMarkIsReached c me (entered_log log new).low desk.state.number (start_due desk new) (e ∷ past)
        go true l = inl (leb-true (entered_log log new).low desk.state.number l)
        go false l = inr (fetched (leb-false (entered_log log new).low desk.state.number l) (nat_lt log.low new.start) refl, none was)

    -- the due fetch may be sent
    start_rightly : (states : List State) (point : Point) → point.state ≡ desk.state → (message : Message) → Has (λ x. x ≡ message) (start_due desk new) → MaySendDue c me (e ∷ past) point message
    start_rightly states point same message h = go (nat_lt (open_number desk.state.number desk.transfer) new.start) refl h
      where
        go : (b : Bool) → nat_lt (open_number desk.state.number desk.transfer) new.start ≡ b → Has (λ x. x ≡ message) (cond b (Fetch new.start levels.Root 0 ∷ []) []) → MaySendDue c me (e ∷ past) point message
        go false l k = absurd k
        go true l (inr k) = absurd k
        go true l (inl k) =
            let least = open_above c me desk.transfer desk.state.number past opened in
            let over = ltb-true (open_number desk.state.number desk.transfer) new.start l in
            let number = ap (λ (st : State). st.number) same in
            subst (λ (x : Message). MaySendDue c me (e ∷ past) point x) k (new.root, (omega arith, inr (inl (new, t, refl, refl))))

-- ---- a new view arrives

abbrev IsNewView : Message → Type 0
IsNewView message = elim message [ NewView new ↦ ⊤ | _ ↦ ⊥ ]

pub new_views_enter : NewViewsEnter
new_views_enter c me desk log past s new bytes held h t = record {
  of_desk = record {
    states = old.snapshots;
    ran = [];
    leaves = proceeds_leaves c me past [] old old held.of_desk.proceeds;
    steps = record {
      own = refl;
      may = tt;
      moves = same_point old.snapshots desk.state old.state desk.waiting (waiting_after c me old bytes) (sym (ap (λ (p : Point). p.state) held.of_desk.is)) (sym (ap (λ (p : Point). p.waiting) held.of_desk.is) ∙ sym waits);
    };
    kept = ap (λ (x : ℕ). map snapshot_of (kept_states x old.snapshots)) fits.low
        ∙ kept_on log.low (entered_log log new).low old.snapshots desk.snapshots (entered_high c me log past e new f q t) (ap (λ (x : ℕ). map snapshot_of (kept_states x old.snapshots)) (sym f.low) ∙ held.of_desk.kept);
    frames = λ frame k. let g = held.of_desk.frames frame k in (inr g.0, g.1);
    replies = λ r k. absurd k;
    asked = λ k kept a. absurd (asks_nothing k kept a);
    fetch_again = λ k index level h. absurd h.0;
    checkpoints = λ k x multiple. absurd x;
    opened = open_stays c me desk.transfer desk.state.number past e refl tt held.of_desk.opened;
    fetches = quorums_begin c me (record { before = past; input = e; old = old }) desk.state.number (start_due desk new) held.of_desk.fetches
        (λ k root b quorum above. absurd (given_not (checkpoint_in c e) _ b.brings q.checkpoint))
        (λ k start above. start_due_then c me log past e new f q t desk held.of_desk.opened k start above);
    rightly = λ message k. start_rightly c me log past e new f q t desk held.of_desk.opened old.snapshots (point_of desk old.snapshots []) refl message k;
  };
  of_log = fits;
  low = assigned_reached c me log past e new f q t desk held.of_desk.opened held.low (λ l. next);
  once = tt;
  says = fetch_once me (record { before = past; input = e; old = old }) desk.state new.start [] (nat_lt (open_number desk.state.number desk.transfer) new.start) refl (λ k kept given. absurd given);
}
  where
    e : Entry
    e = Got me bytes

    old : Point
    old = held.of_desk.point

    f : FitsLog c me log past
    f = held.of_log.fits

    q : Still c me past e
    q = still_brings c me past e s (NewView new) tt h

    fits : FitsLog c me (entered_log log new) (e ∷ past)
    fits = assigned_fits c me log past e new f q t (let most = targets_at_most c past e new t in omega arith) held.of_log.commits

    waits : waiting_after c me old bytes ≡ old.waiting
    waits = ap (λ (o : Option Body). option_map_or (with_waiting old.state old.waiting) (option_and_then (call_in c) o) old.waiting) h

    asks_nothing : (k : ℕ) (kept : Kept) → IsRepeatedRequest c me (record { before = past; input = e; old = old }) k kept → ⊥
    asks_nothing k kept a =
        let receives : authentic (members c me) me bytes ≡ Some (record { sender = 256 + k; message = Request a.0 modes.Ordered a.1 }) = a.2 in
        let same : ◌≡◌ {A = Body} (record { sender = s; message = NewView new }) (record { sender = 256 + k; message = Request a.0 modes.Ordered a.1 }) = some_injective _ _ (sym h ∙ receives) in
        subst IsNewView (ap (λ (b : Body). b.message) same) tt

    -- the last event left no committed batch for the next number
    next : (v : ℕ) (batch : List ℕ) → Committed c me past v (suc desk.state.number) batch → ⊥
    next v batch k =
        (rests c me past held.of_desk.point held.of_desk.proceeds).executes v batch
        (subst (λ (st : State). Committed c me past v (suc st.number) batch) (sym (ap (λ (p : Point). p.state) held.of_desk.is)) k)

-- ---- the replica sends a new view

pub new_views_fit : NewViewsFit
new_views_fit c me s desk log outputs new bytes none_due none_next primary_is t seen is_outgoing leaf f = record {
  of_desk = record {
    states = f.of_desk.states;
    ran = f.of_desk.ran;
    leaves = f.of_desk.leaves;
    steps = (point, f.of_desk.steps, record { own = refl; may = may; moves = refl }, refl);
    kept = ap (λ (h : ℕ). map snapshot_of (kept_states h f.of_desk.states)) fits.low
        ∙ kept_on log.low (entered_log log new).low f.of_desk.states desk.snapshots (entered_high c me log past e new f.of_log q t) (ap (λ (h : ℕ). map snapshot_of (kept_states h f.of_desk.states)) (sym f.of_log.low) ∙ f.of_desk.kept);
    frames = λ frame h. let k = f.of_desk.frames frame h in (inr k.0, k.1);
    replies = λ r h. on_way me [] (start_due desk new) outputs e (λ x k. absurd k) (reply_of r.call.client r.kept) (f.of_desk.replies r h);
    asked = λ k kept h. on_way me [] (start_due desk new) outputs e (λ x k. absurd k) (reply_of k kept) (f.of_desk.asked k kept h);
    fetch_again = λ k index level h. on_way me [] (start_due desk new) outputs e (λ x d. absurd d) (Fetch k level index) (f.of_desk.fetch_again k index level h);
    checkpoints = λ k h multiple. checkpoints k h multiple;
    opened = open_stays c me desk.transfer desk.state.number past e (asks_none bytes me (NewView new) is_outgoing.says refl) tt f.of_desk.opened;
    fetches = quorums_go_on c me s desk.state.number desk.state.number [] (start_due desk new) outputs e (omega arith) (no_root c past bytes me (NewView new) desk.state.number is_outgoing.says refl)
        (λ k start above. start_due_then c me log past e new f.of_log q t desk f.of_desk.opened k start above) (λ x k. absurd k) f.of_desk.fetches;
    rightly = λ message k. start_rightly c me log past e new f.of_log q t desk f.of_desk.opened f.of_desk.states point refl message k;
  };
  of_log = fits;
  low = assigned_reached c me log past e new f.of_log q t desk f.of_desk.opened f.low next;
  once = (no_proposal c me past bytes (NewView new) is_outgoing.says tt, f.once);
  says = fetch_once me s desk.state new.start (e ∷ outputs) (nat_lt (open_number desk.state.number desk.transfer) new.start) f.says.begins (λ k kept given. older k kept given);
}
  where
    past : List Entry
    past = after_outputs s outputs

    e : Entry
    e = Sent me bytes

    point : Point
    point = point_of desk f.of_desk.states f.of_desk.ran

    q : Still c me past e
    q = still_brings c me past e me (NewView new) tt is_outgoing.says

    fits : FitsLog c me (entered_log log new) (e ∷ past)
    fits =
        assigned_fits c me log past e new f.of_log q t
        (let says : change_sent e ≡ 0 = ap (λ (o : Option Body). option_map_or change_from o 0) is_outgoing.says in let most = targets_at_most c past e new t in omega arith) none_due

    may : MaySend c me past point e bytes
    may = signed_may_send c me past point e bytes (NewView new) refl is_outgoing seen (primary_is, inl t) leaf
        (view_is_new c me past point new bytes (steps_leave c me s outputs point f.of_desk.leaves f.of_desk.steps) is_outgoing.says t)

    next : log.low ≤ desk.state.number → (v : ℕ) (batch : List ℕ) → Committed c me past v (suc desk.state.number) batch → ⊥
    next l v batch k =
        let known = committed_there c me log past v (suc desk.state.number) batch f.of_log (omega arith) k in
        given_not (logs.committed_batch log (suc desk.state.number)) known.0 known.1 none_next

    older : (k : ℕ) (kept : Kept) → IsSending me (reply_of k kept) e ⊎ SendsMessage me (reply_of k kept) outputs → kept.timestamp ≤ last_time desk.state k
    older k kept (inr given) = f.says.replies k kept (inr given)
    older k kept (inl now) = absurd (no_reply (NewView new) k kept refl (saying me (NewView new) (reply_of k kept) bytes is_outgoing.says now))

    checkpoints : (k : ℕ) → Executes k [] e ⊎ Has (λ x. Executes k [] x) outputs → k % c.period ≡ 0
        → Has (λ st. (st.number ≡ k) × IsOnItsWay me (start_due desk new) (e ∷ outputs) (Checkpoint k (root_of st))) f.of_desk.states
    checkpoints k (inl h) multiple = absurd h
    checkpoints k (inr h) multiple =
        has_weaker (λ st. (st.number ≡ k) × IsOnItsWay me [] outputs (Checkpoint k (root_of st))) (λ st. (st.number ≡ k) × IsOnItsWay me (start_due desk new) (e ∷ outputs) (Checkpoint k (root_of st)))
        (λ st w. (w.0, on_way me [] (start_due desk new) outputs e (λ x d. absurd d) (Checkpoint k (root_of st)) w.1)) f.of_desk.states (f.of_desk.checkpoints k h multiple)

-- ---- the replica fetches the state at the start

pub starts_may_ask : StartsMayAsk
starts_may_ask c me s desk log due outputs new pages once above f = go desk.transfer above f.of_desk.opened
  where
    history : List Entry
    history = after_outputs s outputs

    wanted : IsRootWanted c history new.start new.root
    wanted = inr (once_weaker (λ past e. taken c past e ≡ Some new) (StartsAt c new.start new.root) (λ past e h. (new, h, refl, refl)) history once)

    go : (o : Option TransferData) → open_number desk.state.number o < new.start → FitsStateTransfer c me o desk.state.number history
        → TransferMayAsk c me (transfer_to o new.start new.root pages) desk.state.number history × AsksNext c me (transfer_to o new.start new.root pages) desk.state history
    go None l o = let most = o.0 in (start_may_ask c me desk.state.number new.start new.root pages history wanted l o, inl (omega arith))
    go (Some t) l o = let newest = o.0.newest in (move_may_ask c me desk.state.number new.start new.root t history wanted l o, inl (omega arith))
