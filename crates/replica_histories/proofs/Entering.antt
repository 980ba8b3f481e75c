-- An event begins: desk and log after the input fit.
use Rattle.std.proofs.Common.{◌≡◌, ℕ, ◌+◌, ◌-◌, ◌*◌, ◌≤◌, ◌<◌, ◌⊎◌, inl, inr, Bool, true, false, cond, ◌&&◌, slice_index_or, List, [], ◌∷◌, map, refl, sym, ap, ◌∙◌, subst, arith, Option, Some, None, is_some, eqb-true, eq-eqb}
use Rattle.std.specs.Prelude.{◌==◌, nat_le, nat_lt, option_and_then, ⊤}
use Rattle.std.specs.Option.{option_map_or}
use Rattle.std.proofs.lemmas.Bool.{and_parts, le-leb, leb-true, ltb-true, ltb-false}
use Rattle.ordering.specs.Log as logs
use Rattle.ordering.specs.Log.{LogData}
use Rattle.tuple_codec.specs.Operations.{Operation}
use Rattle.terms.specs.declared.order.Mode.TheVariants as modes
use Rattle.terms.specs.declared.state.Level.{Level}
use Rattle.terms.specs.declared.state.Level.TheVariants as levels
use Rattle.wire_format.specs.Messages.{BodyData as Body, MessageData as Message, CheckpointEntryData as CheckpointEntry, request as Request, checkpoint as Checkpoint, fetch as Fetch}
use Rattle.signing.specs.AuthenticBody.{authentic}
use Rattle.reply_cache.specs.Replies.{Kept}
use Rattle.protocol.specs.System.Configuration.{Configuration, members}
use Rattle.protocol.specs.System.Trace.{Entry, Once, Has}
use Rattle.protocol.specs.System.Trace.Entry.{Got, Tick}
use Rattle.protocol.specs.Replica.Selection.{is_quorum}
use Rattle.protocol.specs.Replica.Certificates.{new_view_from, count_checkpoints, lists_checkpoint, checkpoints_of, is_stable}
use Rattle.protocol.specs.Replica.State.{State, Call, call_in, kept_of, last_time}
use Rattle.protocol.specs.Replica.RightReplica.{Point, HistoryReaches, IsStep, kept_states, HasSeen, reply_of, with_waiting, waiting_after}
use Rattle.protocol.specs.Replica.Transfers.{fetching, asked_last}
use Rattle.protocol.proofs.Words.Plain.{Plain, plain_low}
use Rattle.protocol.proofs.Words.Options.{some_injective}
use Rattle.protocol.proofs.Words.Reacting.{proceeds_leaves}
use Rattle.protocol.proofs.Agreement.States.{checking}
use Rattle.replica_histories.specs.Desk.{snapshot_of, point_of}
use Rattle.state_transfer.specs.Transfer.{TransferData}
use Rattle.replica_histories.specs.Logs.{checkpoints_above, FitsLog}
use Rattle.replica_histories.specs.Marks.{checked_log, BringsCheckpoint}
use Rattle.replica_histories.specs.Events.{Start, IsOnItsWay, IsRepeatedRequest, MaySendDue, AreUnsent, SaysOnce, IsFetchedOrDue, LowMarkIsReached}
use Rattle.replica_histories.specs.Transfers.{HasQuorum, FitsStateTransfer, open_number}
use Rattle.replica_histories.specs.TransfersQuorums.{BringsRoot, QuorumsFetched}
use Rattle.replica_histories.specs.Inputs.{again_for, asked_by, replies_again, fetch_due, again_due, InputsFit, CheckpointsEnter, TicksFit}
use Rattle.replica_histories.proofs.Checking.{log_stable, quorum_counted, own_at_most}
use Rattle.replica_histories.proofs.Taking.{takes_nothing}
use Rattle.replica_histories.proofs.Logging.{none_taken, log_goes, got_read, silent_read}
use Rattle.replica_histories.proofs.Reaching.{reached_goes}
use Rattle.replica_histories.proofs.Cutting.{marked, alike, checked, checked_up, checked_reached}
use Rattle.replica_histories.proofs.Giving.{kept_on}
use Rattle.replica_histories.proofs.SentOnce.{time_of, reply_client, no_reply, fetch_once}
use Rattle.replica_histories.proofs.Counting.{CheckpointFree, checkpoint_free}
use Rattle.replica_histories.proofs.Words.{apart}
use Rattle.replica_histories.proofs.Transfers.{root_later, open_stays, open_above, quorums_want, lower_are_fetched}
use Rattle.replica_histories.proofs.TransfersQuorums.{unchanged_bring_none, none_starts, quorums_begin}
use Rattle.replica_histories.proofs.TransfersTaking.{asked_at_most}

-- ---- what the input asks for is due

module _ (c : Configuration) (me : ℕ) (past : List Entry) (bytes : List ℕ) (old : Point) where
  abbrev start : Start
  start = record { before = past; input = Got me bytes; old = old }

  asked_is_due : (k : ℕ) (kept : Kept) → IsRepeatedRequest c me start k kept → Has (λ x. x ≡ reply_of k kept) (replies_again old.state (authentic (members c me) me bytes))
  asked_is_due k kept a = rw receives (at (256 + k - 256) (let n : 256 + k - 256 ≡ k = omega arith in n) (nat_le 256 (256 + k)) (le-leb 256 (256 + k) (omega arith)))
    where
      receives : authentic (members c me) me bytes ≡ Some (record { sender = 256 + k; message = Request a.0 modes.Ordered a.1 })
      receives = a.2

      kept_is : kept_of old.state k ≡ Some kept
      kept_is = a.3

      at : (n : ℕ) → n ≡ k → (b : Bool) → b ≡ true → Has (λ x. x ≡ reply_of k kept) (cond b (again_for n a.0 (kept_of old.state n)) [])
      at n e b tests = rw (tests, e, kept_is, eq-eqb kept.timestamp a.0 a.4) (inl refl)

  abbrev got : List Entry
  got = Got me bytes ∷ past

  due_is_right : (point : Point) → point.state ≡ old.state → (message : Message) → Has (λ x. x ≡ message) (replies_again old.state (authentic (members c me) me bytes)) → MaySendDue c me got point message
  due_is_right point same message h = go (authentic (members c me) me bytes) refl h
    where
      Says : ℕ → Message → Type 0
      Says = λ sender m. authentic (members c me) me bytes ≡ Some (record { sender = sender; message = m })

      ordered : (sender t : ℕ) (op : Operation) → Says sender (Request t modes.Ordered op) → (b : Bool) → nat_le 256 sender ≡ b → (o : Option Kept) → kept_of old.state (sender - 256) ≡ o
          → Has (λ x. x ≡ message) (cond b (again_for (sender - 256) t o) []) → MaySendDue c me got point message
      ordered sender t op says false client o is h = absurd h
      ordered sender t op says true client None is h = absurd h
      ordered sender t op says true client (Some kept) is h = at (kept.timestamp == t) refl h
        where
          k : ℕ
          k = sender - 256

          its_own : sender ≡ 256 + k
          its_own = let least = leb-true 256 sender client in omega (arith, least)

          at : (b : Bool) → (kept.timestamp == t) ≡ b → Has (λ x. x ≡ message) (cond b (reply_of k kept ∷ []) []) → MaySendDue c me got point message
          at false e h = absurd h
          at true e (inr h) = absurd h
          at true e (inl h) =
              let time : t ≡ kept.timestamp = sym (eqb-true kept.timestamp t e) in
              let asks : Says (256 + k) (Request kept.timestamp modes.Ordered op) = subst (λ (n : ℕ). Says n (Request kept.timestamp modes.Ordered op)) its_own (subst (λ (n : ℕ). Says sender (Request n modes.Ordered op)) time says) in
              subst (MaySendDue c me got point) h (inr (k, kept, ap (λ (st : State). kept_of st k) same ∙ is, refl, (op, asks)))

      of : (sender : ℕ) (m : Message) → Says sender m → Has (λ x. x ≡ message) (asked_by old.state (record { sender = sender; message = m })) → MaySendDue c me got point message
      of sender (Request t modes.Ordered op) says h = ordered sender t op says (nat_le 256 sender) refl (kept_of old.state (sender - 256)) refl h
      of sender (Request t modes.ReadOnly op) says h = absurd h
      of sender _ says h = absurd h

      go : (o : Option Body) → authentic (members c me) me bytes ≡ o → Has (λ x. x ≡ message) (replies_again old.state o) → MaySendDue c me got point message
      go None says h = absurd h
      go (Some body) says h = of body.sender body.message says h

-- it is at most one reply
again_unsaid : (me k timestamp : ℕ) (o : Option Kept) → AreUnsent me (again_for k timestamp o) []
again_unsaid me k timestamp None = tt
again_unsaid me k timestamp (Some kept) = go (kept.timestamp == timestamp)
  where
    alone : IsOnItsWay me [] [] (reply_of k kept) → ⊥
    alone (inl h) = h
    alone (inr h) = h

    go : (b : Bool) → AreUnsent me (cond b (reply_of k kept ∷ []) []) []
    go true = (λ other way. alone way, tt)
    go false = tt

asked_unsaid : (me : ℕ) (st : State) (o : Option Body) → AreUnsent me (replies_again st o) []
asked_unsaid me st None = tt
asked_unsaid me st (Some body) = of body.sender body.message
  where
    ordered : (sender t : ℕ) (b : Bool) → AreUnsent me (cond b (again_for (sender - 256) t (kept_of st (sender - 256))) []) []
    ordered sender t true = again_unsaid me (sender - 256) t (kept_of st (sender - 256))
    ordered sender t false = tt

    of : (sender : ℕ) (message : Message) → AreUnsent me (asked_by st (record { sender = sender; message = message })) []
    of sender (Request t modes.Ordered op) = ordered sender t (nat_le 256 sender)
    of sender (Request t modes.ReadOnly op) = tt
    of sender _ = tt

-- ---- the event begins

-- points of one state and the same waiting requests
pub same_point : (snapshots : List State) (st other : State) (waiting calls : List Call) → st ≡ other → waiting ≡ calls
    → ◌≡◌ {A = Point} (record { state = st; snapshots = snapshots; ran = []; waiting = waiting }) (record { state = other; snapshots = snapshots; ran = []; waiting = calls })
same_point snapshots st other waiting calls e f = rw (e, f) refl

pub inputs_fit : InputsFit
inputs_fit c me desk new log after due past bytes held none e = record {
  of_desk = record {
    states = old.snapshots;
    ran = [];
    leaves = proceeds_leaves c me past [] old old held.of_desk.proceeds;
    steps = record { own = refl; may = tt; moves = moves };
    kept = ap (λ (x : ℕ). map snapshot_of (kept_states x old.snapshots)) (fits.low ∙ e.takes.stays.low ∙ sym held.of_log.fits.low) ∙ held.of_desk.kept ∙ sym e.snapshots;
    frames = λ frame k. kept_frame frame (e.frames frame k);
    replies = λ r k. absurd k;
    asked = λ k kept a. inl (subst (λ (xs : List Message). Has (λ x. x ≡ reply_of k kept) xs) (sym due_is) (asked_is_due c me past bytes old k kept a));
    fetch_again = λ k index level h. absurd h.0;
    checkpoints = λ k h multiple. absurd h;
    opened = subst (λ (o : Option TransferData). FitsStateTransfer c me o new.state.number (Got me bytes ∷ past)) (sym e.transfer)
        (subst (λ (st : State). FitsStateTransfer c me desk.transfer st.number (Got me bytes ∷ past)) (sym e.state) (open_stays c me desk.transfer desk.state.number past (Got me bytes) refl tt held.of_desk.opened));
    fetches = quorums_begin c me (record { before = past; input = Got me bytes; old = old }) new.state.number due (subst (λ (st : State). QuorumsFetched c st.number past) (sym e.state) held.of_desk.fetches)
        (λ k root b quorum above. inl (below_fetched k (unchanged_bring_none c log.low past (Got me bytes) k root unchanged b) (let number = ap (λ (st : State). st.number) e.state in omega arith) held.low))
        (λ k start above. none_starts c past (Got me bytes) k none start);
    rightly = λ message k. due_is_right c me past bytes old (point_of new old.snapshots []) (e.state ∙ sym state_is) message (subst (λ (xs : List Message). Has (λ x. x ≡ message) xs) due_is k);
  };
  of_log = fits;
  low = subst (λ (n : ℕ). LowMarkIsReached c me n new.state.number due (Got me bytes ∷ past)) (sym e.takes.stays.low) (subst (λ (st : State). LowMarkIsReached c me log.low st.number due (Got me bytes ∷ past)) (sym e.state)
      (reached_goes c me desk.state.number [] due log past (Got me bytes) (got_read c me log past bytes held.of_log.fits none) (λ x k. absurd k) held.low));
  once = tt;
  says = record {
    begins = refl;
    unsaid = subst (λ (xs : List Message). AreUnsent me xs []) (sym due_is) (asked_unsaid me old.state (authentic (members c me) me bytes));
    replies = λ k kept way. replies k kept way;
  };
}
  where
    old : Point
    old = held.of_desk.point

    fits : FitsLog c me after (Got me bytes ∷ past)
    fits = log_goes c me log after past (Got me bytes) held.of_log.fits (got_read c me log past bytes held.of_log.fits none) e.takes

    -- a state above the executed one and not above the low mark was fetched
    below_fetched : (k : ℕ) → k ≤ log.low → desk.state.number < k → LowMarkIsReached c me log.low desk.state.number [] past → k ≤ fetching past
    below_fetched k l above (inl low) = absurd (omega arith)
    below_fetched k l above (inr h) = go h.0
      where
        go : IsFetchedOrDue log.low [] past → k ≤ fetching past
        go (inl most) = omega arith
        go (inr d) = absurd d

    -- it brings no checkpoint above the low mark
    unchanged : (s : ℕ) → checkpoints_above log.low (checkpoints_of c (Got me bytes ∷ past) s) ≡ checkpoints_above log.low (checkpoints_of c past s)
    unchanged s =
        subst (λ (h : ℕ). checkpoints_above h (checkpoints_of c (Got me bytes ∷ past) s) ≡ checkpoints_above h (logs.checkpoints_of after s)) e.takes.stays.low (fits.checkpoints s)
        ∙ ap (λ (xs : List (List CheckpointEntry)). checkpoints_above log.low (slice_index_or xs s [])) e.takes.stays.checkpoints ∙ sym (held.of_log.fits.checkpoints s)

    state_is : old.state ≡ desk.state
    state_is = ap (λ (p : Point). p.state) held.of_desk.is

    waiting_is : old.waiting ≡ desk.waiting
    waiting_is = ap (λ (p : Point). p.waiting) held.of_desk.is

    waits : waiting_after c me old bytes ≡ waiting_after c me (point_of desk [] []) bytes
    waits =
        ap (λ (st : State). waiting_after c me (record { state = st; snapshots = []; ran = []; waiting = old.waiting }) bytes) state_is
        ∙ ap (λ (calls : List Call). waiting_after c me (record { state = desk.state; snapshots = []; ran = []; waiting = calls }) bytes) waiting_is

    moves : point_of new old.snapshots [] ≡ record old { ran = []; waiting = waiting_after c me old bytes }
    moves = same_point old.snapshots new.state old.state new.waiting (waiting_after c me old bytes) (e.state ∙ sym state_is) (e.waiting ∙ sym waits)

    due_is : due ≡ replies_again old.state (authentic (members c me) me bytes)
    due_is = e.due_is ∙ ap (λ (st : State). replies_again st (authentic (members c me) me bytes)) (sym state_is)

    -- the kept reply that the input asks for has its client's last timestamp
    replies : (k : ℕ) (kept : Kept) → IsOnItsWay me due [] (reply_of k kept) → kept.timestamp ≤ last_time new.state k
    replies k kept (inr h) = absurd h
    replies k kept (inl h) =
        last (due_is_right c me past bytes old (point_of new old.snapshots []) (e.state ∙ sym state_is) (reply_of k kept) (subst (λ (xs : List Message). Has (λ x. x ≡ reply_of k kept) xs) due_is h))
      where
        last : MaySendDue c me (Got me bytes ∷ past) (point_of new old.snapshots []) (reply_of k kept) → kept.timestamp ≤ last_time new.state k
        last (inl h) = absurd h
        last (inr h) =
            let same = reply_client h.0 k h.1 kept h.3 in
            let time : last_time new.state h.0 ≡ h.1.timestamp = ap time_of h.2 in
            let here : last_time new.state k ≡ h.1.timestamp = subst (λ (n : ℕ). last_time new.state n ≡ h.1.timestamp) same.0 time in
            let stamp : h.1.timestamp ≡ kept.timestamp = same.1 in
            omega (arith, here, stamp)

    kept_frame : (frame : List ℕ) → Has (λ x. x ≡ frame) desk.frames ⊎ ((frame ≡ bytes) × (is_some (authentic (members c me) me bytes) ≡ true)) → Once (HasSeen frame) (Got me bytes ∷ past) × (is_some (authentic (members c me) me frame) ≡ true)
    kept_frame frame (inl k) = let f = held.of_desk.frames frame k in (inr f.0, f.1)
    kept_frame frame (inr k) = (inl (inl (sym k.0)), subst (λ (x : List ℕ). is_some (authentic (members c me) me x) ≡ true) (sym k.0) k.1)

-- ---- a checkpoint arrives

-- the message is a checkpoint
abbrev IsCheckpoint : Message → Type 0
IsCheckpoint message = elim message [ Checkpoint k root ↦ ⊤ | _ ↦ ⊥ ]

pub checkpoints_enter : CheckpointsEnter
checkpoints_enter c me desk log past s entry bytes held h none = record {
  of_desk = record {
    states = old.snapshots;
    ran = [];
    leaves = leaves;
    steps = step;
    kept = ap (λ (x : ℕ). map snapshot_of (kept_states x old.snapshots)) fits.low
        ∙ kept_on log.low (checked_log log s entry).low old.snapshots desk.snapshots (checked_up c me log past (Got me bytes) s entry f brings known)
        (ap (λ (x : ℕ). map snapshot_of (kept_states x old.snapshots)) (sym f.low) ∙ held.of_desk.kept);
    frames = λ frame k. let g = held.of_desk.frames frame k in (inr g.0, g.1);
    replies = λ r k. absurd k;
    asked = λ k kept a. absurd (asks_nothing k kept a);
    fetch_again = λ k index level h. absurd h.0;
    checkpoints = λ k x multiple. absurd x;
    opened = open_stays c me desk.transfer desk.state.number past (Got me bytes) refl tt held.of_desk.opened;
    fetches = quorums_begin c me (record { before = past; input = Got me bytes; old = old }) desk.state.number (fetch_due desk more entry) held.of_desk.fetches fetched
        (λ k start above. none_starts c past (Got me bytes) k (none_taken c past (Got me bytes) (ap (option_and_then (new_view_from c)) h)) start);
    rightly = λ message k. rightly message k;
  };
  of_log = fits;
  low = checked_reached c me log past (Got me bytes) s entry f brings known desk.state.number [] (fetch_due desk more entry) (λ x k. absurd k) held.low executed;
  once = tt;
  says = said (logs.is_stable more entry);
}
  where
    old : Point
    old = held.of_desk.point

    new : Point
    new = point_of desk old.snapshots []

    f : FitsLog c me log past
    f = held.of_log.fits

    parts : CheckpointFree log s entry.number entry.digest
    parts = checkpoint_free log s entry.number entry.digest none

    brings : BringsCheckpoint c (Got me bytes) s entry
    brings = record { brings = h; number = parts.number }

    known : s < logs.replicas log
    known = parts.known

    fits : FitsLog c me (checked_log log s entry) (Got me bytes ∷ past)
    fits = checked c me log past (Got me bytes) s entry f brings known (λ i l. (held.of_log.prepares i, held.of_log.commits i))

    leaves : HistoryReaches c me past old
    leaves = proceeds_leaves c me past [] old old held.of_desk.proceeds

    waits : waiting_after c me old bytes ≡ old.waiting
    waits = ap (λ (o : Option Body). option_map_or (with_waiting old.state old.waiting) (option_and_then (call_in c) o) old.waiting) h

    step : IsStep c me past old (Got me bytes) new
    step = record {
      own = refl;
      may = tt;
      moves = same_point old.snapshots desk.state old.state desk.waiting (waiting_after c me old bytes) (sym (ap (λ (p : Point). p.state) held.of_desk.is)) (sym (ap (λ (p : Point). p.waiting) held.of_desk.is) ∙ sym waits);
    }

    asks_nothing : (k : ℕ) (kept : Kept) → IsRepeatedRequest c me (record { before = past; input = Got me bytes; old = old }) k kept → ⊥
    asks_nothing k kept a =
        let receives : authentic (members c me) me bytes ≡ Some (record { sender = 256 + k; message = Request a.0 modes.Ordered a.1 }) = a.2 in
        let same : checking s entry.number entry.digest ≡ record { sender = 256 + k; message = Request a.0 modes.Ordered a.1 } = some_injective _ _ (sym h ∙ receives) in
        subst IsCheckpoint (ap (λ (b : Body). b.message) same) tt

    -- a stable one was executed
    executed : is_stable c me (Got me bytes ∷ past) entry ≡ true → entry.number ≤ desk.state.number
    executed stable =
        own_at_most c me entry (Got me bytes ∷ past) new (old, leaves, step)
        (and_parts (is_quorum c (count_checkpoints c (Got me bytes ∷ past) entry)) (lists_checkpoint entry (checkpoints_of c (Got me bytes ∷ past) me)) stable).1

    more : LogData
    more = logs.with_checkpoint_of log s entry

    same : (x : ℕ) → checkpoints_above log.low (checkpoints_of c (Got me bytes ∷ past) x) ≡ checkpoints_above log.low (logs.checkpoints_of more x)
    same x = alike c me log past (Got me bytes) s entry f brings known x

    is_ahead : Bool
    is_ahead = nat_lt (open_number desk.state.number desk.transfer) entry.number

    has_quorum : Bool
    has_quorum = nat_le (2 * more.faults + 1) (logs.count_checkpoints more entry)

    counted : is_quorum c (count_checkpoints c (Got me bytes ∷ past) entry) ≡ has_quorum
    counted = quorum_counted c more (Got me bytes ∷ past) entry f.faults parts.above same

    -- the state of a quorum that it completes above the executed one was fetched, or its fetch is due
    is_due : desk.state.number < entry.number → HasQuorum c (Got me bytes ∷ past) entry.number entry.digest → (entry.number ≤ fetching past) ⊎ Has (λ x. x ≡ Fetch entry.number levels.Root 0) (fetch_due desk more entry)
    is_due above quorum = go (logs.is_stable more entry) has_quorum is_ahead refl refl refl
      where
        go : (a b d : Bool) → logs.is_stable more entry ≡ a → has_quorum ≡ b → is_ahead ≡ d
            → (entry.number ≤ fetching past) ⊎ Has (λ x. x ≡ Fetch entry.number levels.Root 0) (cond a [] (cond (b && d) (Fetch entry.number levels.Root 0 ∷ []) []))
        go true b d stable x y = let least = executed (log_stable c me more (Got me bytes ∷ past) entry f.faults f.own parts.above same ∙ stable) in absurd (omega arith)
        go false false d stable x y = absurd (apart has_quorum (sym counted ∙ quorum) x)
        go false true false stable x y = inl (lower_are_fetched c me desk.transfer desk.state.number entry.number past above (ltb-false (open_number desk.state.number desk.transfer) entry.number y) held.of_desk.opened)
        go false true true stable x y = inr (inl refl)

    fetched : (k : ℕ) (root : List ℕ) → BringsRoot c past (Got me bytes) k root → HasQuorum c (Got me bytes ∷ past) k root → desk.state.number < k
        → (k ≤ fetching past) ⊎ Has (λ x. x ≡ Fetch k levels.Root 0) (fetch_due desk more entry)
    fetched k root b quorum above =
        subst (λ (x : ℕ). (x ≤ fetching past) ⊎ Has (λ y. y ≡ Fetch x levels.Root 0) (fetch_due desk more entry)) number
        (is_due (subst (λ (x : ℕ). desk.state.number < x) (sym number) above) (subst (λ (x : CheckpointEntry). HasQuorum c (Got me bytes ∷ past) x.number x.digest) (sym this) quorum))
      where
        this : ◌≡◌ {A = CheckpointEntry} entry (record { number = k; digest = root })
        this = ap (λ (x : ℕ × CheckpointEntry). x.1) (some_injective (s, entry) (b.sender, record { number = k; digest = root }) (sym (marked c me log past (Got me bytes) s entry f brings known) ∙ b.brings))

        number : entry.number ≡ k
        number = ap (λ (x : CheckpointEntry). x.number) this

    said : (a : Bool) → SaysOnce me (record { before = past; input = Got me bytes; old = old }) desk.state (cond a [] (cond (has_quorum && is_ahead) (Fetch entry.number levels.Root 0 ∷ []) [])) []
    said true = fetch_once me (record { before = past; input = Got me bytes; old = old }) desk.state entry.number [] false refl (λ k kept given. absurd given)
    said false = fetch_once me (record { before = past; input = Got me bytes; old = old }) desk.state entry.number [] (has_quorum && is_ahead) refl (λ k kept given. absurd given)

    -- the due fetch may be sent
    rightly : (message : Message) → Has (λ x. x ≡ message) (fetch_due desk more entry) → MaySendDue c me (Got me bytes ∷ past) new message
    rightly message h = go (logs.is_stable more entry) has_quorum is_ahead refl refl h
      where
        go : (a b d : Bool) → has_quorum ≡ b → is_ahead ≡ d → Has (λ x. x ≡ message) (cond a [] (cond (b && d) (Fetch entry.number levels.Root 0 ∷ []) [])) → MaySendDue c me (Got me bytes ∷ past) new message
        go true b d x y h = absurd h
        go false false d x y h = absurd h
        go false true false x y h = absurd h
        go false true true x y (inr h) = absurd h
        go false true true x y (inl h) =
            let least = open_above c me desk.transfer desk.state.number past held.of_desk.opened in
            let over = ltb-true (open_number desk.state.number desk.transfer) entry.number y in
            subst (λ (z : Message). MaySendDue c me (Got me bytes ∷ past) new z) h (entry.digest, (omega arith, quorums_want c (Got me bytes ∷ past) entry.number entry.digest (counted ∙ x)))

-- a tick alone owes only the fetch of the open transfer
pub ticks_fit : TicksFit
ticks_fit c me desk log past held = record {
  of_desk = record {
    states = old.snapshots;
    ran = [];
    leaves = proceeds_leaves c me past [] old old held.of_desk.proceeds;
    steps = record { own = refl; may = tt; moves = moves };
    kept = ap (λ (x : ℕ). map snapshot_of (kept_states x old.snapshots)) (plain_low c me past (Tick me) plain) ∙ held.of_desk.kept;
    frames = λ frame k. let f = held.of_desk.frames frame k in (inr f.0, f.1);
    replies = λ r k. absurd k;
    asked = λ k kept a. absurd a.2;
    fetch_again = λ k index level a. inl (again k index level desk.transfer held.of_desk.opened a.1 (subst (λ (st : State). st.number < k) state_is a.2));
    checkpoints = λ k h multiple. absurd h;
    opened = open_stays c me desk.transfer desk.state.number past (Tick me) refl tt held.of_desk.opened;
    fetches = quorums_begin c me (record { before = past; input = Tick me; old = old }) desk.state.number (again_due desk.transfer) held.of_desk.fetches
        (λ k root b quorum above. absurd (let bad : None ≡ Some (b.sender, (let x : CheckpointEntry = record { number = k; digest = root } in x)) = b.brings in cc))
        (λ k start above. none_starts c past (Tick me) k refl start);
    rightly = λ message k. rightly message desk.transfer held.of_desk.opened k;
  };
  low = reached_goes c me desk.state.number [] (again_due desk.transfer) log past (Tick me) (silent_read c me log past (Tick me) plain refl) (λ x k. absurd k) held.low;
  of_log = log_goes c me log log past (Tick me) held.of_log.fits (silent_read c me log past (Tick me) plain refl)
      (takes_nothing c me None log held.of_log.fits.is_log (λ i w h. refl) (λ i x w h. refl) (λ i x w h. refl) (λ x. refl));
  once = tt;
  says = record { begins = refl; unsaid = unsaid desk.transfer; replies = λ k kept way. replies desk.transfer k kept way };
}
  where
    old : Point
    old = held.of_desk.point

    state_is : old.state ≡ desk.state
    state_is = ap (λ (p : Point). p.state) held.of_desk.is

    plain : Plain c past (Tick me)
    plain = record { view = refl; change = refl; checkpoint = refl; installed = refl }

    moves : point_of desk old.snapshots [] ≡ record old { ran = [] }
    moves = same_point old.snapshots desk.state old.state desk.waiting old.waiting (sym (ap (λ (p : Point). p.state) held.of_desk.is)) (sym (ap (λ (p : Point). p.waiting) held.of_desk.is))

    -- the last place that was asked for, with a number above the state's, is the open transfer's
    again : (k index : ℕ) (level : Level) (o : Option TransferData) → FitsStateTransfer c me o desk.state.number past → asked_last past ≡ Some (k, (level, index)) → desk.state.number < k
        → Has (λ x. x ≡ Fetch k level index) (again_due o)
    again k index level None f was above = let most = asked_at_most past k (level, index) was in let least = f.0 in absurd (omega (arith, most, least, above))
    again k index level (Some t) f was above =
        inl (ap (λ (x : ℕ × (Level × ℕ)). Fetch x.0 x.1.0 x.1.1) (some_injective (t.number, (t.asked.level, t.asked.index)) (k, (level, index)) (sym f.0.asked ∙ was)))

    rightly : (message : Message) (o : Option TransferData) → FitsStateTransfer c me o desk.state.number past → Has (λ x. x ≡ message) (again_due o) → MaySendDue c me (Tick me ∷ past) (point_of desk old.snapshots []) message
    rightly message None f k = absurd k
    rightly message (Some t) f (inl k) =
        subst (λ (x : Message). MaySendDue c me (Tick me ∷ past) (point_of desk old.snapshots []) x) k (t.root, (f.1, root_later c t.number t.root past (Tick me) f.0.aims.root_wanted))
    rightly message (Some t) f (inr k) = absurd k

    unsaid : (o : Option TransferData) → AreUnsent me (again_due o) []
    unsaid None = tt
    unsaid (Some t) = (λ other way. apart true refl other, tt)

    replies : (o : Option TransferData) (k : ℕ) (kept : Kept) → IsOnItsWay me (again_due o) [] (reply_of k kept) → kept.timestamp ≤ last_time desk.state k
    replies None k kept (inl h) = absurd h
    replies None k kept (inr given) = absurd given
    replies (Some t) k kept (inl (inl same)) = absurd (no_reply (Fetch t.number t.asked.level t.asked.index) k kept refl same)
    replies (Some t) k kept (inl (inr h)) = absurd h
    replies (Some t) k kept (inr given) = absurd given
