-- An execution: desk and log after it fit, and its replies are due.
use Rattle.std.proofs.Common.{◌≡◌, ℕ, suc, ◌+◌, ◌%◌, ◌^◌, ◌≤◌, ◌⊎◌, inl, inr, Bool, true, false, cond, ◌&&◌, List, [], ◌∷◌, ◌++◌, map, refl, sym, ap, ◌∙◌, subst, arith, Some, None, eqb-true, eq-eqb}
use Rattle.std.specs.Prelude.{◌==◌, nat_le, nat_lt}
use Rattle.std.proofs.lemmas.Bool.{and_parts, le-leb}
use Rattle.wire_format.specs.Messages.{MessageData as Message, CheckpointEntryData as CheckpointEntry, checkpoint as Checkpoint, fetch as Fetch}
use Rattle.wire_format.specs.Words.{requests_of}
use Rattle.ordering.specs.Log as logs
use Rattle.ordering.proofs.Reading.{above_low}
use Rattle.protocol.specs.System.Configuration.{is_number}
use Rattle.protocol.specs.System.Trace.{Entry, Has}
use Rattle.protocol.specs.System.Trace.Entry.{Executed}
use Rattle.protocol.specs.Replica.Certificates.{low, Committed}
use Rattle.reply_cache.specs.Replies.{Kept}
use Rattle.protocol.specs.Replica.State.{State, Ran, last_time, execute, ran_in, root_of}
use Rattle.protocol.specs.Replica.RightReplica.{Point, Executes, kept_states, reply_of, snapshots_after}
use Rattle.protocol.proofs.Words.Elements.{has_either, has_left, has_right, has_map, has_mapped, has_weaker, has_some}
use Rattle.protocol.proofs.Words.Leaving.{executed_number}
use Rattle.protocol.proofs.Points.Keeping.{executed_times}
use Rattle.protocol.proofs.Words.Plain.{Plain, plain_low}
use Rattle.replica_histories.specs.Desk.{Desk, Snapshot, snapshot_of, point_of}
use Rattle.replica_histories.specs.Events.{after_outputs, IsOnItsWay, MaySendDue, AreUnsent}
use Rattle.replica_histories.specs.Transfers.{FitsStateTransfer, still_open}
use Rattle.replica_histories.specs.Outputs.{replies_to, checkpoint_due, executed_desk, ExecutesFit}
use Rattle.replica_histories.proofs.Words.{apart, passed}
use Rattle.replica_histories.proofs.Certified.{committed_here}
use Rattle.replica_histories.proofs.Checking.{said_may, executed_at_most}
use Rattle.replica_histories.proofs.Ending.{steps_leave}
use Rattle.replica_histories.proofs.NumbersWaiting.{executions_raise}
use Rattle.replica_histories.proofs.SentOnce.{said_so_far, no_reply, ran_times, unsaid_replies}
use Rattle.replica_histories.proofs.Taking.{takes_nothing}
use Rattle.replica_histories.proofs.Logging.{log_goes, silent_read}
use Rattle.replica_histories.proofs.Transfers.{open_executes}
use Rattle.replica_histories.proofs.TransfersQuorums.{none_starts, quorums_go_on}

abbrev reply_to : Ran → Message
reply_to r = reply_of r.call.client r.kept

pub executes_fit : ExecutesFit
executes_fit c me s desk log outputs batch frames is_state few commits fewer f = record {
  of_desk = record {
    states = snapshots_after c st f.of_desk.states;
    ran = f.of_desk.ran ++ more;
    leaves = f.of_desk.leaves;
    steps = (point_of desk f.of_desk.states f.of_desk.ran, f.of_desk.steps, record { own = refl; may = record { next = refl; in_view = known.0; committed = known.1 }; moves = refl }, refl);
    kept = ap (λ (h : ℕ). map snapshot_of (kept_states h (snapshots_after c st f.of_desk.states))) (low_same ∙ f.of_log.low) ∙ keeps (st.number % c.period == 0);
    frames = λ frame h. let g = f.of_desk.frames frame (fewer frame h) in (inr g.0, g.1);
    replies = λ r h. reply r (has_either (λ x. x ≡ r) f.of_desk.ran more h);
    asked = λ k kept h. sent (reply_of k kept) (f.of_desk.asked k kept h);
    fetch_again = λ j index level h. sent (Fetch j level index) (f.of_desk.fetch_again j index level h);
    checkpoints = λ j h multiple. checked j (st.number % c.period == 0) refl h multiple;
    opened = subst (λ (n : ℕ). FitsStateTransfer c me (still_open n desk.transfer) n (e ∷ past)) (sym number_is) (open_executes c me desk.transfer desk.state.number k past batch (omega arith) f.of_desk.opened);
    fetches = quorums_go_on c me s desk.state.number st.number [] (replies_to more ++ checkpoint_due c st) outputs e grows
        (λ i root b. absurd (let bad : None ≡ Some (b.sender, (let x : CheckpointEntry = record { number = i; digest = root } in x)) = b.brings in cc)) (λ i start above. none_starts c past e i refl start) (λ x h. absurd h) f.of_desk.fetches;
    rightly = λ message h. rightly message (has_either (λ x. x ≡ message) (replies_to more) (checkpoint_due c st) h);
  };
  of_log = log_goes c me log log past e f.of_log (silent_read c me log past e plain refl) (takes_nothing c me None log f.of_log.is_log (λ i w h. refl) (λ i x w h. refl) (λ i x w h. refl) (λ x. refl));
  low = inl (let l = above_low log k within in let n = number_is in omega arith);
  once = (tt, f.once);
  says = record {
    begins = f.says.begins;
    unsaid = unsaid_replies c few k me (requests_of batch) desk.state (checkpoint_due c st) (e ∷ outputs) is_state.replies.all (checkpoint_unsaid (st.number % c.period == 0))
        (λ j kept way. older (st.number % c.period == 0) j kept way);
    replies = λ j kept way. replies j kept way;
  };
}
  where
    past : List Entry
    past = after_outputs s outputs

    k : ℕ
    k = suc desk.state.number

    e : Entry
    e = Executed me k batch

    st : State
    st = execute c desk.state batch

    more : List Ran
    more = ran_in c k desk.state (requests_of batch)

    new : Desk
    new = executed_desk c desk batch frames

    plain : Plain c past e
    plain = record { view = refl; change = refl; checkpoint = refl; installed = refl }

    known : (v : ℕ) × Committed c me past v k batch
    known = committed_here c me log past k batch f.of_log commits

    low_same : low c me (e ∷ past) ≡ low c me past
    low_same = plain_low c me past e plain

    number_is : st.number ≡ k
    number_is = executed_number c desk.state batch

    grows : desk.state.number ≤ st.number
    grows = let n = number_is in omega arith

    sent : (x : Message) → IsOnItsWay me [] outputs x → IsOnItsWay me (replies_to more ++ checkpoint_due c st) (e ∷ outputs) x
    sent x (inl h) = absurd h
    sent x (inr h) = inr (inr h)

    reply : (r : Ran) → Has (λ x. x ≡ r) f.of_desk.ran ⊎ Has (λ x. x ≡ r) more → IsOnItsWay me (replies_to more ++ checkpoint_due c st) (e ∷ outputs) (reply_to r)
    reply r (inl h) = sent (reply_to r) (f.of_desk.replies r h)
    reply r (inr h) =
        inl (has_left (λ x. x ≡ reply_to r) (replies_to more) (checkpoint_due c st)
        (has_mapped (λ x. x ≡ reply_to r) reply_to more (has_weaker (λ x. x ≡ r) (λ x. reply_to x ≡ reply_to r) (λ x is. ap reply_to is) more h)))

    -- the checkpoint of the new state was not sent: none above the executed number was
    checkpoint_unsaid : (b : Bool) → AreUnsent me (cond b (Checkpoint st.number (root_of st) ∷ []) []) (e ∷ outputs)
    checkpoint_unsaid false = tt
    checkpoint_unsaid true = (λ other way. never way, tt)
      where
        never : IsOnItsWay me [] (e ∷ outputs) (Checkpoint st.number (root_of st)) → ⊥
        never (inl h) = h
        never (inr (inl h)) = h
        never (inr (inr given)) =
            let leaves = steps_leave c me s outputs (point_of desk f.of_desk.states f.of_desk.ran) f.of_desk.leaves f.of_desk.steps in
            let may = said_may c me st.number (root_of st) past (point_of desk f.of_desk.states f.of_desk.ran) leaves (said_so_far me s (Checkpoint st.number (root_of st)) outputs given) in
            let most : st.number ≤ desk.state.number = executed_at_most c me st.number past (point_of desk f.of_desk.states f.of_desk.ran) leaves may.executed in
            let n = number_is in
            absurd (omega (arith, most, n))

    -- the other replies of the event are no newer than the last timestamps before
    older : (b : Bool) (j : ℕ) (kept : Kept) → IsOnItsWay me (cond b (Checkpoint st.number (root_of st) ∷ []) []) (e ∷ outputs) (reply_of j kept) → kept.timestamp ≤ last_time desk.state j
    older true j kept (inl (inl same)) = absurd (no_reply (Checkpoint st.number (root_of st)) j kept refl same)
    older true j kept (inl (inr h)) = absurd h
    older false j kept (inl h) = absurd h
    older b j kept (inr (inl h)) = absurd h
    older b j kept (inr (inr given)) = f.says.replies j kept (inr given)

    raised : (j : ℕ) → last_time desk.state j ≤ last_time st j
    raised j = executions_raise c desk.state batch j

    replies : (j : ℕ) (kept : Kept) → IsOnItsWay me (replies_to more ++ checkpoint_due c st) (e ∷ outputs) (reply_of j kept) → kept.timestamp ≤ last_time st j
    replies j kept (inl has) = due (has_either (λ x. x ≡ reply_of j kept) (replies_to more) (checkpoint_due c st) has)
      where
        due : Has (λ x. x ≡ reply_of j kept) (replies_to more) ⊎ Has (λ x. x ≡ reply_of j kept) (checkpoint_due c st) → kept.timestamp ≤ last_time st j
        due (inl h) = let most = (ran_times c few k (requests_of batch) desk.state j kept is_state.replies.all h).1 in let same = executed_times c desk.state batch j in omega (arith, most, same)
        due (inr h) = let was = older (st.number % c.period == 0) j kept (inl h) in let more_now = raised j in omega (arith, was, more_now)
    replies j kept (inr (inl h)) = absurd h
    replies j kept (inr (inr given)) = let was = f.says.replies j kept (inr given) in let more_now = raised j in omega (arith, was, more_now)

    -- the checkpoint of each executed state
    checked : (j : ℕ) (b : Bool) → (st.number % c.period == 0) ≡ b → (k ≡ j) ⊎ Has (λ x. Executes j [] x) outputs → j % c.period ≡ 0
        → Has (λ x. (x.number ≡ j) × IsOnItsWay me (replies_to more ++ cond b (Checkpoint st.number (root_of st) ∷ []) []) (e ∷ outputs) (Checkpoint j (root_of x))) (cond b (st ∷ f.of_desk.states) f.of_desk.states)
    checked j b is (inr h) multiple = older b (f.of_desk.checkpoints j h multiple)
      where
        way : (b : Bool) (x : State) → (x.number ≡ j) × IsOnItsWay me [] outputs (Checkpoint j (root_of x))
            → (x.number ≡ j) × IsOnItsWay me (replies_to more ++ cond b (Checkpoint st.number (root_of st) ∷ []) []) (e ∷ outputs) (Checkpoint j (root_of x))
        way b x w = (w.0, gone w.1)
          where
            gone : IsOnItsWay me [] outputs (Checkpoint j (root_of x)) → IsOnItsWay me (replies_to more ++ cond b (Checkpoint st.number (root_of st) ∷ []) []) (e ∷ outputs) (Checkpoint j (root_of x))
            gone (inl h) = absurd h
            gone (inr h) = inr (inr h)

        older : (b : Bool) → Has (λ x. (x.number ≡ j) × IsOnItsWay me [] outputs (Checkpoint j (root_of x))) f.of_desk.states
            → Has (λ x. (x.number ≡ j) × IsOnItsWay me (replies_to more ++ cond b (Checkpoint st.number (root_of st) ∷ []) []) (e ∷ outputs) (Checkpoint j (root_of x))) (cond b (st ∷ f.of_desk.states) f.of_desk.states)
        older true w = inr (has_weaker _ _ (way true) f.of_desk.states w)
        older false w = has_weaker _ _ (way false) f.of_desk.states w
    checked j true is (inl same) multiple =
        inl (number_is ∙ same, inl (has_right (λ x. x ≡ Checkpoint j (root_of st)) (replies_to more) (Checkpoint st.number (root_of st) ∷ []) (inl (ap (λ (n : ℕ). Checkpoint n (root_of st)) (number_is ∙ same)))))
    checked j false is (inl same) multiple = absurd (apart (st.number % c.period == 0) (eq-eqb (st.number % c.period) 0 (ap (λ (n : ℕ). n % c.period) (number_is ∙ same) ∙ multiple)) is)

    -- the kept states above the low mark
    within : logs.is_in_marks log k ≡ true
    within = (passed (logs.is_in_marks log k) (logs.row_decided log.faults (logs.replicas log) log.me (logs.row_of log k)) batch commits).0

    above : nat_le log.low st.number ≡ true
    above =
        let l = above_low log k within in
        let n = executed_number c desk.state batch in
        le-leb log.low st.number (omega arith)

    was : map snapshot_of (kept_states log.low f.of_desk.states) ≡ desk.snapshots
    was = ap (λ (h : ℕ). map snapshot_of (kept_states h f.of_desk.states)) (sym f.of_log.low) ∙ f.of_desk.kept

    keeps : (b : Bool) → map snapshot_of (kept_states log.low (cond b (st ∷ f.of_desk.states) f.of_desk.states)) ≡ cond b (snapshot_of st ∷ desk.snapshots) desk.snapshots
    keeps false = was
    keeps true = rw above (ap (λ (xs : List Snapshot). snapshot_of st ∷ xs) was)

    point : Point
    point = point_of new (snapshots_after c st f.of_desk.states) (f.of_desk.ran ++ more)

    right : (message : Message) → (r : Ran) × Has (λ x. x ≡ r) more × (reply_to r ≡ message) → MaySendDue c me (e ∷ past) point message
    right message r =
        subst (λ (x : Message). MaySendDue c me (e ∷ past) point x) r.2
        (inl (has_right (λ x. reply_to x ≡ reply_to r.0) f.of_desk.ran more (has_weaker (λ x. x ≡ r.0) (λ x. reply_to x ≡ reply_to r.0) (λ x is. ap reply_to is) more r.1)))

    numbered : is_number st.number ≡ true
    numbered = ap is_number number_is ∙ (and_parts (nat_lt log.low k && nat_le k (log.low + log.span)) (nat_lt k (2 ^ 48)) within).1

    -- the checkpoint of the new state may be sent
    may : (b : Bool) → (st.number % c.period == 0) ≡ b → (message : Message) → Has (λ x. x ≡ message) (cond b (Checkpoint st.number (root_of st) ∷ []) [])
        → MaySendDue c me (e ∷ past) (point_of new (cond b (st ∷ f.of_desk.states) f.of_desk.states) (f.of_desk.ran ++ more)) message
    may false is message h = absurd h
    may true is message (inr h) = absurd h
    may true is message (inl h) =
        subst (λ (x : Message). MaySendDue c me (e ∷ past) (point_of new (st ∷ f.of_desk.states) (f.of_desk.ran ++ more)) x) h
        (record { multiple = eqb-true (st.number % c.period) 0 is; executed = inl (sym number_is); state = inl (refl, refl) }, numbered)

    rightly : (message : Message) → Has (λ x. x ≡ message) (replies_to more) ⊎ Has (λ x. x ≡ message) (checkpoint_due c st) → MaySendDue c me (e ∷ past) point message
    rightly message (inl h) = right message (has_some (λ r. reply_to r ≡ message) more (has_map (λ x. x ≡ message) reply_to more h))
    rightly message (inr h) = may (st.number % c.period == 0) refl message h
