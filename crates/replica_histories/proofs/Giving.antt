-- One output more: desk and log after it fit.
use Rattle.std.proofs.Common.{◌≡◌, ◌≢◌, ℕ, ◌+◌, ◌≤◌, ◌<◌, ◌%◌, ◌⊎◌, inl, inr, Bool, true, false, cond, ◌&&◌, not, List, [], ◌∷◌, map, refl, sym, ap, ◌∙◌, subst, arith, Option, Some, None, is_some, is_none, eqb-true, eq-eqb}
use Rattle.std.specs.Bool.{then_some}
use Rattle.std.specs.Prelude.{◌==◌, nat_le, option_and_then, ⊤, AllPairs}
use Rattle.std.proofs.lemmas.Bool.{and_parts, eqb-false, ne_eqb, not-true, leb-true, leb-false}
use Rattle.sha2.specs.Sha256.{sha256}
use Rattle.quorum.specs.Votes.{or_else}
use Rattle.terms.specs.declared.order.Mode.TheVariants as modes
use Rattle.wire_format.specs.Messages.{BodyData as Body, MessageData as Message, AuthenticatorData as Authenticator, macs, signature, pre_prepare as PrePrepare, prepare as Prepare, commit as Commit, checkpoint as Checkpoint, view_change as ViewChange, new_view as NewView, reply as Reply, fetch as Fetch}
use Rattle.wire_format.specs.Spelling.{is_signed, authenticator_is_signed}
use Rattle.wire_format.specs.Words.{carried, requests_of, said}
use Rattle.wire_format.specs.Lists.{Each}
use Rattle.wire_format.proofs.Saying.{reads_frames, reads_said}
use Rattle.signing.specs.AuthenticBody.{authentic}
use Rattle.ordering.specs.Log as logs
use Rattle.ordering.specs.Log.{LogData}
use Rattle.protocol.specs.System.Configuration.{Configuration, primary, is_number, members}
use Rattle.protocol.specs.System.Frames.{IsOutgoing}
use Rattle.protocol.specs.System.Trace.{Entry, Once, Has}
use Rattle.protocol.specs.System.Trace.Entry.{Sent}
use Rattle.protocol.specs.Replica.Certificates.{are_genuine, new_view_from, taken, logged, batch_from, assigned_proposal, entry_proposal, proposal, prepare_from, commit_from, vote_in, prepare_of, commit_of}
use Rattle.protocol.specs.Replica.State.{State, root_of}
use Rattle.protocol.specs.Replica.RightReplica.{Point, Executes, kept_states, others, reply_of, IsFor, IsAddressed, HasSeen, HasOwnLeaf, SentInEvent, MaySendMessage, MaySend, MayCheckpoint}
use Rattle.protocol.specs.Replica.Transfers.{place_from}
use Rattle.protocol.specs.Replica.Owed.{IsSending, HasRequest, IsNumbered, AreDifferent, NumbersOnce}
use Rattle.protocol.proofs.Words.Options.{some_injective, then_some_gives, or_else_second}
use Rattle.protocol.proofs.Words.Elements.{has_weaker, all_of_each, each_weaker}
use Rattle.protocol.proofs.Words.Outgoing.{may_send}
use Rattle.replica_histories.specs.Desk.{Desk, Snapshot, snapshot_of, kept_from, point_of}
use Rattle.replica_histories.specs.Logs.{FitsLog, LogTakesBody}
use Rattle.replica_histories.specs.Marks.{checked_log, BringsCheckpoint}
use Rattle.replica_histories.specs.Events.{Start, after_outputs, IsOnItsWay, MaySendDue, FitsFrames, LowMarkIsReached, BothFitWithinEvent, KeptAreAbove}
use Rattle.state_transfer.specs.Transfer.{TransferData}
use Rattle.replica_histories.specs.Transfers.{FitsStateTransfer}
use Rattle.replica_histories.specs.TransfersQuorums.{BringsRoot}
use Rattle.replica_histories.specs.Outputs.{PreparesFit, CommitsFit, BatchesFit, RepliesFit, CheckpointsFit}
use Rattle.replica_histories.proofs.Words.{apart, passed, HasBatch, has_batch, batch_read, marks_are, primary_same}
use Rattle.replica_histories.proofs.Certified.{PreparedIn, active, is_prepared_in, prepared_here}
use Rattle.replica_histories.proofs.Checking.{executed_at_most}
use Rattle.replica_histories.proofs.Taking.{takes_nothing, prepare_taken, commit_taken, batch_taken}
use Rattle.replica_histories.proofs.Logging.{KeepsView, IsPlaced, begins_none, none_taken, beside_placed, log_goes, sent_read}
use Rattle.replica_histories.proofs.Reaching.{reached_goes}
use Rattle.replica_histories.proofs.Cutting.{checked, checked_up, checked_reached}
use Rattle.replica_histories.proofs.Ending.{steps_leave}
use Rattle.replica_histories.proofs.SentOnce.{Pays, pays_none, pays_first, first_unsent, new_by}
use Rattle.replica_histories.proofs.Transfers.{root_later, open_stays, asks_none}
use Rattle.replica_histories.proofs.TransfersQuorums.{none_starts, quorums_go_on, no_root, own_root}

-- ---- what an output leaves

pub on_way : (me : ℕ) (due rest : List Message) (outputs : List Entry) (e : Entry) → ((x : Message) → Has (λ y. y ≡ x) due → Has (λ y. y ≡ x) rest ⊎ IsSending me x e) → (x : Message)
    → IsOnItsWay me due outputs x → IsOnItsWay me rest (e ∷ outputs) x
on_way me due rest outputs e paid x (inl h) = go (paid x h)
  where
    go : Has (λ y. y ≡ x) rest ⊎ IsSending me x e → IsOnItsWay me rest (e ∷ outputs) x
    go (inl k) = inl k
    go (inr k) = inr (inl k)
on_way me due rest outputs e paid x (inr h) = inr (inr h)

-- a reply, a checkpoint or a fetch that may be sent may be sent after one more frame
pub due_stays : (c : Configuration) (me : ℕ) (past : List Entry) (bytes : List ℕ) (point : Point) (message : Message) → MaySendDue c me past point message → MaySendDue c me (Sent me bytes ∷ past) point message
due_stays c me past bytes point (Reply client timestamp modes.Ordered number answer) h = h
due_stays c me past bytes point (Reply client timestamp modes.ReadOnly number answer) h = h
due_stays c me past bytes point (Checkpoint k root) h = (record { multiple = h.0.multiple; executed = inr h.0.executed; state = h.0.state }, h.1)
due_stays c me past bytes point (Fetch k level index) h = (h.0, (h.1.0, root_later c k h.0 past (Sent me bytes) h.1.1))
due_stays c me past bytes point _ h = absurd h

-- the replica may send its own signed frame of a message that may be sent, since it is for all
signed_addressed : (c : Configuration) (me : ℕ) (past : List Entry) (message : Message) (a : Authenticator) → authenticator_is_signed a ≡ true → IsAddressed c me past message a
signed_addressed c me past message (macs entries) h = absurd cc
signed_addressed c me past message (signature s) h = tt

pub signed_may_send : (c : Configuration) (me : ℕ) (past : List Entry) (point : Point) (e : Entry) (bytes : List ℕ) (message : Message) → is_signed message ≡ true → IsOutgoing c me message [] bytes
    → Each (λ frame. Once (HasSeen frame) past) (carried message) → MaySendMessage c me past point e bytes message → HasOwnLeaf bytes past → (SentInEvent bytes past → ⊥) → MaySend c me past point e bytes
signed_may_send c me past point e bytes message signed is_outgoing seen allowed leaf once = record {
  leaf = leaf;
  once = once;
  body = record { sender = me; message = message };
  says = is_outgoing.says;
  own = refl;
  seen = seen;
  allowed = allowed;
  is_sealed = λ frame is.
      let spells = (reads_frames bytes frame).0 is in
      let same : ◌≡◌ {A = Body} frame.body (record { sender = me; message = message }) = some_injective _ _ (sym (reads_said bytes frame spells) ∙ is_outgoing.says) in
      ((is_outgoing.is_sealed frame is).0, signed_addressed c me past message frame.authenticator (spells.valid.proved ∙ ap (λ (b : Body). is_signed b.message) same ∙ signed));
}

-- A sent frame: the log changes, of the snapshots these stay, this transfer is open, and due messages may be paid.
pub sent_goes : (c : Configuration) (me : ℕ) (s : Start) (desk : Desk) (log after : LogData) (due rest : List Message) (outputs : List Entry) (bytes : List ℕ) (snapshots : List Snapshot) (transfer : Option TransferData)
    (f : BothFitWithinEvent c me s desk log due outputs) → MaySend c me (after_outputs s outputs) (point_of desk f.of_desk.states f.of_desk.ran) (Sent me bytes) bytes
    → FitsLog c me after (Sent me bytes ∷ after_outputs s outputs) → map snapshot_of (kept_states after.low f.of_desk.states) ≡ snapshots
    → LowMarkIsReached c me after.low desk.state.number rest (Sent me bytes ∷ after_outputs s outputs)
    → FitsStateTransfer c me transfer desk.state.number (Sent me bytes ∷ after_outputs s outputs)
    → ((k : ℕ) (root : List ℕ) → BringsRoot c (after_outputs s outputs) (Sent me bytes) k root → k ≤ desk.state.number)
    → taken c (after_outputs s outputs) (Sent me bytes) ≡ None
    → Pays me s desk.state due rest outputs bytes
    → NumbersOnce c me (after_outputs s outputs) (Sent me bytes)
    → BothFitWithinEvent c me s (record desk { snapshots = snapshots; transfer = transfer }) after rest (Sent me bytes ∷ outputs)
sent_goes c me s desk log after due rest outputs bytes snapshots transfer f may fits kept reached opened roots none pays once = record {
  of_desk = record {
    states = f.of_desk.states;
    ran = f.of_desk.ran;
    leaves = f.of_desk.leaves;
    steps = (point_of desk f.of_desk.states f.of_desk.ran, f.of_desk.steps, record { own = refl; may = may; moves = refl }, refl);
    kept = ap (λ (h : ℕ). map snapshot_of (kept_states h f.of_desk.states)) fits.low ∙ kept;
    frames = λ frame h. let k = f.of_desk.frames frame h in (inr k.0, k.1);
    replies = λ r h. on_way me due rest outputs (Sent me bytes) pays.paid (reply_of r.call.client r.kept) (f.of_desk.replies r h);
    asked = λ k kept h. on_way me due rest outputs (Sent me bytes) pays.paid (reply_of k kept) (f.of_desk.asked k kept h);
    fetch_again = λ k index level h. on_way me due rest outputs (Sent me bytes) pays.paid (Fetch k level index) (f.of_desk.fetch_again k index level h);
    checkpoints = λ k h multiple. checkpoints k h multiple;
    opened = opened;
    fetches = quorums_go_on c me s desk.state.number desk.state.number due rest outputs (Sent me bytes) (omega arith) roots (λ k start above. none_starts c past (Sent me bytes) k none start) pays.paid f.of_desk.fetches;
    rightly = λ x h. due_stays c me past bytes (point_of desk f.of_desk.states f.of_desk.ran) x (f.of_desk.rightly x (pays.fewer x h));
  };
  of_log = fits;
  low = reached;
  once = (once, f.once);
  says = pays.says;
}
  where
    past : List Entry
    past = after_outputs s outputs

    checkpoints : (k : ℕ) → Executes k [] (Sent me bytes) ⊎ Has (λ e. Executes k [] e) outputs → k % c.period ≡ 0
        → Has (λ st. (st.number ≡ k) × IsOnItsWay me rest (Sent me bytes ∷ outputs) (Checkpoint k (root_of st))) f.of_desk.states
    checkpoints k (inl h) multiple = absurd h
    checkpoints k (inr h) multiple =
        has_weaker (λ st. (st.number ≡ k) × IsOnItsWay me due outputs (Checkpoint k (root_of st))) (λ st. (st.number ≡ k) × IsOnItsWay me rest (Sent me bytes ∷ outputs) (Checkpoint k (root_of st)))
        (λ st w. (w.0, on_way me due rest outputs (Sent me bytes) pays.paid (Checkpoint k (root_of st)) w.1)) f.of_desk.states (f.of_desk.checkpoints k h multiple)

-- the log after it
pub log_sent : (c : Configuration) (me : ℕ) (log after : LogData) (past : List Entry) (bytes receivers : List ℕ) (message : Message) → FitsLog c me log past → IsOutgoing c me message receivers bytes → KeepsView message
    → LogTakesBody c me (Some (record { sender = me; message = message })) log after → IsPlaced c me log (record { sender = me; message = message }) → FitsLog c me after (Sent me bytes ∷ past)
log_sent c me log after past bytes receivers message f is_outgoing keeps takes place =
    log_goes c me log after past (Sent me bytes) f (sent_read c me log past bytes me message is_outgoing.says keeps place) (subst (λ (o : Option Body). LogTakesBody c me o log after) (sym is_outgoing.says) takes)

-- and the low mark, which stays, is reached
pub reached_sent : (c : Configuration) (me number : ℕ) (due rest : List Message) (log after : LogData) (past : List Entry) (bytes receivers : List ℕ) (message : Message) → IsOutgoing c me message receivers bytes → KeepsView message
    → IsPlaced c me log (record { sender = me; message = message }) → after.low ≡ log.low → ((x : Message) → Has (λ y. y ≡ x) due → Has (λ y. y ≡ x) rest ⊎ IsSending me x (Sent me bytes))
    → LowMarkIsReached c me log.low number due past → LowMarkIsReached c me after.low number rest (Sent me bytes ∷ past)
reached_sent c me number due rest log after past bytes receivers message is_outgoing keeps place same paid h =
    subst (λ (n : ℕ). LowMarkIsReached c me n number rest (Sent me bytes ∷ past)) (sym same)
    (reached_goes c me number due rest log past (Sent me bytes) (sent_read c me log past bytes me message is_outgoing.says keeps place) paid h)

-- view changes and new views alone are signed
never_signed : {A : Type 0} (message : Message) → KeepsView message → is_signed message ≡ true → A
never_signed (ViewChange vc) keeps h = absurd keeps
never_signed (NewView new) keeps h = absurd keeps
never_signed _ keeps h = absurd cc

-- If the marks stay and no part is asked for, only the log and the due messages change.
pub sent_fits : (c : Configuration) (me : ℕ) (s : Start) (desk : Desk) (log after : LogData) (due rest : List Message) (outputs : List Entry) (bytes receivers : List ℕ) (message : Message)
    (f : BothFitWithinEvent c me s desk log due outputs) → IsOutgoing c me message receivers bytes → IsFor c me (after_outputs s outputs) message receivers
    → Each (λ frame. Once (HasSeen frame) (after_outputs s outputs)) (carried message)
    → MaySendMessage c me (after_outputs s outputs) (point_of desk f.of_desk.states f.of_desk.ran) (Sent me bytes) bytes message
    → KeepsView message → LogTakesBody c me (Some (record { sender = me; message = message })) log after → IsPlaced c me log (record { sender = me; message = message })
    → place_from (record { sender = me; message = message }) ≡ None
    → ((k : ℕ) (root : List ℕ) → BringsRoot c (after_outputs s outputs) (Sent me bytes) k root → k ≤ desk.state.number)
    → Pays me s desk.state due rest outputs bytes → (SentInEvent bytes (after_outputs s outputs) → ⊥)
    → NumbersOnce c me (after_outputs s outputs) (Sent me bytes)
    → BothFitWithinEvent c me s desk after rest (Sent me bytes ∷ outputs)
sent_fits c me s desk log after due rest outputs bytes receivers message f is_outgoing for seen allowed keeps takes place none roots pays new once =
    sent_goes c me s desk log after due rest outputs bytes desk.snapshots desk.transfer f
    (may_send c me (after_outputs s outputs) (point_of desk f.of_desk.states f.of_desk.ran) (Sent me bytes) bytes receivers message is_outgoing for seen allowed (λ signed. never_signed message keeps signed) new)
    (log_sent c me log after (after_outputs s outputs) bytes receivers message f.of_log is_outgoing keeps takes place)
    (ap (λ (h : ℕ). map snapshot_of (kept_states h f.of_desk.states)) (takes.stays.low ∙ sym f.of_log.low) ∙ f.of_desk.kept)
    (reached_sent c me desk.state.number due rest log after (after_outputs s outputs) bytes receivers message is_outgoing keeps place takes.stays.low pays.paid f.low)
    (open_stays c me desk.transfer desk.state.number (after_outputs s outputs) (Sent me bytes) (asks_none bytes me message is_outgoing.says none) tt f.of_desk.opened) roots (none_taken c (after_outputs s outputs) (Sent me bytes) (ap (option_and_then (new_view_from c)) is_outgoing.says ∙ begins_none c me message keeps)) pays once

-- a prepare has a place if its number is in the marks and the replica is active, and so has a commit
differ : (log : LogData) (v i j : ℕ) → logs.is_in_marks log i ≡ true → (v ≢ log.view) ⊎ (logs.is_in_marks log j ≡ false) → ((log.view == v) && (i == j)) ≡ false
differ log v i j k (inl other) = rw (ne_eqb log.view v (λ same. other (sym same))) refl
differ log v i j k (inr out) = and_false (log.view == v) (i == j) (ne_eqb i j (λ same. apart (logs.is_in_marks log j) (subst (λ (x : ℕ). logs.is_in_marks log x ≡ true) same k) out))
  where
    and_false : (a b : Bool) → b ≡ false → (a && b) ≡ false
    and_false true b h = h
    and_false false b h = refl

-- a test with such a part fails
fails : (a x y z : Bool) → (x && y) ≡ false → (a && x && y && z) ≡ false
fails true x y z h = rw h refl
fails false x y z h = refl

fails_two : (a x y : Bool) → (x && y) ≡ false → (a && x && y) ≡ false
fails_two true x y h = h
fails_two false x y h = refl

pub never_rests : {A : Type 0} (log : LogData) → log.active ≡ true → log.active ≡ false → A
never_rests log is rests = absurd (apart log.active is rests)

pub prepare_placed : (c : Configuration) (me s i : ℕ) (digest : List ℕ) (log : LogData) → log.active ≡ true → logs.is_in_marks log i ≡ true → IsPlaced c me log (record { sender = s; message = Prepare log.view i digest })
prepare_placed c me s i digest log is k = record {
  batch = λ v j x h. absurd cc;
  votes = λ v j x other. (
    ap (λ (b : Bool). then_some b digest) (fails (s == x) (log.view == v) (i == j) (not (x == primary c v)) (differ log v i j k other)),
    refl,
  );
  resting = λ rests j x. never_rests log is rests;
}

pub commit_placed : (c : Configuration) (me s i : ℕ) (digest : List ℕ) (log : LogData) → log.active ≡ true → logs.is_in_marks log i ≡ true → IsPlaced c me log (record { sender = s; message = Commit log.view i digest })
commit_placed c me s i digest log is k = record {
  batch = λ v j x h. absurd cc;
  votes = λ v j x other. (refl, ap (λ (b : Bool). then_some b digest) (fails_two (s == x) (log.view == v) (i == j) (differ log v i j k other)));
  resting = λ rests j x. never_rests log is rests;
}

-- ---- outputs that number no request

abbrev IsNoProposal : Message → Type 0
IsNoProposal message = elim message [ PrePrepare v i batch ↦ ⊥ | _ ↦ ⊤ ]

pub no_proposal : (c : Configuration) (me : ℕ) (past : List Entry) (bytes : List ℕ) (message : Message) → said bytes ≡ Some (record { sender = me; message = message }) → IsNoProposal message → NumbersOnce c me past (Sent me bytes)
no_proposal c me past bytes message h none v i batch says free =
    let is : ◌≡◌ {A = Body} (record { sender = me; message = message }) (record { sender = me; message = PrePrepare v i batch }) = some_injective _ _ (sym h ∙ says) in
    absurd (subst IsNoProposal (ap (λ (b : Body). b.message) is) none)

-- ---- the replica's own votes

none_is : {A : Type 0} (o : Option A) → is_none o ≡ true → o ≡ None
none_is None h = refl
none_is (Some x) h = absurd cc

-- if the log asks for a prepare, the replica is active, and a backup
backup_of : (log : LogData) (b : Bool) → (log.active && not (log.me == logs.primary log log.view) && b) ≡ true → (log.active ≡ true) × (log.me ≢ logs.primary log log.view)
backup_of log b h =
    let p = and_parts log.active (not (log.me == logs.primary log log.view)) (and_parts (log.active && not (log.me == logs.primary log log.view)) b h).0 in
    (p.0, eqb-false log.me (logs.primary log log.view) (not-true (log.me == logs.primary log log.view) p.1))

-- if the log asks for a vote, the replica has not voted
fresh_prepare : (log : LogData) (i : ℕ) → (log.active && not (log.me == logs.primary log log.view) && is_none (logs.prepare_of log i log.me)) ≡ true → logs.prepare_of log i log.me ≡ None
fresh_prepare log i h = none_is (logs.prepare_of log i log.me) (and_parts (log.active && not (log.me == logs.primary log log.view)) (is_none (logs.prepare_of log i log.me)) h).1

fresh_commit : (log : LogData) (i : ℕ) → (log.active && logs.is_prepared log i && is_none (logs.commit_of log i log.me)) ≡ true → logs.commit_of log i log.me ≡ None
fresh_commit log i h = none_is (logs.commit_of log i log.me) (and_parts (log.active && logs.is_prepared log i) (is_none (logs.commit_of log i log.me)) h).1

pub prepares_fit : PreparesFit
unfolding prepare_of
prepares_fit c me s desk log due outputs i digest bytes vote asks sender same is_outgoing f =
    sent_fits c me s desk log (logs.with_prepare log i vote) due due outputs bytes (others c me) (Prepare log.view i digest) f is_outgoing refl tt
    (record { is_backup = backup; active = active c me log (after_outputs s outputs) f.of_log ∙ is_active; batch = b.batch; is_logged = f.of_log.batches i b.within ∙ b.logged; digest_is = b.digest_is })
    tt
    (prepare_taken c me me i digest vote log f.of_log.is_log is_active b.within (subst (λ (x : ℕ). x < logs.replicas log) f.of_log.own f.of_log.is_log.me) (ap not (ne_eqb me (primary c log.view) (λ e. backup (sym e)))) sender same)
    (prepare_placed c me me i digest log is_active b.within)
    refl (no_root c (after_outputs s outputs) bytes me (Prepare log.view i digest) desk.state.number is_outgoing.says refl) (pays_none c me s desk log outputs (Prepare log.view i digest) bytes is_outgoing.says due refl f) new
    (no_proposal c me (after_outputs s outputs) bytes (Prepare log.view i digest) is_outgoing.says tt)
  where
    test : ((log.active && not (log.me == logs.primary log log.view) && is_none (logs.prepare_of log i log.me)) ≡ true) × (logs.logged_digest log i ≡ Some digest)
    test = passed (log.active && not (log.me == logs.primary log log.view) && is_none (logs.prepare_of log i log.me)) (logs.logged_digest log i) digest asks

    b : HasBatch log i digest
    b = has_batch log i digest test.1

    is_active : log.active ≡ true
    is_active = (backup_of log (is_none (logs.prepare_of log i log.me)) test.0).0

    backup : primary c log.view ≢ me
    backup e = (backup_of log (is_none (logs.prepare_of log i log.me)) test.0).1 (f.of_log.own ∙ sym e ∙ sym (primary_same c log log.view f.of_log.faults))

    -- the replica's own prepare would have counted
    none : prepare_of c me (after_outputs s outputs) log.view i me ≡ None
    none = f.of_log.prepares i me b.within ∙ ap (logs.prepare_of log i) (sym f.of_log.own) ∙ fresh_prepare log i test.0

    new : SentInEvent bytes (after_outputs s outputs) → ⊥
    new = new_by (λ earlier e. vote_in c me earlier e (prepare_from c me log.view i) log.view i) bytes (λ past p. (digest, ap (option_and_then (prepare_from c me log.view i)) is_outgoing.says ∙ prepared)) (after_outputs s outputs) none
      where
        prepared : prepare_from c me log.view i (record { sender = me; message = Prepare log.view i digest }) ≡ Some digest
        prepared = rw (eq-eqb me me refl, eq-eqb log.view log.view refl, eq-eqb i i refl, ne_eqb me (primary c log.view) (λ e. backup (sym e))) refl

pub commits_fit : CommitsFit
unfolding commit_of
commits_fit c me s desk log due outputs i digest bytes vote asks sender same is_outgoing f =
    sent_fits c me s desk log (logs.with_commit log i vote) due due outputs bytes (others c me) (Commit log.view i digest) f is_outgoing refl tt
    (record { active = active c me log (after_outputs s outputs) f.of_log ∙ is_active; batch = p.0; prepared = prepared_here c me log (after_outputs s outputs) i p.0 f.of_log p.1; digest_is = digest_is })
    tt
    (commit_taken c me me i digest vote log f.of_log.is_log is_active b.within (subst (λ (x : ℕ). x < logs.replicas log) f.of_log.own f.of_log.is_log.me) sender same)
    (commit_placed c me me i digest log is_active b.within)
    refl (no_root c (after_outputs s outputs) bytes me (Commit log.view i digest) desk.state.number is_outgoing.says refl) (pays_none c me s desk log outputs (Commit log.view i digest) bytes is_outgoing.says due refl f) new
    (no_proposal c me (after_outputs s outputs) bytes (Commit log.view i digest) is_outgoing.says tt)
  where
    test : ((log.active && logs.is_prepared log i && is_none (logs.commit_of log i log.me)) ≡ true) × (logs.logged_digest log i ≡ Some digest)
    test = passed (log.active && logs.is_prepared log i && is_none (logs.commit_of log i log.me)) (logs.logged_digest log i) digest asks

    b : HasBatch log i digest
    b = has_batch log i digest test.1

    asked : (log.active ≡ true) × (logs.is_prepared log i ≡ true)
    asked = and_parts log.active (logs.is_prepared log i) (and_parts (log.active && logs.is_prepared log i) (is_none (logs.commit_of log i log.me)) test.0).0

    is_active : log.active ≡ true
    is_active = asked.0

    p : (batch : List ℕ) × PreparedIn log i batch
    p = is_prepared_in log i asked.1

    digest_is : sha256 p.0 ≡ digest
    digest_is =
        let row : logs.logged_batch log i ≡ Some p.0 = batch_read log i b.within ∙ p.1.row in
        ap sha256 (some_injective p.0 b.batch (sym row ∙ b.logged)) ∙ b.digest_is

    none : commit_of c me (after_outputs s outputs) log.view i me ≡ None
    none = f.of_log.commits i me b.within ∙ ap (logs.commit_of log i) (sym f.of_log.own) ∙ fresh_commit log i test.0

    -- the replica's own commit would have counted
    new : SentInEvent bytes (after_outputs s outputs) → ⊥
    new = new_by (λ earlier e. vote_in c me earlier e (commit_from me log.view i) log.view i) bytes (λ past p. (digest, ap (option_and_then (commit_from me log.view i)) is_outgoing.says ∙ committed)) (after_outputs s outputs) none
      where
        committed : commit_from me log.view i (record { sender = me; message = Commit log.view i digest }) ≡ Some digest
        committed = rw (eq-eqb me me refl, eq-eqb log.view log.view refl, eq-eqb i i refl) refl

-- ---- a batch of the primary's own

-- the place of a pre-prepare
pub placed : (c : Configuration) (me w k v i s : ℕ) (b batch : List ℕ) → batch_from c me v i (record { sender = s; message = PrePrepare w k b }) ≡ Some batch → (w ≡ v) × (k ≡ i)
placed c me w k v i s b batch h =
    let g = then_some_gives ((w == v) && (k == i) && (s == primary c v) && are_genuine c me b) b batch h in
    let p = and_parts ((w == v) && (k == i) && (s == primary c v)) (are_genuine c me b) g.0 in
    let q = and_parts ((w == v) && (k == i)) (s == primary c v) p.0 in
    let r = and_parts (w == v) (k == i) q.0 in
    (eqb-true w v r.0, eqb-true k i r.1)

-- a stored frame was seen and is authentic
each_held : (c : Configuration) (me : ℕ) (desk : Desk) (history : List Entry) (frames : List (List ℕ)) → FitsFrames c me desk history → Each (λ frame. Has (λ x. x ≡ frame) desk.frames) frames
    → Each (λ frame. Once (HasSeen frame) history × (is_some (authentic (members c me) me frame) ≡ true)) frames
each_held c me desk history frames f h = each_weaker (λ frame. Has (λ x. x ≡ frame) desk.frames) (λ frame. Once (HasSeen frame) history × (is_some (authentic (members c me) me frame) ≡ true)) (λ frame k. f frame k) frames h

or_else_given : {A : Type 0} (o later : Option A) (x : A) → later ≡ Some x → (y : A) × (or_else o later ≡ Some y)
or_else_given None later x h = (x, h)
or_else_given (Some y) later x h = (y, refl)

pub batches_fit : BatchesFit
unfolding logged
batches_fit c me s desk log due outputs i batch bytes p is_outgoing f =
    sent_fits c me s desk log (logs.with_batch log i batch) due due outputs bytes (others c me) (PrePrepare log.view i batch) f is_outgoing refl
    (each_weaker (λ frame. Once (HasSeen frame) past × (is_some (authentic (members c me) me frame) ≡ true)) (λ frame. Once (HasSeen frame) past) (λ frame k. k.0) (requests_of batch) seen)
    (record { is_primary = primary_is; active = active c me log past f.of_log ∙ p.active; in_marks = marks_are c me log past i f.of_log ∙ p.within; genuine = genuine; one = one; next = λ none. p.free })
    tt takes is_placed refl (no_root c (after_outputs s outputs) bytes me (PrePrepare log.view i batch) desk.state.number is_outgoing.says refl) (pays_none c me s desk log outputs (PrePrepare log.view i batch) bytes is_outgoing.says due refl f) new once
  where
    past : List Entry
    past = after_outputs s outputs

    primary_is : primary c log.view ≡ me
    primary_is = sym (primary_same c log log.view f.of_log.faults) ∙ p.own ∙ f.of_log.own

    seen : Each (λ frame. Once (HasSeen frame) past × (is_some (authentic (members c me) me frame) ≡ true)) (requests_of batch)
    seen = each_held c me desk past (requests_of batch) f.of_desk.frames p.held

    genuine : are_genuine c me batch ≡ true
    genuine = all_of_each (λ frame. Once (HasSeen frame) past × (is_some (authentic (members c me) me frame) ≡ true)) (λ request. is_some (authentic (members c me) me request)) (λ frame k. k.1) (requests_of batch) seen

    free : logs.logged_batch log i ≡ None
    free = sym (f.of_log.batches i p.within) ∙ p.free.unused i (omega arith)

    takes : LogTakesBody c me (Some (record { sender = me; message = PrePrepare log.view i batch })) log (logs.with_batch log i batch)
    takes = batch_taken c me me i batch log f.of_log.is_log p.active p.within (eq-eqb me (primary c log.view) (sym primary_is)) genuine free

    place : (v j : ℕ) (b : List ℕ) → batch_from c me v j (record { sender = me; message = PrePrepare log.view i batch }) ≡ Some b → (v ≡ log.view) × (logs.is_in_marks log j ≡ true)
    place v j b h = let w = placed c me log.view i v j me batch b h in (sym w.0, subst (λ (x : ℕ). logs.is_in_marks log x ≡ true) w.1 p.within)

    is_placed : IsPlaced c me log (record { sender = me; message = PrePrepare log.view i batch })
    is_placed = record { batch = place; votes = λ v j x other. (refl, refl); resting = λ rests j x. never_rests log p.active rests }

    fits : FitsLog c me (logs.with_batch log i batch) (Sent me bytes ∷ past)
    fits = log_sent c me log (logs.with_batch log i batch) past bytes (others c me) (PrePrepare log.view i batch) f.of_log is_outgoing tt takes is_placed

    proposed : batch_from c me log.view i (record { sender = me; message = PrePrepare log.view i batch }) ≡ Some batch
    proposed = rw (eq-eqb log.view log.view refl, eq-eqb i i refl, eq-eqb me (primary c log.view) (sym primary_is), genuine) refl

    -- the replica's own batch would have counted
    given : (earlier : List Entry) (q : ℕ) → (x : List ℕ) × (proposal c me earlier (Sent q bytes) log.view i ≡ Some x)
    given earlier q = or_else_given (assigned_proposal c me earlier (Sent q bytes) log.view i) (entry_proposal c me earlier (Sent q bytes) log.view i) batch (ap (option_and_then (batch_from c me log.view i)) is_outgoing.says ∙ proposed)

    new : SentInEvent bytes past → ⊥
    new = new_by (λ earlier e. proposal c me earlier e log.view i) bytes given past (p.free.unused i (omega arith))

    one : logged c me (Sent me bytes ∷ past) log.view i ≡ Some batch
    one = fits.batches i p.within ∙ takes.batch i p.within ∙ or_else_second (logs.logged_batch log i) _ free ∙ ap (λ (b : Bool). cond b (batch_from c me log.view i (record { sender = me; message = PrePrepare log.view i batch })) None) p.active ∙ proposed

    once : NumbersOnce c me past (Sent me bytes)
    once v j b says free = subst (λ (x : List ℕ). AllPairs (AreDifferent c) (requests_of x) × ((client t : ℕ) → HasRequest c client t x → IsNumbered c me past v client t → ⊥)) same
        (p.differ, λ client t has numbered. p.fresh client t has (subst (λ (x : ℕ). IsNumbered c me past x client t) (sym view_is) numbered))
      where
        is : ◌≡◌ {A = Body} (record { sender = me; message = PrePrepare log.view i batch }) (record { sender = me; message = PrePrepare v j b })
        is = some_injective _ _ (sym is_outgoing.says ∙ says)

        batch_of : Message → List ℕ
        batch_of message = elim message [ PrePrepare w k x ↦ x | _ ↦ [] ]

        same : batch ≡ b
        same = ap (λ (x : Body). batch_of x.message) is

        view_of : Message → ℕ
        view_of message = elim message [ PrePrepare w k x ↦ w | _ ↦ 0 ]

        view_is : log.view ≡ v
        view_is = ap (λ (x : Body). view_of x.message) is

-- ---- a due reply

pub replies_fit : RepliesFit
replies_fit c me s desk log rest outputs k kept bytes is_outgoing f =
    sent_fits c me s desk log log (reply_of k kept ∷ rest) rest outputs bytes ((256 + k) ∷ []) (reply_of k kept) f is_outgoing refl tt (f.of_desk.rightly (reply_of k kept) (inl refl))
    tt
    (takes_nothing c me (Some (record { sender = me; message = reply_of k kept })) log f.of_log.is_log (λ i w h. refl) (λ i x w h. refl) (λ i x w h. refl) (λ x. refl)) (beside_placed c me log me (reply_of k kept) tt)
    refl (no_root c (after_outputs s outputs) bytes me (reply_of k kept) desk.state.number is_outgoing.says refl) (pays_first c me s desk log outputs (reply_of k kept) bytes is_outgoing.says rest f)
    (first_unsent c me s desk log outputs (reply_of k kept) bytes is_outgoing.says rest refl f) (no_proposal c me (after_outputs s outputs) bytes (reply_of k kept) is_outgoing.says tt)

-- ---- a due checkpoint

-- of the snapshots those from a later mark on stay
pub kept_on : (low high : ℕ) (states : List State) (snapshots : List Snapshot) → low ≤ high → map snapshot_of (kept_states low states) ≡ snapshots → map snapshot_of (kept_states high states) ≡ kept_from high snapshots
kept_on low high states snapshots l is = on states ∙ ap (kept_from high) is
  where
    on : (xs : List State) → map snapshot_of (kept_states high xs) ≡ kept_from high (map snapshot_of (kept_states low xs))
    on [] = refl
    on (st ∷ xs) = go (nat_le low st.number) (nat_le high st.number) refl refl (on xs)
      where
        go : (t u : Bool) → nat_le low st.number ≡ t → nat_le high st.number ≡ u → map snapshot_of (kept_states high xs) ≡ kept_from high (map snapshot_of (kept_states low xs))
            → map snapshot_of (cond u (st ∷ kept_states high xs) (kept_states high xs)) ≡ kept_from high (map snapshot_of (cond t (st ∷ kept_states low xs) (kept_states low xs)))
        go true true e g same = rw g (ap (λ (ys : List Snapshot). snapshot_of st ∷ ys) same)
        go true false e g same = rw g same
        go false false e g same = same
        go false true e g same = let a = leb-false low st.number e in let b = leb-true high st.number g in absurd (omega arith)

pub kept_are_above : KeptAreAbove
kept_are_above c me desk log states history fits kept =
    let is : map snapshot_of (kept_states log.low states) ≡ desk.snapshots = ap (λ (h : ℕ). map snapshot_of (kept_states h states)) (sym fits.low) ∙ kept in
    ap (λ (xs : List Snapshot). let new : Desk = record desk { snapshots = xs } in new) (sym (kept_on log.low log.low states desk.snapshots (omega arith) is) ∙ is)

pub checkpoints_fit : CheckpointsFit
checkpoints_fit c me s desk log rest outputs entry bytes prepares commits is_outgoing f =
    sent_goes c me s desk log (checked_log log me entry) (Checkpoint entry.number entry.digest ∷ rest) rest outputs bytes (kept_from (checked_log log me entry).low desk.snapshots) desk.transfer f
    (may_send c me past (point_of desk f.of_desk.states f.of_desk.ran) (Sent me bytes) bytes (others c me) (Checkpoint entry.number entry.digest) is_outgoing refl tt may.0 (λ signed. absurd cc)
    (first_unsent c me s desk log outputs (Checkpoint entry.number entry.digest) bytes is_outgoing.says rest refl f)) fits
    (kept_on log.low (checked_log log me entry).low f.of_desk.states desk.snapshots up (ap (λ (h : ℕ). map snapshot_of (kept_states h f.of_desk.states)) (sym f.of_log.low) ∙ f.of_desk.kept))
    (checked_reached c me log past (Sent me bytes) me entry f.of_log brings known desk.state.number (Checkpoint entry.number entry.digest ∷ rest) rest pays.paid f.low (λ stable. executed))
    (open_stays c me desk.transfer desk.state.number past (Sent me bytes) (asks_none bytes me (Checkpoint entry.number entry.digest) is_outgoing.says refl) tt f.of_desk.opened)
    (own_root c past bytes me entry.number entry.digest desk.state.number is_outgoing.says executed)
    (none_taken c past (Sent me bytes) (ap (option_and_then (new_view_from c)) is_outgoing.says)) pays (no_proposal c me past bytes (Checkpoint entry.number entry.digest) is_outgoing.says tt)
  where
    past : List Entry
    past = after_outputs s outputs

    may : MayCheckpoint c past (point_of desk f.of_desk.states f.of_desk.ran) entry.number entry.digest × (is_number entry.number ≡ true)
    may = f.of_desk.rightly (Checkpoint entry.number entry.digest) (inl refl)

    brings : BringsCheckpoint c (Sent me bytes) me entry
    brings = record { brings = is_outgoing.says; number = may.1 }

    known : me < logs.replicas log
    known = subst (λ (x : ℕ). x < logs.replicas log) f.of_log.own f.of_log.is_log.me

    fits : FitsLog c me (checked_log log me entry) (Sent me bytes ∷ past)
    fits = checked c me log past (Sent me bytes) me entry f.of_log brings known (λ i l. (prepares i, commits i))

    up : log.low ≤ (checked_log log me entry).low
    up = checked_up c me log past (Sent me bytes) me entry f.of_log brings known

    executed : entry.number ≤ desk.state.number
    executed = executed_at_most c me entry.number past (point_of desk f.of_desk.states f.of_desk.ran)
        (steps_leave c me s outputs (point_of desk f.of_desk.states f.of_desk.ran) f.of_desk.leaves f.of_desk.steps) may.0.executed

    pays : Pays me s desk.state (Checkpoint entry.number entry.digest ∷ rest) rest outputs bytes
    pays = pays_first c me s desk log outputs (Checkpoint entry.number entry.digest) bytes is_outgoing.says rest f
