-- What a replica sends again: its own votes and batches that stand in the log.
use Rattle.std.proofs.Common.{◌≡◌, ◌≢◌, ℕ, zero, suc, ◌-◌, ◌≤◌, ◌⊎◌, inl, inr, Bool, true, false, ◌&&◌, not, cond, List, [], ◌∷◌, length, take, refl, sym, ap, ◌∙◌, subst, arith, Some, None, eqb-true, slice_get}
use Rattle.std.specs.Prelude.{◌==◌, nat_lt, option_and_then}
use Rattle.std.proofs.lemmas.Bool.{and_parts, eqb-false, not-true}
use Rattle.std.specs.Bool.{then_some}
use Rattle.wire_format.specs.Messages.{BodyData as Body, MessageData as Message, NewViewData, CheckpointEntryData as CheckpointEntry, pre_prepare as PrePrepare, prepare as Prepare, commit as Commit, checkpoint as Checkpoint}
use Rattle.wire_format.specs.Words.{carried, requests_of}
use Rattle.wire_format.specs.Lists.{Each}
use Rattle.ordering.specs.Log as logs
use Rattle.ordering.specs.Log.{LogData}
use Rattle.ordering.specs.Votes.{voted_digest}
use Rattle.protocol.specs.System.Configuration.{Configuration, primary, is_number}
use Rattle.protocol.specs.System.Trace.{Entry, Once, Always}
use Rattle.protocol.specs.System.Trace.Entry.{Invoke, Got, Sent}
use Rattle.protocol.specs.Replica.Certificates.{are_genuine, counts_at, taken, checkpoint_from, with_checkpoint, insert_checkpoint, checkpoints_of, batch_from, prepare_from, commit_from, assigned_batch, brought, low, is_in_marks, assigned_proposal, entry_proposal, proposal, logged, prepare_of, commit_of}
use Rattle.protocol.specs.Replica.RightReplica.{Point, HistoryReaches, HasSeen, MayCheckpoint, others}
use Rattle.protocol.specs.Replica.Owed.{NumbersOnce, IsAssignedBelow}
use Rattle.protocol.proofs.Words.Options.{some_injective, and_then_some, given_once, or_else_cases}
use Rattle.protocol.proofs.Words.Temporal.{once_weaker, once_stays}
use Rattle.protocol.proofs.Words.Elements.{each_weaker}
use Rattle.protocol.proofs.Agreement.Voting.{RightAt, once_right, Logs, logged_stays, batch_is}
use Rattle.replica_histories.specs.Desk.{Desk, point_of}
use Rattle.replica_histories.specs.Logs.{checkpoints_above, LogTakesBody}
use Rattle.replica_histories.specs.Events.{Start, after_outputs, BothFitWithinEvent}
use Rattle.replica_histories.specs.Outputs.{PreparesGoAgain, CommitsGoAgain, BatchesGoAgain, CheckpointsGoAgain}
use Rattle.replica_histories.proofs.Words.{passed, given_not, marks_are, primary_same}
use Rattle.replica_histories.proofs.Certified.{active}
use Rattle.replica_histories.proofs.Speaking.{heard_other, prepare_spoken, spoken_logged, prepare_backup, Certified, commit_spoken, spoken_certified}
use Rattle.replica_histories.proofs.Latest.{IsPassed, behind_above, passed_adds_nothing}
use Rattle.replica_histories.proofs.Checking.{latest_of, said_may, executed_at_most, said_passed}
use Rattle.replica_histories.proofs.Taking.{takes_nothing, none_there}
use Rattle.replica_histories.proofs.Ending.{steps_leave}
use Rattle.replica_histories.proofs.TransfersQuorums.{no_root, own_root}
use Rattle.replica_histories.proofs.Logging.{beside_placed}
use Rattle.replica_histories.proofs.SentOnce.{unsent, pays_none, pays_alone, no_reply}
use Rattle.replica_histories.proofs.Giving.{sent_fits, no_proposal, placed, never_rests, prepare_placed, commit_placed}

leaves_now : (c : Configuration) (me : ℕ) (s : Start) (desk : Desk) (log : LogData) (due : List Message) (outputs : List Entry) (f : BothFitWithinEvent c me s desk log due outputs)
    → HistoryReaches c me (after_outputs s outputs) (point_of desk f.of_desk.states f.of_desk.ran)
leaves_now c me s desk log due outputs f = steps_leave c me s outputs (point_of desk f.of_desk.states f.of_desk.ran) f.of_desk.leaves f.of_desk.steps

pub prepares_go_again : PreparesGoAgain
prepares_go_again c me s desk log due outputs i digest bytes is_active there none is_outgoing f =
    sent_fits c me s desk log log due due outputs bytes (others c me) (Prepare log.view i digest) f is_outgoing refl tt
    (record { is_backup = backup; active = active c me log past f.of_log ∙ is_active; batch = l.batch; is_logged = l.is_logged; digest_is = l.digest })
    tt takes (prepare_placed c me me i digest log is_active within)
    refl (no_root c (after_outputs s outputs) bytes me (Prepare log.view i digest) desk.state.number is_outgoing.says refl) (pays_none c me s desk log outputs (Prepare log.view i digest) bytes is_outgoing.says due refl f)
    (unsent me s (Prepare log.view i digest) bytes outputs f.says.begins is_outgoing.says none) (no_proposal c me past bytes (Prepare log.view i digest) is_outgoing.says tt)
  where
    past : List Entry
    past = after_outputs s outputs

    within : logs.is_in_marks log i ≡ true
    within = (passed (logs.is_in_marks log i) (voted_digest (logs.row_of log i).prepares me) digest there).0

    takes : LogTakesBody c me (Some (record { sender = me; message = Prepare log.view i digest })) log log
    takes = takes_nothing c me _ log f.of_log.is_log (λ j k h. refl)
        (λ j x k h. none_there (logs.prepare_of log j x) (prepare_from c x log.view j (record { sender = me; message = Prepare log.view i digest })) ((me == x) && (log.view == log.view) && (i == j) && not (x == primary c log.view)) digest refl h
        (λ e none.
        let a = and_parts ((me == x) && (log.view == log.view) && (i == j)) (not (x == primary c log.view)) e in
        let b = and_parts ((me == x) && (log.view == log.view)) (i == j) a.0 in
        let d = and_parts (me == x) (log.view == log.view) b.0 in
        given_not (logs.prepare_of log i me) digest there (subst (λ (y : ℕ). logs.prepare_of log y me ≡ None) (sym (eqb-true i j b.1)) (subst (λ (y : ℕ). logs.prepare_of log j y ≡ None) (sym (eqb-true me x d.0)) none))))
        (λ j x k h. refl) (λ x. refl)

    own : prepare_of c me past log.view i me ≡ Some digest
    own = f.of_log.prepares i me within ∙ there

    backup : primary c log.view ≢ me
    backup e = eqb-false me (primary c log.view) (not-true (me == primary c log.view) (prepare_backup c me log.view i digest past own)) (sym e)

    l : Logs c me log.view i digest past
    l =
        let leaves = leaves_now c me s desk log due outputs f in
        spoken_logged c me log.view i digest past (point_of desk f.of_desk.states f.of_desk.ran) leaves (prepare_spoken c me log.view i digest past (point_of desk f.of_desk.states f.of_desk.ran) leaves own)

pub commits_go_again : CommitsGoAgain
commits_go_again c me s desk log due outputs i digest bytes is_active there none is_outgoing f =
    sent_fits c me s desk log log due due outputs bytes (others c me) (Commit log.view i digest) f is_outgoing refl tt
    (record { active = active c me log past f.of_log ∙ is_active; batch = l.batch; prepared = l.prepared; digest_is = l.digest_is })
    tt takes (commit_placed c me me i digest log is_active within)
    refl (no_root c (after_outputs s outputs) bytes me (Commit log.view i digest) desk.state.number is_outgoing.says refl) (pays_none c me s desk log outputs (Commit log.view i digest) bytes is_outgoing.says due refl f)
    (unsent me s (Commit log.view i digest) bytes outputs f.says.begins is_outgoing.says none) (no_proposal c me past bytes (Commit log.view i digest) is_outgoing.says tt)
  where
    past : List Entry
    past = after_outputs s outputs

    within : logs.is_in_marks log i ≡ true
    within = (passed (logs.is_in_marks log i) (voted_digest (logs.row_of log i).commits me) digest there).0

    takes : LogTakesBody c me (Some (record { sender = me; message = Commit log.view i digest })) log log
    takes = takes_nothing c me _ log f.of_log.is_log (λ j k h. refl) (λ j x k h. refl)
        (λ j x k h. none_there (logs.commit_of log j x) (commit_from x log.view j (record { sender = me; message = Commit log.view i digest })) ((me == x) && (log.view == log.view) && (i == j)) digest refl h
        (λ e none.
        let b = and_parts ((me == x) && (log.view == log.view)) (i == j) e in
        let d = and_parts (me == x) (log.view == log.view) b.0 in
        given_not (logs.commit_of log i me) digest there (subst (λ (y : ℕ). logs.commit_of log y me ≡ None) (sym (eqb-true i j b.1)) (subst (λ (y : ℕ). logs.commit_of log j y ≡ None) (sym (eqb-true me x d.0)) none))))
        (λ x. refl)

    own : commit_of c me past log.view i me ≡ Some digest
    own = f.of_log.commits i me within ∙ there

    l : Certified c me log.view i digest past
    l =
        let leaves = leaves_now c me s desk log due outputs f in
        spoken_certified c me log.view i digest past (point_of desk f.of_desk.states f.of_desk.ran) leaves (commit_spoken c me log.view i digest past (point_of desk f.of_desk.states f.of_desk.ran) leaves own)

-- ---- the replica's own batch

-- the requests of a proposed batch are authentic and were seen
abbrev Proposed : Configuration → ℕ → List ℕ → List Entry → Type 0
Proposed c me batch past = (are_genuine c me batch ≡ true) × Each (λ frame. Once (HasSeen frame) past) (requests_of batch)

proposed_stays : (c : Configuration) (me : ℕ) (batch : List ℕ) (e : Entry) (past : List Entry) → Proposed c me batch past → Proposed c me batch (e ∷ past)
proposed_stays c me batch e past h = (h.0, each_weaker (λ frame. Once (HasSeen frame) past) (λ frame. Once (HasSeen frame) (e ∷ past)) (λ frame k. inr k) (requests_of batch) h.1)

proposes : (c : Configuration) (me v i : ℕ) (batch : List ℕ) → primary c v ≡ me → (past : List Entry) (e : Entry) → RightAt c me past e
    → (body : Body) × (brought c e ≡ Some body) × (batch_from c me v i body ≡ Some batch) → Proposed c me batch past
proposes c me v i batch own past (Got p bytes) r h =
    let b = batch_is c me v i batch h.0.sender h.0.message h.2 in
    absurd (heard_other c p bytes h.0 h.1 (b.1 ∙ own ∙ sym r.own))
proposes c me v i batch own past (Sent p bytes) r h =
    let b = batch_is c me v i batch h.0.sender h.0.message h.2 in
    let message_is : r.may.body.message ≡ PrePrepare v i batch = ap (λ (x : Body). x.message) (some_injective r.may.body h.0 (sym r.may.says ∙ h.1)) ∙ b.0 in
    (b.2, subst (λ (m : Message). Each (λ frame. Once (HasSeen frame) past) (carried m)) message_is r.may.seen)
proposes c me v i batch own past (Invoke x y z) r h = absurd (let bad : None ≡ Some h.0 = h.1 in cc)
proposes c me v i batch own past _ r h = absurd (let bad : None ≡ Some h.0 = h.1 in cc)

-- a new view that the replica takes proposes the batch for the number
abbrev IsAssignedAt : Configuration → ℕ → ℕ → List ℕ → List Entry → Entry → Type 0
IsAssignedAt c v i batch past e = (new : NewViewData) × (taken c past e ≡ Some new) × (assigned_batch v i new ≡ Some batch)

beyond : (batch : List ℕ) (xs : List (List ℕ)) (k : ℕ) → length xs ≤ k → slice_get xs k ≡ Some batch → ⊥
beyond batch [] k l h = cc
beyond batch (x ∷ xs) zero l h = absurd (omega arith)
beyond batch (x ∷ xs) (suc k) l h = beyond batch xs k (omega arith) h

-- none does, if all new views of the view end below the number
not_assigned : (c : Configuration) (v i : ℕ) (batch : List ℕ) (history : List Entry) → IsAssignedBelow c v i history → Once (IsAssignedAt c v i batch) history → ⊥
not_assigned c v i batch [] below h = h
not_assigned c v i batch (e ∷ past) below (inr h) = not_assigned c v i batch past (λ new once at. below new (inr once) at) h
not_assigned c v i batch (e ∷ past) below (inl h) =
    let p = passed ((h.0.view == v) && nat_lt h.0.start i) (slice_get h.0.batches (i - h.0.start - 1)) batch h.2 in
    let q = and_parts (h.0.view == v) (nat_lt h.0.start i) p.0 in
    let l = below h.0 (inl h.1) (eqb-true h.0.view v q.0) in
    beyond batch h.0.batches (i - h.0.start - 1) (omega arith) p.1

-- an entry's proposal, if no new view begins with it
proposal_source : (c : Configuration) (me v i : ℕ) (batch : List ℕ) (past : List Entry) (e : Entry) → (IsAssignedAt c v i batch past e → ⊥) → proposal c me past e v i ≡ Some batch
    → (body : Body) × (brought c e ≡ Some body) × (batch_from c me v i body ≡ Some batch)
proposal_source c me v i batch past e none h = go (or_else_cases (assigned_proposal c me past e v i) (entry_proposal c me past e v i) batch h)
  where
    go : (assigned_proposal c me past e v i ≡ Some batch) ⊎ (entry_proposal c me past e v i ≡ Some batch) → (body : Body) × (brought c e ≡ Some body) × (batch_from c me v i body ≡ Some batch)
    go (inl k) =
        let p = passed (is_in_marks c (low c me (e ∷ past)) i) (option_and_then (assigned_batch v i) (taken c past e)) batch k in
        let n = and_then_some (assigned_batch v i) (taken c past e) batch p.1 in
        absurd (none (n.0, n.1, n.2))
    go (inr k) =
        let p = passed (counts_at c me past e v i) (option_and_then (batch_from c me v i) (brought c e)) batch k in
        and_then_some (batch_from c me v i) (brought c e) batch p.1

once_but : (P Q : List Entry → Entry → Type 0) (xs : List Entry) → Once P xs → (Once Q xs → ⊥) → Once (λ past e. P past e × (Q past e → ⊥)) xs
once_but P Q [] h n = h
once_but P Q (e ∷ past) (inl h) n = inl (h, λ q. n (inl q))
once_but P Q (e ∷ past) (inr h) n = inr (once_but P Q past h (λ q. n (inr q)))

-- the replica proposed its own batch in a log that fits
batch_proposed : (c : Configuration) (me v i : ℕ) (batch : List ℕ) (past : List Entry) (point : Point) → HistoryReaches c me past point → primary c v ≡ me → (Once (IsAssignedAt c v i batch) past → ⊥) → logged c me past v i ≡ Some batch
    → Proposed c me batch past
unfolding logged
batch_proposed c me v i batch past point leaves own none h =
    let once = given_once (λ earlier e. proposal c me earlier e v i) batch past h in
    let but = once_but (λ past e. proposal c me past e v i ≡ Some batch) (IsAssignedAt c v i batch) past once none in
    once_stays (Proposed c me batch) (proposed_stays c me batch) past
    (once_weaker
    (λ past e. RightAt c me past e × ((proposal c me past e v i ≡ Some batch) × (IsAssignedAt c v i batch past e → ⊥)) × Always (RightAt c me) past)
    (λ past e. Proposed c me batch past)
    (λ past e t. proposes c me v i batch own past e t.0 (proposal_source c me v i batch past e t.1.1 t.1.0)) past
    (once_right c me (λ past e. (proposal c me past e v i ≡ Some batch) × (IsAssignedAt c v i batch past e → ⊥)) past (point, leaves) but))

pub batches_go_again : BatchesGoAgain
batches_go_again c me s desk log due outputs i batch bytes is_active own there below none is_outgoing f =
    sent_fits c me s desk log log due due outputs bytes (others c me) (PrePrepare log.view i batch) f is_outgoing refl proposed.1
    (record { is_primary = primary_is; active = active c me log past f.of_log ∙ is_active; in_marks = marks_are c me log past i f.of_log ∙ within; genuine = proposed.0; one = logged_stays c me log.view i batch (Sent me bytes) past logs_it; next = λ none. absurd (given_not (logged c me past log.view i) batch logs_it none) })
    tt takes (record { batch = place; votes = λ v j x other. (refl, refl); resting = λ rests j x. never_rests log is_active rests })
    refl (no_root c (after_outputs s outputs) bytes me (PrePrepare log.view i batch) desk.state.number is_outgoing.says refl) (pays_none c me s desk log outputs (PrePrepare log.view i batch) bytes is_outgoing.says due refl f)
    (unsent me s (PrePrepare log.view i batch) bytes outputs f.says.begins is_outgoing.says none) once
  where
    past : List Entry
    past = after_outputs s outputs

    primary_is : primary c log.view ≡ me
    primary_is = sym (primary_same c log log.view f.of_log.faults) ∙ own

    within : logs.is_in_marks log i ≡ true
    within = (passed (logs.is_in_marks log i) (logs.row_of log i).batch batch there).0

    logs_it : logged c me past log.view i ≡ Some batch
    logs_it = f.of_log.batches i within ∙ there

    proposed : Proposed c me batch past
    proposed = batch_proposed c me log.view i batch past (point_of desk f.of_desk.states f.of_desk.ran) (leaves_now c me s desk log due outputs f) primary_is (not_assigned c log.view i batch past below) logs_it

    takes : LogTakesBody c me (Some (record { sender = me; message = PrePrepare log.view i batch })) log log
    takes = takes_nothing c me _ log f.of_log.is_log
        (λ j k h. none_there (logs.logged_batch log j) (batch_from c me log.view j (record { sender = me; message = PrePrepare log.view i batch }))
        ((log.view == log.view) && (i == j) && (me == primary c log.view) && are_genuine c me batch) batch refl h
        (λ e none.
        let a = and_parts ((log.view == log.view) && (i == j) && (me == primary c log.view)) (are_genuine c me batch) e in
        let b = and_parts ((log.view == log.view) && (i == j)) (me == primary c log.view) a.0 in
        let d = and_parts (log.view == log.view) (i == j) b.0 in
        given_not (logs.logged_batch log i) batch there (subst (λ (y : ℕ). logs.logged_batch log y ≡ None) (sym (eqb-true i j d.1)) none)))
        (λ j x k h. refl) (λ j x k h. refl) (λ x. refl)

    place : (v j : ℕ) (b : List ℕ) → batch_from c me v j (record { sender = me; message = PrePrepare log.view i batch }) ≡ Some b → (v ≡ log.view) × (logs.is_in_marks log j ≡ true)
    place v j b h = let w = placed c me log.view i v j me batch b h in (sym w.0, subst (λ (x : ℕ). logs.is_in_marks log x ≡ true) w.1 within)

    -- its number is not free
    once : NumbersOnce c me past (Sent me bytes)
    once v j b says free =
        let is : ◌≡◌ {A = Body} (record { sender = me; message = PrePrepare log.view i batch }) (record { sender = me; message = PrePrepare v j b }) = some_injective _ _ (sym is_outgoing.says ∙ says) in
        let at : place_of (PrePrepare log.view i batch) ≡ place_of (PrePrepare v j b) = ap (λ (x : Body). place_of x.message) is in
        let bad : logged c me past log.view i ≡ None = subst (λ (y : ℕ × ℕ). logged c me past y.0 y.1 ≡ None) (sym at) free in
        absurd (given_not (logged c me past log.view i) batch logs_it bad)
      where
        place_of : Message → ℕ × ℕ
        place_of message = elim message [ PrePrepare w k x ↦ (w, k) | _ ↦ (0, 0) ]

-- ---- the replica's own checkpoint

pub checkpoints_go_again : CheckpointsGoAgain
checkpoints_go_again c me s desk log outputs k root bytes once none is_outgoing f =
    sent_fits c me s desk log log [] [] outputs bytes (others c me) (Checkpoint k root) f is_outgoing refl tt
    may
    tt takes (beside_placed c me log me (Checkpoint k root) tt)
    refl (own_root c past bytes me k root desk.state.number is_outgoing.says executed) (pays_alone c me s desk log outputs (Checkpoint k root) bytes is_outgoing.says (λ j kept same. no_reply (Checkpoint k root) j kept refl same) f)
    (unsent me s (Checkpoint k root) bytes outputs f.says.begins is_outgoing.says none) (no_proposal c me past bytes (Checkpoint k root) is_outgoing.says tt)
  where
    past : List Entry
    past = after_outputs s outputs

    may : MayCheckpoint c past (point_of desk f.of_desk.states f.of_desk.ran) k root
    may = said_may c me k root past (point_of desk f.of_desk.states f.of_desk.ran) (leaves_now c me s desk log [] outputs f) once

    executed : k ≤ desk.state.number
    executed = executed_at_most c me k past (point_of desk f.of_desk.states f.of_desk.ran) (leaves_now c me s desk log [] outputs f) may.executed

    -- the history has it, or three of larger numbers
    adds_nothing : (x : ℕ) → with_checkpoint x (checkpoint_from (record { sender = me; message = Checkpoint k root })) (checkpoints_of c past x) ≡ checkpoints_of c past x
    adds_nothing x = numbered (is_number k) refl
      where
        of : (b : Bool) → (me == x) ≡ b → is_number k ≡ true → cond b (take 3 (insert_checkpoint (record { number = k; digest = root }) (checkpoints_of c past x))) (checkpoints_of c past x) ≡ checkpoints_of c past x
        of true own is =
            passed_adds_nothing 3 (record { number = k; digest = root }) (checkpoints_of c past x) (latest_of c past x).few
            (subst (λ (y : ℕ). IsPassed 3 k (checkpoints_of c past y)) (eqb-true me x own) (said_passed c me k root past is once))
        of false own is = refl

        numbered : (b : Bool) → is_number k ≡ b → with_checkpoint x (then_some b (let y : ℕ × CheckpointEntry = (me, record { number = k; digest = root }) in y)) (checkpoints_of c past x) ≡ checkpoints_of c past x
        numbered true is = of (me == x) refl is
        numbered false is = refl

    takes : LogTakesBody c me (Some (record { sender = me; message = Checkpoint k root })) log log
    takes = takes_nothing c me _ log f.of_log.is_log (λ j e h. refl) (λ j x e h. refl) (λ j x e h. refl)
        (λ x. sym (behind_above log.low x (checkpoint_from (record { sender = me; message = Checkpoint k root })) (checkpoints_of c past x) (logs.checkpoints_of log x) (latest_of c past x) (f.of_log.latest x) (f.of_log.checkpoints x))
        ∙ ap (checkpoints_above log.low) (adds_nothing x) ∙ f.of_log.checkpoints x)
