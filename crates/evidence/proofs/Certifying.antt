-- What a history certifies is in the marks, and has the own commit.
use Rattle.std.proofs.Common.{◌≡◌, ℕ, ◌+◌, ◌*◌, ◌^◌, ◌≤◌, ◌<◌, ◌⊎◌, inl, inr, Bool, true, false, cond, ◌&&◌, List, ◌∷◌, refl, sym, ap, ◌∙◌, subst, arith, Some, None, eqb-true}
use Rattle.std.specs.Prelude.{◌==◌, nat_lt, nat_le, option_and_then}
use Rattle.std.proofs.lemmas.Bool.{and_parts, leb-true, ltb-true}
use Rattle.sha2.specs.Sha256.{sha256}
use Rattle.std.specs.Bool.{then_some}
use Rattle.protocol.specs.System.Configuration.{Configuration, primary, span, is_number}
use Rattle.wire_format.specs.Messages.{BodyData as Body, MessageData as Message, NewViewData, pre_prepare as PrePrepare}
use Rattle.protocol.specs.System.Trace.{Entry, party_of, history_of, Once, SendsBody}
use Rattle.protocol.specs.System.Trace.Entry.{Invoke, Got, Sent}
use Rattle.protocol.specs.Replica.Certificates.{view, target, is_later, is_active_in, new_view_in, new_view_from, taken, checkpoint_from, low, is_in_marks, are_genuine, batch_from, assigned_batch, proposal, entry_proposal, logged, commit_from, vote_in, commit_of}
use Rattle.protocol.specs.Replica.RightReplica.{Point, MaySendMessage, MaySend, May}
use Rattle.protocol.specs.Laws.Histories.{TakesOrSendsNewView}
use Rattle.evidence.specs.Certified.{EntryBringsBody, ExecutesWithOwnCommit, ExecutesNotByOthersAlone, ExecutesWhatItCommits, TakesLater, TakesInOrder, LogsInMarks, LogsWhatBegins}
use Rattle.protocol.proofs.Words.Temporal.{once_weaker, once_stays_from, once_in_trace}
use Rattle.protocol.proofs.Words.Options.{and_then_some, then_some_gives, some_injective, or_else_cases, given_once}
use Rattle.protocol.proofs.Agreement.Voting.{right_always}
use Rattle.protocol.proofs.Agreement.Marks.{takes, view_grows}
use Rattle.protocol.proofs.Agreement.Commits.{committing, commit_source, CommitsAt, voter_commits}
use Rattle.protocol.proofs.Agreement.Executing.{executed_committed}
use Rattle.protocol.proofs.Agreement.Offers.{entry_batch, assigned_place}
use Rattle.protocol.proofs.Words.Plain.{low_same}

-- ---- the own commit

pub executes_with_own_commit : ExecutesWithOwnCommit
executes_with_own_commit c me k batch past right = let may = right.1.2.may in (may.in_view, may.committed, may.committed.own)

pub executes_not_by_others_alone : ExecutesNotByOthersAlone
unfolding commit_of
executes_not_by_others_alone c me k batch past none right =
    let own = executes_with_own_commit c me k batch past right in
    let votes : Once (λ past e. vote_in c me past e (commit_from me own.0 k) own.0 k ≡ Some (sha256 batch)) past =
    given_once (λ past e. vote_in c me past e (commit_from me own.0 k) own.0 k) (sha256 batch) past own.2 in
    none own.0
    (once_weaker (λ past e. vote_in c me past e (commit_from me own.0 k) own.0 k ≡ Some (sha256 batch)) (EntryBringsBody c (committing me own.0 k (sha256 batch)))
    (commit_source c me me own.0 k (sha256 batch)) past votes)

-- if a replica's history says a commit, the trace sends the commit
says_sent : (c : Configuration) (r v k : ℕ) (d : List ℕ) (past : List Entry) (e : Entry) → (party_of e ≡ r) × CommitsAt c r v k d (history_of r past) e → SendsBody (committing r v k d) past e
says_sent c r v k d past (Sent p bytes) h = (h.0, h.1.1)
says_sent c r v k d past _ h = absurd h.1.1

pub executes_what_it_commits : ExecutesWhatItCommits
executes_what_it_commits c trace right unforged r k batch correct h =
    let ready = executed_committed c trace r k batch right correct h in
    let commits : Once (CommitsAt c r ready.view k (sha256 batch)) (history_of r trace) = voter_commits c trace r r ready.view k (sha256 batch) right unforged correct correct ready.committed.own in (
      ready.view,
      once_weaker (λ past e. (party_of e ≡ r) × CommitsAt c r ready.view k (sha256 batch) (history_of r past) e) (SendsBody (committing r ready.view k (sha256 batch)))
          (says_sent c r ready.view k (sha256 batch)) trace (once_in_trace (CommitsAt c r ready.view k (sha256 batch)) r trace commits),
    )

-- ---- the new views that are taken

pub takes_later : TakesLater
takes_later c past e new h =
    let r = and_then_some (λ (x : NewViewData). then_some (is_later (view c past) (target past) x) x) (new_view_in c e) new h in
    let g = then_some_gives (is_later (view c past) (target past) r.0) r.0 new r.2 in
    let t : is_later (view c past) (target past) new ≡ true = subst (λ (x : NewViewData). is_later (view c past) (target past) x ≡ true) g.1 g.0 in
    let p = and_parts (nat_lt (view c past) new.view) (nat_le (target past) new.view) t in
    (ltb-true (view c past) new.view p.0, leb-true (target past) new.view p.1)

pub takes_in_order : TakesInOrder
takes_in_order c past e earlier new before h =
    let reached : earlier.view ≤ view c past =
    once_stays_from (λ xs. earlier.view ≤ view c xs) (λ x xs l. let grows = view_grows c x xs in omega arith) past
    (once_weaker (TakesOrSendsNewView c earlier) (λ xs x. earlier.view ≤ view c (x ∷ xs)) (λ xs x t. let is = (takes c 0 xs x earlier t).view_is in omega arith) past before) in
    let above = (takes_later c past e new h).0 in
    omega arith

-- ---- the log

in_marks : (c : Configuration) (h i : ℕ) → is_in_marks c h i ≡ true → (h < i) × (i ≤ h + 2 * c.period) × (i < 2 ^ 48)
in_marks c h i m =
    let p = and_parts (nat_lt h i && nat_le i (h + span c)) (is_number i) m in
    let q = and_parts (nat_lt h i) (nat_le i (h + span c)) p.0 in
    (ltb-true h i q.0, leb-true i (h + span c) q.1, ltb-true i (2 ^ 48) p.1)

-- a message that proposes a batch is no checkpoint and no new view
abbrev IsOther : Configuration → Body → Type 0
IsOther c body = (checkpoint_from body ≡ None) × (new_view_from c body ≡ None)

proposal_other : (c : Configuration) (me v i : ℕ) (batch : List ℕ) (sender : ℕ) (message : Message) → batch_from c me v i (record { sender = sender; message = message }) ≡ Some batch
    → IsOther c (record { sender = sender; message = message })
proposal_other c me v i batch sender (PrePrepare w number b) h = (refl, refl)
proposal_other c me v i batch sender _ h = absurd cc

-- the number that a right replica proposes a batch for is in the marks
proposed_in_marks : (c : Configuration) (me v i : ℕ) (batch : List ℕ) (past : List Entry) (point : Point) (e : Entry) (bytes : List ℕ) (sender : ℕ) (message : Message)
    → MaySendMessage c me past point e bytes message → batch_from c me v i (record { sender = sender; message = message }) ≡ Some batch → is_in_marks c (low c me past) i ≡ true
proposed_in_marks c me v i batch past point e bytes sender (PrePrepare w number b) allowed h =
    let g = then_some_gives ((w == v) && (number == i) && (sender == primary c v) && are_genuine c me b) b batch h in
    let p = and_parts ((w == v) && (number == i) && (sender == primary c v)) (are_genuine c me b) g.0 in
    let q = and_parts ((w == v) && (number == i)) (sender == primary c v) p.0 in
    subst (λ (n : ℕ). is_in_marks c (low c me past) n ≡ true) (eqb-true number i (and_parts (w == v) (number == i) q.0).1) allowed.in_marks
proposed_in_marks c me v i batch past point e bytes sender _ allowed h = absurd cc

-- if an entry logs a pre-prepare, the pre-prepare's number is in the marks
entry_in_marks : (c : Configuration) (me v i : ℕ) (batch : List ℕ) (e : Entry) (past : List Entry) (point : Point) → May c me past point e → entry_proposal c me past e v i ≡ Some batch
    → is_in_marks c (low c me (e ∷ past)) i ≡ true
entry_in_marks c me v i batch (Got p bytes) past point may h =
    let t = entry_batch c me v i batch past (Got p bytes) h in
    let other = proposal_other c me v i batch t.1.0.sender t.1.0.message t.1.2 in
    let same = low_same c me past (Got p bytes) (ap (option_and_then checkpoint_from) t.1.1 ∙ other.0) refl (ap (option_and_then (new_view_from c)) t.1.1 ∙ other.1) in
    subst (λ (h : ℕ). is_in_marks c h i ≡ true) (sym same) (and_parts (is_active_in c past v) (is_in_marks c (low c me past) i) t.0).1
entry_in_marks c me v i batch (Sent p bytes) past point may h =
    let t = entry_batch c me v i batch past (Sent p bytes) h in
    let other = proposal_other c me v i batch t.1.0.sender t.1.0.message t.1.2 in
    let same = low_same c me past (Sent p bytes) (ap (option_and_then checkpoint_from) t.1.1 ∙ other.0) refl (ap (option_and_then (new_view_from c)) t.1.1 ∙ other.1) in
    let m : MaySend c me past point (Sent p bytes) bytes = may in
    let allowed : MaySendMessage c me past point (Sent p bytes) bytes t.1.0.message = subst (λ (x : Body). MaySendMessage c me past point (Sent p bytes) bytes x.message) (some_injective m.body t.1.0 (sym m.says ∙ t.1.1)) m.allowed in
    subst (λ (h : ℕ). is_in_marks c h i ≡ true) (sym same) (proposed_in_marks c me v i batch past point (Sent p bytes) bytes t.1.0.sender t.1.0.message allowed t.1.2)
entry_in_marks c me v i batch (Invoke x y z) past point may h = absurd cc
entry_in_marks c me v i batch _ past point may h = absurd cc

pub logs_in_marks : LogsInMarks
unfolding logged
logs_in_marks c me v i batch e past right none h = in_marks c (low c me (e ∷ past)) i (at (or_else_cases (logged c me past v i) (proposal c me past e v i) batch h))
  where
    assigned : (b : Bool) → cond b (option_and_then (assigned_batch v i) (taken c past e)) None ≡ Some batch → b ≡ true
    assigned true k = refl
    assigned false k = absurd cc

    of : (cond (is_in_marks c (low c me (e ∷ past)) i) (option_and_then (assigned_batch v i) (taken c past e)) None ≡ Some batch) ⊎ (entry_proposal c me past e v i ≡ Some batch)
        → is_in_marks c (low c me (e ∷ past)) i ≡ true
    of (inl k) = assigned (is_in_marks c (low c me (e ∷ past)) i) k
    of (inr k) = entry_in_marks c me v i batch e past right.1.0 right.1.2.may k

    at : (logged c me past v i ≡ Some batch) ⊎ (proposal c me past e v i ≡ Some batch) → is_in_marks c (low c me (e ∷ past)) i ≡ true
    at (inl k) = absurd (let bad : None ≡ Some batch = sym none ∙ k in cc)
    at (inr k) = of (or_else_cases _ _ batch k)

pub logs_what_begins : LogsWhatBegins
logs_what_begins c me i batch e past new right t assigned above = go (assigned_place c me new.view i batch past e new (right_always c me past right.0 right.1) t assigned)
  where
    go : (logged c me (e ∷ past) new.view i ≡ Some batch) ⊎ (i ≤ low c me (e ∷ past)) → logged c me (e ∷ past) new.view i ≡ Some batch
    go (inl h) = h
    go (inr h) = absurd (omega arith)
