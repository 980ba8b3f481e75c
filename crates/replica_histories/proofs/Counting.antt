-- Which messages count, and that the others change nothing.
use Rattle.std.proofs.Common.{◌≡◌, ℕ, ◌+◌, ◌*◌, ◌^◌, ◌<◌, ◌⊎◌, inl, inr, Bool, true, false, cond, ◌&&◌, ◌||◌, not, List, [], ◌∷◌, take, slice_set, refl, sym, ap, ◌∙◌, subst, Option, Some, None, option_map, eqb-true, eq-eqb}
use Rattle.std.specs.Prelude.{◌==◌, nat_lt, nat_le, find, option_and_then}
use Rattle.std.specs.Bool.{then_some}
use Rattle.std.specs.List.{list_any}
use Rattle.std.proofs.lemmas.Bool.{and_parts, ltb-true, leb-true, leb-false, le-ltb}
use Rattle.std.proofs.lemmas.List.{set-get_or}
use Rattle.sha2.specs.Sha256.{sha256}
use Rattle.quorum.specs.Votes.{or_else}
use Rattle.wire_format.specs.Messages.{BodyData as Body, MessageData as Message, CheckpointEntryData as CheckpointEntry, pre_prepare as PrePrepare, prepare as Prepare, commit as Commit, checkpoint as Checkpoint}
use Rattle.authenticator.specs.Membership.{has_sender}
use Rattle.signing.specs.AuthenticBody.{authentic}
use Rattle.signing.proofs.AuthenticBody.{authentic_was_opened}
use Rattle.reply_cache.specs.Replies.{Kept}
use Rattle.ordering.specs.declared.dropped.Dropped.{Dropped}
use Rattle.ordering.specs.declared.dropped.Dropped.TheVariants.{WrongView, OutOfMarks, UnknownSender}
use Rattle.ordering.specs.Log as logs
use Rattle.ordering.specs.Log.{LogData}
use Rattle.ordering.specs.Checkpoints.{root_at}
use Rattle.ordering.specs.Keeping.{IsLog}
use Rattle.ordering.specs.Taking.{fault_beside, ordering_fault, preprepare_fault, prepare_fault, commit_fault, checkpoint_fault}
use Rattle.protocol.specs.System.Configuration.{Configuration, primary, is_number, members, signers}
use Rattle.protocol.specs.System.Trace.{Entry}
use Rattle.protocol.specs.System.Trace.Entry.{Got}
use Rattle.protocol.specs.Replica.Certificates.{are_genuine, checkpoint_from, checkpoint_in, insert_checkpoint, with_checkpoint, checkpoints_of, lists_checkpoint, batch_from, prepare_from, commit_from, entry_proposal, vote_in, logged, prepare_of, commit_of}
use Rattle.protocol.specs.Replica.State.{State, Call, kept_of, last_time}
use Rattle.protocol.specs.Replica.RightReplica.{Point}
use Rattle.protocol.specs.Replica.Owed.{IsNoOlder, has_number}
use Rattle.protocol.proofs.Agreement.States.{checking}
use Rattle.replica_histories.specs.Logs.{checkpoints_above, FitsLog, LogTakesBody}
use Rattle.replica_histories.specs.Inputs.{BatchesCount, PreparesAreCounted, CommitsAreCounted, CheckpointsCount, RequestsCount, BatchesDrop, PreparesDrop, CommitsDrop, CheckpointsDrop, EarlyCheckpointsDrop, IsBesideLog, OthersDrop}
use Rattle.replica_histories.proofs.Words.{apart, mapped, given_not, batch_read, primary_same}
use Rattle.replica_histories.proofs.Latest.{inserts_same, says_above, number_above, says_number, above_with, listed_passed, passed_adds_nothing, put_or_passed}
use Rattle.replica_histories.proofs.Taking.{takes_no_more, takes_nothing, none_there, prepare_taken, commit_taken, batch_taken}
use Rattle.replica_histories.proofs.Logging.{got_reads}
use Rattle.replica_histories.proofs.Cutting.{counts_one, counts_alike}

-- ---- faults

-- the message has no fault
record NoFault (log : LogData) (may_send : Bool) (v i : ℕ) : Type 0 where
  pub sends : may_send ≡ true
  pub view : v ≡ log.view
  pub active : log.active ≡ true
  pub within : logs.is_in_marks log i ≡ true

no_fault : (log : LogData) (may_send : Bool) (v i : ℕ) → ordering_fault log may_send v i ≡ None → NoFault log may_send v i
no_fault log may_send v i h = go may_send (logs.is_active_in log v) (logs.is_in_marks log i) refl refl refl h
  where
    go : (sends active within : Bool) → may_send ≡ sends → logs.is_active_in log v ≡ active → logs.is_in_marks log i ≡ within
        → cond (not sends) (Some UnknownSender) (cond (not active) (Some WrongView) (cond (not within) (Some OutOfMarks) None)) ≡ None → NoFault log may_send v i
    go false active within a b d h = absurd cc
    go true false within a b d h = absurd cc
    go true true false a b d h = absurd cc
    go true true true a b d h = record { sends = a; view = eqb-true v log.view (and_parts (v == log.view) log.active b).0; active = (and_parts (v == log.view) log.active b).1; within = d }

-- and so there is none
none_speaks : (log : LogData) (may_send : Bool) (i : ℕ) → log.active ≡ true → may_send ≡ true → logs.is_in_marks log i ≡ true → ordering_fault log may_send log.view i ≡ None
none_speaks log may_send i active sends within = rw (sends, eq-eqb log.view log.view refl, active, within) refl

or_none : {A : Type 0} (first later : Option A) → or_else first later ≡ None → (first ≡ None) × (later ≡ None)
or_none None later h = (refl, h)
or_none (Some x) later h = absurd cc

beside_none : (o : Option (List ℕ)) (digest : List ℕ) → fault_beside o digest ≡ None → o ≡ None
beside_none None digest h = refl
beside_none (Some x) digest h = absurd cc

pub mapped_none : {A B : Type 0} (f : A → B) (o : Option A) → option_map f o ≡ None → o ≡ None
mapped_none f None h = refl
mapped_none f (Some x) h = absurd cc

-- a number without a digest has no batch
no_batch : (log : LogData) (i : ℕ) → logs.is_in_marks log i ≡ true → logs.logged_digest log i ≡ None → logs.logged_batch log i ≡ None
no_batch log i k h = batch_read log i k ∙ mapped_none sha256 (logs.row_of log i).batch (of (logs.is_in_marks log i) k h)
  where
    of : (b : Bool) → b ≡ true → cond b (logs.digest_of (logs.row_of log i)) None ≡ None → logs.digest_of (logs.row_of log i) ≡ None
    of true e h = h
    of false e h = absurd cc

no_digest : (log : LogData) (i : ℕ) → logs.is_in_marks log i ≡ true → logs.logged_batch log i ≡ None → logs.logged_digest log i ≡ None
no_digest log i k h = let row : (logs.row_of log i).batch ≡ None = sym (batch_read log i k) ∙ h in rw (k, row) refl

-- ---- the log's answers after a received message

reads_it : (c : Configuration) (me : ℕ) (log : LogData) (past : List Entry) (bytes : List ℕ) (body : Body) (i : ℕ) (vote : Body → Option (List ℕ)) → FitsLog c me log past → authentic (members c me) me bytes ≡ Some body
    → log.active ≡ true → logs.is_in_marks log i ≡ true → vote_in c me past (Got me bytes) vote log.view i ≡ vote body
reads_it c me log past bytes body i vote f h active k =
    got_reads c me log past bytes i vote f k ∙ ap (λ (b : Bool). cond b (option_and_then vote (authentic (members c me) me bytes)) None) active ∙ ap (option_and_then vote) h

-- ---- a batch

pub batches_count : BatchesCount
batches_count c me log past point s v i batch bytes f h none genuine = (
  subst (λ (x : ℕ). (entry_proposal c me past (Got me bytes) x i ≡ Some batch) × (logged c me past x i ≡ None)) (sym p.view) (
    reads_it c me log past bytes (record { sender = s; message = PrePrepare log.view i batch }) i (batch_from c me log.view i) f receives p.active p.within ∙ given,
    f.batches i p.within ∙ free,
  ),
  subst (λ (o : Option Body). LogTakesBody c me o log (logs.with_batch log i batch)) (sym receives) (batch_taken c me s i batch log f.is_log p.active p.within primary_is genuine free),
)
  where
    faults : (ordering_fault log (s == logs.primary log v) v i ≡ None) × (fault_beside (logs.logged_digest log i) (sha256 batch) ≡ None)
    faults = or_none (ordering_fault log (s == logs.primary log v) v i) (fault_beside (logs.logged_digest log i) (sha256 batch)) none

    p : NoFault log (s == logs.primary log v) v i
    p = no_fault log (s == logs.primary log v) v i faults.0

    receives : authentic (members c me) me bytes ≡ Some (record { sender = s; message = PrePrepare log.view i batch })
    receives = subst (λ (x : ℕ). authentic (members c me) me bytes ≡ Some (record { sender = s; message = PrePrepare x i batch })) p.view h

    primary_is : (s == primary c log.view) ≡ true
    primary_is = ap (λ (x : ℕ). s == x) (sym (primary_same c log log.view f.faults)) ∙ ap (λ (x : ℕ). s == logs.primary log x) (sym p.view) ∙ p.sends

    free : logs.logged_batch log i ≡ None
    free = no_batch log i p.within (beside_none (logs.logged_digest log i) (sha256 batch) faults.1)

    given : batch_from c me log.view i (record { sender = s; message = PrePrepare log.view i batch }) ≡ Some batch
    given = rw (eq-eqb log.view log.view refl, eq-eqb i i refl, primary_is, genuine) refl

pub batches_drop : BatchesDrop
batches_drop c me log past s v i batch bytes f h faulty = subst (λ (o : Option Body). LogTakesBody c me o log log) (sym h) (takes_no_more c me _ log f.is_log
    (λ j active k none. none_there (logs.logged_batch log j) (batch_from c me log.view j (record { sender = s; message = PrePrepare v i batch })) ((v == log.view) && (i == j) && (s == primary c log.view) && are_genuine c me batch) batch refl none
    (λ e free.
    let a = and_parts ((v == log.view) && (i == j) && (s == primary c log.view)) (are_genuine c me batch) e in
    let b = and_parts ((v == log.view) && (i == j)) (s == primary c log.view) a.0 in
    let d = and_parts (v == log.view) (i == j) b.0 in
    let same : i ≡ j = eqb-true i j d.1 in
    clash active (eqb-true v log.view d.0) (subst (λ (x : ℕ). logs.is_in_marks log x ≡ true) (sym same) k) b.1 a.1 (subst (λ (x : ℕ). logs.logged_batch log x ≡ None) (sym same) free) faulty))
    (λ j x active k none. refl) (λ j x active k none. refl) (λ x. refl))
  where
    clash : log.active ≡ true → v ≡ log.view → logs.is_in_marks log i ≡ true → (s == primary c log.view) ≡ true → are_genuine c me batch ≡ true → logs.logged_batch log i ≡ None
        → ((fault : Dropped) × (preprepare_fault log s v i batch ≡ Some fault)) ⊎ (are_genuine c me batch ≡ false) → ⊥
    clash active view within primary_is genuine free (inr e) = apart (are_genuine c me batch) genuine e
    clash active view within primary_is genuine free (inl e) =
        let sends : (s == logs.primary log log.view) ≡ true = ap (λ (x : ℕ). s == x) (primary_same c log log.view f.faults) ∙ primary_is in
        let speaks = none_speaks log (s == logs.primary log log.view) i active sends within in
        let digest = no_digest log i within free in
        let none : preprepare_fault log s log.view i batch ≡ None = rw (speaks, digest) refl in
        given_not (preprepare_fault log s v i batch) e.0 e.1 (subst (λ (x : ℕ). preprepare_fault log s x i batch ≡ None) (sym view) none)

-- ---- votes

-- the sender of a received vote is a replica
known : (c : Configuration) (me : ℕ) (log : LogData) (past : List Entry) (bytes : List ℕ) (body : Body) → FitsLog c me log past → authentic (members c me) me bytes ≡ Some body
    → has_sender (signers c) body ≡ nat_lt body.sender (3 * c.faults + 1) → nat_lt body.sender (logs.replicas log) ≡ true
known c me log past bytes body f h is =
    let o = authentic_was_opened (members c me) me bytes body h in
    ap (λ (n : ℕ). nat_lt body.sender (3 * n + 1)) f.faults ∙ sym is ∙ subst (λ (b : Body). has_sender (signers c) b ≡ true) o.body_is o.opens.sender

pub prepares_count : PreparesAreCounted
prepares_count c me log past point s v i digest bytes vote f h none sender same = (
  subst (λ (x : ℕ). (vote_in c me past (Got me bytes) (prepare_from c s x i) x i ≡ Some digest) × (prepare_of c me past x i s ≡ None)) (sym p.view) (
    reads_it c me log past bytes (record { sender = s; message = Prepare log.view i digest }) i (prepare_from c s log.view i) f receives p.active p.within ∙ given,
    f.prepares i s p.within ∙ beside_none (logs.prepare_of log i s) digest faults.1,
  ),
  subst (λ (o : Option Body). LogTakesBody c me o log (logs.with_prepare log i vote)) (sym receives) (prepare_taken c me s i digest vote log f.is_log p.active p.within (ltb-true s (logs.replicas log) sends.0) backup sender same),
)
  where
    faults : (ordering_fault log (nat_lt s (logs.replicas log) && not (s == logs.primary log v)) v i ≡ None) × (fault_beside (logs.prepare_of log i s) digest ≡ None)
    faults = or_none (ordering_fault log (nat_lt s (logs.replicas log) && not (s == logs.primary log v)) v i) (fault_beside (logs.prepare_of log i s) digest) none

    p : NoFault log (nat_lt s (logs.replicas log) && not (s == logs.primary log v)) v i
    p = no_fault log (nat_lt s (logs.replicas log) && not (s == logs.primary log v)) v i faults.0

    receives : authentic (members c me) me bytes ≡ Some (record { sender = s; message = Prepare log.view i digest })
    receives = subst (λ (x : ℕ). authentic (members c me) me bytes ≡ Some (record { sender = s; message = Prepare x i digest })) p.view h

    sends : (nat_lt s (logs.replicas log) ≡ true) × (not (s == logs.primary log v) ≡ true)
    sends = and_parts (nat_lt s (logs.replicas log)) (not (s == logs.primary log v)) p.sends

    backup : not (s == primary c log.view) ≡ true
    backup = ap (λ (x : ℕ). not (s == x)) (sym (primary_same c log log.view f.faults)) ∙ ap (λ (x : ℕ). not (s == logs.primary log x)) (sym p.view) ∙ sends.1

    given : prepare_from c s log.view i (record { sender = s; message = Prepare log.view i digest }) ≡ Some digest
    given = rw (eq-eqb s s refl, eq-eqb log.view log.view refl, eq-eqb i i refl, backup) refl

pub prepares_drop : PreparesDrop
prepares_drop c me log past s v i digest bytes fault f h faulty = subst (λ (o : Option Body). LogTakesBody c me o log log) (sym h) (takes_no_more c me _ log f.is_log
    (λ j active k none. refl)
    (λ j x active k none. none_there (logs.prepare_of log j x) (prepare_from c x log.view j (record { sender = s; message = Prepare v i digest })) ((s == x) && (v == log.view) && (i == j) && not (x == primary c log.view)) digest refl none
    (λ e free.
    let a = and_parts ((s == x) && (v == log.view) && (i == j)) (not (x == primary c log.view)) e in
    let b = and_parts ((s == x) && (v == log.view)) (i == j) a.0 in
    let d = and_parts (s == x) (v == log.view) b.0 in
    let same : i ≡ j = eqb-true i j b.1 in
    let from : s ≡ x = eqb-true s x d.0 in
    clash active (eqb-true v log.view d.1) (subst (λ (y : ℕ). logs.is_in_marks log y ≡ true) (sym same) k) (subst (λ (y : ℕ). not (y == primary c log.view) ≡ true) (sym from) a.1)
    (subst (λ (y : ℕ). logs.prepare_of log y s ≡ None) (sym same) (subst (λ (y : ℕ). logs.prepare_of log j y ≡ None) (sym from) free))))
    (λ j x active k none. refl) (λ x. refl))
  where
    clash : log.active ≡ true → v ≡ log.view → logs.is_in_marks log i ≡ true → not (s == primary c log.view) ≡ true → logs.prepare_of log i s ≡ None → ⊥
    clash active view within backup free =
        let is_known = known c me log past bytes (record { sender = s; message = Prepare v i digest }) f h refl in
        let other : not (s == logs.primary log log.view) ≡ true = ap (λ (x : ℕ). not (s == x)) (primary_same c log log.view f.faults) ∙ backup in
        let speaks = none_speaks log (nat_lt s (logs.replicas log) && not (s == logs.primary log log.view)) i active (rw (is_known) other) within in
        let none : prepare_fault log s log.view i digest ≡ None = rw (speaks, free) refl in
        given_not (prepare_fault log s v i digest) fault faulty (subst (λ (x : ℕ). prepare_fault log s x i digest ≡ None) (sym view) none)

pub commits_count : CommitsAreCounted
commits_count c me log past point s v i digest bytes vote f h none sender same = (
  subst (λ (x : ℕ). (vote_in c me past (Got me bytes) (commit_from s x i) x i ≡ Some digest) × (commit_of c me past x i s ≡ None)) (sym p.view) (
    reads_it c me log past bytes (record { sender = s; message = Commit log.view i digest }) i (commit_from s log.view i) f receives p.active p.within ∙ given,
    f.commits i s p.within ∙ beside_none (logs.commit_of log i s) digest faults.1,
  ),
  subst (λ (o : Option Body). LogTakesBody c me o log (logs.with_commit log i vote)) (sym receives) (commit_taken c me s i digest vote log f.is_log p.active p.within (ltb-true s (logs.replicas log) p.sends) sender same),
)
  where
    faults : (ordering_fault log (nat_lt s (logs.replicas log)) v i ≡ None) × (fault_beside (logs.commit_of log i s) digest ≡ None)
    faults = or_none (ordering_fault log (nat_lt s (logs.replicas log)) v i) (fault_beside (logs.commit_of log i s) digest) none

    p : NoFault log (nat_lt s (logs.replicas log)) v i
    p = no_fault log (nat_lt s (logs.replicas log)) v i faults.0

    receives : authentic (members c me) me bytes ≡ Some (record { sender = s; message = Commit log.view i digest })
    receives = subst (λ (x : ℕ). authentic (members c me) me bytes ≡ Some (record { sender = s; message = Commit x i digest })) p.view h

    given : commit_from s log.view i (record { sender = s; message = Commit log.view i digest }) ≡ Some digest
    given = rw (eq-eqb s s refl, eq-eqb log.view log.view refl, eq-eqb i i refl) refl

pub commits_drop : CommitsDrop
commits_drop c me log past s v i digest bytes fault f h faulty = subst (λ (o : Option Body). LogTakesBody c me o log log) (sym h) (takes_no_more c me _ log f.is_log
    (λ j active k none. refl) (λ j x active k none. refl)
    (λ j x active k none. none_there (logs.commit_of log j x) (commit_from x log.view j (record { sender = s; message = Commit v i digest })) ((s == x) && (v == log.view) && (i == j)) digest refl none
    (λ e free.
    let b = and_parts ((s == x) && (v == log.view)) (i == j) e in
    let d = and_parts (s == x) (v == log.view) b.0 in
    let same : i ≡ j = eqb-true i j b.1 in
    let from : s ≡ x = eqb-true s x d.0 in
    clash active (eqb-true v log.view d.1) (subst (λ (y : ℕ). logs.is_in_marks log y ≡ true) (sym same) k)
    (subst (λ (y : ℕ). logs.commit_of log y s ≡ None) (sym same) (subst (λ (y : ℕ). logs.commit_of log j y ≡ None) (sym from) free))))
    (λ x. refl))
  where
    clash : log.active ≡ true → v ≡ log.view → logs.is_in_marks log i ≡ true → logs.commit_of log i s ≡ None → ⊥
    clash active view within free =
        let is_known = known c me log past bytes (record { sender = s; message = Commit v i digest }) f h refl in
        let speaks = none_speaks log (nat_lt s (logs.replicas log)) i active is_known within in
        let none : commit_fault log s log.view i digest ≡ None = rw (speaks, free) refl in
        given_not (commit_fault log s v i digest) fault faulty (subst (λ (x : ℕ). commit_fault log s x i digest ≡ None) (sym view) none)

-- ---- others

pub others_drop : OthersDrop
others_drop c me log past bytes f beside = go (authentic (members c me) me bytes) beside
  where
    no_proposal : (v j sender : ℕ) (message : Message) → IsBesideLog (Some (record { sender = sender; message = message })) → batch_from c me v j (record { sender = sender; message = message }) ≡ None
    no_proposal v j sender (PrePrepare w k batch) b = absurd b
    no_proposal v j sender _ b = refl

    no_prepare : (v j x sender : ℕ) (message : Message) → IsBesideLog (Some (record { sender = sender; message = message })) → prepare_from c x v j (record { sender = sender; message = message }) ≡ None
    no_prepare v j x sender (Prepare w k digest) b = absurd b
    no_prepare v j x sender _ b = refl

    no_commit : (v j x sender : ℕ) (message : Message) → IsBesideLog (Some (record { sender = sender; message = message })) → commit_from x v j (record { sender = sender; message = message }) ≡ None
    no_commit v j x sender (Commit w k digest) b = absurd b
    no_commit v j x sender _ b = refl

    no_checkpoint : (sender : ℕ) (message : Message) → IsBesideLog (Some (record { sender = sender; message = message })) → checkpoint_from (record { sender = sender; message = message }) ≡ None
    no_checkpoint sender (Checkpoint k root) b = absurd b
    no_checkpoint sender _ b = refl

    go : (o : Option Body) → IsBesideLog o → LogTakesBody c me o log log
    go None b = takes_nothing c me None log f.is_log (λ j k none. refl) (λ j x k none. refl) (λ j x k none. refl) (λ x. refl)
    go (Some body) b = takes_nothing c me (Some body) log f.is_log (λ j k none. no_proposal log.view j body.sender body.message b) (λ j x k none. no_prepare log.view j x body.sender body.message b)
        (λ j x k none. no_commit log.view j x body.sender body.message b)
        (λ x. ap (λ (o : Option (ℕ × CheckpointEntry)). checkpoints_above log.low (with_checkpoint x o (logs.checkpoints_of log x))) (no_checkpoint body.sender body.message b))

-- ---- checkpoints

-- the checkpoint has no fault
pub record CheckpointFree (log : LogData) (s k : ℕ) (root : List ℕ) : Type 0 where
  pub known : s < logs.replicas log
  pub above : log.low < k
  pub number : is_number k ≡ true
  pub free : root_at (logs.checkpoints_of log s) k ≡ None

pub checkpoint_free : (log : LogData) (s k : ℕ) (root : List ℕ) → checkpoint_fault log s k root ≡ None → CheckpointFree log s k root
checkpoint_free log s k root h = go (nat_le (logs.replicas log) s) (nat_lt log.low k) (nat_lt k (2 ^ 48)) refl refl refl h
  where
    go : (a b d : Bool) → nat_le (logs.replicas log) s ≡ a → nat_lt log.low k ≡ b → nat_lt k (2 ^ 48) ≡ d
        → cond a (Some UnknownSender) (cond (not (b && d)) (Some OutOfMarks) (fault_beside (root_at (logs.checkpoints_of log s) k) root)) ≡ None → CheckpointFree log s k root
    go true b d x y z h = absurd cc
    go false false d x y z h = absurd cc
    go false true false x y z h = absurd cc
    go false true true x y z h = record { known = leb-false (logs.replicas log) s x; above = ltb-true log.low k y; number = z; free = beside_none (root_at (logs.checkpoints_of log s) k) root h }

-- a root in the list is of a checkpoint of the number
not_found : (test : CheckpointEntry → Bool) (xs : List CheckpointEntry) → find test xs ≡ None → list_any test xs ≡ false
not_found test [] h = refl
not_found test (x ∷ xs) h = go (test x) (not_found test xs) h
  where
    go : (b : Bool) → (find test xs ≡ None → list_any test xs ≡ false) → cond b (Some x) (find test xs) ≡ None → (b || list_any test xs) ≡ false
    go true below h = absurd cc
    go false below h = below h

found : (test : CheckpointEntry → Bool) (xs : List CheckpointEntry) (m : CheckpointEntry) → find test xs ≡ Some m → list_any test xs ≡ true
found test [] m h = absurd cc
found test (x ∷ xs) m h = go (test x) (found test xs m) h
  where
    go : (b : Bool) → (find test xs ≡ Some m → list_any test xs ≡ true) → cond b (Some x) (find test xs) ≡ Some m → (b || list_any test xs) ≡ true
    go true below h = refl
    go false below h = below h

pub checkpoints_count : CheckpointsCount
checkpoints_count c me log past point s entry bytes f h none says = (
  subst (λ (n : ℕ). n < entry.number) (sym f.low) p.above,
  p.number,
  sym (number_above log.low entry.number (checkpoints_of c past s) p.above) ∙ ap (has_number entry.number) (f.checkpoints s) ∙ number_above log.low entry.number (logs.checkpoints_of log s) p.above
      ∙ not_found (λ m. m.number == entry.number) (logs.checkpoints_of log s) (mapped_none (λ (m : CheckpointEntry). m.digest) (find (λ m. m.number == entry.number) (logs.checkpoints_of log s)) p.free),
  says_number entry (checkpoints_of c (Got me bytes ∷ past) s) now,
)
  where
    p : CheckpointFree log s entry.number entry.digest
    p = checkpoint_free log s entry.number entry.digest none

    marked : checkpoint_in c (Got me bytes) ≡ Some (s, entry)
    marked = ap (option_and_then checkpoint_from) h ∙ ap (λ (t : Bool). then_some t (let x : ℕ × CheckpointEntry = (s, entry) in x)) p.number

    now : lists_checkpoint entry (checkpoints_of c (Got me bytes ∷ past) s) ≡ true
    now =
        sym (says_above log.low entry (checkpoints_of c (Got me bytes ∷ past) s) p.above)
        ∙ ap (lists_checkpoint entry) (counts_alike c log past (Got me bytes) s s entry f.is_log p.known marked (f.checkpoints s) (f.latest s))
        ∙ says_above log.low entry (logs.checkpoints_of (logs.with_checkpoint_of log s entry) s) p.above ∙ says

-- a checkpoint that adds nothing above the mark
adds_nothing : (c : Configuration) (me : ℕ) (log : LogData) (s : ℕ) (entry : CheckpointEntry) → IsLog log
    → (is_number entry.number ≡ true → checkpoints_above log.low (take 3 (insert_checkpoint entry (logs.checkpoints_of log s))) ≡ checkpoints_above log.low (logs.checkpoints_of log s))
    → LogTakesBody c me (Some (record { sender = s; message = Checkpoint entry.number entry.digest })) log log
adds_nothing c me log s entry is same = takes_nothing c me _ log is (λ j k none. refl) (λ j x k none. refl) (λ j x k none. refl) (λ x. numbered x (is_number entry.number) refl)
  where
    of : (x : ℕ) (b : Bool) → (s == x) ≡ b → is_number entry.number ≡ true
        → checkpoints_above log.low (cond b (take 3 (insert_checkpoint entry (logs.checkpoints_of log x))) (logs.checkpoints_of log x)) ≡ checkpoints_above log.low (logs.checkpoints_of log x)
    of x true own is = subst (λ (y : ℕ). checkpoints_above log.low (take 3 (insert_checkpoint entry (logs.checkpoints_of log y))) ≡ checkpoints_above log.low (logs.checkpoints_of log y)) (eqb-true s x own) (same is)
    of x false own is = refl

    numbered : (x : ℕ) (b : Bool) → is_number entry.number ≡ b
        → checkpoints_above log.low (with_checkpoint x (then_some b (let y : ℕ × CheckpointEntry = (s, entry) in y)) (logs.checkpoints_of log x)) ≡ checkpoints_above log.low (logs.checkpoints_of log x)
    numbered x true is = of x (s == x) refl is
    numbered x false is = refl

pub checkpoints_drop : CheckpointsDrop
checkpoints_drop c me log past s entry bytes fault f h faulty = subst (λ (o : Option Body). LogTakesBody c me o log log) (sym h) (adds_nothing c me log s entry f.is_log same)
  where
    passed_by : (root : List ℕ) → root_at (logs.checkpoints_of log s) entry.number ≡ Some root → take 3 (insert_checkpoint entry (logs.checkpoints_of log s)) ≡ logs.checkpoints_of log s
    passed_by root there =
        let m = mapped (λ (x : CheckpointEntry). x.digest) (find (λ x. x.number == entry.number) (logs.checkpoints_of log s)) root there in
        passed_adds_nothing 3 entry (logs.checkpoints_of log s) (f.latest s).few
        (listed_passed 3 entry.number (logs.checkpoints_of log s) (f.latest s).few (f.latest s).descend (found (λ x. x.number == entry.number) (logs.checkpoints_of log s) m.0 m.1))

    same : is_number entry.number ≡ true → checkpoints_above log.low (take 3 (insert_checkpoint entry (logs.checkpoints_of log s))) ≡ checkpoints_above log.low (logs.checkpoints_of log s)
    same is = go (nat_le (logs.replicas log) s) (nat_lt log.low entry.number) (nat_lt entry.number (2 ^ 48)) (root_at (logs.checkpoints_of log s) entry.number) refl refl refl refl faulty
      where
        go : (a b d : Bool) (o : Option (List ℕ)) → nat_le (logs.replicas log) s ≡ a → nat_lt log.low entry.number ≡ b → nat_lt entry.number (2 ^ 48) ≡ d → root_at (logs.checkpoints_of log s) entry.number ≡ o
            → cond a (Some UnknownSender) (cond (not (b && d)) (Some OutOfMarks) (fault_beside o entry.digest)) ≡ Some fault
            → checkpoints_above log.low (take 3 (insert_checkpoint entry (logs.checkpoints_of log s))) ≡ checkpoints_above log.low (logs.checkpoints_of log s)
        go true b d o x y z w none =
            absurd (apart (nat_lt s (logs.replicas log)) (known c me log past bytes (checking s entry.number entry.digest) f h refl) (le-ltb s (logs.replicas log) (leb-true (logs.replicas log) s x)))
        go false false d o x y z w none = above_with log.low entry (logs.checkpoints_of log s) (f.latest s) ∙ ap (λ (b : Bool). cond b (take 3 (insert_checkpoint entry (checkpoints_above log.low (logs.checkpoints_of log s)))) (checkpoints_above log.low (logs.checkpoints_of log s))) y
        go false true false o x y z w none = absurd (apart (is_number entry.number) is z)
        go false true true None x y z w none = absurd cc
        go false true true (Some root) x y z w none = ap (checkpoints_above log.low) (passed_by root w)

pub early_checkpoints_drop : EarlyCheckpointsDrop
early_checkpoints_drop c me log past s entry bytes f h says = (
  ap (λ (xs : List (List CheckpointEntry)). let m : LogData = record log { checkpoints = xs } in m) (ap (slice_set log.checkpoints s) (ap (take 3) (sym (inserts_same entry (logs.checkpoints_of log s))) ∙ same) ∙ set-get_or log.checkpoints s []),
  subst (λ (o : Option Body). LogTakesBody c me o log log) (sym h) (adds_nothing c me log s entry f.is_log (λ is. ap (checkpoints_above log.low) same)),
)
  where
    is_known : s < logs.replicas log
    is_known = ltb-true s (logs.replicas log) (known c me log past bytes (checking s entry.number entry.digest) f h refl)

    now : logs.checkpoints_of (logs.with_checkpoint_of log s entry) s ≡ take 3 (insert_checkpoint entry (logs.checkpoints_of log s))
    now = counts_one log s s entry f.is_log is_known ∙ ap (λ (b : Bool). cond b (take 3 (insert_checkpoint entry (logs.checkpoints_of log s))) (logs.checkpoints_of log s)) (eq-eqb s s refl)

    same : take 3 (insert_checkpoint entry (logs.checkpoints_of log s)) ≡ logs.checkpoints_of log s
    same = go (put_or_passed 3 entry (logs.checkpoints_of log s) (f.latest s).few)
      where
        go : (lists_checkpoint entry (take 3 (insert_checkpoint entry (logs.checkpoints_of log s))) ≡ true) ⊎ (take 3 (insert_checkpoint entry (logs.checkpoints_of log s)) ≡ logs.checkpoints_of log s)
            → take 3 (insert_checkpoint entry (logs.checkpoints_of log s)) ≡ logs.checkpoints_of log s
        go (inl k) = absurd (apart (lists_checkpoint entry (logs.checkpoints_of (logs.with_checkpoint_of log s entry) s)) (ap (lists_checkpoint entry) now ∙ k) says)
        go (inr k) = k

-- ---- requests

pub requests_count : RequestsCount
requests_count c me desk log past bytes k t op held h = (k, refl, go h)
  where
    state_is : held.of_desk.point.state ≡ desk.state
    state_is = ap (λ (p : Point). p.state) held.of_desk.is

    waiting_is : held.of_desk.point.waiting ≡ desk.waiting
    waiting_is = ap (λ (p : Point). p.waiting) held.of_desk.is

    go : ((kept : Kept) × (kept_of desk.state k ≡ Some kept) × (kept.timestamp ≡ t)) ⊎ ((last_time desk.state k < t) × IsNoOlder desk.waiting k t op)
        → ((kept : Kept) × (kept_of held.of_desk.point.state k ≡ Some kept) × (kept.timestamp ≡ t)) ⊎ ((last_time held.of_desk.point.state k < t) × IsNoOlder held.of_desk.point.waiting k t op)
    go (inl a) = inl (a.0, subst (λ (st : State). kept_of st k ≡ Some a.0) (sym state_is) a.1, a.2)
    go (inr a) = inr (subst (λ (st : State). last_time st k < t) (sym state_is) a.0, subst (λ (w : List Call). IsNoOlder w k t op) (sym waiting_is) a.1)
