-- A batch that is prepared or committed in a log is so in the history that it fits, and the other way round.
use Rattle.std.proofs.Common.{◌≡◌, ℕ, ◌+◌, ◌*◌, ◌≤◌, ◌<◌, ◌^◌, ◌≢◌, Bool, true, false, cond, ◌&&◌, List, refl, sym, ap, ◌∙◌, subst, arith, Option, Some, None, option_map}
use Rattle.std.specs.Prelude.{nat_le, nat_lt, ◌==◌}
use Rattle.std.specs.Option.{option_map_or}
use Rattle.std.proofs.lemmas.Bool.{and_parts, and_from, leb-true, le-leb, lt-ltb, eqb-true, eqb-false, eq-eqb}
use Rattle.sha2.specs.Sha256.{sha256}
use Rattle.quorum.specs.Quorum.{count_below}
use Rattle.quorum.specs.Votes.{has_digest}
use Rattle.quorum.proofs.Counting.{count_same}
use Rattle.ordering.specs.declared.votes.Vote.{Vote}
use Rattle.ordering.specs.Votes.{voted_digest, voters}
use Rattle.ordering.specs.Log as logs
use Rattle.ordering.specs.Log.{LogData}
use Rattle.protocol.specs.System.Configuration.{Configuration, replicas}
use Rattle.protocol.specs.System.Trace.{Entry}
use Rattle.protocol.specs.Replica.Certificates.{view, target, is_active_in, logged, prepare_of, commit_of, Prepared, Committed}
use Rattle.protocol.proofs.Agreement.Agreeing.{has_digest_is}
use Rattle.replica_histories.specs.Logs.{FitsLog}
use Rattle.replica_histories.proofs.Words.{passed, batch_read, given_digest}

-- ---- the view

pub active : (c : Configuration) (me : ℕ) (log : LogData) (past : List Entry) → FitsLog c me log past → is_active_in c past log.view ≡ log.active
active c me log past f = rw (f.view, eq-eqb log.view log.view refl) f.active

pub active_view : (c : Configuration) (me : ℕ) (log : LogData) (past : List Entry) (v : ℕ) → FitsLog c me log past → is_active_in c past v ≡ true → v ≡ log.view
active_view c me log past v f a = sym (eqb-true (view c past) v (and_parts (view c past == v) (nat_le (target past) v) a).0) ∙ f.view

pub active_log : (c : Configuration) (me : ℕ) (log : LogData) (past : List Entry) (v : ℕ) → FitsLog c me log past → is_active_in c past v ≡ true → log.active ≡ true
active_log c me log past v f a = sym (active c me log past f) ∙ subst (λ (x : ℕ). is_active_in c past x ≡ true) (active_view c me log past v f a) a

-- ---- equal certificates

-- two histories log and count the same for a view and number
pub record Same (c : Configuration) (me : ℕ) (later past : List Entry) (v i : ℕ) : Type 0 where
  pub logged : logged c me later v i ≡ logged c me past v i
  pub prepare : (s : ℕ) → prepare_of c me later v i s ≡ prepare_of c me past v i s
  pub commit : (s : ℕ) → commit_of c me later v i s ≡ commit_of c me past v i s

-- of each digest there are as many votes
alike_count : (n : ℕ) (digest : List ℕ) (now was : ℕ → Option (List ℕ)) → ((s : ℕ) → now s ≡ was s) → count_below (λ s. has_digest digest (now s)) n ≡ count_below (λ s. has_digest digest (was s)) n
alike_count n digest now was same = count_same (λ s. has_digest digest (now s)) (λ s. has_digest digest (was s)) (λ s. ap (has_digest digest) (same s)) n

pub prepared_back : (c : Configuration) (me : ℕ) (later past : List Entry) (v i : ℕ) (batch : List ℕ) → Same c me later past v i → Prepared c me later v i batch → Prepared c me past v i batch
prepared_back c me later past v i batch same p = record {
  logged = sym same.logged ∙ p.logged;
  backups = subst (λ (n : ℕ). 2 * c.faults ≤ n) (alike_count (replicas c) (sha256 batch) (prepare_of c me later v i) (prepare_of c me past v i) same.prepare) p.backups;
}

pub committed_back : (c : Configuration) (me : ℕ) (later past : List Entry) (v i : ℕ) (batch : List ℕ) → Same c me later past v i → Committed c me later v i batch → Committed c me past v i batch
committed_back c me later past v i batch same k = record {
  prepared = prepared_back c me later past v i batch same k.prepared;
  commits = subst (λ (n : ℕ). 2 * c.faults + 1 ≤ n) (alike_count (replicas c) (sha256 batch) (commit_of c me later v i) (commit_of c me past v i) same.commit) k.commits;
  own = sym (same.commit me) ∙ k.own;
}

pub same_turned : (c : Configuration) (me : ℕ) (later past : List Entry) (v i : ℕ) → Same c me later past v i → Same c me past later v i
same_turned c me later past v i same = record { logged = sym same.logged; prepare = λ s. sym (same.prepare s); commit = λ s. sym (same.commit s) }

-- ---- counts

-- a count in the log, over as many replicas as the configuration has
counted : (c : Configuration) (log : LogData) (n : ℕ → ℕ) (digest : List ℕ) (votes : List Vote) (read : ℕ → Option (List ℕ)) → log.faults ≡ c.faults → ((s : ℕ) → read s ≡ voted_digest votes s)
    → nat_le (n log.faults) (voters (logs.replicas log) digest votes) ≡ nat_le (n c.faults) (count_below (λ s. has_digest digest (read s)) (replicas c))
counted c log n digest votes read e same =
    ap (λ (f : ℕ). nat_le (n f) (count_below (λ s. has_digest digest (voted_digest votes s)) (3 * f + 1))) e
    ∙ ap (nat_le (n c.faults)) (sym (count_same (λ s. has_digest digest (read s)) (λ s. has_digest digest (voted_digest votes s)) (λ s. ap (has_digest digest) (same s)) (replicas c)))

-- ---- prepared

-- a number within the marks has a prepared batch
pub record PreparedIn (log : LogData) (i : ℕ) (batch : List ℕ) : Type 0 where
  pub within : logs.is_in_marks log i ≡ true
  pub row : (logs.row_of log i).batch ≡ Some batch
  pub backups : nat_le (2 * log.faults) (voters (logs.replicas log) (sha256 batch) (logs.row_of log i).prepares) ≡ true

row_prepared : (log : LogData) (i : ℕ) → logs.is_row_prepared log.faults (logs.replicas log) (logs.row_of log i) ≡ true
    → (batch : List ℕ) × ((logs.row_of log i).batch ≡ Some batch) × (nat_le (2 * log.faults) (voters (logs.replicas log) (sha256 batch) (logs.row_of log i).prepares) ≡ true)
row_prepared log i h = go (logs.row_of log i).batch refl h
  where
    go : (o : Option (List ℕ)) → (logs.row_of log i).batch ≡ o
        → option_map_or (λ (digest : List ℕ). nat_le (2 * log.faults) (voters (logs.replicas log) digest (logs.row_of log i).prepares)) (option_map sha256 o) false ≡ true
        → (batch : List ℕ) × ((logs.row_of log i).batch ≡ Some batch) × (nat_le (2 * log.faults) (voters (logs.replicas log) (sha256 batch) (logs.row_of log i).prepares) ≡ true)
    go None e h = absurd cc
    go (Some batch) e h = (batch, e, h)

pub is_prepared_in : (log : LogData) (i : ℕ) → logs.is_prepared log i ≡ true → (batch : List ℕ) × PreparedIn log i batch
is_prepared_in log i h =
    let p = and_parts (logs.is_in_marks log i) (logs.is_row_prepared log.faults (logs.replicas log) (logs.row_of log i)) h in
    let r = row_prepared log i p.1 in
    (r.0, record { within = p.0; row = r.1; backups = r.2 })

prepared_row : (log : LogData) (i : ℕ) (batch : List ℕ) → PreparedIn log i batch → logs.is_row_prepared log.faults (logs.replicas log) (logs.row_of log i) ≡ true
prepared_row log i batch p = rw (p.row) p.backups

pub prepared_is : (log : LogData) (i : ℕ) (batch : List ℕ) → PreparedIn log i batch → logs.is_prepared log i ≡ true
prepared_is log i batch p = and_from (logs.is_in_marks log i) (logs.is_row_prepared log.faults (logs.replicas log) (logs.row_of log i)) p.within (prepared_row log i batch p)

prepare_read : (c : Configuration) (me : ℕ) (log : LogData) (past : List Entry) (i s : ℕ) → FitsLog c me log past → logs.is_in_marks log i ≡ true
    → prepare_of c me past log.view i s ≡ voted_digest (logs.row_of log i).prepares s
prepare_read c me log past i s f k = f.prepares i s k ∙ rw k refl

commit_read : (c : Configuration) (me : ℕ) (log : LogData) (past : List Entry) (i s : ℕ) → FitsLog c me log past → logs.is_in_marks log i ≡ true
    → commit_of c me past log.view i s ≡ voted_digest (logs.row_of log i).commits s
commit_read c me log past i s f k = f.commits i s k ∙ rw k refl

pub prepared_here : (c : Configuration) (me : ℕ) (log : LogData) (past : List Entry) (i : ℕ) (batch : List ℕ) → FitsLog c me log past → PreparedIn log i batch → Prepared c me past log.view i batch
prepared_here c me log past i batch f p = record {
  logged = f.batches i p.within ∙ batch_read log i p.within ∙ p.row;
  backups = leb-true (2 * c.faults) (count_below (λ s. has_digest (sha256 batch) (prepare_of c me past log.view i s)) (replicas c))
      (sym (counted c log (λ n. 2 * n) (sha256 batch) (logs.row_of log i).prepares (prepare_of c me past log.view i) f.faults (λ s. prepare_read c me log past i s f p.within)) ∙ p.backups);
}

-- a number above the low mark with a logged batch is in the marks
pub logged_within : (c : Configuration) (me : ℕ) (log : LogData) (past : List Entry) (v i : ℕ) (batch : List ℕ) → FitsLog c me log past → log.low < i → logged c me past v i ≡ Some batch → logs.is_in_marks log i ≡ true
logged_within c me log past v i batch f above h =
    let w = f.within v i batch h in
    and_from (nat_lt log.low i && nat_le i (log.low + log.span)) (nat_lt i (2 ^ 48)) (and_from (nat_lt log.low i) (nat_le i (log.low + log.span)) (lt-ltb log.low i above) (le-leb i (log.low + log.span) w.ahead.0)) (lt-ltb i (2 ^ 48) w.ahead.1)

-- a batch that is prepared above the low mark in the history, in the view of the log, is so in the log
pub prepared_there : (c : Configuration) (me : ℕ) (log : LogData) (past : List Entry) (i : ℕ) (batch : List ℕ) → FitsLog c me log past → log.low < i → Prepared c me past log.view i batch → PreparedIn log i batch
prepared_there c me log past i batch f above p = record {
  within = w;
  row = sym (f.batches i w ∙ batch_read log i w) ∙ p.logged;
  backups = counted c log (λ n. 2 * n) (sha256 batch) (logs.row_of log i).prepares (prepare_of c me past log.view i) f.faults (λ s. prepare_read c me log past i s f w)
      ∙ le-leb (2 * c.faults) (count_below (λ s. has_digest (sha256 batch) (prepare_of c me past log.view i s)) (replicas c)) p.backups;
}
  where
    w : logs.is_in_marks log i ≡ true
    w = logged_within c me log past log.view i batch f above p.logged

-- ---- committed

-- a batch that a row has committed in the view
row_committed_here : (c : Configuration) (me : ℕ) (log : LogData) (past : List Entry) (i : ℕ) (batch : List ℕ) → FitsLog c me log past → logs.is_in_marks log i ≡ true
    → logs.is_row_committed log.faults (logs.replicas log) log.me (logs.row_of log i) ≡ true → (logs.row_of log i).batch ≡ Some batch → Committed c me past log.view i batch
row_committed_here c me log past i batch f within is batch_is = record {
  prepared = prepared_here c me log past i batch f p;
  commits = leb-true (2 * c.faults + 1) (count_below (λ s. has_digest (sha256 batch) (commit_of c me past log.view i s)) (replicas c))
      (sym (counted c log (λ n. 2 * n + 1) (sha256 batch) (logs.row_of log i).commits (commit_of c me past log.view i) f.faults (λ s. commit_read c me log past i s f within)) ∙ votes.0);
  own = commit_read c me log past i me f within ∙ subst (λ (x : ℕ). voted_digest (logs.row_of log i).commits x ≡ Some (sha256 batch)) f.own (has_digest_is (sha256 batch) _ votes.1);
}
  where
    row : (logs.is_row_prepared log.faults (logs.replicas log) (logs.row_of log i) ≡ true)
        × (option_map_or (logs.is_digest_committed log.faults (logs.replicas log) log.me (logs.row_of log i).commits) (logs.digest_of (logs.row_of log i)) false ≡ true)
    row = and_parts (logs.is_row_prepared log.faults (logs.replicas log) (logs.row_of log i))
        (option_map_or (logs.is_digest_committed log.faults (logs.replicas log) log.me (logs.row_of log i).commits) (logs.digest_of (logs.row_of log i)) false) is

    votes : (nat_le (2 * log.faults + 1) (voters (logs.replicas log) (sha256 batch) (logs.row_of log i).commits) ≡ true) × (has_digest (sha256 batch) (voted_digest (logs.row_of log i).commits log.me) ≡ true)
    votes = and_parts (nat_le (2 * log.faults + 1) (voters (logs.replicas log) (sha256 batch) (logs.row_of log i).commits)) (has_digest (sha256 batch) (voted_digest (logs.row_of log i).commits log.me))
        (subst (λ (o : Option (List ℕ)). option_map_or (logs.is_digest_committed log.faults (logs.replicas log) log.me (logs.row_of log i).commits) (option_map sha256 o) false ≡ true) batch_is row.1)

    p : PreparedIn log i batch
    p = record {
      within = within;
      row = batch_is;
      backups = subst (λ (o : Option (List ℕ)). option_map_or (λ (digest : List ℕ). nat_le (2 * log.faults) (voters (logs.replicas log) digest (logs.row_of log i).prepares)) (option_map sha256 o) false ≡ true) batch_is row.0;
    }

-- a batch that a log has committed was committed in its view, or in an earlier one
pub committed_here : (c : Configuration) (me : ℕ) (log : LogData) (past : List Entry) (i : ℕ) (batch : List ℕ) → FitsLog c me log past → logs.committed_batch log i ≡ Some batch
    → (v : ℕ) × Committed c me past v i batch
committed_here c me log past i batch f h = go (logs.is_row_committed log.faults (logs.replicas log) log.me (logs.row_of log i)) refl given.1
  where
    given : (logs.is_in_marks log i ≡ true) × (logs.row_decided log.faults (logs.replicas log) log.me (logs.row_of log i) ≡ Some batch)
    given = passed (logs.is_in_marks log i) (logs.row_decided log.faults (logs.replicas log) log.me (logs.row_of log i)) batch h

    go : (b : Bool) → logs.is_row_committed log.faults (logs.replicas log) log.me (logs.row_of log i) ≡ b → cond b (logs.row_of log i).batch (logs.row_of log i).decided ≡ Some batch → (v : ℕ) × Committed c me past v i batch
    go true is k = (log.view, row_committed_here c me log past i batch f given.0 is k)
    go false is k = let d = f.views.decided i batch given.0 k in (d.0, d.2)

committed_in_view : (c : Configuration) (me : ℕ) (log : LogData) (past : List Entry) (i : ℕ) (batch : List ℕ) → FitsLog c me log past → log.low < i → Committed c me past log.view i batch → logs.committed_batch log i ≡ Some batch
committed_in_view c me log past i batch f above k = rw (p.within, is) p.row
  where
    p : PreparedIn log i batch
    p = prepared_there c me log past i batch f above k.prepared

    count : nat_le (2 * log.faults + 1) (voters (logs.replicas log) (sha256 batch) (logs.row_of log i).commits) ≡ true
    count =
        counted c log (λ n. 2 * n + 1) (sha256 batch) (logs.row_of log i).commits (commit_of c me past log.view i) f.faults (λ s. commit_read c me log past i s f p.within)
        ∙ le-leb (2 * c.faults + 1) (count_below (λ s. has_digest (sha256 batch) (commit_of c me past log.view i s)) (replicas c)) k.commits

    own : has_digest (sha256 batch) (voted_digest (logs.row_of log i).commits log.me) ≡ true
    own = given_digest (sha256 batch) (voted_digest (logs.row_of log i).commits log.me)
        (subst (λ (x : ℕ). voted_digest (logs.row_of log i).commits x ≡ Some (sha256 batch)) (sym f.own) (sym (commit_read c me log past i me f p.within) ∙ k.own))

    votes : option_map_or (logs.is_digest_committed log.faults (logs.replicas log) log.me (logs.row_of log i).commits) (logs.digest_of (logs.row_of log i)) false ≡ true
    votes = rw (p.row) (and_from _ _ count own)

    is : logs.is_row_committed log.faults (logs.replicas log) log.me (logs.row_of log i) ≡ true
    is = and_from (logs.is_row_prepared log.faults (logs.replicas log) (logs.row_of log i)) _ (prepared_row log i batch p) votes

ne_lt : (a b : ℕ) → a ≤ b → a ≢ b → a < b
ne_lt a b l n = omega arith

-- a batch that is committed above the low mark in the history, in any view, is so in the log
pub committed_there : (c : Configuration) (me : ℕ) (log : LogData) (past : List Entry) (v i : ℕ) (batch : List ℕ) → FitsLog c me log past → log.low < i → Committed c me past v i batch
    → (known : List ℕ) × (logs.committed_batch log i ≡ Some known)
committed_there c me log past v i batch f above k = go (v == log.view) refl
  where
    within : logs.is_in_marks log i ≡ true
    within = logged_within c me log past v i batch f above k.prepared.logged

    -- if the row has a batch committed in the view it is that one, else the earlier one
    known : (b : Bool) → logs.is_row_committed log.faults (logs.replicas log) log.me (logs.row_of log i) ≡ b → (d : List ℕ) → (logs.row_of log i).decided ≡ Some d → (x : List ℕ) × (cond b (logs.row_of log i).batch (logs.row_of log i).decided ≡ Some x)
    known true is d e = let p = row_prepared log i (and_parts (logs.is_row_prepared log.faults (logs.replicas log) (logs.row_of log i)) _ is).0 in (p.0, p.1)
    known false is d e = (d, e)

    go : (b : Bool) → (v == log.view) ≡ b → (x : List ℕ) × (logs.committed_batch log i ≡ Some x)
    go true e = (batch, committed_in_view c me log past i batch f above (subst (λ (x : ℕ). Committed c me past x i batch) (eqb-true v log.view e) k))
    go false e =
        let apart_views = eqb-false v log.view e in
        let least = (f.within v i batch k.prepared.logged).view in
        let earlier : v < log.view = ne_lt v log.view least apart_views in
        let d = f.views.all_decided v i batch earlier within k in
        let x = known (logs.is_row_committed log.faults (logs.replicas log) log.me (logs.row_of log i)) refl d.0 d.1 in
        (x.0, rw within x.1)
