-- The votes that a log asks for, and the batches that it has committed, by its answers; so a cut log asks for no more.
use Rattle.std.proofs.Common.{◌≡◌, ℕ, ◌+◌, ◌*◌, ◌%◌, Bool, true, false, cond, ◌&&◌, not, List, refl, sym, ap, ◌∙◌, Option, Some, None, option_map, is_none}
use Rattle.std.specs.Prelude.{◌==◌, nat_le}
use Rattle.std.specs.Option.{option_map_or}
use Rattle.sha2.specs.Sha256.{sha256}
use Rattle.quorum.specs.Quorum.{count_below}
use Rattle.quorum.specs.Votes.{has_digest}
use Rattle.quorum.proofs.Counting.{count_same}
use Rattle.ordering.specs.Votes.{voted_digest}
use Rattle.ordering.specs.Log as logs
use Rattle.ordering.specs.Log.{LogData}
use Rattle.ordering.proofs.Moving.{cuts_keep}
use Rattle.replica_histories.specs.Marks.{CutsAskNoMore}
use Rattle.replica_histories.proofs.Cutting.{cut_same}

-- ---- by the log's answers

-- a batch of this digest has so many votes
abbrev has_votes : ℕ → ℕ → (ℕ → Option (List ℕ)) → Option (List ℕ) → Bool
has_votes faults needed votes batch = option_map_or (λ d. nat_le needed (count_below (λ s. has_digest d (votes s)) (3 * faults + 1))) (option_map sha256 batch) false

abbrev has_own : ℕ → (ℕ → Option (List ℕ)) → Option (List ℕ) → Bool
has_own me votes batch = option_map_or (λ d. has_digest d (votes me)) (option_map sha256 batch) false

-- the log's answers for a number, at a replica in a view
record Reading : Type 0 where
  pub me : ℕ
  pub faults : ℕ
  pub view : ℕ
  pub active : Bool
  pub batch : Option (List ℕ)
  pub prepares : ℕ → Option (List ℕ)
  pub commits : ℕ → Option (List ℕ)
  pub decided : Option (List ℕ)

abbrev reading : LogData → ℕ → Reading
reading m i = record { me = m.me; faults = m.faults; view = m.view; active = m.active; batch = logs.logged_batch m i; prepares = logs.prepare_of m i; commits = logs.commit_of m i; decided = cond (logs.is_in_marks m i) (logs.row_of m i).decided None }

abbrev asks_prepare : Reading → Option (List ℕ)
asks_prepare r = cond (r.active && not (r.me == r.view % (3 * r.faults + 1)) && is_none (r.prepares r.me)) (option_map sha256 r.batch) None

abbrev asks_commit : Reading → Option (List ℕ)
asks_commit r = cond (r.active && has_votes r.faults (2 * r.faults) r.prepares r.batch && is_none (r.commits r.me)) (option_map sha256 r.batch) None

abbrev has_committed : Reading → Option (List ℕ)
has_committed r = cond (has_votes r.faults (2 * r.faults) r.prepares r.batch && (has_votes r.faults (2 * r.faults + 1) r.commits r.batch && has_own r.me r.commits r.batch)) r.batch r.decided

prepare_read : (m : LogData) (i : ℕ) → logs.due_prepare m i ≡ asks_prepare (reading m i)
prepare_read m i = go (logs.is_in_marks m i)
  where
    go : (b : Bool) → cond (m.active && not (m.me == m.view % (3 * m.faults + 1)) && is_none (cond b (voted_digest (logs.row_of m i).prepares m.me) None)) (cond b (logs.digest_of (logs.row_of m i)) None) None
        ≡ cond (m.active && not (m.me == m.view % (3 * m.faults + 1)) && is_none (cond b (voted_digest (logs.row_of m i).prepares m.me) None)) (option_map sha256 (cond b (logs.row_of m i).batch None)) None
    go true = refl
    go false = refl

commit_read : (m : LogData) (i : ℕ) → logs.due_commit m i ≡ asks_commit (reading m i)
commit_read m i = go (logs.is_in_marks m i)
  where
    go : (b : Bool) → cond (m.active && (b && logs.is_row_prepared m.faults (logs.replicas m) (logs.row_of m i)) && is_none (cond b (voted_digest (logs.row_of m i).commits m.me) None)) (cond b (logs.digest_of (logs.row_of m i)) None) None
        ≡ cond (m.active && has_votes m.faults (2 * m.faults) (λ s. cond b (voted_digest (logs.row_of m i).prepares s) None) (cond b (logs.row_of m i).batch None) && is_none (cond b (voted_digest (logs.row_of m i).commits m.me) None))
        (option_map sha256 (cond b (logs.row_of m i).batch None)) None
    go true = refl
    go false = refl

committed_read : (m : LogData) (i : ℕ) → logs.committed_batch m i ≡ has_committed (reading m i)
committed_read m i = go (logs.is_in_marks m i)
  where
    both : (o : Option (List ℕ)) → option_map_or (logs.is_digest_committed m.faults (logs.replicas m) m.me (logs.row_of m i).commits) (option_map sha256 o) false
        ≡ (has_votes m.faults (2 * m.faults + 1) (voted_digest (logs.row_of m i).commits) o && has_own m.me (voted_digest (logs.row_of m i).commits) o)
    both None = refl
    both (Some batch) = refl

    go : (b : Bool) → cond b (cond (logs.is_row_committed m.faults (logs.replicas m) m.me (logs.row_of m i)) (logs.row_of m i).batch (logs.row_of m i).decided) None
        ≡ cond (has_votes m.faults (2 * m.faults) (λ s. cond b (voted_digest (logs.row_of m i).prepares s) None) (cond b (logs.row_of m i).batch None)
        && (has_votes m.faults (2 * m.faults + 1) (λ s. cond b (voted_digest (logs.row_of m i).commits s) None) (cond b (logs.row_of m i).batch None) && has_own m.me (λ s. cond b (voted_digest (logs.row_of m i).commits s) None) (cond b (logs.row_of m i).batch None)))
        (cond b (logs.row_of m i).batch None) (cond b (logs.row_of m i).decided None)
    go true = ap (λ (t : Bool). cond (logs.is_row_prepared m.faults (logs.replicas m) (logs.row_of m i) && t) (logs.row_of m i).batch (logs.row_of m i).decided) (both (logs.row_of m i).batch)
    go false = refl

-- ---- equal answers

record Alike (r t : Reading) : Type 0 where
  pub me : r.me ≡ t.me
  pub faults : r.faults ≡ t.faults
  pub view : r.view ≡ t.view
  pub active : r.active ≡ t.active
  pub batch : r.batch ≡ t.batch
  pub prepares : (s : ℕ) → r.prepares s ≡ t.prepares s
  pub commits : (s : ℕ) → r.commits s ≡ t.commits s
  pub decided : r.decided ≡ t.decided

votes_same : (faults needed : ℕ) (votes other : ℕ → Option (List ℕ)) (batch : Option (List ℕ)) → ((s : ℕ) → votes s ≡ other s) → has_votes faults needed votes batch ≡ has_votes faults needed other batch
votes_same faults needed votes other None same = refl
votes_same faults needed votes other (Some b) same = ap (nat_le needed) (count_same (λ s. has_digest (sha256 b) (votes s)) (λ s. has_digest (sha256 b) (other s)) (λ s. ap (has_digest (sha256 b)) (same s)) (3 * faults + 1))

own_same : (me : ℕ) (votes other : ℕ → Option (List ℕ)) (batch : Option (List ℕ)) → votes me ≡ other me → has_own me votes batch ≡ has_own me other batch
own_same me votes other None same = refl
own_same me votes other (Some b) same = ap (has_digest (sha256 b)) same

prepare_alike : (r t : Reading) → Alike r t → asks_prepare r ≡ asks_prepare t
prepare_alike r t a = rw (a.me, a.faults, a.view, a.active, a.batch, a.prepares t.me) refl

commit_alike : (r t : Reading) → Alike r t → asks_commit r ≡ asks_commit t
commit_alike r t a = rw (a.me, a.faults, a.active, a.batch, votes_same t.faults (2 * t.faults) r.prepares t.prepares t.batch a.prepares, a.commits t.me) refl

committed_alike : (r t : Reading) → Alike r t → has_committed r ≡ has_committed t
committed_alike r t a =
    rw (
      a.me,
      a.faults,
      a.batch,
      votes_same t.faults (2 * t.faults) r.prepares t.prepares t.batch a.prepares,
      votes_same t.faults (2 * t.faults + 1) r.commits t.commits t.batch a.commits,
      own_same t.me r.commits t.commits t.batch (a.commits t.me),
      a.decided,
    )
    refl

-- no answers
none_asked : (r : Reading) → r.batch ≡ None → r.decided ≡ None → (asks_prepare r ≡ None) × (asks_commit r ≡ None) × (has_committed r ≡ None)
none_asked r none known = (rw none (either_none (r.active && not (r.me == r.view % (3 * r.faults + 1)) && is_none (r.prepares r.me))), rw none (either_none (r.active && false && is_none (r.commits r.me))), rw (none, known) refl)
  where
    either_none : (b : Bool) → cond b (let o : Option (List ℕ) = None in o) None ≡ None
    either_none true = refl
    either_none false = refl

-- ---- a cut

pub cuts_ask_no_more : CutsAskNoMore
cuts_ask_no_more log h i is = (
  prepare_read new i ∙ go asks_prepare prepare_alike (λ r none known. (none_asked r none known).0) (logs.is_in_marks new i) refl ∙ ap (λ (o : Option (List ℕ)). cond (logs.is_in_marks new i) o None) (sym (prepare_read log i)),
  commit_read new i ∙ go asks_commit commit_alike (λ r none known. (none_asked r none known).1) (logs.is_in_marks new i) refl ∙ ap (λ (o : Option (List ℕ)). cond (logs.is_in_marks new i) o None) (sym (commit_read log i)),
  committed_read new i ∙ go has_committed committed_alike (λ r none known. (none_asked r none known).2) (logs.is_in_marks new i) refl ∙ ap (λ (o : Option (List ℕ)). cond (logs.is_in_marks new i) o None) (sym (committed_read log i)),
)
  where
    new : LogData
    new = logs.cut_to log h

    alike : logs.is_in_marks (logs.cut_to log h) i ≡ true → Alike (reading (logs.cut_to log h) i) (reading log i)
    alike e = record {
      me = cut_same (λ m. m.me) (λ m k rows. refl) log h;
      faults = cut_same (λ m. m.faults) (λ m k rows. refl) log h;
      view = cut_same (λ m. m.view) (λ m k rows. refl) log h;
      active = cut_same (λ m. m.active) (λ m k rows. refl) log h;
      batch = (cuts_keep log h i i is).0 ∙ ap (λ (b : Bool). cond b (logs.logged_batch log i) None) e;
      prepares = λ s. (cuts_keep log h i s is).1 ∙ ap (λ (b : Bool). cond b (logs.prepare_of log i s) None) e;
      commits = λ s. (cuts_keep log h i s is).2 ∙ ap (λ (b : Bool). cond b (logs.commit_of log i s) None) e;
      decided = ap (λ (b : Bool). cond b (logs.row_of (logs.cut_to log h) i).decided None) e ∙ (cuts_keep log h i i is).3 e;
    }

    go : (of : Reading → Option (List ℕ)) → ((r t : Reading) → Alike r t → of r ≡ of t) → ((r : Reading) → r.batch ≡ None → r.decided ≡ None → of r ≡ None) → (b : Bool) → logs.is_in_marks (logs.cut_to log h) i ≡ b
        → of (reading (logs.cut_to log h) i) ≡ cond b (of (reading log i)) None
    go of same none true e = same (reading (logs.cut_to log h) i) (reading log i) (alike e)
    go of same none false e = none (reading (logs.cut_to log h) i) ((cuts_keep log h i i is).0 ∙ ap (λ (b : Bool). cond b (logs.logged_batch log i) None) e) (ap (λ (b : Bool). cond b (logs.row_of (logs.cut_to log h) i).decided None) e)
