-- The replica's own votes for logged batches: it sent them if the log asks for none, and no entry makes the history
-- forget them.
use Rattle.std.proofs.Common.{◌≡◌, ◌≢◌, ℕ, ◌*◌, ◌≤◌, ◌<◌, ◌⊎◌, inl, inr, Bool, true, false, cond, ◌&&◌, not, List, ◌∷◌, refl, sym, ap, ◌∙◌, subst, Option, Some, None, is_none}
use Rattle.std.specs.Prelude.{◌==◌}
use Rattle.std.proofs.lemmas.Bool.{and_from, ne_eqb}
use Rattle.sha2.specs.Sha256.{sha256}
use Rattle.quorum.specs.Votes.{has_digest}
use Rattle.quorum.proofs.Counting.{count_same}
use Rattle.ordering.specs.Log as logs
use Rattle.ordering.specs.Log.{LogData}
use Rattle.ordering.proofs.Reading.{above_low}
use Rattle.protocol.specs.System.Configuration.{Configuration, primary, replicas}
use Rattle.protocol.specs.System.Trace.{Entry}
use Rattle.protocol.specs.Replica.Certificates.{logged, prepare_of, commit_of, Prepared}
use Rattle.protocol.proofs.Agreement.Executing.{commit_stays}
use Rattle.replica_histories.specs.Logs.{FitsLog, IsVoted}
use Rattle.replica_histories.proofs.Words.{given_not, primary_same, digest_read}
use Rattle.replica_histories.proofs.Certified.{PreparedIn, prepared_there, prepared_is}

-- a vote that is not due is there, if there is a digest and the rest of the test passes
voted : (b : Bool) (own digest : Option (List ℕ)) (d : List ℕ) → cond (b && is_none own) digest None ≡ None → b ≡ true → digest ≡ Some d → (x : List ℕ) × (own ≡ Some x)
voted b None digest d h e k = absurd (given_not digest d k (sym (ap (λ (t : Bool). cond (t && true) digest None) e) ∙ h))
voted b (Some x) digest d h e k = (x, refl)

module _ (c : Configuration) (me : ℕ) (log : LogData) (past : List Entry) (f : FitsLog c me log past) (i : ℕ) (batch : List ℕ) where
  own_prepare : log.active ≡ true → logs.due_prepare log i ≡ None → primary c log.view ≢ me → logs.is_in_marks log i ≡ true → logs.logged_batch log i ≡ Some batch → (d : List ℕ) × (prepare_of c me past log.view i me ≡ Some d)
  own_prepare is none backup k h =
      let other : (log.me == logs.primary log log.view) ≡ false = ne_eqb log.me (logs.primary log log.view) (λ e. backup (sym (primary_same c log log.view f.faults) ∙ sym e ∙ f.own)) in
      let v = voted (log.active && not (log.me == logs.primary log log.view)) (logs.prepare_of log i log.me) (logs.logged_digest log i) (sha256 batch) none (and_from log.active (not (log.me == logs.primary log log.view)) is (ap not other)) (digest_read log i batch k h) in
      (v.0, f.prepares i me k ∙ ap (logs.prepare_of log i) (sym f.own) ∙ v.1)

  pub own_commit : log.active ≡ true → logs.due_commit log i ≡ None → PreparedIn log i batch → (d : List ℕ) × (commit_of c me past log.view i me ≡ Some d)
  own_commit is none p =
      let batch_is : logs.logged_batch log i ≡ Some batch = rw (p.within) p.row in
      let v = voted (log.active && logs.is_prepared log i) (logs.commit_of log i log.me) (logs.logged_digest log i) (sha256 batch) none (and_from log.active (logs.is_prepared log i) is (prepared_is log i batch p)) (digest_read log i batch p.within batch_is) in
      (v.0, f.commits i me p.within ∙ ap (logs.commit_of log i) (sym f.own) ∙ v.1)

  -- a logged batch has the replica's own votes, if the log asks for none there
  pub votes_said : log.active ≡ true → (log.low < i → (logs.due_prepare log i ≡ None) × (logs.due_commit log i ≡ None)) → logged c me past log.view i ≡ Some batch → IsVoted c me past log.view i batch
  votes_said is none h = go ((f.within log.view i batch h).marks refl)
    where
      go : (i ≤ log.low) ⊎ (logs.is_in_marks log i ≡ true) → IsVoted c me past log.view i batch
      go (inl k) = f.settled is i batch k h
      go (inr k) =
          let above = above_low log i k in
          record {
            prepare = λ backup. own_prepare is (none above).0 backup k (sym (f.batches i k) ∙ h);
            commit = λ p. own_commit is (none above).1 (prepared_there c me log past i batch f above p);
          }

-- They stay sent after an entry that brings no prepare there.
pub voted_goes : (c : Configuration) (me : ℕ) (e : Entry) (past : List Entry) (v i : ℕ) (batch : List ℕ) → logged c me past v i ≡ Some batch → ((s : ℕ) → prepare_of c me (e ∷ past) v i s ≡ prepare_of c me past v i s)
    → IsVoted c me past v i batch → IsVoted c me (e ∷ past) v i batch
voted_goes c me e past v i batch logs_it same h = record {
  prepare = λ backup. let p = h.prepare backup in (p.0, same me ∙ p.1);
  commit = λ p. let k = h.commit (was p) in (k.0, commit_stays c me v i me k.0 e past k.1);
}
  where
    was : Prepared c me (e ∷ past) v i batch → Prepared c me past v i batch
    was p = record {
      logged = logs_it;
      backups = subst (λ (n : ℕ). 2 * c.faults ≤ n)
          (count_same (λ s. has_digest (sha256 batch) (prepare_of c me (e ∷ past) v i s)) (λ s. has_digest (sha256 batch) (prepare_of c me past v i s)) (λ s. ap (has_digest (sha256 batch)) (same s)) (replicas c)) p.backups;
    }
