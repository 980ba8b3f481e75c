-- The history keeps the sets P and Q of a replica, and they are the lists of a view change.
use Rattle.std.proofs.Common.{◌≡◌, ℕ, ◌+◌, ◌≤◌, ◌<◌, ◌^◌, ◌⊎◌, inl, inr, Bool, true, false, length, List, ◌∷◌, Some, None, refl, sym, ap, ◌∙◌, subst, arith}
use Rattle.std.specs.Prelude.{nat_lt, nat_le, ◌&&◌}
use Rattle.std.proofs.lemmas.Bool.{and_parts, and_from, ltb-true, ltb-false, lt-ltb, leb-true, le-leb}
use Rattle.sha2.proofs.Facts256.{length-sha256}
use Rattle.ordering.specs.Log as logs
use Rattle.ordering.specs.Log.{LogData}
use Rattle.ordering.proofs.Reading.{above_low}
use Rattle.protocol.specs.System.Configuration.{Configuration, span}
use Rattle.protocol.specs.System.Trace.{Entry, Has}
use Rattle.protocol.specs.Replica.Certificates.{low, is_in_marks, logged, commit_of, Prepared}
use Rattle.protocol.specs.Replica.RightReplica.{Point, HistoryReaches}
use Rattle.protocol.proofs.Words.Elements.{each_has, each_where}
use Rattle.protocol.proofs.Agreement.Marks.{low_grows}
use Rattle.protocol.proofs.Agreement.Voting.{logged_stays}
use Rattle.pq_sets.specs.Recording.{IsPreparedAs, IsLoggedAs, AreDigests, MovesUp, IsLatest, IsEach, RecordsPrepared}
use Rattle.pq_sets.proofs.Keeping.{latest_is_recorded, each_is_recorded, records_are_lists, logged_digests}
use Rattle.replica_histories.specs.Logs.{FitsLog}
use Rattle.replica_histories.specs.PqSets.{SentCommit, WasLogged, PqSetsBegin, PqSetsGrow, PqSetsAreLists}
use Rattle.replica_histories.proofs.Words.{marks_are}
use Rattle.replica_histories.proofs.Certified.{prepared_there}
use Rattle.replica_histories.proofs.Settling.{own_commit}
use Rattle.replica_histories.proofs.Speaking.{Certified, commit_spoken, spoken_certified}

-- ---- at first

pub pq_sets_begin : PqSetsBegin
unfolding logged commit_of
pq_sets_begin c me = record {
  prepared = record { listed = λ pq_entry has. absurd has; all = λ v i digest inside h. absurd (let l = h in cc); ascending = tt };
  logged = record { listed = λ pq_entry has. absurd has; all = λ v i digest inside h. absurd (let l = h.1 in cc); ascending = tt };
  texts = tt;
}

-- ---- a replica's commit was of a prepared batch

certified : (c : Configuration) (me v i : ℕ) (digest : List ℕ) (history : List Entry) (point : Point) → HistoryReaches c me history point → SentCommit c me history v i digest → Certified c me v i digest history
certified c me v i digest history point leaves said = spoken_certified c me v i digest history point leaves (commit_spoken c me v i digest history point leaves said)

commit_digests : (c : Configuration) (me : ℕ) (history : List Entry) (point : Point) → HistoryReaches c me history point → AreDigests (SentCommit c me history)
commit_digests c me history point leaves v i digest said = let k = certified c me v i digest history point leaves said in ap length (sym k.digest_is) ∙ length-sha256 k.batch

-- ---- the marks move up

module _ (c : Configuration) (me : ℕ) (log : LogData) (past : List Entry) (e : Entry) (f : FitsLog c me log past) where
  ahead : (v i : ℕ) (batch : List ℕ) → logged c me past v i ≡ Some batch → (i ≤ low c me past + span c) × (i < 2 ^ 48)
  ahead v i batch h = let w = (f.within v i batch h).ahead in let at = w.0 in let l = f.low in let s = f.span in (omega arith, w.1)

  parts : (h i : ℕ) → is_in_marks c h i ≡ true → (h < i) × (i ≤ h + span c) × (i < 2 ^ 48)
  parts h i k =
      let a = and_parts (nat_lt h i && nat_le i (h + span c)) (nat_lt i (2 ^ 48)) k in
      let b = and_parts (nat_lt h i) (nat_le i (h + span c)) a.0 in
      (ltb-true h i b.0, leb-true i (h + span c) b.1, ltb-true i (2 ^ 48) a.1)

  inside : (h i : ℕ) → h < i → i ≤ h + span c → i < 2 ^ 48 → is_in_marks c h i ≡ true
  inside h i l m n = and_from (nat_lt h i && nat_le i (h + span c)) (nat_lt i (2 ^ 48)) (and_from (nat_lt h i) (nat_le i (h + span c)) (lt-ltb h i l) (le-leb i (h + span c) m)) (lt-ltb i (2 ^ 48) n)

  moves : (holds : ℕ → ℕ → List ℕ → Type 0) → ((v i : ℕ) (digest : List ℕ) → holds v i digest → (batch : List ℕ) × (logged c me past v i ≡ Some batch))
      → MovesUp holds (is_in_marks c (low c me past)) (is_in_marks c (low c me (e ∷ past))) (low c me (e ∷ past))
  moves holds logs_it =
      let grows = low_grows c me e past in
      record {
        above = λ i t. (parts (low c me (e ∷ past)) i t).0;
        ahead = λ v i digest t h. let m = (parts (low c me (e ∷ past)) i t).0 in let b = logs_it v i digest h in let a = ahead v i b.0 b.1 in inside (low c me past) i (omega arith) a.0 a.1;
        still = λ i t l. let m = parts (low c me past) i t in let n = m.1 in inside (low c me (e ∷ past)) i l (omega arith) m.2;
      }

pub pq_sets_grow : PqSetsGrow
pq_sets_grow c me log past e old new pq_sets after commits batches f leaves later committed logs_it grows texts fits = record {
  prepared = subst (IsLatest (SentCommit c me (e ∷ past)) (is_in_marks c (low c me (e ∷ past)))) (sym grows.prepared)
      (latest_is_recorded (SentCommit c me past) (SentCommit c me (e ∷ past)) (is_in_marks c (low c me past)) (is_in_marks c (low c me (e ∷ past))) (low c me (e ∷ past)) pq_sets.prepared commits
      (commit_digests c me past old leaves) (commit_digests c me (e ∷ past) new later)
      (moves c me log past e f (SentCommit c me past) (λ v i digest h. let k = certified c me v i digest past old leaves h in (k.batch, k.prepared.logged))) fits.prepared committed);
  logged = subst (IsEach (IsLoggedAs c me (e ∷ past)) (is_in_marks c (low c me (e ∷ past)))) (sym grows.logged)
      (each_is_recorded (IsLoggedAs c me past) (IsLoggedAs c me (e ∷ past)) (is_in_marks c (low c me past)) (is_in_marks c (low c me (e ∷ past))) (low c me (e ∷ past)) pq_sets.logged batches
      (logged_digests c me past) (logged_digests c me (e ∷ past)) (moves c me log past e f (IsLoggedAs c me past) (λ v i digest h. (h.0, h.1))) fits.logged logs_it);
  texts = each_where (WasLogged c me (e ∷ past)) after.texts (λ text has. was text (texts text has));
}
  where
    was : (text : List ℕ) → Has (λ x. x ≡ text) pq_sets.texts ⊎ WasLogged c me (e ∷ past) text → WasLogged c me (e ∷ past) text
    was text (inl h) = let w = each_has (WasLogged c me past) pq_sets.texts text fits.texts h in (w.0, w.1, logged_stays c me w.0 w.1 text e past w.2)
    was text (inr h) = h

-- ---- a prepared batch has the replica's own commit, if the log asks for none

pub prepared_said : (c : Configuration) (me : ℕ) (log : LogData) (history : List Entry) (v i : ℕ) (batch : List ℕ) → FitsLog c me log history → ((j : ℕ) → logs.due_commit log j ≡ None) → logs.is_in_marks log i ≡ true
    → Prepared c me history v i batch → (digest : List ℕ) × SentCommit c me history v i digest
prepared_said c me log history v i batch f none w p = go (nat_lt v log.view) refl
  where
    own : v ≡ log.view → (b : Bool) → log.active ≡ b → (digest : List ℕ) × SentCommit c me history v i digest
    own same true a =
        subst (λ (x : ℕ). (digest : List ℕ) × SentCommit c me history x i digest) (sym same)
        (own_commit c me log history f i batch a (none i) (prepared_there c me log history i batch f (above_low log i w) (subst (λ (x : ℕ). Prepared c me history x i batch) same p)))
    own same false a = f.views.voted v i batch w (inr a) p

    go : (b : Bool) → nat_lt v log.view ≡ b → (digest : List ℕ) × SentCommit c me history v i digest
    go true h = f.views.voted v i batch w (inl (ltb-true v log.view h)) p
    go false h = let most = (f.within v i batch p.logged).view in let least = ltb-false v log.view h in own (omega arith) log.active refl

pub pq_sets_are_lists : PqSetsAreLists
pq_sets_are_lists c me log history point pq_sets f leaves none fits = records_are_lists c me history pq_sets.prepared pq_sets.logged prepared fits.logged
  where
    said : (v i : ℕ) (digest : List ℕ) → is_in_marks c (low c me history) i ≡ true → IsPreparedAs c me history v i digest → (d : List ℕ) × SentCommit c me history v i d
    said v i digest w h = prepared_said c me log history v i h.0 f none (sym (marks_are c me log history i f) ∙ w) h.1

    as_prepared : (v i : ℕ) (digest : List ℕ) → SentCommit c me history v i digest → IsPreparedAs c me history v i digest
    as_prepared v i digest h = let k = certified c me v i digest history point leaves h in (k.batch, k.prepared, k.digest_is)

    prepared : RecordsPrepared c me history pq_sets.prepared
    prepared = record {
      listed = λ pq_entry has.
          let l = fits.prepared.listed pq_entry has in
          (as_prepared pq_entry.view pq_entry.number pq_entry.digest l.0, l.1, λ v digest less h. let d = said v pq_entry.number digest l.1 h in l.2 v d.0 less d.1);
      all = λ v i digest w h. let d = said v i digest w h in fits.prepared.all v i d.0 w d.1;
      ascending = fits.prepared.ascending;
    }
