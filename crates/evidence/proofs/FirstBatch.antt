-- The definitions accept the first batch of a view.
use Rattle.std.proofs.Common.{◌≡◌, ℕ, suc, ◌≤◌, Bool, true, false, cond, List, [], ◌∷◌, refl, ap, ◌∙◌, arith, Option, Some, None}
use Rattle.std.specs.Prelude.{option_and_then, ⊤}
use Rattle.std.proofs.lemmas.Slice.Eq.{bytes_eq-Decides}
use Rattle.sha2.specs.Sha256.{sha256}
use Rattle.quorum.specs.Quorum.{count_below}
use Rattle.quorum.specs.Votes.{has_digest, or_else}
use Rattle.protocol.specs.System.Configuration.{Configuration, members}
use Rattle.wire_format.specs.Messages.{BodyData as Body, MessageData as Message, AuthenticatorData as Authenticator, macs, signature, pre_prepare as PrePrepare, prepare as Prepare, commit as Commit}
use Rattle.signing.specs.AuthenticBody.{authentic}
use Rattle.wire_format.specs.Words.{receivers_of}
use Rattle.protocol.specs.System.Trace.{Entry}
use Rattle.protocol.specs.System.Trace.Entry.{Got, Executed, Sent}
use Rattle.protocol.specs.Replica.Certificates.{view, target, low, taken, is_active_in, counts_at, logged, prepare_of, prepare_from, commit_of, commit_from, vote_in, first_given, Prepared, Committed, is_in_marks, assigned_batch, assigned_proposal, entry_proposal}
use Rattle.protocol.specs.Replica.RightReplica.{others, IsFor, IsAddressed, Point, first_point, HistoryReaches, SafeReplica, MaySend, executed_point, waiting_after}
use Rattle.evidence.specs.Examples.{four, IsFirstBatch, FirstBatchExecutes}
use Rattle.protocol.proofs.Agreement.Voting.{logged_stays}
use Rattle.protocol.proofs.Agreement.Commits.{prepare_stays, prepared_stays}
use Rattle.protocol.proofs.Agreement.Executing.{commit_stays}
use Rattle.protocol.proofs.Words.Plain.{Plain, heard_plain, said_plain, taken_none, plain_view, plain_target, plain_low}
use Rattle.protocol.proofs.Words.Outgoing.{unsigned_have_no_leaf}

pub same_digest : (d : List ℕ) → has_digest d (Some d) ≡ true
same_digest d = (bytes_eq-Decides d d).1 refl

two_of_four : (p : ℕ → Bool) → p 1 ≡ true → p 2 ≡ true → 2 ≤ count_below p 4
two_of_four p a b = go (p 0) (p 1) (p 2) (p 3) a b
  where
    go : (w x y z : Bool) → x ≡ true → y ≡ true
        → 2 ≤ cond z (suc (cond y (suc (cond x (suc (cond w 1 0)) (cond w 1 0))) (cond x (suc (cond w 1 0)) (cond w 1 0)))) (cond y (suc (cond x (suc (cond w 1 0)) (cond w 1 0))) (cond x (suc (cond w 1 0)) (cond w 1 0)))
    go true true true true e f = omega arith
    go true true true false e f = omega arith
    go false true true true e f = omega arith
    go false true true false e f = omega arith
    go w false y z e f = absurd cc
    go w true false z e f = absurd cc

three_of_four : (p : ℕ → Bool) → p 0 ≡ true → p 1 ≡ true → p 2 ≡ true → 3 ≤ count_below p 4
three_of_four p a b d = go (p 0) (p 1) (p 2) (p 3) a b d
  where
    go : (w x y z : Bool) → w ≡ true → x ≡ true → y ≡ true
        → 3 ≤ cond z (suc (cond y (suc (cond x (suc (cond w 1 0)) (cond w 1 0))) (cond x (suc (cond w 1 0)) (cond w 1 0)))) (cond y (suc (cond x (suc (cond w 1 0)) (cond w 1 0))) (cond x (suc (cond w 1 0)) (cond w 1 0)))
    go true true true true e f g = omega arith
    go true true true false e f g = omega arith
    go false x y z e f g = absurd cc
    go true false y z e f g = absurd cc
    go true true false z e f g = absurd cc

-- ---- a past of plain entries

abbrev pub AllPlain : Configuration → List Entry → Type 0
AllPlain c [] = Rattle.std.specs.Prelude.⊤
AllPlain c (e ∷ past) = Plain c past e × AllPlain c past

pub record Still (c : Configuration) (me : ℕ) (past : List Entry) : Type 0 where
  pub view_is : view c past ≡ 0
  pub target_is : target past ≡ 0
  pub low_is : low c me past ≡ 0

pub still : (c : Configuration) (me : ℕ) (xs : List Entry) → AllPlain c xs → Still c me xs
unfolding view low
still c me [] p = record { view_is = refl; target_is = refl; low_is = refl }
still c me (e ∷ past) p =
    let s = still c me past p.1 in
    record {
      view_is = plain_view c past e p.0 ∙ s.view_is;
      target_is = plain_target c past e p.0 ∙ s.target_is;
      low_is = plain_low c me past e p.0 ∙ s.low_is;
    }

module _ (clients : ℕ) (seed batch a b d e f g : List ℕ) (x : IsFirstBatch (four clients seed) batch a b d e f g) where
  abbrev c : Configuration
  c = four clients seed

  abbrev h1 : List Entry
  h1 = Got 1 a ∷ []

  abbrev h2 : List Entry
  h2 = Sent 1 b ∷ h1

  abbrev h3 : List Entry
  h3 = Got 1 d ∷ h2

  abbrev h4 : List Entry
  h4 = Sent 1 e ∷ h3

  abbrev h5 : List Entry
  h5 = Got 1 f ∷ h4

  abbrev h6 : List Entry
  h6 = Got 1 g ∷ h5

  plain1 : AllPlain c h1
  plain1 = (heard_plain c [] 1 a (record { sender = 0; message = PrePrepare 0 1 batch }) x.proposed tt, tt)

  plain2 : AllPlain c h2
  plain2 = (said_plain c h1 1 b (record { sender = 1; message = Prepare 0 1 (sha256 batch) }) x.prepares tt, plain1)

  plain3 : AllPlain c h3
  plain3 = (heard_plain c h2 1 d (record { sender = 2; message = Prepare 0 1 (sha256 batch) }) x.other_prepares tt, plain2)

  plain4 : AllPlain c h4
  plain4 = (said_plain c h3 1 e (record { sender = 1; message = Commit 0 1 (sha256 batch) }) x.commits tt, plain3)

  plain5 : AllPlain c h5
  plain5 = (heard_plain c h4 1 f (record { sender = 0; message = Commit 0 1 (sha256 batch) }) x.first_commits tt, plain4)

  -- in view 0, with the low mark 0, messages for number 1 count
  active : (past : List Entry) → AllPlain c past → is_active_in c past 0 ≡ true
  active past p = let s = still c 1 past p in rw (s.view_is, s.target_is) refl

  in_marks : (past : List Entry) → AllPlain c past → is_in_marks c (low c 1 past) 1 ≡ true
  in_marks past p = let s = still c 1 past p in rw s.low_is refl

  counts : (past : List Entry) (bytes : List ℕ) → AllPlain c past → counts_at c 1 past (Got 1 bytes) 0 1 ≡ true
  counts past bytes p = rw (active past p, in_marks past p) refl

  -- ---- the log

  logged1 : logged c 1 h1 0 1 ≡ Some batch
  unfolding logged
  logged1 = or_else_second (assigned_proposal c 1 [] (Got 1 a) 0 1) (entry_proposal c 1 [] (Got 1 a) 0 1) batch assigned entry
    where
      or_else_second : (o later : Option (List ℕ)) (y : List ℕ) → o ≡ None → later ≡ Some y → or_else o later ≡ Some y
      or_else_second None later y h k = k
      or_else_second (Some z) later y h k = absurd cc

      nothing_assigned : (m : Bool) → cond m (option_and_then (assigned_batch 0 1) (taken c [] (Got 1 a))) None ≡ None
      nothing_assigned true = ap (option_and_then (assigned_batch 0 1)) (taken_none c [] (Got 1 a) plain1.0)
      nothing_assigned false = refl

      assigned : assigned_proposal c 1 [] (Got 1 a) 0 1 ≡ None
      assigned = nothing_assigned (is_in_marks c (low c 1 (Got 1 a ∷ [])) 1)

      entry : entry_proposal c 1 [] (Got 1 a) 0 1 ≡ Some batch
      entry = rw (counts [] a tt) (rw x.proposed (rw x.genuine refl))

  -- ---- votes

  abbrev emit : (Body → Option (List ℕ)) → List Entry → Entry → Option (List ℕ)
  emit vote past e = vote_in c 1 past e vote 0 1

  vote_got : (vote : Body → Option (List ℕ)) (past : List Entry) (bytes : List ℕ) (body : Body) → AllPlain c past → authentic (members c 1) 1 bytes ≡ Some body → emit vote past (Got 1 bytes) ≡ vote body
  vote_got vote past bytes body p h = ap (λ (t : Bool). cond t (option_and_then vote (authentic (members c 1) 1 bytes)) None) (counts past bytes p) ∙ ap (option_and_then vote) h

  then : (vote : Body → Option (List ℕ)) (past : List Entry) (e : Entry) (o : Option (List ℕ)) → first_given (emit vote) past ≡ None → emit vote past e ≡ o → first_given (emit vote) (e ∷ past) ≡ o
  then vote past e o none here = ap (λ (u : Option (List ℕ)). or_else u (emit vote past e)) none ∙ here

  at1 : (vote : Body → Option (List ℕ)) → first_given (emit vote) h1 ≡ vote (record { sender = 0; message = PrePrepare 0 1 batch })
  at1 vote = then vote [] (Got 1 a) (vote (record { sender = 0; message = PrePrepare 0 1 batch })) refl (vote_got vote [] a (record { sender = 0; message = PrePrepare 0 1 batch }) tt x.proposed)

  at2 : (vote : Body → Option (List ℕ)) → first_given (emit vote) h1 ≡ None → first_given (emit vote) h2 ≡ vote (record { sender = 1; message = Prepare 0 1 (sha256 batch) })
  at2 vote none = then vote h1 (Sent 1 b) (vote (record { sender = 1; message = Prepare 0 1 (sha256 batch) })) none (ap (option_and_then vote) x.prepares)

  at3 : (vote : Body → Option (List ℕ)) → first_given (emit vote) h2 ≡ None → first_given (emit vote) h3 ≡ vote (record { sender = 2; message = Prepare 0 1 (sha256 batch) })
  at3 vote none = then vote h2 (Got 1 d) (vote (record { sender = 2; message = Prepare 0 1 (sha256 batch) })) none (vote_got vote h2 d (record { sender = 2; message = Prepare 0 1 (sha256 batch) }) plain2 x.other_prepares)

  at4 : (vote : Body → Option (List ℕ)) → first_given (emit vote) h3 ≡ None → first_given (emit vote) h4 ≡ vote (record { sender = 1; message = Commit 0 1 (sha256 batch) })
  at4 vote none = then vote h3 (Sent 1 e) (vote (record { sender = 1; message = Commit 0 1 (sha256 batch) })) none (ap (option_and_then vote) x.commits)

  at5 : (vote : Body → Option (List ℕ)) → first_given (emit vote) h4 ≡ None → first_given (emit vote) h5 ≡ vote (record { sender = 0; message = Commit 0 1 (sha256 batch) })
  at5 vote none = then vote h4 (Got 1 f) (vote (record { sender = 0; message = Commit 0 1 (sha256 batch) })) none (vote_got vote h4 f (record { sender = 0; message = Commit 0 1 (sha256 batch) }) plain4 x.first_commits)

  at6 : (vote : Body → Option (List ℕ)) → first_given (emit vote) h5 ≡ None → first_given (emit vote) h6 ≡ vote (record { sender = 2; message = Commit 0 1 (sha256 batch) })
  at6 vote none = then vote h5 (Got 1 g) (vote (record { sender = 2; message = Commit 0 1 (sha256 batch) })) none (vote_got vote h5 g (record { sender = 2; message = Commit 0 1 (sha256 batch) }) plain5 x.second_commits)

  -- ---- the prepares

  own_prepare : prepare_of c 1 h2 0 1 1 ≡ Some (sha256 batch)
  unfolding prepare_of
  own_prepare = at2 (prepare_from c 1 0 1) (at1 (prepare_from c 1 0 1))

  other_prepare : prepare_of c 1 h3 0 1 2 ≡ Some (sha256 batch)
  unfolding prepare_of
  other_prepare = at3 (prepare_from c 2 0 1) (at2 (prepare_from c 2 0 1) (at1 (prepare_from c 2 0 1)))

  prepared : Prepared c 1 h3 0 1 batch
  prepared = record {
    logged = logged_stays c 1 0 1 batch (Got 1 d) h2 (logged_stays c 1 0 1 batch (Sent 1 b) h1 logged1);
    backups = two_of_four (λ s. has_digest (sha256 batch) (prepare_of c 1 h3 0 1 s))
        (ap (has_digest (sha256 batch)) (prepare_stays c 1 0 1 1 (sha256 batch) (Got 1 d) h2 own_prepare) ∙ same_digest (sha256 batch))
        (ap (has_digest (sha256 batch)) other_prepare ∙ same_digest (sha256 batch));
  }

  -- ---- the commits

  no_commits : (s : ℕ) → first_given (emit (commit_from s 0 1)) h3 ≡ None
  no_commits s = at3 (commit_from s 0 1) (at2 (commit_from s 0 1) (at1 (commit_from s 0 1)))

  own_commit : commit_of c 1 h4 0 1 1 ≡ Some (sha256 batch)
  unfolding commit_of
  own_commit = at4 (commit_from 1 0 1) (no_commits 1)

  first_commit : commit_of c 1 h5 0 1 0 ≡ Some (sha256 batch)
  unfolding commit_of
  first_commit = at5 (commit_from 0 0 1) (at4 (commit_from 0 0 1) (no_commits 0))

  second_commit : commit_of c 1 h6 0 1 2 ≡ Some (sha256 batch)
  unfolding commit_of
  second_commit = at6 (commit_from 2 0 1) (at5 (commit_from 2 0 1) (at4 (commit_from 2 0 1) (no_commits 2)))

  committed : Committed c 1 h6 0 1 batch
  committed = record {
    prepared = prepared_stays c 1 0 1 batch (Got 1 g) h5 (prepared_stays c 1 0 1 batch (Got 1 f) h4 (prepared_stays c 1 0 1 batch (Sent 1 e) h3 prepared));
    commits = three_of_four (λ s. has_digest (sha256 batch) (commit_of c 1 h6 0 1 s))
        (ap (has_digest (sha256 batch)) (commit_stays c 1 0 1 0 (sha256 batch) (Got 1 g) h5 first_commit) ∙ same_digest (sha256 batch))
        (ap (has_digest (sha256 batch)) own ∙ same_digest (sha256 batch))
        (ap (has_digest (sha256 batch)) second_commit ∙ same_digest (sha256 batch));
    own = own;
  }
    where
      own : commit_of c 1 h6 0 1 1 ≡ Some (sha256 batch)
      own = commit_stays c 1 0 1 1 (sha256 batch) (Got 1 g) h5 (commit_stays c 1 0 1 1 (sha256 batch) (Got 1 f) h4 own_commit)

  -- ---- the history

  got : Point → List ℕ → Point
  got point bytes = record point { ran = []; waiting = waiting_after c 1 point bytes }

  for_others : (past : List Entry) (message : Message) (authenticator : Authenticator) → ((rs : List ℕ) → rs ≡ others c 1 → IsFor c 1 past message rs) → receivers_of authenticator ≡ others c 1 → IsAddressed c 1 past message authenticator
  for_others past message (macs entries) to e = to (receivers_of (macs entries)) e
  for_others past message (signature s) to e = tt

  may_prepare : (point : Point) → MaySend c 1 h1 point (Sent 1 b) b
  may_prepare point = record {
    body = record { sender = 1; message = Prepare 0 1 (sha256 batch) };
    says = x.prepares;
    own = refl;
    seen = tt;
    allowed = record { is_backup = λ z. cc; active = active h1 plain1; batch = batch; is_logged = logged1; digest_is = refl };
    is_sealed = λ frame is. let s = x.prepare_sealed frame is in (s.0, for_others h1 (Prepare 0 1 (sha256 batch)) frame.authenticator (λ rs e. e) s.1);
    leaf = unsigned_have_no_leaf (h1) b (record { sender = 1; message = Prepare 0 1 (sha256 batch) }) (x.prepares) refl;
    once = λ sent. sent;
  }

  may_commit : (point : Point) → MaySend c 1 h3 point (Sent 1 e) e
  may_commit point = record {
    body = record { sender = 1; message = Commit 0 1 (sha256 batch) };
    says = x.commits;
    own = refl;
    seen = tt;
    allowed = record { active = active h3 plain3; batch = batch; prepared = prepared; digest_is = refl };
    is_sealed = λ frame is. let s = x.commit_sealed frame is in (s.0, for_others h3 (Commit 0 1 (sha256 batch)) frame.authenticator (λ rs e. e) s.1);
    leaf = unsigned_have_no_leaf (h3) e (record { sender = 1; message = Commit 0 1 (sha256 batch) }) (x.commits) refl;
    once = λ sent. sent;
  }

  abbrev p1 : Point
  p1 = record first_point { ran = []; waiting = waiting_after c 1 first_point a }

  abbrev p3 : Point
  p3 = record p1 { ran = []; waiting = waiting_after c 1 p1 d }

  abbrev p5 : Point
  p5 = record p3 { ran = []; waiting = waiting_after c 1 p3 f }

  abbrev p6 : Point
  p6 = record p5 { ran = []; waiting = waiting_after c 1 p5 g }

  leaves1 : HistoryReaches c 1 h1 p1
  leaves1 = (first_point, refl, record { own = refl; may = tt; moves = refl })

  leaves3 : HistoryReaches c 1 h3 p3
  leaves3 = (p1, (p1, leaves1, record { own = refl; may = may_prepare p1; moves = refl }), record { own = refl; may = tt; moves = refl })

  leaves6 : HistoryReaches c 1 h6 p6
  leaves6 = (p5, (p3, (p3, leaves3, record { own = refl; may = may_commit p3; moves = refl }), record { own = refl; may = tt; moves = refl }), record { own = refl; may = tt; moves = refl })

  pub executes : Committed c 1 h6 0 1 batch × SafeReplica c 1 (Executed 1 1 batch ∷ h6)
  executes =
      (committed, (executed_point c p6 1 batch, (p6, leaves6, record { own = refl; may = record { next = refl; in_view = 0; committed = committed }; moves = refl })))

pub first_batch_executes : FirstBatchExecutes
first_batch_executes clients seed batch a b d e f g x = executes clients seed batch a b d e f g x
