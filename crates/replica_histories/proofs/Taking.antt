-- How a change of a log takes a message, and which messages change nothing.
use Rattle.std.proofs.Common.{◌≡◌, ℕ, ◌<◌, Bool, true, false, cond, not, ◌&&◌, List, refl, sym, ap, ◌∙◌, subst, Option, Some, None, eqb-true, eq-eqb}
use Rattle.std.specs.Prelude.{◌==◌, option_and_then}
use Rattle.std.specs.Bool.{then_some}
use Rattle.quorum.specs.Votes.{or_else}
use Rattle.wire_format.specs.Messages.{BodyData as Body, pre_prepare as PrePrepare, prepare as Prepare, commit as Commit}
use Rattle.ordering.specs.declared.votes.Phase.TheVariants as phases
use Rattle.ordering.specs.declared.votes.Vote.{Vote}
use Rattle.ordering.specs.Log as logs
use Rattle.ordering.specs.Log.{LogData}
use Rattle.ordering.specs.Keeping.{IsLog}
use Rattle.ordering.proofs.Keeping.{in_span, batch_kept, vote_kept}
use Rattle.ordering.proofs.Reading.{batches_are_logged, prepares_count, commits_count}
use Rattle.protocol.specs.System.Configuration.{Configuration, primary}
use Rattle.protocol.specs.Replica.Certificates.{are_genuine, checkpoint_from, with_checkpoint, batch_from, prepare_from, commit_from}
use Rattle.protocol.proofs.Words.Options.{or_else_alone}
use Rattle.replica_histories.specs.Logs.{checkpoints_above, LogStays, while_active, LogTakesBody}

-- ---- messages that change nothing

pub stays_itself : (log : LogData) → IsLog log → LogStays log log
stays_itself log is = record { is_log = is; me = refl; faults = refl; span = refl; view = refl; active = refl; low = refl; checkpoints = refl }

-- a body that adds nothing to the log's answers, while the replica is active
pub takes_no_more : (c : Configuration) (me : ℕ) (said : Option Body) (log : LogData) → IsLog log
    → ((i : ℕ) → log.active ≡ true → logs.is_in_marks log i ≡ true → logs.logged_batch log i ≡ None → option_and_then (batch_from c me log.view i) said ≡ None)
    → ((i s : ℕ) → log.active ≡ true → logs.is_in_marks log i ≡ true → logs.prepare_of log i s ≡ None → option_and_then (prepare_from c s log.view i) said ≡ None)
    → ((i s : ℕ) → log.active ≡ true → logs.is_in_marks log i ≡ true → logs.commit_of log i s ≡ None → option_and_then (commit_from s log.view i) said ≡ None)
    → ((s : ℕ) → checkpoints_above log.low (with_checkpoint s (option_and_then checkpoint_from said) (logs.checkpoints_of log s)) ≡ checkpoints_above log.low (logs.checkpoints_of log s))
    → LogTakesBody c me said log log
takes_no_more c me said log is batch prepare commit checkpoint = record {
  stays = stays_itself log is;
  batch = λ i k. keeps (logs.logged_batch log i) (option_and_then (batch_from c me log.view i) said) log.active refl (λ a. batch i a k);
  prepare = λ i s k. keeps (logs.prepare_of log i s) (option_and_then (prepare_from c s log.view i) said) log.active refl (λ a. prepare i s a k);
  commit = λ i s k. keeps (logs.commit_of log i s) (option_and_then (commit_from s log.view i) said) log.active refl (λ a. commit i s a k);
  decided = λ i k. refl;
  checkpoint = checkpoint;
}
  where
    keeps : (o later : Option (List ℕ)) (b : Bool) → log.active ≡ b → (log.active ≡ true → o ≡ None → later ≡ None) → o ≡ or_else o (cond b later None)
    keeps None later true is h = sym (h is refl)
    keeps None later false is h = refl
    keeps (Some x) later b is h = refl

-- a body that adds nothing to the log's answers
pub takes_nothing : (c : Configuration) (me : ℕ) (said : Option Body) (log : LogData) → IsLog log
    → ((i : ℕ) → logs.is_in_marks log i ≡ true → logs.logged_batch log i ≡ None → option_and_then (batch_from c me log.view i) said ≡ None)
    → ((i s : ℕ) → logs.is_in_marks log i ≡ true → logs.prepare_of log i s ≡ None → option_and_then (prepare_from c s log.view i) said ≡ None)
    → ((i s : ℕ) → logs.is_in_marks log i ≡ true → logs.commit_of log i s ≡ None → option_and_then (commit_from s log.view i) said ≡ None)
    → ((s : ℕ) → checkpoints_above log.low (with_checkpoint s (option_and_then checkpoint_from said) (logs.checkpoints_of log s)) ≡ checkpoints_above log.low (logs.checkpoints_of log s))
    → LogTakesBody c me said log log
takes_nothing c me said log is batch prepare commit checkpoint = takes_no_more c me said log is (λ i a k h. batch i k h) (λ i s a k h. prepare i s k h) (λ i s a k h. commit i s k h) checkpoint

-- a body for one place alone, which is taken, adds nothing
pub none_there : (o added : Option (List ℕ)) (test : Bool) (x : List ℕ) → added ≡ then_some test x → o ≡ None → (test ≡ true → o ≡ None → ⊥) → added ≡ None
none_there o added true x is none there = absurd (there refl none)
none_there o added false x is none there = is

-- ---- tests

-- a test whose other parts pass if its first does
passing : (a x y z : Bool) → x ≡ true → y ≡ true → (a ≡ true → z ≡ true) → (a && x && y && z) ≡ a
passing true x y z e f g = rw (e, f, g refl) refl
passing false x y z e f g = refl

passing_two : (a x y : Bool) → x ≡ true → y ≡ true → (a && x && y) ≡ a
passing_two true x y e f = rw (e, f) refl
passing_two false x y e f = refl

pub failing : (a x y z : Bool) → y ≡ false → (a && x && y && z) ≡ false
failing true true y z e = rw e refl
failing true false y z e = refl
failing false x y z e = refl

pub failing_two : (a x y : Bool) → y ≡ false → (a && x && y) ≡ false
failing_two true true y e = e
failing_two true false y e = refl
failing_two false x y e = refl

-- numbers are compared both ways
turned : (a b : ℕ) (t : Bool) → (a == b) ≡ t → (b == a) ≡ t
turned a b true e = eq-eqb b a (sym (eqb-true a b e))
turned a b false e = go (b == a) refl
  where
    go : (t : Bool) → (b == a) ≡ t → t ≡ false
    go false k = refl
    go true k = sym (eq-eqb a b (sym (eqb-true b a k))) ∙ e

-- the answer at one number, by a test that passes there and nowhere else
at_number : (i j : ℕ) (old new added : Option (List ℕ)) (test : Bool) (x : List ℕ) → new ≡ cond (j == i) (or_else old added) old
    → ((j == i) ≡ true → then_some test x ≡ added) → ((j == i) ≡ false → test ≡ false) → new ≡ or_else old (then_some test x)
at_number i j old new added test x reads here elsewhere = go (j == i) refl reads
  where
    go : (b : Bool) → (j == i) ≡ b → new ≡ cond b (or_else old added) old → new ≡ or_else old (then_some test x)
    go true e h = h ∙ ap (or_else old) (sym (here e))
    go false e h = h ∙ sym (or_else_alone old (then_some test x) (ap (λ (b : Bool). then_some b x) (elsewhere e)))

-- a message that counts while the replica is active
active_adds : (log : LogData) (old added new : Option (List ℕ)) → log.active ≡ true → new ≡ or_else old added → new ≡ or_else old (while_active log added)
active_adds log old added new is h = h ∙ ap (λ (b : Bool). or_else old (cond b added None)) (sym is)

-- a message of another kind adds nothing
adds_none : (log : LogData) (old new : Option (List ℕ)) → new ≡ old → new ≡ or_else old (while_active log None)
adds_none log old new h = h ∙ sym (or_else_alone old (while_active log None) (go log.active))
  where
    go : (b : Bool) → cond b (let o : Option (List ℕ) = None in o) None ≡ None
    go true = refl
    go false = refl

-- ---- a prepare

pub prepare_taken : (c : Configuration) (me s i : ℕ) (digest : List ℕ) (vote : Vote) (log : LogData) → IsLog log → log.active ≡ true → logs.is_in_marks log i ≡ true → s < logs.replicas log → not (s == primary c log.view) ≡ true
    → vote.sender.0 ≡ s → vote.digest ≡ digest → LogTakesBody c me (Some (record { sender = s; message = Prepare log.view i digest })) log (logs.with_prepare log i vote)
prepare_taken c me s i digest vote log is active within known backup sender same = record {
  stays = record {
    is_log = vote_kept phases.Prepare log (logs.place log i) vote _ (in_span log i within) is (subst (λ (x : ℕ). x < logs.replicas log) (sym sender) known) refl;
    me = refl;
    faults = refl;
    span = refl;
    view = refl;
    active = refl;
    low = refl;
    checkpoints = refl;
  };
  batch = λ j k. adds_none log (logs.logged_batch log j) (logs.logged_batch (logs.with_prepare log i vote) j) (prepares_count log j i s vote is within).0;
  prepare = λ j x k. active_adds log (logs.prepare_of log j x) (prepare_from c x log.view j (record { sender = s; message = Prepare log.view i digest })) (logs.prepare_of (logs.with_prepare log i vote) j x) active
      (at_number i j (logs.prepare_of log j x) (logs.prepare_of (logs.with_prepare log i vote) j x) (then_some (vote.sender.0 == x) vote.digest)
      ((s == x) && (log.view == log.view) && (i == j) && not (x == primary c log.view)) digest ((prepares_count log j i x vote is within).1)
      (λ e. ap (λ (b : Bool). then_some b digest) (passing (s == x) (log.view == log.view) (i == j) (not (x == primary c log.view)) (eq-eqb log.view log.view refl) (turned j i true e)
      (λ from. subst (λ (y : ℕ). not (y == primary c log.view) ≡ true) (eqb-true s x from) backup)) ∙ cast x)
      (λ e. failing (s == x) (log.view == log.view) (i == j) (not (x == primary c log.view)) (turned j i false e)));
  commit = λ j x k. adds_none log (logs.commit_of log j x) (logs.commit_of (logs.with_prepare log i vote) j x) (prepares_count log j i x vote is within).2;
  decided = λ j k. (prepares_count log j i s vote is within).3 k;
  checkpoint = λ x. refl;
}
  where
    cast : (x : ℕ) → then_some (s == x) digest ≡ then_some (vote.sender.0 == x) vote.digest
    cast x = rw (sender, same) refl

-- ---- a commit

pub commit_taken : (c : Configuration) (me s i : ℕ) (digest : List ℕ) (vote : Vote) (log : LogData) → IsLog log → log.active ≡ true → logs.is_in_marks log i ≡ true → s < logs.replicas log
    → vote.sender.0 ≡ s → vote.digest ≡ digest → LogTakesBody c me (Some (record { sender = s; message = Commit log.view i digest })) log (logs.with_commit log i vote)
commit_taken c me s i digest vote log is active within known sender same = record {
  stays = record {
    is_log = vote_kept phases.Commit log (logs.place log i) vote _ (in_span log i within) is (subst (λ (x : ℕ). x < logs.replicas log) (sym sender) known) refl;
    me = refl;
    faults = refl;
    span = refl;
    view = refl;
    active = refl;
    low = refl;
    checkpoints = refl;
  };
  batch = λ j k. adds_none log (logs.logged_batch log j) (logs.logged_batch (logs.with_commit log i vote) j) (commits_count log j i s vote is within).0;
  prepare = λ j x k. adds_none log (logs.prepare_of log j x) (logs.prepare_of (logs.with_commit log i vote) j x) (commits_count log j i x vote is within).1;
  decided = λ j k. (commits_count log j i s vote is within).3 k;
  commit = λ j x k. active_adds log (logs.commit_of log j x) (commit_from x log.view j (record { sender = s; message = Commit log.view i digest })) (logs.commit_of (logs.with_commit log i vote) j x) active
      (at_number i j (logs.commit_of log j x) (logs.commit_of (logs.with_commit log i vote) j x) (then_some (vote.sender.0 == x) vote.digest)
      ((s == x) && (log.view == log.view) && (i == j)) digest ((commits_count log j i x vote is within).2)
      (λ e. ap (λ (b : Bool). then_some b digest) (passing_two (s == x) (log.view == log.view) (i == j) (eq-eqb log.view log.view refl) (turned j i true e)) ∙ cast x)
      (λ e. failing_two (s == x) (log.view == log.view) (i == j) (turned j i false e)));
  checkpoint = λ x. refl;
}
  where
    cast : (x : ℕ) → then_some (s == x) digest ≡ then_some (vote.sender.0 == x) vote.digest
    cast x = rw (sender, same) refl

-- ---- a batch

pub batch_taken : (c : Configuration) (me s i : ℕ) (batch : List ℕ) (log : LogData) → IsLog log → log.active ≡ true → logs.is_in_marks log i ≡ true → (s == primary c log.view) ≡ true → are_genuine c me batch ≡ true
    → logs.logged_batch log i ≡ None → LogTakesBody c me (Some (record { sender = s; message = PrePrepare log.view i batch })) log (logs.with_batch log i batch)
batch_taken c me s i batch log is active within primary_is genuine free = record {
  stays = record {
    is_log = batch_kept log (logs.place log i) batch _ (in_span log i within) is refl;
    me = refl;
    faults = refl;
    span = refl;
    view = refl;
    active = refl;
    low = refl;
    checkpoints = refl;
  };
  batch = λ j k. active_adds log (logs.logged_batch log j) (batch_from c me log.view j (record { sender = s; message = PrePrepare log.view i batch })) (logs.logged_batch (logs.with_batch log i batch) j) active
      (read j (j == i) refl ((batches_are_logged log j i s batch is within).0));
  prepare = λ j x k. adds_none log (logs.prepare_of log j x) (logs.prepare_of (logs.with_batch log i batch) j x) (batches_are_logged log j i x batch is within).1;
  commit = λ j x k. adds_none log (logs.commit_of log j x) (logs.commit_of (logs.with_batch log i batch) j x) (batches_are_logged log j i x batch is within).2;
  decided = λ j k. (batches_are_logged log j i s batch is within).3 k;
  checkpoint = λ x. refl;
}
  where
    test : ℕ → Bool
    test j = (log.view == log.view) && (i == j) && (s == primary c log.view) && are_genuine c me batch

    read : (j : ℕ) (b : Bool) → (j == i) ≡ b → logs.logged_batch (logs.with_batch log i batch) j ≡ cond b (Some batch) (logs.logged_batch log j)
        → logs.logged_batch (logs.with_batch log i batch) j ≡ or_else (logs.logged_batch log j) (then_some (test j) batch)
    read j true e h =
        let none : logs.logged_batch log j ≡ None = subst (λ (x : ℕ). logs.logged_batch log x ≡ None) (sym (eqb-true j i e)) free in
        let given : then_some (test j) batch ≡ Some batch = rw (eq-eqb log.view log.view refl, turned j i true e, primary_is, genuine) refl in
        h ∙ sym (ap (λ (o : Option (List ℕ)). or_else o (then_some (test j) batch)) none ∙ given)
    read j false e h =
        let given : then_some (test j) batch ≡ None = rw (eq-eqb log.view log.view refl, turned j i false e) refl in
        h ∙ sym (or_else_alone (logs.logged_batch log j) (then_some (test j) batch) given)
