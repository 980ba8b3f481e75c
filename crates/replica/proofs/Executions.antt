-- The execution of committed batches.
use Rattle.std.proofs.Common.{◌≡◌, ℕ, suc, ◌+◌, ◌≤◌, ◌⊎◌, inl, inr, Bool, true, false, cond, not, List, [], ◌∷◌, length, filter, Option, Some, None, refl, sym, ap, ◌∙◌, subst, arith}
use Rattle.events.specs.declared.output.Output.{Output}
use Rattle.ordering.specs.Log.{LogData, is_in_marks, replicas, committed_batch, row_decided, row_of}
use Rattle.replica_histories.proofs.Words.{passed, given_not}
use Rattle.desk.specs.declared.waiting.WaitingRequest.{WaitingRequest}
use Rattle.replica.specs.State.{BothPartsData}
use Rattle.desk.specs.State.{DeskData}
use Rattle.desk.specs.Waiting.{WaitingData, all_unnumbered, count_unnumbered, keeping, is_new}
use Rattle.orderer.specs.Going.{CommitsNoMore, IsVotedAll}
use Rattle.replica.specs.Going.{FitIsKept, ExecutesAll, ExecutesNextBatch, AllIsExecuted, IsSameParty}
use Rattle.desk.specs.Desking.{RunsWhole}
use Rattle.replica.specs.Checkpoints.{MulticastsDueCheckpoint}
use Rattle.replica.proofs.Desking.{RunsOn, runs_on}
use Rattle.replica.proofs.Parties.{gives_on, same_party, parties_twice}
use Rattle.orderer.proofs.Voting.{within}

-- ---- committed batches

-- the number of a committed batch is within the marks
pub committed_within : (log : LogData) (i : ℕ) (text : List ℕ) → committed_batch log i ≡ Some text → is_in_marks log i ≡ true
committed_within log i text h =
    (passed (is_in_marks log i) (row_decided log.faults (replicas log) log.me (row_of log i)) text h).0

none_outside : (log : LogData) (i : ℕ) → is_in_marks log i ≡ false → committed_batch log i ≡ None
none_outside log i e = rw e refl

-- after as many executions as there are numbers within the marks, no batch is committed any more
after_span : (log : LogData) (first n : ℕ) → n ≡ first + log.span → (log.span ≡ 0) ⊎ (log.low ≤ first) → committed_batch log (suc n) ≡ None
after_span log first n same low = go (is_in_marks log (suc n)) refl low
  where
    go : (b : Bool) → is_in_marks log (suc n) ≡ b → (log.span ≡ 0) ⊎ (log.low ≤ first) → committed_batch log (suc n) ≡ None
    go false e l = none_outside log (suc n) e
    go true e (inl z) = let a = within log (suc n) e in let al = a.low in let ah = a.high in absurd (omega (arith, same, z, al, ah))
    go true e (inr l) = let a = within log (suc n) e in let al = a.low in let ah = a.high in absurd (omega (arith, same, l, al, ah))

none_more : (old new : LogData) (i : ℕ) → CommitsNoMore old new → committed_batch old i ≡ None → committed_batch new i ≡ None
none_more old new i more none = go (committed_batch new i) refl
  where
    go : (o : Option (List ℕ)) → committed_batch new i ≡ o → committed_batch new i ≡ None
    go None e = e
    go (Some text) e = absurd (given_not (committed_batch old i) text (more i text e) none)

-- ---- waiting requests

fewer_left : (p : WaitingRequest → Bool) (xs : List WaitingRequest) → length (all_unnumbered (filter p xs)) ≤ length (all_unnumbered xs)
fewer_left p [] = omega arith
fewer_left p (x ∷ xs) = go (p x) (fewer_left p xs)
  where
    same : (n : Bool) → length (all_unnumbered (filter p xs)) ≤ length (all_unnumbered xs)
        → length (cond n (x ∷ all_unnumbered (filter p xs)) (all_unnumbered (filter p xs))) ≤ length (cond n (x ∷ all_unnumbered xs) (all_unnumbered xs))
    same true l = omega (arith, l)
    same false l = l

    more : (n : Bool) → length (all_unnumbered (filter p xs)) ≤ length (all_unnumbered xs) → length (all_unnumbered (filter p xs)) ≤ length (cond n (x ∷ all_unnumbered xs) (all_unnumbered xs))
    more true l = omega (arith, l)
    more false l = l

    go : (b : Bool) → length (all_unnumbered (filter p xs)) ≤ length (all_unnumbered xs)
        → length (all_unnumbered (cond b (x ∷ filter p xs) (filter p xs))) ≤ length (cond (not x.numbered) (x ∷ all_unnumbered xs) (all_unnumbered xs))
    go true l = same (not x.numbered) l
    go false l = more (not x.numbered) l

-- no more requests are left without a number
forgets_no_more : (p : WaitingRequest → Bool) (w : WaitingData) → count_unnumbered (keeping p w) ≤ count_unnumbered w
forgets_no_more p w = fewer_left p w.requests

-- ---- one batch

pub executes_next : (a : BothPartsData) (d : DeskData) (n : BothPartsData) (text : List ℕ) (x y z : List Output) → RunsWhole a.desk text x d y
    → committed_batch a.orderer.log (suc a.desk.executed.state.number) ≡ Some text → MulticastsDueCheckpoint (record a { desk = d }) y n z → ExecutesNextBatch a x n z
executes_next a d n text x y z whole h e =
    let r : RunsOn a.desk text x d y = runs_on a.desk d text x y whole in record {
      proceeds = λ voted c s known st.
          e.stands c s known voted (r.stands c s a.orderer h st);
      party = record {
        orderer = e.party.orderer;
        me = e.party.me ∙ r.me;
        membership = e.party.membership ∙ r.membership;
      };
      used = e.used;
      number = ap (λ (k : DeskData). k.executed.state.number) e.desk ∙ r.number;
      within = let l = (within a.orderer.log (suc a.desk.executed.state.number) (committed_within a.orderer.log (suc a.desk.executed.state.number) text h)).low in omega (arith, l);
      voted = e.voted;
      commits = e.commits;
      waiting = subst (λ (w : WaitingData). count_unnumbered w ≤ count_unnumbered a.desk.waiting)
          (sym (ap (λ (k : DeskData). k.waiting) e.desk ∙ r.waiting))
          (forgets_no_more (is_new d.executed.state) a.desk.waiting);
    }

-- ---- one after another

-- so many are executed
pub record ExecutesSoFar (count : ℕ) (old : BothPartsData) (before : List Output) (new : BothPartsData) (after : List Output) : Type 0 where
  pub proceeds : IsVotedAll old.orderer.log → FitIsKept old before new after
  pub party : IsSameParty old new
  pub used : new.orderer.used ≡ old.orderer.used
  pub waiting : count_unnumbered new.desk.waiting ≤ count_unnumbered old.desk.waiting
  pub voted : IsVotedAll old.orderer.log → IsVotedAll new.orderer.log
  pub commits : CommitsNoMore old.orderer.log new.orderer.log
  pub number : new.desk.executed.state.number ≡ old.desk.executed.state.number + count
  pub low : (count ≡ 0) ⊎ (old.orderer.log.low ≤ old.desk.executed.state.number)

pub none_executed : (a : BothPartsData) (x : List Output) → ExecutesSoFar 0 a x a x
none_executed a x = record {
  proceeds = λ voted c s known st. st;
  party = same_party a;
  used = refl;
  waiting = omega arith;
  voted = λ v. v;
  commits = λ i text h. h;
  number = omega arith;
  low = inl refl;
}

-- the first execution shows that the low mark is not above it
low_known : (a b : BothPartsData) (count : ℕ) → IsSameParty a b → b.desk.executed.state.number ≡ a.desk.executed.state.number + count → b.orderer.log.low ≤ b.desk.executed.state.number
    → (count ≡ 0) ⊎ (a.orderer.log.low ≤ a.desk.executed.state.number) → (count + 1 ≡ 0) ⊎ (a.orderer.log.low ≤ a.desk.executed.state.number)
low_known a b count party at inside (inr low) = inr low
low_known a b count party at inside (inl none) = let up = party.orderer.log.low in inr (omega (arith, at, inside, none, up))

pub one_executed : (count : ℕ) (a b d : BothPartsData) (x y z : List Output) → ExecutesSoFar count a x b y → ExecutesNextBatch b y d z → ExecutesSoFar (count + 1) a x d z
one_executed count a b d x y z f e = record {
  proceeds = λ voted c s known st. e.proceeds (f.voted voted) c s (gives_on c a.orderer b.orderer f.party.orderer.endpoint known) (f.proceeds voted c s known st);
  party = parties_twice a b d f.party e.party;
  used = e.used ∙ f.used;
  waiting = let first = f.waiting in let then = e.waiting in omega (arith, first, then);
  voted = λ v. e.voted (f.voted v);
  commits = λ i text h. f.commits i text (e.commits i text h);
  number = let first = f.number in let then = e.number in omega (arith, first, then);
  low = low_known a b count f.party f.number e.within f.low;
}

executes_all : (count : ℕ) (a b : BothPartsData) (x y : List Output) → ExecutesSoFar count a x b y → AllIsExecuted b.orderer.log b.desk → ExecutesAll a x b y
executes_all count a b x y f none = record { proceeds = f.proceeds; party = f.party; rises = (let at = f.number in omega (arith, at)); used = f.used; waiting = f.waiting; rests = λ voted. (f.voted voted, none) }

pub executes_stop : (count : ℕ) (a b d : BothPartsData) (x y z : List Output) → ExecutesSoFar count a x b y → (d ≡ b) × (z ≡ y) × AllIsExecuted b.orderer.log b.desk → ExecutesAll a x d z
executes_stop count a b d x y z f (same, outs, none) =
    subst (λ (r : BothPartsData). ExecutesAll a x r z) (sym same) (subst (λ (o : List Output). ExecutesAll a x b o) (sym outs) (executes_all count a b x y f none))

pub executes_end : (count : ℕ) (a b : BothPartsData) (x y : List Output) → count ≡ a.orderer.log.span → ExecutesSoFar count a x b y → ExecutesAll a x b y
executes_end count a b x y whole f = executes_all count a b x y f (none_more a.orderer.log b.orderer.log (suc b.desk.executed.state.number) f.commits
    (after_span a.orderer.log a.desk.executed.state.number b.desk.executed.state.number (f.number ∙ ap (λ (n : ℕ). a.desk.executed.state.number + n) whole)
    (subst (λ (n : ℕ). (n ≡ 0) ⊎ (a.orderer.log.low ≤ a.desk.executed.state.number)) whole f.low)))
