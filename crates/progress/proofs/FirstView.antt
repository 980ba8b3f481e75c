-- In the first view a low mark is never above the executed number, so a number that left the marks was executed.
use Rattle.std.proofs.Common.{◌≡◌, ℕ, ◌+◌, ◌≤◌, ◌<◌, ◌⊎◌, inl, inr, Bool, true, false, cond, List, [], ◌∷◌, ◌++◌, take, Option, Some, None, refl, sym, ap, ◌∙◌, subst, arith, ◌&&◌, eqb-true, eq-eqb, bytes_eq}
use Rattle.std.specs.Prelude.{◌==◌, nat_lt, nat_le}
use Rattle.std.specs.Option.{option_map_or}
use Rattle.std.proofs.lemmas.Bool.{and_parts, and_from, ltb-true, ltb-false, leb-true, leb-false, lt-ltb, le-leb}
use Rattle.wire_format.specs.Messages.{BodyData as Body, MessageData as Message, CheckpointEntryData as CheckpointEntry, NewViewData, checkpoint as Checkpoint}
use Rattle.signing.proofs.AuthenticBody.{authentic_was_opened}
use Rattle.protocol.specs.System.Configuration.{Configuration, IsConfiguration, primary, span, is_number, is_correct_replica, members}
use Rattle.protocol.specs.System.Trace.{Entry, party_of, history_of, Once, Unforged}
use Rattle.protocol.specs.System.Trace.Entry.{Invoke, Got, Tick, Executed, Installed, Sent, Accepted}
use Rattle.protocol.specs.System.Run.{IsRun, OnlyTheseStopped}
use Rattle.protocol.specs.Replica.Certificates.{view, target, taken, is_active_in, checkpoint_from, checkpoint_in, with_checkpoint, insert_checkpoint, checkpoints_of, lists_checkpoint, count_checkpoints, is_stable, stable_at, installed_at, started_at, low, is_in_marks, brought, logged, Committed}
use Rattle.protocol.specs.Replica.Selection.{is_quorum}
use Rattle.protocol.specs.Replica.RightReplica.{Point, HistoryReaches, May, MovesPoint, MaySend, MaySendMessage, MayCheckpoint, Executes, waiting_after}
use Rattle.protocol.specs.Space.Linear.{reached}
use Rattle.protocol.proofs.Words.Options.{some_injective, and_then_some, then_some_gives}
use Rattle.protocol.proofs.Words.Elements.{has_filter}
use Rattle.protocol.proofs.Words.Leaving.{executed_number}
use Rattle.protocol.proofs.Words.Reacting.{is_replica_right, proceeds_leaves}
use Rattle.protocol.proofs.Agreement.Marks.{takes, view_grows}
use Rattle.protocol.proofs.Agreement.Offers.{logged_view}
use Rattle.protocol.proofs.Agreement.Voting.{right_always}
use Rattle.protocol.proofs.Agreement.Agreeing.{logged_was_offered}
use Rattle.protocol.proofs.Agreement.Executing.{committed_later}
use Rattle.protocol.proofs.Agreement.States.{has_take, has_insert, is_checkpoint, history_append}
use Rattle.protocol.proofs.Points.Levels.{reached_grows, number_reached}
use Rattle.progress.specs.Delivery.{HasEntry}
use Rattle.progress.specs.Redelivered.{AllRedelivered, StaysActive, StaysInMarks}
use Rattle.progress.specs.FirstView.{IsGivenFirst, NoneInstalls, FirstNumbersAreExecuted}
use Rattle.progress.proofs.Steady.{view_later, target_later, low_later, active_parts}
use Rattle.progress.proofs.Committing.{Reaches, own_in}
use Rattle.progress.proofs.Redelivering.{reaches, begins, committed_where, all_numbers}

-- ---- a replica has reached its own checkpoints

-- a number that it executes is reached
at_reached : (me k : ℕ) (e : Entry) (past : List Entry) → party_of e ≡ me → Executes k past e → k ≤ reached (e ∷ past) me
at_reached me k (Executed r number batch) past own h =
    let here : cond (r == me) number 0 ≡ number = ap (λ (b : Bool). cond b number 0) (eq-eqb r me own) in
    omega arith
at_reached me k _ past own h = absurd h

executes_reached : (c : Configuration) (me k : ℕ) (xs : List Entry) (point : Point) → HistoryReaches c me xs point → Once (Executes k) xs → k ≤ reached xs me
executes_reached c me k [] point leaves h = absurd h
executes_reached c me k (e ∷ past) point leaves (inl h) = at_reached me k e past leaves.2.own h
executes_reached c me k (e ∷ past) point leaves (inr h) = let l = executes_reached c me k past leaves.0 leaves.1 h in let g = reached_grows e past me in omega arith

-- the fields of a checkpoint message
checkpoint_body : (s : ℕ) (m : CheckpointEntry) (sender : ℕ) (message : Message) → checkpoint_from (record { sender = sender; message = message }) ≡ Some (s, m)
    → ◌≡◌ {A = Body} (record { sender = sender; message = message }) (record { sender = s; message = Checkpoint m.number m.digest })
checkpoint_body s m sender (Checkpoint number root) h =
    let g = then_some_gives {A = ℕ × CheckpointEntry} (is_number number) (sender, record { number = number; digest = root }) (s, m) h in
    let ed : root ≡ m.digest = ap (λ (z : ℕ × CheckpointEntry). z.1.digest) g.1 in
    rw ((ap (λ (z : ℕ × CheckpointEntry). z.0) g.1), (ap (λ (z : ℕ × CheckpointEntry). z.1.number) g.1), ed) refl
checkpoint_body s m sender _ h = absurd cc

-- its own checkpoint is of a number that it executed before
own_checkpoint : (c : Configuration) (me : ℕ) (m : CheckpointEntry) (e : Entry) (past : List Entry) (point : Point) → HistoryReaches c me (e ∷ past) point → checkpoint_in c e ≡ Some (me, m) → m.number ≤ reached past me
own_checkpoint c me m (Got p bytes) past point leaves h =
    let r = and_then_some {B = ℕ × CheckpointEntry} checkpoint_from (brought c (Got p bytes)) (me, m) h in
    let body = checkpoint_body me m r.0.sender r.0.message r.2 in
    let o = authentic_was_opened (members c p) p bytes (record { sender = me; message = Checkpoint m.number m.digest }) (r.1 ∙ ap Some body) in
    absurd (o.other (sym leaves.2.own))
own_checkpoint c me m (Sent p bytes) past point leaves h =
    let r = and_then_some {B = ℕ × CheckpointEntry} checkpoint_from (brought c (Sent p bytes)) (me, m) h in
    let body = checkpoint_body me m r.0.sender r.0.message r.2 in
    let may : MaySend c me past leaves.0 (Sent p bytes) bytes = leaves.2.may in
    let same : ◌≡◌ {A = Body} may.body (record { sender = me; message = Checkpoint m.number m.digest }) = some_injective may.body (record { sender = me; message = Checkpoint m.number m.digest }) (sym may.says ∙ r.1 ∙ ap Some body) in
    let allowed : MayCheckpoint c past leaves.0 m.number m.digest = subst (λ (b : Body). MaySendMessage c me past leaves.0 (Sent p bytes) bytes b.message) same may.allowed in
    executes_reached c me m.number past leaves.0 leaves.1 allowed.executed
own_checkpoint c me m _ past point leaves h = absurd cc

own_reached : (c : Configuration) (me : ℕ) (checkpoint : CheckpointEntry) (xs : List Entry) (point : Point) → HistoryReaches c me xs point → lists_checkpoint checkpoint (checkpoints_of c xs me) ≡ true
    → checkpoint.number ≤ reached xs me
unfolding checkpoints_of
own_reached c me checkpoint [] point leaves h = absurd cc
own_reached c me checkpoint (e ∷ past) point leaves h = go (checkpoint_in c e) refl h (own_reached c me checkpoint past leaves.0 leaves.1)
  where
    grows : reached past me ≤ reached (e ∷ past) me
    grows = reached_grows e past me

    go : (o : Option (ℕ × CheckpointEntry)) → checkpoint_in c e ≡ o → lists_checkpoint checkpoint (with_checkpoint me o (checkpoints_of c past me)) ≡ true
        → (lists_checkpoint checkpoint (checkpoints_of c past me) ≡ true → checkpoint.number ≤ reached past me) → checkpoint.number ≤ reached (e ∷ past) me
    go None is k below = let l = below k in let g = grows in omega arith
    go (Some x) is k below = from (x.0 == me) refl k
      where
        here : x.0 ≡ me → checkpoint_in c e ≡ Some (me, x.1)
        here own = is ∙ ap (λ (t : ℕ). Some (let p : ℕ × CheckpointEntry = (t, x.1) in p)) own

        pick : x.0 ≡ me → (is_checkpoint checkpoint x.1 ≡ true) ⊎ (lists_checkpoint checkpoint (checkpoints_of c past me) ≡ true) → checkpoint.number ≤ reached (e ∷ past) me
        pick own (inl y) =
            let l = own_checkpoint c me x.1 e past point leaves (here own) in
            let n : x.1.number ≡ checkpoint.number = eqb-true x.1.number checkpoint.number (and_parts (x.1.number == checkpoint.number) (bytes_eq x.1.digest checkpoint.digest) y).0 in
            let g = grows in
            omega arith
        pick own (inr y) = let l = below y in let g = grows in omega arith

        from : (b : Bool) → (x.0 == me) ≡ b → lists_checkpoint checkpoint (cond b (take 3 (insert_checkpoint x.1 (checkpoints_of c past me))) (checkpoints_of c past me)) ≡ true → checkpoint.number ≤ reached (e ∷ past) me
        from true own k = pick (eqb-true x.0 me own) (has_insert checkpoint x.1 (checkpoints_of c past me) (has_take checkpoint 3 (insert_checkpoint x.1 (checkpoints_of c past me)) k))
        from false own k = let l = below k in let g = grows in omega arith

-- ---- a low mark in the first view

module _ (c : Configuration) (me : ℕ) where
  pub stable_reached : (e : Entry) (past : List Entry) (point : Point) → HistoryReaches c me (e ∷ past) point → stable_at c me past e ≤ reached (e ∷ past) me
  stable_reached e past point leaves = go (checkpoint_in c e)
    where
      test : (x : ℕ × CheckpointEntry) (b : Bool) → is_stable c me (e ∷ past) x.1 ≡ b → cond b x.1.number 0 ≤ reached (e ∷ past) me
      test x true is = own_reached c me x.1 (e ∷ past) point leaves (and_parts (is_quorum c (count_checkpoints c (e ∷ past) x.1)) (lists_checkpoint x.1 (checkpoints_of c (e ∷ past) me)) is).1
      test x false is = omega arith

      go : (o : Option (ℕ × CheckpointEntry)) → option_map_or (λ (x : ℕ × CheckpointEntry). cond (is_stable c me (e ∷ past) x.1) x.1.number 0) o 0 ≤ reached (e ∷ past) me
      go None = omega arith
      go (Some x) = test x (is_stable c me (e ∷ past) x.1) refl

  pub installed_reached : (e : Entry) (past : List Entry) → party_of e ≡ me → installed_at e ≤ reached (e ∷ past) me
  installed_reached (Installed r k root) past own = let here : cond (r == me) k 0 ≡ k = ap (λ (b : Bool). cond b k 0) (eq-eqb r me own) in omega arith
  installed_reached _ past own = omega arith

  none_started : (e : Entry) (past : List Entry) → view c (e ∷ past) ≡ 0 → started_at c past e ≡ 0
  none_started e past first = go (taken c past e) refl
    where
      go : (o : Option NewViewData) → taken c past e ≡ o → option_map_or (λ (new : NewViewData). new.start) o 0 ≡ 0
      go None is = refl
      go (Some new) is = let t = takes c me past e new is in let a = t.above in let b = t.view_is in absurd (omega arith)

  pub low_reached : (xs : List Entry) (point : Point) → HistoryReaches c me xs point → view c xs ≡ 0 → low c me xs ≤ reached xs me
  unfolding low
  low_reached [] point leaves first = omega arith
  low_reached (e ∷ past) point leaves first =
      let g = view_grows c e past in
      let a = low_reached past leaves.0 leaves.1 (omega arith) in
      let b = reached_grows e past me in
      let x = stable_reached e past point leaves in
      let y = installed_reached e past leaves.2.own in
      let z = none_started e past first in
      omega arith

  -- ---- a number that was reached with no installation was committed

  pub number_committed : (i : ℕ) → 1 ≤ i → (xs : List Entry) (point : Point) → HistoryReaches c me xs point → ((r k : ℕ) (root : List ℕ) → HasEntry (Installed r k root) xs → ⊥) → i ≤ point.state.number
      → (u : ℕ) × (b : List ℕ) × Committed c me xs u i b
  number_committed i one [] point leaves none l = let n : point.state.number ≡ 0 = ap (λ (p : Point). p.state.number) leaves in absurd (omega arith)
  number_committed i one (e ∷ past) point leaves none l = go e leaves.2.may leaves.2.moves (λ r k root is. none r k root (inl is)) (number_committed i one past leaves.0 leaves.1 (λ r k root h. none r k root (inr h)))
    where
      later : (e : Entry) → (u : ℕ) × (b : List ℕ) × Committed c me past u i b → (u : ℕ) × (b : List ℕ) × Committed c me (e ∷ past) u i b
      later e k = (k.0, k.1, committed_later c me k.0 i k.1 e past k.2)

      same : (e : Entry) (new : Point) → point ≡ new → new.state.number ≡ leaves.0.state.number → (i ≤ leaves.0.state.number → (u : ℕ) × (b : List ℕ) × Committed c me past u i b)
          → (u : ℕ) × (b : List ℕ) × Committed c me (e ∷ past) u i b
      same e new is number below =
          let n : point.state.number ≡ new.state.number = ap (λ (p : Point). p.state.number) is in
          later e (below (omega arith))

      go : (e : Entry) → May c me past leaves.0 e → MovesPoint c me past leaves.0 e point → ((r k : ℕ) (root : List ℕ) → e ≡ Installed r k root → ⊥)
          → (i ≤ leaves.0.state.number → (u : ℕ) × (b : List ℕ) × Committed c me past u i b) → (u : ℕ) × (b : List ℕ) × Committed c me (e ∷ past) u i b
      go (Got p bytes) may move other below = same (Got p bytes) (record leaves.0 { ran = []; waiting = waiting_after c me leaves.0 bytes }) move refl below
      go (Tick p) may move other below = same (Tick p) (record leaves.0 { ran = [] }) move refl below
      go (Sent p bytes) may move other below = same (Sent p bytes) leaves.0 move refl below
      go (Invoke x y z) may move other below = absurd may
      go (Accepted x y z) may move other below = absurd may
      go (Installed r k root) may move other below = absurd (other r k root refl)
      go (Executed r k batch) may move other below = by (nat_le i leaves.0.state.number) refl
        where
          by : (b : Bool) → nat_le i leaves.0.state.number ≡ b → (u : ℕ) × (b : List ℕ) × Committed c me (Executed r k batch ∷ past) u i b
          by true f = later (Executed r k batch) (below (leb-true i leaves.0.state.number f))
          by false f =
              let m = leb-false i leaves.0.state.number f in
              let n = (ap (λ (q : Point). q.state.number) move ∙ executed_number c leaves.0.state batch) in
              let next = may.next in
              let is : k ≡ i = omega arith in
              let here : Committed c me past may.in_view i batch = subst (λ (x : ℕ). Committed c me past may.in_view x batch) is may.committed in
              (may.in_view, batch, committed_later c me may.in_view i batch (Executed r k batch) past here)

-- ---- the law

module _ (c : Configuration) (setting : IsConfiguration c) (later start : List Entry) (is_run : IsRun c (later ++ start)) (goes : OnlyTheseStopped c [] (later ++ start))
    (unforged : Unforged c (later ++ start)) (from : is_correct_replica c (primary c 0) ≡ true)
    (active : (q : ℕ) → is_correct_replica c q ≡ true → is_active_in c (history_of q (later ++ start)) 0 ≡ true)
    (none : NoneInstalls c (later ++ start)) (all : AllRedelivered c later start) where
  abbrev trace : List Entry
  trace = later ++ start

  abbrev whole : ℕ → List Entry
  whole q = history_of q (later ++ start)

  stays : (q : ℕ) → is_correct_replica c q ≡ true → StaysActive c 0 later start q
  stays q correct = record { first = first; last = active q correct }
    where
      first : is_active_in c (history_of q start) 0 ≡ true
      first =
          let is = history_append q later start in
          let p = active_parts c (whole q) 0 (active q correct) in
          let a = view_later c (history_of q later) (history_of q start) in
          let b = target_later (history_of q later) (history_of q start) in
          let va : view c (whole q) ≡ view c (history_of q later ++ history_of q start) = ap (view c) is in
          let ta : target (whole q) ≡ target (history_of q later ++ history_of q start) = ap target is in
          let v = p.0 in
          let t = p.1 in
          let v0 : view c (history_of q start) ≡ 0 = omega arith in
          let t0 : target (history_of q start) ≤ 0 = omega arith in
          and_from (view c (history_of q start) == 0) (nat_le (target (history_of q start)) 0) (eq-eqb (view c (history_of q start)) 0 v0) (le-leb (target (history_of q start)) 0 t0)

  module _ (q : ℕ) (correct : is_correct_replica c q ≡ true) where
    point : Point
    point = (goes.replicas q correct refl).0

    leaves : HistoryReaches c q (whole q) point
    unfolding point
    leaves = proceeds_leaves c q (whole q) [] (goes.replicas q correct refl).0 (goes.replicas q correct refl).0 (goes.replicas q correct refl).1

    is_first : view c (whole q) ≡ 0
    is_first = (active_parts c (whole q) 0 (active q correct)).0

  module _ (i : ℕ) (given : IsGivenFirst c i later start) (positive : 1 ≤ i) where
    assigned : logged c (primary c 0) (whole (primary c 0)) 0 i ≡ Some given.batch
    assigned = begins c setting later start is_run goes unforged 0 from stays all i given.batch given.says

    -- a number that left the marks is committed
    left : (q : ℕ) (correct : is_correct_replica c q ≡ true) → i ≤ low c q (whole q) → Committed c q (whole q) 0 i given.batch
    left q correct l =
        let a = low_reached c q (whole q) (point q correct) (leaves q correct) (is_first q correct) in
        let b = number_reached c q (whole q) (point q correct) (leaves q correct) in
        let k = number_committed c q i positive (whole q) (point q correct) (leaves q correct)
        (λ r n root h. none_here r n root h) (omega arith) in
        let d = logged_view c q k.0 i k.1 (whole q) (right_always c q (whole q) (point q correct) (leaves q correct)) k.2.prepared.logged in
        let f = is_first q correct in
        let here : Committed c q (whole q) 0 i k.1 = subst (λ (u : ℕ). Committed c q (whole q) u i k.1) (omega arith) k.2 in
        let one = logged_was_offered c trace q 0 i k.1 (λ p h. is_replica_right c p (history_of p trace) (is_run.replicas p h)) unforged correct from here.prepared.logged in
        let two = logged_was_offered c trace (primary c 0) 0 i given.batch (λ p h. is_replica_right c p (history_of p trace) (is_run.replicas p h)) unforged from from assigned in
        subst (λ (b : List ℕ). Committed c q (whole q) 0 i b) (some_injective k.1 given.batch (sym one ∙ two)) here
      where
        none_here : (r n : ℕ) (root : List ℕ) → HasEntry (Installed r n root) (whole q) → ⊥
        none_here r n root h =
            let own = own_in q (Installed r n root) trace h in
            none r n root (subst (λ (x : ℕ). is_correct_replica c x ≡ true) (sym own) correct) (has_filter (λ x. x ≡ Installed r n root) (λ x. party_of x == q) trace h)

    settled : (q : ℕ) → is_correct_replica c q ≡ true → Committed c q (whole q) 0 i given.batch ⊎ Reaches c 0 i trace q
    settled q correct = go (nat_lt (low c q (whole q)) i) refl
      where
        within : low c q (whole q) < i → StaysInMarks c i later start q
        within l =
            let near = (given.each q correct).0 in
            let is = history_append q later start in
            let g = low_later c q (history_of q later) (history_of q start) in
            let same : low c q (whole q) ≡ low c q (history_of q later ++ history_of q start) = ap (low c q) is in
            let high : i ≤ low c q (whole q) + span c = omega arith in
            record { first = in_marks (low c q (history_of q start)) (omega arith) near; last = in_marks (low c q (whole q)) l high }
          where
            in_marks : (h : ℕ) → h < i → i ≤ h + span c → is_in_marks c h i ≡ true
            in_marks h a b = and_from (nat_lt h i && nat_le i (h + span c)) (is_number i) (and_from (nat_lt h i) (nat_le i (h + span c)) (lt-ltb h i a) (le-leb i (h + span c) b)) given.number

        go : (b : Bool) → nat_lt (low c q (whole q)) i ≡ b → Committed c q (whole q) 0 i given.batch ⊎ Reaches c 0 i trace q
        go true e = inr (reaches c setting later start is_run goes unforged 0 from stays all i q correct (within (ltb-true (low c q (whole q)) i e)))
        go false e = inl (left q correct (ltb-false (low c q (whole q)) i e))

    pub committed_first : (q : ℕ) → is_correct_replica c q ≡ true → Committed c q (whole q) 0 i given.batch
    committed_first q correct = committed_where c setting later start is_run goes unforged 0 from stays all i given.batch given.says settled (λ s h. (given.each s h).1) q correct

  pub first_numbers : (m r : ℕ) → is_correct_replica c r ≡ true → ((i : ℕ) → reached start r < i → i ≤ m → IsGivenFirst c i later start) → m ≤ reached trace r
  first_numbers m r correct given =
      all_numbers c setting later start is_run goes unforged 0 from stays all r m correct
      (λ i above below. let positive : 1 ≤ i = omega arith in ((given i above below).batch, committed_first i (given i above below) positive r correct))

pub first_numbers_are_executed : FirstNumbersAreExecuted
first_numbers_are_executed c setting later start run goes unforged m from active none all r correct given = first_numbers c setting later start run goes unforged from active none all m r correct given
