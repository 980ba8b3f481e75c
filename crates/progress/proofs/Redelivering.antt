-- If all is delivered again, each correct replica executes all numbers that the primary assigned.
use Rattle.std.proofs.Common.{◌≡◌, ℕ, zero, suc, ◌+◌, ◌-◌, ◌≤◌, ◌<◌, ◌⊎◌, inl, inr, Bool, true, false, List, [], ◌∷◌, ◌++◌, Some, refl, sym, ap, ◌∙◌, subst, arith, append_assoc, eqb-true}
use Rattle.std.specs.Prelude.{◌==◌, nat_le}
use Rattle.std.proofs.lemmas.Bool.{and_parts, ltb-true, leb-true, leb-false, eqb-false}
use Rattle.wire_format.specs.Messages.{BodyData as Body, pre_prepare as PrePrepare}
use Rattle.wire_format.specs.Words.{said}
use Rattle.protocol.specs.System.Configuration.{Configuration, IsConfiguration, replicas, primary, is_replica, is_correct_replica}
use Rattle.protocol.specs.System.Trace.{Entry, history_of, Once, SendsBody, Unforged}
use Rattle.protocol.specs.System.Trace.Entry.{Got, Sent}
use Rattle.protocol.specs.System.Run.{IsRun, OnlyTheseStopped}
use Rattle.protocol.specs.Replica.Certificates.{is_active_in, low, is_in_marks, are_genuine, logged, Committed}
use Rattle.protocol.specs.Replica.RightReplica.{Point, HistoryReaches, MaySendMessage}
use Rattle.protocol.specs.Replica.Owed.{HistoryIsPrompt}
use Rattle.protocol.specs.Space.Linear.{reached}
use Rattle.protocol.specs.Laws.Histories.{AreReplicasSafe}
use Rattle.protocol.proofs.Words.Options.{some_injective}
use Rattle.protocol.proofs.Words.Reacting.{is_replica_right, proceeds_leaves}
use Rattle.protocol.proofs.Agreement.Voting.{correct_replica}
use Rattle.protocol.proofs.Agreement.States.{history_append}
use Rattle.protocol.proofs.Points.Levels.{reached_history, number_reached}
use Rattle.progress.specs.Delivery.{HasEntry}
use Rattle.progress.specs.Redelivered.{AllRedelivered, StaysActive, StaysInMarks, IsGiven, GivenNumbersAreExecuted}
use Rattle.progress.proofs.Receiving.{Heard}
use Rattle.progress.proofs.Answering.{in_history, in_trace}
use Rattle.progress.proofs.Flipping.{none_is_left}
use Rattle.progress.proofs.Steady.{active_once, active_between, marks_between, logged_later, SentAt, sent_at, other_hears}
use Rattle.progress.proofs.Committing.{Stands, stands, Shared, Comes, Reaches, of_unsigned, of_sent, of_others, counts_here, committed as committed_by}
use Rattle.progress.proofs.Keeping.{later_reached}

-- the frame of a body that was sent
record Frame (body : Body) (xs : List Entry) : Type 0 where
  bytes : List ℕ
  is_there : HasEntry (Sent body.sender bytes) xs
  says : said bytes ≡ Some body

frame_sent : (body : Body) (xs : List Entry) → Once (SendsBody body) xs → Frame body xs
frame_sent body [] h = absurd h
frame_sent body (e ∷ past) (inr h) = let f = frame_sent body past h in record { bytes = f.bytes; is_there = inr f.is_there; says = f.says }
frame_sent body (Sent p bytes ∷ past) (inl h) = record { bytes = bytes; is_there = inl (ap (λ (x : ℕ). Sent x bytes) h.0); says = h.1 }
frame_sent body (_ ∷ past) (inl h) = absurd h

module _ (c : Configuration) (setting : IsConfiguration c) (later start : List Entry) (is_run : IsRun c (later ++ start)) (goes : OnlyTheseStopped c [] (later ++ start))
    (unforged : Unforged c (later ++ start)) (v : ℕ) (from : is_correct_replica c (primary c v) ≡ true)
    (stays : (q : ℕ) → is_correct_replica c q ≡ true → StaysActive c v later start q) (all : AllRedelivered c later start) where
  abbrev trace : List Entry
  trace = later ++ start

  abbrev whole : ℕ → List Entry
  whole q = history_of q (later ++ start)

  abbrev part : ℕ → List Entry
  part q = history_of q later

  abbrev first : ℕ → List Entry
  first q = history_of q start

  safe : AreReplicasSafe c trace
  safe p h = is_replica_right c p (history_of p trace) (is_run.replicas p h)

  below : (q : ℕ) → is_correct_replica c q ≡ true → q < replicas c
  below q correct = ltb-true q (replicas c) (and_parts (is_replica c q) _ correct).0

  known : (q : ℕ) → is_correct_replica c q ≡ true → is_replica c q ≡ true
  known q correct = (and_parts (is_replica c q) _ correct).0

  module _ (q : ℕ) (correct : is_correct_replica c q ≡ true) where
    point : Point
    point = (goes.replicas q correct refl).0

    proceeds : HistoryIsPrompt c q (whole q) [] point point
    unfolding point
    proceeds = (goes.replicas q correct refl).1

    leaves : HistoryReaches c q (whole q) point
    leaves = proceeds_leaves c q (whole q) [] point point proceeds

  pub active : (i q : ℕ) → is_correct_replica c q ≡ true → (newer now : List Entry) (b : List ℕ) → whole q ≡ newer ++ now → logged c q now v i ≡ Some b → is_active_in c now v ≡ true
  active i q one newer now b is h = active_once c q v i newer now b (point q one) (subst (λ (xs : List Entry). HistoryReaches c q xs (point q one)) is (leaves q one)) (subst (λ (xs : List Entry). is_active_in c xs v ≡ true) is (stays q one).last) h

  -- ---- one number

  -- each message about a number comes to a replica within whose marks it stays

  module _ (i : ℕ) where
    pub reaches : (s : ℕ) → is_correct_replica c s ≡ true → StaysInMarks c i later start s → Reaches c v i trace s
    reaches s other marks q one message of shared = go (q == s) refl
      where
        got : (q == s) ≡ false → Comes c s v i (record { sender = q; message = message }) (whole s)
        got e = record {
          newer = at.newer;
          past = at.middle ++ first s;
          entry = Got s shared.bytes;
          splits = its_whole;
          brings = receives.receives;
          counts = counts_here c s v i (at.middle ++ first s) (record { sender = q; message = message }) (Got s shared.bytes) receives.receives
              (active_between c v (at.newer ++ Got s shared.bytes ∷ []) at.middle (first s) (stays s other).first (subst (λ (xs : List Entry). is_active_in c xs v ≡ true) beside (stays s other).last))
              (marks_between c s i (at.newer ++ Got s shared.bytes ∷ []) at.middle (first s) marks.first (subst (λ (xs : List Entry). is_in_marks c (low c s xs) i ≡ true) beside marks.last));
        }
          where
            receives : Heard c q s message shared.bytes
            receives = other_hears c q s message shared.bytes shared.past shared.point shared.may shared.says (of_unsigned v i message of) (of_sent c v i q message of (known q one)) (known q one)
                (λ receivers h. of_others c v i q shared.past receivers message of h) (below s other) (λ same. eqb-false q s e (sym same))

            at : Stands (Got s shared.bytes) (part s) (first s)
            at = stands (Got s shared.bytes) (part s) (first s)
                (in_history s (Got s shared.bytes) later refl (all q s shared.bytes (in_trace q (Sent q shared.bytes) trace shared.is_sent) receives.meant_is (correct_replica c s other)))

            its_whole : whole s ≡ at.newer ++ Got s shared.bytes ∷ (at.middle ++ first s)
            its_whole = (history_append s later start) ∙ at.whole

            beside : whole s ≡ (at.newer ++ Got s shared.bytes ∷ []) ++ (at.middle ++ first s)
            beside = its_whole ∙ sym (append_assoc at.newer (Got s shared.bytes ∷ []) (at.middle ++ first s))

        own : (q == s) ≡ true → Comes c s v i (record { sender = q; message = message }) (whole s)
        own e = subst (λ (x : ℕ). Comes c x v i (record { sender = q; message = message }) (whole x)) (eqb-true q s e)
            (record { newer = at.newer; past = at.past; entry = Sent q shared.bytes; splits = at.splits; brings = shared.says; counts = refl })
          where
            at : SentAt c q q shared.bytes (whole q)
            at = sent_at c q q shared.bytes (whole q) (point q one) (leaves q one) shared.is_sent

        go : (b : Bool) → (q == s) ≡ b → Comes c s v i (record { sender = q; message = message }) (whole s)
        go true e = own e
        go false e = got e

  module _ (i : ℕ) (batch : List ℕ) (says : Once (SendsBody (record { sender = primary c v; message = PrePrepare v i batch })) (later ++ start)) where
    abbrev p0 : ℕ
    p0 = primary c v

    frame : Frame (record { sender = primary c v; message = PrePrepare v i batch }) trace
    frame = frame_sent (record { sender = primary c v; message = PrePrepare v i batch }) trace says

    its_frame : HasEntry (Sent p0 frame.bytes) (whole p0)
    its_frame = in_history p0 (Sent p0 frame.bytes) trace refl frame.is_there

    at : SentAt c p0 p0 frame.bytes (whole p0)
    at = sent_at c p0 p0 frame.bytes (whole p0) (point p0 from) (leaves p0 from) its_frame

    shared : Shared c p0 (PrePrepare v i batch) (whole p0)
    shared = record { bytes = frame.bytes; is_sent = its_frame; says = frame.says; past = at.past; point = at.point; may = at.may }

    -- the primary logged it with its sending
    pub begins : logged c p0 (whole p0) v i ≡ Some batch
    begins = subst (λ (xs : List Entry). logged c p0 xs v i ≡ Some batch) (sym at.splits) (logged_later c p0 v i batch at.newer (Sent p0 frame.bytes ∷ at.past) allowed.one)
      where
        same : ◌≡◌ {A = Body} at.may.body (record { sender = primary c v; message = PrePrepare v i batch })
        same = some_injective at.may.body (record { sender = primary c v; message = PrePrepare v i batch }) (sym at.may.says ∙ frame.says)

        allowed : MaySendMessage c p0 at.past at.point (Sent p0 frame.bytes) frame.bytes (PrePrepare v i batch)
        allowed = subst (λ (b : Body). MaySendMessage c p0 at.past at.point (Sent p0 frame.bytes) frame.bytes b.message) same at.may.allowed

    pub committed_where : ((s : ℕ) → is_correct_replica c s ≡ true → Committed c s (whole s) v i batch ⊎ Reaches c v i trace s) → ((s : ℕ) → is_correct_replica c s ≡ true → are_genuine c s batch ≡ true)
        → (s : ℕ) → is_correct_replica c s ≡ true → Committed c s (whole s) v i batch
    committed_where settled genuine s other = committed_by c setting trace goes safe unforged v i batch from (active i) settled begins shared genuine s other

  pub committed : (i : ℕ) (given : IsGiven c v i later start) (s : ℕ) → is_correct_replica c s ≡ true → Committed c s (whole s) v i given.batch
  committed i given s other = committed_where i given.batch given.says (λ x h. inr (reaches i x h (given.each x h).0)) (λ q h. (given.each q h).1) s other

  -- ---- a replica comes to each number in turn

  pub next_number : (r j : ℕ) (batch : List ℕ) → is_correct_replica c r ≡ true → j ≤ reached trace r → Committed c r (whole r) v (suc j) batch → suc j ≤ reached trace r
  next_number r j batch correct here committed_it = go (nat_le (suc j) (reached trace r)) refl
    where
      go : (b : Bool) → nat_le (suc j) (reached trace r) ≡ b → suc j ≤ reached trace r
      go true e = leb-true (suc j) (reached trace r) e
      go false e =
          let l = leb-false (suc j) (reached trace r) e in
          let at = number_reached c r (whole r) (point r correct) (leaves r correct) in
          let same = reached_history r trace in
          let number : suc j ≡ suc (point r correct).state.number = omega arith in
          absurd (none_is_left c r (whole r) [] (point r correct) (point r correct) (proceeds r correct) v batch (subst (λ (n : ℕ). Committed c r (whole r) v n batch) number committed_it))

  -- if all numbers above the reached one, up to m, are committed, the replica executes each
  pub each_number : (r m d : ℕ) → is_correct_replica c r ≡ true → reached start r + d ≤ m
      → ((i : ℕ) → reached start r < i → i ≤ m → (batch : List ℕ) × Committed c r (whole r) v i batch) → reached start r + d ≤ reached trace r
  each_number r m zero correct l given = let grows = later_reached r later start in omega arith
  each_number r m (suc d) correct l given =
      let k = given (suc (reached start r + d)) (omega arith) (omega arith) in
      let step = next_number r (reached start r + d) k.0 correct (each_number r m d correct (omega arith) given) k.1 in
      omega arith

  pub all_numbers : (r m : ℕ) → is_correct_replica c r ≡ true → ((i : ℕ) → reached start r < i → i ≤ m → (batch : List ℕ) × Committed c r (whole r) v i batch) → m ≤ reached trace r
  all_numbers r m correct given = go (nat_le m (reached start r)) refl
    where
      go : (b : Bool) → nat_le m (reached start r) ≡ b → m ≤ reached trace r
      go true e = let l = leb-true m (reached start r) e in let grows = later_reached r later start in omega arith
      go false e =
          let l = leb-false m (reached start r) e in
          let a = each_number r m (m - reached start r) correct (omega arith) given in
          omega arith

pub given_numbers_are_executed : GivenNumbersAreExecuted
given_numbers_are_executed c setting later start run goes unforged v m from stays all r correct given =
    all_numbers c setting later start run goes unforged v from stays all r m correct
    (λ i above below. let g = given i above below in (g.batch, committed c setting later start run goes unforged v from stays all i g r correct))
