-- While the first view goes on, its primary numbers without gaps, and at the end its next number is free. So it numbers
-- each request that waits there, and each correct replica executes that.
use Rattle.std.proofs.Common.{◌≡◌, ℕ, zero, suc, ◌+◌, ◌≤◌, ◌<◌, ◌⊎◌, inl, inr, Bool, true, false, cond, List, [], ◌∷◌, ◌++◌, Option, Some, None, refl, sym, ap, ◌∙◌, subst, arith, eqb-true}
use Rattle.std.specs.Prelude.{◌==◌, nat_lt, option_and_then, is_some}
use Rattle.std.specs.Option.{option_map_or}
use Rattle.std.proofs.lemmas.Bool.{ltb-true, ltb-false, eqb-false}
use Rattle.quorum.specs.Votes.{or_else}
use Rattle.tuple_codec.specs.Operations.{Outcome}
use Rattle.reply_cache.specs.Replies.{Kept}
use Rattle.wire_format.specs.Messages.{BodyData as Body, pre_prepare as PrePrepare}
use Rattle.signing.proofs.AuthenticBody.{authentic_was_opened}
use Rattle.protocol.specs.System.Configuration.{Configuration, IsConfiguration, primary, is_number, is_correct_replica, is_correct_client, members}
use Rattle.protocol.specs.System.Trace.{Entry, party_of, history_of, Once, SendsBody, Unforged}
use Rattle.protocol.specs.System.Trace.Entry.{Got, Tick, Installed, Sent, Accepted}
use Rattle.protocol.specs.System.Texts.{NoCollision}
use Rattle.protocol.specs.System.Run.{IsRun, OnlyTheseStopped}
use Rattle.protocol.specs.Replica.Certificates.{view, taken, low, is_in_marks, assigned_batch, assigned_proposal, entry_proposal, proposal, brought, first_given, logged, Committed}
use Rattle.protocol.specs.Replica.State.{State, opening, last_time}
use Rattle.protocol.specs.Replica.RightReplica.{Point, HistoryReaches, IsStep, IsFree, MaySendMessage, MayPrePrepare}
use Rattle.protocol.specs.Replica.Owed.{BeginsViewWith, IsOfView, IsNumbered}
use Rattle.protocol.specs.Client.RightClient.{OpenCall, open_call}
use Rattle.protocol.specs.Space.Linear.{reached}
use Rattle.protocol.proofs.Words.Options.{some_injective, or_else_cases, and_then_some}
use Rattle.protocol.proofs.Words.Elements.{has_left, has_right}
use Rattle.protocol.proofs.Words.Temporal.{once_in_trace, once_weaker}
use Rattle.protocol.proofs.Words.Reacting.{proceeds_leaves}
use Rattle.protocol.proofs.Agreement.Marks.{takes, proposes, view_grows}
use Rattle.protocol.proofs.Agreement.Offers.{entry_batch, logged_view}
use Rattle.protocol.proofs.Agreement.Voting.{right_always, logged_stays}
use Rattle.protocol.proofs.Points.Levels.{many_correct, number_reached, reached_history}
use Rattle.protocol.proofs.Points.Running.{Run, IsBy, state_by}
use Rattle.protocol.proofs.Points.Keeping.{opening_full}
use Rattle.protocol.proofs.Points.Invoking.{run_part}
use Rattle.progress.specs.Delivery.{HasEntry, AllDelivered}
use Rattle.progress.specs.Answered.{KeepsReply}
use Rattle.progress.specs.Redelivered.{AllRedelivered}
use Rattle.progress.specs.FirstView.{IsGivenFirst}
use Rattle.progress.specs.Waiting.{StandsAtPrimary}
use Rattle.progress.specs.EveryCall.{FirstViewGoesOn, EveryCallIsAccepted}
use Rattle.progress.proofs.Replies.{run_of}
use Rattle.progress.proofs.Keeping.{by_at, by_grows, keeps_reply}
use Rattle.progress.proofs.Answering.{in_trace, executed_calls_are_accepted}
use Rattle.progress.proofs.Steady.{active_parts, marks_parts}
use Rattle.progress.proofs.Committing.{pre_prepare_is, none_logged, own_in}
use Rattle.progress.proofs.Normal.{answered, in_either}
use Rattle.progress.proofs.Numbering.{open_calls_are_numbered}
use Rattle.progress.proofs.FirstView.{low_reached, number_committed, committed_first, first_numbers_are_executed}
use Rattle.progress.proofs.SecondView.{sends_any}

-- the pre-prepare by which the first view's primary assigns the number
abbrev giving : Configuration → ℕ → List ℕ → Body
giving c i batch = record { sender = primary c 0; message = PrePrepare 0 i batch }

-- ---- the primary sent each batch that is proposed in the first view

-- no new view that is taken is for it
none_begins : (c : Configuration) (me i : ℕ) (batch : List ℕ) (past : List Entry) (e : Entry) (b : Bool) → cond b (option_and_then (assigned_batch 0 i) (taken c past e)) None ≡ Some batch → ⊥
none_begins c me i batch past e true h =
    let t = and_then_some (assigned_batch 0 i) (taken c past e) batch h in
    let above = (takes c me past e t.0 t.1).above in
    let first = (proposes c 0 i t.0 batch t.2).view_is in
    omega arith
none_begins c me i batch past e false h = cc

-- the primary assigns the number in this entry, by the rule for pre-prepares
record Gave (c : Configuration) (i : ℕ) (batch : List ℕ) (e : Entry) (past : List Entry) (old : Point) : Type 0 where
  sends : SendsBody (giving c i batch) past e
  may : MayPrePrepare c (primary c 0) past old e 0 i batch

gave : (c : Configuration) (i : ℕ) (batch : List ℕ) (e : Entry) (past : List Entry) (point : Point) (leaves : HistoryReaches c (primary c 0) (e ∷ past) point) → proposal c (primary c 0) past e 0 i ≡ Some batch
    → Gave c i batch e past leaves.0
gave c i batch e past point leaves h = go e leaves.2 brings
  where
    by_entry : (assigned_proposal c (primary c 0) past e 0 i ≡ Some batch) ⊎ (entry_proposal c (primary c 0) past e 0 i ≡ Some batch) → entry_proposal c (primary c 0) past e 0 i ≡ Some batch
    by_entry (inl k) = absurd (none_begins c (primary c 0) i batch past e (is_in_marks c (low c (primary c 0) (e ∷ past)) i) k)
    by_entry (inr k) = k

    brings : brought c e ≡ Some (giving c i batch)
    brings =
        let b = (entry_batch c (primary c 0) 0 i batch past e
        (by_entry (or_else_cases (assigned_proposal c (primary c 0) past e 0 i) (entry_proposal c (primary c 0) past e 0 i) batch h))).1 in
        b.1 ∙ ap Some (pre_prepare_is c (primary c 0) 0 i batch b.0.sender b.0.message b.2).0

    go : (e : Entry) → IsStep c (primary c 0) past leaves.0 e point → brought c e ≡ Some (giving c i batch) → Gave c i batch e past leaves.0
    go (Sent p bytes) step is =
        let same : ◌≡◌ {A = Body} step.may.body (giving c i batch) = some_injective step.may.body (giving c i batch) (sym step.may.says ∙ is) in
        record { sends = (step.own, is); may = subst (λ (b : Body). MaySendMessage c (primary c 0) past leaves.0 (Sent p bytes) bytes b.message) same step.may.allowed }
    go (Got p bytes) step is = absurd ((authentic_was_opened (members c p) p bytes (giving c i batch) is).other (sym step.own))
    go _ step is = absurd cc

-- the primary assigned the number that is logged there
record WasGiven (c : Configuration) (i : ℕ) (batch : List ℕ) (xs : List Entry) : Type 0 where
  says : Once (SendsBody (giving c i batch)) xs
  positive : 1 ≤ i
  number : is_number i ≡ true

was_given : (c : Configuration) (i : ℕ) (batch : List ℕ) (xs : List Entry) (point : Point) → HistoryReaches c (primary c 0) xs point → logged c (primary c 0) xs 0 i ≡ Some batch → WasGiven c i batch xs
unfolding logged
was_given c i batch [] point leaves h = absurd (none_logged c (primary c 0) 0 i batch h)
was_given c i batch (e ∷ past) point leaves h =
    go (or_else_cases (first_given (λ earlier x. proposal c (primary c 0) earlier x 0 i) past) (proposal c (primary c 0) past e 0 i) batch h) (was_given c i batch past leaves.0 leaves.1)
  where
    go : (first_given (λ earlier x. proposal c (primary c 0) earlier x 0 i) past ≡ Some batch) ⊎ (proposal c (primary c 0) past e 0 i ≡ Some batch)
        → (first_given (λ earlier x. proposal c (primary c 0) earlier x 0 i) past ≡ Some batch → WasGiven c i batch past) → WasGiven c i batch (e ∷ past)
    go (inl k) below = let b = below k in record { says = inr b.says; positive = b.positive; number = b.number }
    go (inr k) below =
        let g = gave c i batch e past point leaves k in
        let m = marks_parts c (low c (primary c 0) past) i g.may.in_marks in
        let above = m.0 in
        record { says = inl g.sends; positive = omega arith; number = m.2 }

-- ---- the primary numbers without gaps

module _ (c : Configuration) where
  abbrev p0 : ℕ
  p0 = primary c 0

  abbrev Installs : List Entry → Type 0
  Installs xs = (r k : ℕ) (root : List ℕ) → HasEntry (Installed r k root) xs → ⊥

  -- it logged all that it executed
  executed_logged : (xs : List Entry) (point : Point) → HistoryReaches c p0 xs point → view c xs ≡ 0 → Installs xs → (j : ℕ) → 1 ≤ j → j ≤ point.state.number → (d : List ℕ) × (logged c p0 xs 0 j ≡ Some d)
  executed_logged xs point leaves first none j one l =
      let k = number_committed c p0 j one xs point leaves none l in
      let v = logged_view c p0 k.0 j k.1 xs (right_always c p0 xs point leaves) k.2.prepared.logged in
      (k.1, subst (λ (u : ℕ). logged c p0 xs u j ≡ Some k.1) (omega arith) k.2.prepared.logged)

  is_there : (o : Option (List ℕ)) → is_some o ≡ true → (d : List ℕ) × (o ≡ Some d)
  is_there None h = absurd cc
  is_there (Some d) h = (d, refl)

  filled : (xs : List Entry) (point : Point) → HistoryReaches c p0 xs point → view c xs ≡ 0 → Installs xs → (i j : ℕ) (b : List ℕ) → logged c p0 xs 0 i ≡ Some b → 1 ≤ j → j < i → (d : List ℕ) × (logged c p0 xs 0 j ≡ Some d)
  unfolding logged
  filled [] point leaves first none i j b h one l = absurd (none_logged c p0 0 i b h)
  filled (e ∷ past) point leaves first none i j b h one l =
      let g = view_grows c e past in
      let before : view c past ≡ 0 = omega arith in
      stays (earlier (logged c p0 past 0 i) refl before h (λ x is. filled past leaves.0 leaves.1 before (λ r k root m. none r k root (inr m)) i j x is one l))
    where
      stays : (d : List ℕ) × (logged c p0 past 0 j ≡ Some d) → (d : List ℕ) × (logged c p0 (e ∷ past) 0 j ≡ Some d)
      stays k = (k.0, logged_stays c p0 0 j k.0 e past k.1)

      new : view c past ≡ 0 → logged c p0 past 0 i ≡ None → proposal c p0 past e 0 i ≡ Some b → (d : List ℕ) × (logged c p0 past 0 j ≡ Some d)
      new before is h = go (nat_lt (low c p0 past) j) refl
        where
          free : IsFree c p0 past leaves.0.state.number 0 i
          free = (gave c i b e past point leaves h).may.next is

          go : (x : Bool) → nat_lt (low c p0 past) j ≡ x → (d : List ℕ) × (logged c p0 past 0 j ≡ Some d)
          go true m = is_there (logged c p0 past 0 j) (free.used j (ltb-true (low c p0 past) j m) l)
          go false m =
              let n = ltb-false (low c p0 past) j m in
              let a = low_reached c p0 past leaves.0 leaves.1 before in
              let r = number_reached c p0 past leaves.0 leaves.1 in
              executed_logged past leaves.0 leaves.1 before (λ r k root m. none r k root (inr m)) j one (omega arith)

      earlier : (o : Option (List ℕ)) → logged c p0 past 0 i ≡ o → view c past ≡ 0 → or_else o (proposal c p0 past e 0 i) ≡ Some b → ((x : List ℕ) → logged c p0 past 0 i ≡ Some x → (d : List ℕ) × (logged c p0 past 0 j ≡ Some d)) → (d : List ℕ) × (logged c p0 past 0 j ≡ Some d)
      earlier (Some x) is before h below = below x is
      earlier None is before h below = new before is h

never : (xs : List Entry) → Once (λ past e. ⊥) xs → ⊥
never [] h = absurd h
never (e ∷ xs) (inl h) = h
never (e ∷ xs) (inr h) = never xs h

-- ---- the end of the first part

module _ (c : Configuration) (setting : IsConfiguration c) (later start : List Entry) (is_run : IsRun c (later ++ start)) (goes : OnlyTheseStopped c [] (later ++ start))
    (unforged : Unforged c (later ++ start)) (f : FirstViewGoesOn c later start) (all : AllRedelivered c later start) where
  abbrev first_primary : ℕ
  first_primary = primary c 0

  abbrev trace : List Entry
  trace = later ++ start

  abbrev whole : List Entry
  whole = history_of (primary c 0) (later ++ start)

  point : Point
  point = (goes.replicas first_primary f.from refl).0

  leaves : HistoryReaches c first_primary whole point
  unfolding point
  leaves = proceeds_leaves c first_primary whole [] (goes.replicas first_primary f.from refl).0 (goes.replicas first_primary f.from refl).0 (goes.replicas first_primary f.from refl).1

  is_first : view c whole ≡ 0
  is_first = (active_parts c whole 0 (f.active first_primary f.from)).0

  none_here : (r n : ℕ) (root : List ℕ) → HasEntry (Installed r n root) whole → ⊥
  none_here r n root h = go (own_in first_primary (Installed r n root) trace h)
    where
      go : r ≡ first_primary → ⊥
      go own = f.none r n root (subst (λ (x : ℕ). is_correct_replica c x ≡ true) (sym own) f.from) (in_trace first_primary (Installed r n root) trace h)

  given_at : (i : ℕ) (b : List ℕ) → logged c first_primary whole 0 i ≡ Some b → WasGiven c i b whole
  given_at i b h = was_given c i b whole point leaves h

  is_given : (i : ℕ) (b : List ℕ) → logged c first_primary whole 0 i ≡ Some b → IsGivenFirst c i later start
  is_given i b h = record { batch = b; says = says; number = (given_at i b h).number; each = f.given i b says }
    where
      says : Once (SendsBody (giving c i b)) trace
      says =
          once_weaker (λ past e. (party_of e ≡ first_primary) × SendsBody (giving c i b) (history_of first_primary past) e) (SendsBody (giving c i b))
          (λ past e t. sends_any (giving c i b) (history_of first_primary past) past e t.1) trace (once_in_trace (SendsBody (giving c i b)) first_primary trace (given_at i b h).says)

  its_batch : (i : ℕ) (b : List ℕ) (h : logged c first_primary whole 0 i ≡ Some b) → (is_given i b h).batch ≡ b
  unfolding is_given
  its_batch i b h = refl

  -- each correct replica reached all numbers that the primary logged
  all_reach : (i : ℕ) (b : List ℕ) → logged c first_primary whole 0 i ≡ Some b → (r : ℕ) → is_correct_replica c r ≡ true → i ≤ reached trace r
  all_reach i b h r correct = first_numbers_are_executed c setting later start is_run goes unforged i f.from f.active f.none all r correct each
    where
      each : (j : ℕ) → reached start r < j → j ≤ i → IsGivenFirst c j later start
      each j above most = go (j == i) refl
        where
          go : (x : Bool) → (j == i) ≡ x → IsGivenFirst c j later start
          go true e = is_given j b (subst (λ (n : ℕ). logged c first_primary whole 0 n ≡ Some b) (sym (eqb-true j i e)) h)
          go false e =
              let d = eqb-false j i e in
              let k = filled c whole point leaves is_first none_here i j b h (omega arith) (omega arith) in
              is_given j k.0 k.1

  -- so the primary's next number is free
  next_free : IsFree c first_primary whole (reached trace first_primary) 0 (suc (reached trace first_primary))
  next_free = record { in_marks = f.room; near = near; used = used; unused = unused }
    where
      near : suc (reached trace first_primary) ≤ reached trace first_primary + 2
      near = omega arith

      used : (j : ℕ) → low c first_primary whole < j → j < suc (reached trace first_primary) → is_some (logged c first_primary whole 0 j) ≡ true
      used j above less =
          let n = number_reached c first_primary whole point leaves in
          let m = reached_history first_primary trace in
          ap is_some (executed_logged c whole point leaves is_first none_here j (omega arith) (omega arith)).1

      unused : (j : ℕ) → suc (reached trace first_primary) ≤ j → logged c first_primary whole 0 j ≡ None
      unused j least = go (logged c first_primary whole 0 j) refl
        where
          go : (o : Option (List ℕ)) → logged c first_primary whole 0 j ≡ o → o ≡ None
          go None is = refl
          go (Some x) is = let l = all_reach j x is first_primary f.from in absurd (omega arith)

  -- each correct replica reached the primary's executed number
  all_level : (r : ℕ) → is_correct_replica c r ≡ true → reached trace first_primary ≤ reached trace r
  all_level r correct = go (reached trace first_primary) refl
    where
      go : (n : ℕ) → reached trace first_primary ≡ n → n ≤ reached trace r
      go zero is = omega arith
      go (suc n) is =
          let a = number_reached c first_primary whole point leaves in
          let b = reached_history first_primary trace in
          let k = executed_logged c whole point leaves is_first none_here (suc n) (omega arith) (omega arith) in
          all_reach (suc n) k.0 k.1 r correct

-- ---- the law

module _ (c : Configuration) (setting : IsConfiguration c) (again later start : List Entry) (is_run : IsRun c (later ++ start)) (goes : OnlyTheseStopped c [] (later ++ start))
    (is_whole : IsRun c (again ++ (later ++ start))) (whole_goes : OnlyTheseStopped c [] (again ++ (later ++ start))) (unforged : Unforged c (again ++ (later ++ start)))
    (apart : NoCollision c (again ++ (later ++ start))) (f : FirstViewGoesOn c later start) (all : AllRedelivered c later start)
    (k : ℕ) (call : OpenCall) (client : is_correct_client c (256 + k) ≡ true)
    (tick : HasEntry (Tick (256 + k)) again) (all_again : AllDelivered c again) (still : open_call (history_of (256 + k) (later ++ start)) ≡ Some call) where
  abbrev middle : List Entry
  middle = later ++ start

  run : Run c middle
  run = run_part c again middle (run_of c setting (again ++ middle) is_whole unforged apart)

  -- the primary keeps the reply, so each correct replica does
  when_kept : KeepsReply c (primary c 0) (history_of (primary c 0) middle) k call.timestamp → (answer : Outcome) × HasEntry (Accepted k call.timestamp answer) again
  when_kept kept =
      executed_calls_are_accepted c setting again middle is_whole whole_goes unforged apart k call (is_correct_replica c) client still (many_correct c setting) (λ r h. (h, keeps r h)) tick all_again
    where
      first : IsBy c middle kept.point.state
      first = by_at c middle run (primary c 0) [] (history_of (primary c 0) middle) kept.point f.from refl kept.leaves

      keeps : (r : ℕ) → is_correct_replica c r ≡ true → KeepsReply c r (history_of r middle) k call.timestamp
      keeps r correct = keeps_reply c middle run k client call still r [] (history_of r middle) its correct refl leaves_r late
        where
          its : Point
          its = (goes.replicas r correct refl).0

          leaves_r : HistoryReaches c r (history_of r middle) its
          leaves_r = proceeds_leaves c r (history_of r middle) [] (goes.replicas r correct refl).0 (goes.replicas r correct refl).0 (goes.replicas r correct refl).1

          by : IsBy c middle its.state
          by = by_at c middle run r [] (history_of r middle) its correct refl leaves_r

          level : kept.point.state.number ≤ its.state.number
          level =
              let a = number_reached c (primary c 0) (history_of (primary c 0) middle) kept.point kept.leaves in
              let b = reached_history (primary c 0) middle in
              let d = number_reached c r (history_of r middle) its leaves_r in
              let e = reached_history r middle in
              let g = all_level c setting later start is_run goes run.runs.unforged f all r correct in
              omega arith

          late : call.timestamp ≤ last_time its.state k
          late =
              let grows = by_grows c setting middle opening 1 kept.point.state.number its.state.number k level opening_full in
              let one : last_time kept.point.state k ≡ last_time (state_by c middle opening 1 kept.point.state.number) k = ap (λ (s : State). last_time s k) first.is in
              let two : last_time its.state k ≡ last_time (state_by c middle opening 1 its.state.number) k = ap (λ (s : State). last_time s k) by.is in
              let t = (ap (λ (o : Option Kept). option_map_or (λ (x : Kept). x.timestamp) o 0) kept.is_kept ∙ kept.time) in
              omega arith

  -- the primary numbered the call, so each correct replica executed it
  when_numbered : IsNumbered c (primary c 0) (history_of (primary c 0) middle) 0 k call.timestamp → (answer : Outcome) × HasEntry (Accepted k call.timestamp answer) again
  when_numbered n = go n.1
    where
      go : IsOfView c (primary c 0) (history_of (primary c 0) middle) 0 n.0 → (answer : Outcome) × HasEntry (Accepted k call.timestamp answer) again
      go (inl h) =
          let positive = (given_at c setting later start is_run goes run.runs.unforged f all h.0 n.0 h.1).positive in
          let given = is_given c setting later start is_run goes run.runs.unforged f all h.0 n.0 h.1 in
          answered c setting again middle goes is_whole whole_goes unforged apart 0 h.0 (primary c 0) n.0 f.from
          (subst (λ (b : List ℕ). Committed c (primary c 0) (history_of (primary c 0) middle) 0 h.0 b) (its_batch c setting later start is_run goes run.runs.unforged f all h.0 n.0 h.1)
          (committed_first c setting later start is_run goes run.runs.unforged f.from f.active f.none all h.0 given positive (primary c 0) f.from))
          (λ r correct. all_reach c setting later start is_run goes run.runs.unforged f all h.0 n.0 h.1 r correct) positive k call client still n.2 tick all_again
      go (inr h) =
          absurd (never (history_of (primary c 0) middle) (once_weaker (BeginsViewWith c 0 n.0) (λ past e. ⊥)
          (λ past e t. let above = (takes c (primary c 0) past e t.0 t.1).above in let first = t.2 in omega arith) (history_of (primary c 0) middle) h))

  accepts : StandsAtPrimary c 0 k call.timestamp middle → (answer : Outcome) × HasEntry (Accepted k call.timestamp answer) again
  accepts (inl kept) = when_kept kept
  accepts (inr numbers) = when_numbered (numbers (suc (reached middle (primary c 0))) (next_free c setting later start is_run goes run.runs.unforged f all))

pub every_call_is_accepted : EveryCallIsAccepted
every_call_is_accepted c setting again later start is_run goes is_whole whole_goes unforged apart f all k call client opened asks tick all_again =
    go (open_calls_are_numbered c setting later start is_run goes run.runs.unforged run.apart k call client opened asks delivered 0 f.from (f.active (primary c 0) f.from))
  where
    run : Run c (later ++ start)
    run = run_part c again (later ++ start) (run_of c setting (again ++ (later ++ start)) is_whole unforged apart)

    delivered : AllDelivered c later
    delivered p q bytes h meant_is correct = all p q bytes (has_left (λ x. x ≡ Sent p bytes) later start h) meant_is correct

    go : ((answer : Outcome) × HasEntry (Accepted k call.timestamp answer) later) ⊎ StandsAtPrimary c 0 k call.timestamp (later ++ start) → (answer : Outcome) × HasEntry (Accepted k call.timestamp answer) (again ++ later)
    go (inl a) = (a.0, has_right (λ x. x ≡ Accepted k call.timestamp a.0) again later a.1)
    go (inr stands) =
        in_either c k call again later start (is_run.clients (256 + k) client) opened
        (λ still. accepts c setting again later start is_run goes is_whole whole_goes unforged apart f all k call client tick all_again still stands)
