-- While a view goes on after it was entered, each correct replica executes its primary's batches, and calls are
-- accepted.
use Rattle.std.proofs.Common.{◌≡◌, ℕ, suc, ◌+◌, ◌≤◌, ◌<◌, ◌⊎◌, inl, inr, true, List, [], ◌++◌, Option, Some, None, refl, ap, ◌∙◌, subst, arith}
use Rattle.std.specs.Prelude.{is_some}
use Rattle.std.specs.Option.{option_map_or}
use Rattle.tuple_codec.specs.Operations.{Outcome}
use Rattle.reply_cache.specs.Replies.{Kept}
use Rattle.protocol.specs.System.Configuration.{Configuration, IsConfiguration, primary, is_correct_replica, is_correct_client}
use Rattle.protocol.specs.System.Trace.{Entry, history_of, Unforged}
use Rattle.protocol.specs.System.Trace.Entry.{Sent, Tick, Accepted}
use Rattle.protocol.specs.System.Texts.{NoCollision}
use Rattle.protocol.specs.System.Run.{IsRun, OnlyTheseStopped}
use Rattle.protocol.specs.Replica.Certificates.{low, logged, Committed}
use Rattle.protocol.specs.Replica.State.{State, opening, last_time}
use Rattle.protocol.specs.Replica.RightReplica.{Point, HistoryReaches, IsFree}
use Rattle.protocol.specs.Replica.Owed.{IsOfView, IsNumbered}
use Rattle.protocol.specs.Client.RightClient.{OpenCall, open_call}
use Rattle.protocol.specs.Space.Linear.{reached}
use Rattle.protocol.proofs.Words.Elements.{has_left, has_right}
use Rattle.protocol.proofs.Words.Reacting.{proceeds_leaves}
use Rattle.protocol.proofs.Points.Levels.{many_correct, number_reached, reached_history}
use Rattle.protocol.proofs.Points.Running.{Run, IsBy, state_by}
use Rattle.protocol.proofs.Points.Keeping.{opening_full}
use Rattle.protocol.proofs.Points.Invoking.{run_part}
use Rattle.evidence.proofs.Gaps.{has_value}
use Rattle.progress.specs.Delivery.{HasEntry, AllDelivered}
use Rattle.progress.specs.Answered.{KeepsReply}
use Rattle.progress.specs.Redelivered.{AllRedelivered, StaysActive, IsGiven}
use Rattle.progress.specs.Waiting.{StandsAtPrimary}
use Rattle.progress.specs.Assigned.{NumberIsAssigned}
use Rattle.progress.specs.NextView.{BatchHasNumber, ViewGoesOn, CallsOutliveChanges}
use Rattle.progress.proofs.Replies.{run_of}
use Rattle.progress.proofs.Keeping.{by_at, by_grows, keeps_reply}
use Rattle.progress.proofs.Answering.{executed_calls_are_accepted}
use Rattle.progress.proofs.Redelivering.{committed}
use Rattle.progress.proofs.Normal.{answered, in_either}
use Rattle.progress.proofs.Numbering.{open_calls_are_numbered}
use Rattle.progress.proofs.Assigned.{assigned_is_committed, assigned_numbers_are_executed}
use Rattle.progress.proofs.Changing.{next_is_entered}

module _ (c : Configuration) (setting : IsConfiguration c) (later start : List Entry) (is_run : IsRun c (later ++ start)) (goes : OnlyTheseStopped c [] (later ++ start))
    (unforged : Unforged c (later ++ start)) (v : ℕ) (f : ViewGoesOn c v later start) (stays : (q : ℕ) → is_correct_replica c q ≡ true → StaysActive c v later start q) (all : AllRedelivered c later start) where
  abbrev trace : List Entry
  trace = later ++ start

  -- the new view or the primary assigned each number that the primary logged
  either : (i : ℕ) → is_some (logged c (primary c v) (history_of (primary c v) (later ++ start)) v i) ≡ true → NumberIsAssigned c v i later start ⊎ IsGiven c v i later start
  either i h = go (f.numbers i (has_value (logged c (primary c v) (history_of (primary c v) (later ++ start)) v i) h).0 (has_value (logged c (primary c v) (history_of (primary c v) (later ++ start)) v i) h).1).1
    where
      go : BatchHasNumber c v i (has_value (logged c (primary c v) (history_of (primary c v) (later ++ start)) v i) h).0 later start → NumberIsAssigned c v i later start ⊎ IsGiven c v i later start
      go (inl x) = inl x.0
      go (inr x) = inr x.0

  -- each correct replica executes the numbers that the primary logged, and those that it executed
  reach : (m : ℕ) → (m ≤ reached (later ++ start) (primary c v)) ⊎ (is_some (logged c (primary c v) (history_of (primary c v) (later ++ start)) v m) ≡ true) → (r : ℕ) → is_correct_replica c r ≡ true
      → m ≤ reached (later ++ start) r
  reach m some r correct =
      assigned_numbers_are_executed c setting later start is_run goes unforged v m f.from stays all r correct (λ j above most. either j (f.all r m j correct above most some))

  pub all_reach : (i : ℕ) (b : List ℕ) → logged c (primary c v) (history_of (primary c v) (later ++ start)) v i ≡ Some b → (r : ℕ) → is_correct_replica c r ≡ true → i ≤ reached (later ++ start) r
  all_reach i b h r correct = reach i (inr (ap is_some h)) r correct

  pub all_level : (r : ℕ) → is_correct_replica c r ≡ true → reached (later ++ start) (primary c v) ≤ reached (later ++ start) r
  all_level r correct = reach (reached (later ++ start) (primary c v)) (inl (let l : reached (later ++ start) (primary c v) ≤ reached (later ++ start) (primary c v) = omega arith in l)) r correct

  pub is_committed : (i : ℕ) (b : List ℕ) → logged c (primary c v) (history_of (primary c v) (later ++ start)) v i ≡ Some b → Committed c (primary c v) (history_of (primary c v) (later ++ start)) v i b
  is_committed i b h = go (f.numbers i b h).1
    where
      go : BatchHasNumber c v i b later start → Committed c (primary c v) (history_of (primary c v) (later ++ start)) v i b
      go (inl x) = subst (λ (y : List ℕ). Committed c (primary c v) (history_of (primary c v) (later ++ start)) v i y) x.1
          (assigned_is_committed c setting later start is_run goes unforged v f.from stays all i x.0 (primary c v) f.from)
      go (inr x) = subst (λ (y : List ℕ). Committed c (primary c v) (history_of (primary c v) (later ++ start)) v i y) x.1
          (committed c setting later start is_run goes unforged v f.from stays all i x.0 (primary c v) f.from)

  pub next_free : IsFree c (primary c v) (history_of (primary c v) (later ++ start)) (reached (later ++ start) (primary c v)) v (suc (reached (later ++ start) (primary c v)))
  next_free = record { in_marks = f.room; near = near; used = used; unused = unused }
    where
      near : suc (reached (later ++ start) (primary c v)) ≤ reached (later ++ start) (primary c v) + 2
      near = omega arith

      used : (j : ℕ) → low c (primary c v) (history_of (primary c v) (later ++ start)) < j → j < suc (reached (later ++ start) (primary c v)) → is_some (logged c (primary c v) (history_of (primary c v) (later ++ start)) v j) ≡ true
      used j above less = let most : j ≤ reached (later ++ start) (primary c v) = omega arith in f.used j above most

      unused : (j : ℕ) → suc (reached (later ++ start) (primary c v)) ≤ j → logged c (primary c v) (history_of (primary c v) (later ++ start)) v j ≡ None
      unused j least = go (logged c (primary c v) (history_of (primary c v) (later ++ start)) v j) refl
        where
          go : (o : Option (List ℕ)) → logged c (primary c v) (history_of (primary c v) (later ++ start)) v j ≡ o → o ≡ None
          go None is = refl
          go (Some x) is = let l = all_reach j x is (primary c v) f.from in absurd (omega arith)

-- ---- the law

module _ (c : Configuration) (setting : IsConfiguration c) (again later start : List Entry) (is_run : IsRun c (later ++ start)) (goes : OnlyTheseStopped c [] (later ++ start))
    (is_whole : IsRun c (again ++ (later ++ start))) (whole_goes : OnlyTheseStopped c [] (again ++ (later ++ start))) (unforged : Unforged c (again ++ (later ++ start)))
    (apart : NoCollision c (again ++ (later ++ start))) (v : ℕ) (f : ViewGoesOn c v later start) (stays : (q : ℕ) → is_correct_replica c q ≡ true → StaysActive c v later start q) (all : AllRedelivered c later start)
    (k : ℕ) (call : OpenCall) (client : is_correct_client c (256 + k) ≡ true)
    (tick : HasEntry (Tick (256 + k)) again) (all_again : AllDelivered c again) (still : open_call (history_of (256 + k) (later ++ start)) ≡ Some call) where
  abbrev middle : List Entry
  middle = later ++ start

  run : Run c middle
  run = run_part c again middle (run_of c setting (again ++ middle) is_whole unforged apart)

  -- the primary keeps the reply, so each correct replica does
  when_kept : KeepsReply c (primary c v) (history_of (primary c v) middle) k call.timestamp → (answer : Outcome) × HasEntry (Accepted k call.timestamp answer) again
  when_kept kept =
      executed_calls_are_accepted c setting again middle is_whole whole_goes unforged apart k call (is_correct_replica c) client still (many_correct c setting) (λ r h. (h, keeps r h)) tick all_again
    where
      first : IsBy c middle kept.point.state
      first = by_at c middle run (primary c v) [] (history_of (primary c v) middle) kept.point f.from refl kept.leaves

      keeps : (r : ℕ) → is_correct_replica c r ≡ true → KeepsReply c r (history_of r middle) k call.timestamp
      keeps r correct = keeps_reply c middle run k client call still r [] (history_of r middle) its correct refl leaves_r late
        where
          its : Point
          its = (goes.replicas r correct refl).0

          leaves_r : HistoryReaches c r (history_of r middle) its
          leaves_r = proceeds_leaves c r (history_of r middle) [] (goes.replicas r correct refl).0 (goes.replicas r correct refl).0 (goes.replicas r correct refl).1

          by : IsBy c middle its.state
          by = by_at c middle run r [] (history_of r middle) its correct refl leaves_r

          level : kept.point.state.number ≤ its.state.number
          level =
              let a = number_reached c (primary c v) (history_of (primary c v) middle) kept.point kept.leaves in
              let b = reached_history (primary c v) middle in
              let d = number_reached c r (history_of r middle) its leaves_r in
              let e = reached_history r middle in
              let g = all_level c setting later start is_run goes run.runs.unforged v f stays all r correct in
              omega arith

          late : call.timestamp ≤ last_time its.state k
          late =
              let grows = by_grows c setting middle opening 1 kept.point.state.number its.state.number k level opening_full in
              let one : last_time kept.point.state k ≡ last_time (state_by c middle opening 1 kept.point.state.number) k = ap (λ (s : State). last_time s k) first.is in
              let two : last_time its.state k ≡ last_time (state_by c middle opening 1 its.state.number) k = ap (λ (s : State). last_time s k) by.is in
              let t = (ap (λ (o : Option Kept). option_map_or (λ (x : Kept). x.timestamp) o 0) kept.is_kept ∙ kept.time) in
              omega arith

  -- the primary numbered the call, so each correct replica executed it
  when_numbered : IsNumbered c (primary c v) (history_of (primary c v) middle) v k call.timestamp → (answer : Outcome) × HasEntry (Accepted k call.timestamp answer) again
  when_numbered n = go n.1
    where
      by : (i : ℕ) → logged c (primary c v) (history_of (primary c v) middle) v i ≡ Some n.0 → (answer : Outcome) × HasEntry (Accepted k call.timestamp answer) again
      by i h =
          answered c setting again middle goes is_whole whole_goes unforged apart v i (primary c v) n.0 f.from
          (is_committed c setting later start is_run goes run.runs.unforged v f stays all i n.0 h)
          (λ r correct. all_reach c setting later start is_run goes run.runs.unforged v f stays all i n.0 h r correct) (f.numbers i n.0 h).0 k call client still n.2 tick all_again

      go : IsOfView c (primary c v) (history_of (primary c v) middle) v n.0 → (answer : Outcome) × HasEntry (Accepted k call.timestamp answer) again
      go (inl h) = by h.0 h.1
      go (inr h) = let x = f.begins n.0 h in by x.0 x.1

  accepts : StandsAtPrimary c v k call.timestamp middle → (answer : Outcome) × HasEntry (Accepted k call.timestamp answer) again
  accepts (inl kept) = when_kept kept
  accepts (inr numbers) = when_numbered (numbers (suc (reached middle (primary c v))) (next_free c setting later start is_run goes run.runs.unforged v f stays all))

pub calls_outlive_changes : CallsOutliveChanges
calls_outlive_changes c setting again later start was_run went is_run goes is_whole whole_goes unforged apart v mark root n delivered f all k call client opened asks tick all_again =
    go (open_calls_are_numbered c setting later start is_run goes run.runs.unforged run.apart k call client opened asks redelivered v f.from (f.active (primary c v) f.from))
  where
    run : Run c (later ++ start)
    run = run_part c again (later ++ start) (run_of c setting (again ++ (later ++ start)) is_whole unforged apart)

    before : Run c start
    before = run_part c later start run

    stays : (q : ℕ) → is_correct_replica c q ≡ true → StaysActive c v later start q
    stays q correct = record { first = next_is_entered c setting start was_run went before.runs.unforged v mark root n delivered q correct; last = f.active q correct }

    redelivered : AllDelivered c later
    redelivered p q bytes h meant_is correct = all p q bytes (has_left (λ x. x ≡ Sent p bytes) later start h) meant_is correct

    go : ((answer : Outcome) × HasEntry (Accepted k call.timestamp answer) later) ⊎ StandsAtPrimary c v k call.timestamp (later ++ start) → (answer : Outcome) × HasEntry (Accepted k call.timestamp answer) (again ++ later)
    go (inl a) = (a.0, has_right (λ x. x ≡ Accepted k call.timestamp a.0) again later a.1)
    go (inr stands) =
        in_either c k call again later start (is_run.clients (256 + k) client) opened
        (λ still. accepts c setting again later start is_run goes is_whole whole_goes unforged apart v f stays all k call client tick all_again still stands)
