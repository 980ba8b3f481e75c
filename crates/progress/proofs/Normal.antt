-- A call whose request stands in the next batch is accepted: each correct replica executes it, and keeps the reply.
use Rattle.std.proofs.Common.{◌≡◌, ℕ, zero, suc, ◌+◌, ◌≤◌, ◌<◌, ◌⊎◌, inl, inr, Bool, true, false, cond, List, [], ◌∷◌, ◌++◌, length, fold, Option, Some, refl, sym, ap, ◌∙◌, subst, arith}
use Rattle.std.specs.Option.{option_map_or}
use Rattle.std.proofs.lemmas.Bool.{ltb-false}
use Rattle.tuple_codec.specs.Operations.{Outcome}
use Rattle.wire_format.specs.Words.{requests_of}
use Rattle.protocol.specs.System.Configuration.{Configuration, IsConfiguration, primary, is_correct_replica, is_correct_client}
use Rattle.protocol.specs.System.Trace.{Entry, history_of, Once, Has, Unforged}
use Rattle.protocol.specs.System.Trace.Entry.{Tick, Accepted}
use Rattle.protocol.specs.System.Texts.{NoCollision}
use Rattle.protocol.specs.System.Run.{IsRun, OnlyTheseStopped}
use Rattle.protocol.specs.Replica.Certificates.{Committed}
use Rattle.protocol.specs.Replica.State.{State, Call, opening, runs, run_call, ran_call, call_of, run_frame, execute, last_time}
use Rattle.protocol.specs.Replica.RightReplica.{Point, HistoryReaches}
use Rattle.protocol.specs.Replica.Owed.{HasRequest}
use Rattle.protocol.specs.Client.RightClient.{OpenCall, open_call, IsClient}
use Rattle.protocol.specs.Space.Linear.{reached, batch_of}
use Rattle.protocol.specs.Laws.Histories.{ExecutesBatch}
use Rattle.protocol.proofs.Words.Elements.{has_left, has_right}
use Rattle.protocol.proofs.Words.Reacting.{proceeds_leaves}
use Rattle.protocol.proofs.Agreement.States.{history_append}
use Rattle.protocol.proofs.Agreement.Executing.{executor, executed_committed, logged_text}
use Rattle.protocol.proofs.Agreement.Staying.{committed_agree}
use Rattle.protocol.proofs.Points.Levels.{many_correct, number_reached, reached_history}
use Rattle.protocol.proofs.Points.Running.{Run, IsBy, state_by, batch_is}
use Rattle.protocol.proofs.Points.Keeping.{Full, opening_full, frames_full, executed_full, executed_times, call_small, time_here}
use Rattle.protocol.proofs.Points.Invoking.{run_part}
use Rattle.progress.specs.Delivery.{HasEntry, AllDelivered}
use Rattle.progress.specs.Answered.{KeepsReply}
use Rattle.progress.specs.Normal.{NormalCallsAreAccepted}
use Rattle.progress.proofs.Clients.{Accepting, LivesOnce, lives_once, open_or_accepted}
use Rattle.progress.proofs.Replies.{run_of}
use Rattle.progress.proofs.Keeping.{frames_grow, by_grows, by_at, keeps_reply}
use Rattle.progress.proofs.Answering.{in_trace, executed_calls_are_accepted}
use Rattle.progress.proofs.Ordering.{committed, next_batches_are_executed}

-- ---- after a batch with its request a client's last timestamp is at least the request's

request_ran : (c : Configuration) → IsConfiguration c → (k : ℕ) (st : State) (frame : List ℕ) (call : Call) → call_of c frame ≡ Some call → Full st → call.timestamp ≤ last_time (run_frame c k st frame) call.client
request_ran c setting k st frame call is full = subst (λ (o : Option Call). call.timestamp ≤ last_time (option_map_or (run_call st k) o st) call.client) (sym is) (test (runs st call) refl)
  where
    test : (b : Bool) → runs st call ≡ b → call.timestamp ≤ last_time (cond b (ran_call st k call) st) call.client
    test true e =
        let small : call.client < 256 = call_small c setting frame call is in
        let f : length st.replies ≡ 256 = full in
        subst (λ (x : ℕ). call.timestamp ≤ x) (sym (time_here st k call (omega arith))) (omega arith)
    test false e = let l = ltb-false (last_time st call.client) call.timestamp e in omega arith

frames_ran : (c : Configuration) → IsConfiguration c → (k client t : ℕ) (st : State) (frames : List (List ℕ)) → Full st
    → Has (λ frame. (call : Call) × (call_of c frame ≡ Some call) × (call.client ≡ client) × (call.timestamp ≡ t)) frames → t ≤ last_time (fold (run_frame c k) st frames) client
frames_ran c setting k client t st [] full h = absurd h
frames_ran c setting k client t st (frame ∷ frames) full (inl h) =
    let here = request_ran c setting k st frame h.0 h.1 full in
    let at : h.0.timestamp ≤ last_time (run_frame c k st frame) client = subst (λ (x : ℕ). h.0.timestamp ≤ last_time (run_frame c k st frame) x) h.2 here in
    let more = frames_grow c setting k (run_frame c k st frame) frames client (frames_full c k st (frame ∷ []) full) in
    let time = h.3 in
    omega arith
frames_ran c setting k client t st (frame ∷ frames) full (inr h) = frames_ran c setting k client t (run_frame c k st frame) frames (frames_full c k st (frame ∷ []) full) h

batch_ran : (c : Configuration) → IsConfiguration c → (client t : ℕ) (st : State) (batch : List ℕ) → Full st → HasRequest c client t batch → t ≤ last_time (execute c st batch) client
batch_ran c setting client t st batch full h =
    let a = frames_ran c setting (suc st.number) client t st (requests_of batch) full h in
    let b = executed_times c st batch client in
    omega arith

by_full : (c : Configuration) (xs : List Entry) (st : State) (k n : ℕ) → Full st → Full (state_by c xs st k n)
unfolding state_by
by_full c xs st k zero full = full
by_full c xs st k (suc n) full = by_full c xs (execute c st (batch_of xs k)) (suc k) n (executed_full c st (batch_of xs k) full)

by_next : (c : Configuration) (xs : List Entry) (st : State) (k n j : ℕ) → j ≡ k + n → state_by c xs st k (suc n) ≡ execute c (state_by c xs st k n) (batch_of xs j)
unfolding state_by
by_next c xs st k zero j is = let e : k ≡ j = omega arith in ap (λ (x : ℕ). execute c st (batch_of xs x)) e
by_next c xs st k (suc n) j is = let e : j ≡ suc k + n = omega arith in by_next c xs (execute c st (batch_of xs k)) (suc k) n j e

-- ---- a batch that is committed at one correct replica, and whose number each has reached

module _ (c : Configuration) (setting : IsConfiguration c) (again middle : List Entry) (goes : OnlyTheseStopped c [] middle)
    (is_whole : IsRun c (again ++ middle)) (whole_goes : OnlyTheseStopped c [] (again ++ middle)) (unforged : Unforged c (again ++ middle)) (apart : NoCollision c (again ++ middle))
    (v i p : ℕ) (batch : List ℕ) (one : is_correct_replica c p ≡ true) (here : Committed c p (history_of p middle) v i batch)
    (executes : (r : ℕ) → is_correct_replica c r ≡ true → i ≤ reached middle r) (positive : 1 ≤ i)
    (k : ℕ) (call : OpenCall) (client : is_correct_client c (256 + k) ≡ true) (still : open_call (history_of (256 + k) middle) ≡ Some call)
    (has : HasRequest c k call.timestamp batch) (tick : HasEntry (Tick (256 + k)) again) (all_again : AllDelivered c again) where
  abbrev me : ℕ
  me = 256 + k

  run : Run c middle
  run = run_part c again middle (run_of c setting (again ++ middle) is_whole unforged apart)

  -- the batch is the one that is executed for the number
  is_batch : (b : List ℕ) → Once (ExecutesBatch c i b) middle → b ≡ batch
  is_batch b h =
      let q = executor c i b middle h in
      let ready = executed_committed c middle q.0 i b run.runs.replicas q.1 q.2 in
      run.apart b batch (logged_text c middle q.0 ready.view i b run.runs.replicas q.1 ready.committed.prepared.logged)
      (logged_text c middle p v i batch run.runs.replicas one here.prepared.logged)
      (committed_agree c setting middle run.runs.replicas run.runs.unforged q.0 p ready.view v i b batch q.1 one ready.committed here)

  module _ (r : ℕ) (correct : is_correct_replica c r ≡ true) where
    point : Point
    point = (goes.replicas r correct refl).0

    leaves : HistoryReaches c r (history_of r middle) point
    unfolding point
    leaves = proceeds_leaves c r (history_of r middle) [] (goes.replicas r correct refl).0 (goes.replicas r correct refl).0 (goes.replicas r correct refl).1

    by : IsBy c middle point.state
    by = by_at c middle run r [] (history_of r middle) point correct refl leaves

    high : i ≤ point.state.number
    high = let a = executes r correct in let b = number_reached c r (history_of r middle) point leaves in let d = reached_history r middle in omega arith

    at_least : (n : ℕ) → i ≡ suc n → call.timestamp ≤ last_time point.state k
    at_least n is_n =
        let b = by.executed i positive high in
        let is : batch_of middle i ≡ batch = batch_is c middle i b.0 run b.1 ∙ is_batch b.0 b.1 in
        let next : state_by c middle opening 1 (suc n) ≡ execute c (state_by c middle opening 1 n) batch =
        by_next c middle opening 1 n i (omega arith) ∙ ap (λ (x : List ℕ). execute c (state_by c middle opening 1 n) x) is in
        let ran = batch_ran c setting k call.timestamp (state_by c middle opening 1 n) batch (by_full c middle opening 1 n opening_full) has in
        let ran' : call.timestamp ≤ last_time (state_by c middle opening 1 (suc n)) k = subst (λ (s : State). call.timestamp ≤ last_time s k) (sym next) ran in
        let top = high in
        let grows = by_grows c setting middle opening 1 (suc n) point.state.number k (omega arith) opening_full in
        let own : last_time point.state k ≡ last_time (state_by c middle opening 1 point.state.number) k = ap (λ (s : State). last_time s k) by.is in
        omega arith

    keeps : KeepsReply c r (history_of r middle) k call.timestamp
    keeps = go i refl
      where
        go : (n : ℕ) → i ≡ n → KeepsReply c r (history_of r middle) k call.timestamp
        go zero e = let one = positive in absurd (omega arith)
        go (suc n) e = keeps_reply c middle run k client call still r [] (history_of r middle) point correct refl leaves (at_least n e)

  pub answered : (answer : Outcome) × HasEntry (Accepted k call.timestamp answer) again
  answered =
      executed_calls_are_accepted c setting again middle is_whole whole_goes unforged apart k call (is_correct_replica c) client still (many_correct c setting) (λ r h. (h, keeps r h)) tick all_again

-- in the first part, or in the second
pub in_either : (c : Configuration) (k : ℕ) (call : OpenCall) (again later start : List Entry) → IsClient c (256 + k) (history_of (256 + k) (later ++ start)) → open_call (history_of (256 + k) start) ≡ Some call
    → (open_call (history_of (256 + k) (later ++ start)) ≡ Some call → (answer : Outcome) × HasEntry (Accepted k call.timestamp answer) again)
    → (answer : Outcome) × HasEntry (Accepted k call.timestamp answer) (again ++ later)
in_either c k call again later start right opened next =
    go (open_or_accepted c k call (history_of (256 + k) start) opened (history_of (256 + k) later)
    (subst (LivesOnce c (256 + k)) (history_append (256 + k) later start) (lives_once c (256 + k) (history_of (256 + k) (later ++ start)) right)))
  where
    go : Accepting k call.timestamp (history_of (256 + k) later) ⊎ (open_call (history_of (256 + k) later ++ history_of (256 + k) start) ≡ Some call)
        → (answer : Outcome) × HasEntry (Accepted k call.timestamp answer) (again ++ later)
    go (inl a) = (a.0, has_right (λ x. x ≡ Accepted k call.timestamp a.0) again later (in_trace (256 + k) (Accepted k call.timestamp a.0) later a.1))
    go (inr o) = let a = next (ap open_call (history_append (256 + k) later start) ∙ o) in (a.0, has_left (λ x. x ≡ Accepted k call.timestamp a.0) again later a.1)

pub normal_calls_are_accepted : NormalCallsAreAccepted
normal_calls_are_accepted c setting again later start is_run goes is_whole whole_goes unforged apart v i batch from steady all begins k call client opened has tick all_again =
    let run = run_part c again (later ++ start) (run_of c setting (again ++ (later ++ start)) is_whole unforged apart) in
    let next = (steady (primary c v) from).0.next in
    let positive : 1 ≤ i = omega arith in
    in_either c k call again later start (is_run.clients (256 + k) client) opened
    (λ still. answered c setting again (later ++ start) goes is_whole whole_goes unforged apart v i (primary c v) batch from
    (committed c setting later start is_run goes run.runs.unforged v i batch from steady all begins (primary c v) from)
    (λ r h. next_batches_are_executed c setting later start is_run goes run.runs.unforged v i batch from steady all begins r h) positive k call client still has tick all_again)
