-- A request that ran does nothing when it comes again.
use Rattle.std.proofs.Common.{◌≡◌, ℕ, suc, ◌≤◌, ◌<◌, inl, inr, Bool, true, false, cond, List, [], ◌∷◌, ◌++◌, length, fold, refl, sym, ap, ◌∙◌, subst, arith, Option, Some, None}
use Rattle.std.specs.Option.{option_map_or}
use Rattle.std.proofs.lemmas.Bool.{ltb-false, ltb-true}
use Rattle.wire_format.specs.Words.{requests_of}
use Rattle.protocol.specs.System.Configuration.{Configuration, IsConfiguration}
use Rattle.protocol.specs.System.Trace.{Entry, Always, Has}
use Rattle.protocol.specs.System.Trace.Entry.{Invoke, Executed, Installed, Accepted}
use Rattle.protocol.specs.Replica.State.{State, Call, Ran, call_of, runs, run_call, ran_call, kept_by, run_frame, ran_by, ran_in, execute, last_time}
use Rattle.protocol.specs.Replica.RightReplica.{Point, HistoryReaches, May, MovesPoint}
use Rattle.evidence.specs.Refused.{RunsOnce, NoInstallation}
use Rattle.protocol.proofs.Points.Keeping.{Full, opening_full, time_here, time_grows, call_small, frames_full, executed_full, executed_times}

-- ---- the last timestamps grow

module _ (c : Configuration) (setting : IsConfiguration c) where
  runs_at_most : (st : State) (call : Call) → Full st → call.client < 256 → (k cl : ℕ) → (b : Bool) → runs st call ≡ b → last_time st cl ≤ last_time (cond b (ran_call st k call) st) cl
  runs_at_most st call full small k cl true e =
      let f : length st.replies ≡ 256 = full in
      time_grows st k call cl (omega arith) (ltb-true (last_time st call.client) call.timestamp e)
  runs_at_most st call full small k cl false e = omega arith

  frame_grows : (k : ℕ) (st : State) (frame : List ℕ) (cl : ℕ) → Full st → last_time st cl ≤ last_time (run_frame c k st frame) cl
  frame_grows k st frame cl full = go (call_of c frame) refl
    where
      go : (o : Option Call) → call_of c frame ≡ o → last_time st cl ≤ last_time (option_map_or (run_call st k) o st) cl
      go None e = omega arith
      go (Some call) e = runs_at_most st call full (call_small c setting frame call e) k cl (runs st call) refl

  frames_grow : (k : ℕ) (st : State) (frames : List (List ℕ)) (cl : ℕ) → Full st → last_time st cl ≤ last_time (fold (run_frame c k) st frames) cl
  frames_grow k st [] cl full = omega arith
  frames_grow k st (frame ∷ frames) cl full =
      let a = frame_grows k st frame cl full in
      let b = frames_grow k (run_frame c k st frame) frames cl (frames_full c k st (frame ∷ []) full) in
      omega arith

  -- after a request's frame, its client's last timestamp is at least the request's
  ran_time : (k : ℕ) (st : State) (frame : List ℕ) (call : Call) → Full st → call_of c frame ≡ Some call → call.timestamp ≤ last_time (run_frame c k st frame) call.client
  ran_time k st frame call full is =
      subst (λ (o : Option Call). call.timestamp ≤ last_time (option_map_or (run_call st k) o st) call.client) (sym is) (go (runs st call) refl)
    where
      go : (b : Bool) → runs st call ≡ b → call.timestamp ≤ last_time (cond b (ran_call st k call) st) call.client
      go true e =
          let small = call_small c setting frame call is in
          let f : length st.replies ≡ 256 = full in
          let h = time_here st k call (omega arith) in
          omega arith
      go false e = let h = ltb-false (last_time st call.client) call.timestamp e in omega arith

  frames_time : (k : ℕ) (st : State) (frames : List (List ℕ)) (frame : List ℕ) (call : Call) → Full st → call_of c frame ≡ Some call → Has (λ x. x ≡ frame) frames
      → call.timestamp ≤ last_time (fold (run_frame c k) st frames) call.client
  frames_time k st [] frame call full is h = absurd h
  frames_time k st (x ∷ frames) frame call full is (inl h) =
      let a = ran_time k st x call full (ap (call_of c) h ∙ is) in
      let b = frames_grow k (run_frame c k st x) frames call.client (frames_full c k st (x ∷ []) full) in
      omega arith
  frames_time k st (x ∷ frames) frame call full is (inr h) = frames_time k (run_frame c k st x) frames frame call (frames_full c k st (x ∷ []) full) is h

  executed_grows : (st : State) (batch : List ℕ) (cl : ℕ) → Full st → last_time st cl ≤ last_time (execute c st batch) cl
  executed_grows st batch cl full =
      let a = frames_grow (suc st.number) st (requests_of batch) cl full in
      let b = executed_times c st batch cl in
      omega arith

  -- ---- over a history

  leaves_full : (me : ℕ) (xs : List Entry) (point : Point) → HistoryReaches c me xs point → Full point.state
  leaves_full me [] point h = subst (λ (p : Point). Full p.state) (sym h) opening_full
  leaves_full me (e ∷ past) point h = go e h.2.may h.2.moves (leaves_full me past h.0 h.1)
    where
      go : (e : Entry) → May c me past h.0 e → MovesPoint c me past h.0 e point → Full h.0.state → Full point.state
      go (Executed p k batch) may move full = subst (λ (q : Point). Full q.state) (sym move) (executed_full c h.0.state batch full)
      go (Installed p k root) may move full = move.is_state.replies.all
      go (Invoke x y z) may move full = absurd may
      go (Accepted x y z) may move full = absurd may
      go _ may move full = subst (λ (q : Point). Full q.state) (sym move) full

  time_stays : (me : ℕ) (between rest : List Entry) (t cl : ℕ) → Always NoInstallation between → ((point : Point) → HistoryReaches c me rest point → t ≤ last_time point.state cl)
      → (point : Point) → HistoryReaches c me (between ++ rest) point → t ≤ last_time point.state cl
  time_stays me [] rest t cl none start point h = start point h
  time_stays me (e ∷ between) rest t cl none start point h = go e h.2.may h.2.moves none.0 (time_stays me between rest t cl none.1 start h.0 h.1)
    where
      go : (e : Entry) → May c me (between ++ rest) h.0 e → MovesPoint c me (between ++ rest) h.0 e point → NoInstallation between e → t ≤ last_time h.0.state cl → t ≤ last_time point.state cl
      go (Executed p k batch) may move n was =
          let grows = executed_grows h.0.state batch cl (leaves_full me (between ++ rest) h.0 h.1) in
          subst (λ (q : Point). t ≤ last_time q.state cl) (sym move) (omega arith)
      go (Installed p k root) may move n was = absurd n
      go (Invoke x y z) may move n was = absurd may
      go (Accepted x y z) may move n was = absurd may
      go _ may move n was = subst (λ (q : Point). t ≤ last_time q.state cl) (sym move) was

  -- ---- what does not run

  -- with and without the frame the same is done, and the same runs
  abbrev Same : ℕ → State → List (List ℕ) → List (List ℕ) → Type 0
  Same k st xs ys = (fold (run_frame c k) st xs ≡ fold (run_frame c k) st ys) × (ran_in c k st xs ≡ ran_in c k st ys)

  no_run : (k : ℕ) (st : State) (frame : List ℕ) (rest : List (List ℕ)) (call : Call) → call_of c frame ≡ Some call → call.timestamp ≤ last_time st call.client → Same k st (frame ∷ rest) rest
  no_run k st frame rest call is old = (ap (λ (x : State). fold (run_frame c k) x rest) stays, again)
    where
      still : (b : Bool) → runs st call ≡ b → b ≡ false
      still true e = let h = ltb-true (last_time st call.client) call.timestamp e in absurd (omega arith)
      still false e = refl

      not_run : runs st call ≡ false
      not_run = still (runs st call) refl

      stays : run_frame c k st frame ≡ st
      stays = ap (λ (o : Option Call). option_map_or (run_call st k) o st) is ∙ ap (λ (b : Bool). cond b (ran_call st k call) st) not_run

      none : option_map_or (ran_by st k) (call_of c frame) [] ≡ []
      none = ap (λ (o : Option Call). option_map_or (ran_by st k) o []) is ∙ ap (λ (b : Bool). cond b (let x : Ran = record { call = call; kept = kept_by st k call } in x ∷ []) []) not_run

      again : ran_in c k st (frame ∷ rest) ≡ ran_in c k st rest
      again = ap (λ (xs : List Ran). xs ++ ran_in c k (run_frame c k st frame) rest) none ∙ ap (λ (x : State). ran_in c k x rest) stays

  left_out : (k : ℕ) (st : State) (first : List (List ℕ)) (frame : List ℕ) (rest : List (List ℕ)) (call : Call) → Full st → call_of c frame ≡ Some call → call.timestamp ≤ last_time st call.client
      → Same k st (first ++ frame ∷ rest) (first ++ rest)
  left_out k st [] frame rest call full is old = no_run k st frame rest call is old
  left_out k st (x ∷ first) frame rest call full is old =
      let grows = frame_grows k st x call.client full in
      let below = left_out k (run_frame c k st x) first frame rest call (frames_full c k st (x ∷ []) full) is (omega arith) in
      (below.0, ap (λ (xs : List Ran). option_map_or (ran_by st k) (call_of c x) [] ++ xs) below.1)

executed_state : (c : Configuration) (st : State) (batch : List ℕ) → execute c st batch ≡ record (fold (run_frame c (suc st.number)) st (requests_of batch)) { number = suc st.number }
unfolding execute
executed_state c st batch = refl

pub runs_once : RunsOnce
runs_once c setting me m n batch later frame again first rest call other between past old new is has comes same not_newer later_is none leaves step =
    let full = leaves_full c setting me (between ++ Executed me m batch ∷ past) old leaves in
    let late = time_stays c setting me between (Executed me m batch ∷ past) call.timestamp call.client none behind old leaves in
    let late' : other.timestamp ≤ last_time old.state other.client = subst (λ (cl : ℕ). other.timestamp ≤ last_time old.state cl) (sym same) (omega arith) in
    let s = left_out c setting n old.state first again rest other full comes late' in
    let next : n ≡ suc old.state.number = step.may.next in (
      ap (λ (p : Point). p.state) step.moves ∙ executed_state c old.state later
          ∙ ap (λ (k : ℕ). record (fold (run_frame c k) old.state (requests_of later)) { number = k }) (sym next)
          ∙ ap (λ (xs : List (List ℕ)). record (fold (run_frame c n) old.state xs) { number = n }) later_is
          ∙ ap (λ (st : State). record st { number = n }) s.0,
      ap (λ (p : Point). p.ran) step.moves ∙ ap (λ (xs : List (List ℕ)). old.ran ++ ran_in c n old.state xs) later_is ∙ ap (λ (xs : List Ran). old.ran ++ xs) s.1,
    )
  where
    behind : (point : Point) → HistoryReaches c me (Executed me m batch ∷ past) point → call.timestamp ≤ last_time point.state call.client
    behind point h =
        let a = frames_time c setting (suc h.0.state.number) h.0.state (requests_of batch) frame call (leaves_full c setting me past h.0 h.1) is has in
        let b = executed_times c h.0.state batch call.client in
        subst (λ (q : Point). call.timestamp ≤ last_time q.state call.client) (sym h.2.moves) (omega arith)
