-- All correct replicas but at most f have reached the number with which an ordered call is accepted.
use Rattle.std.proofs.Common.{◌≡◌, ℕ, suc, ◌+◌, ◌*◌, ◌≤◌, ◌⊎◌, inl, inr, Bool, true, false, cond, List, [], ◌∷◌, ◌++◌, fold, refl, sym, ap, ◌∙◌, subst, arith, Option, Some, None, eqb-true, bytes_eq}
use Rattle.std.specs.Prelude.{◌==◌}
use Rattle.std.specs.Option.{option_map_or}
use Rattle.std.proofs.lemmas.Bool.{and_parts}
use Rattle.protocol.specs.Replica.RightReplica
use Rattle.quorum.specs.Quorum.{count_below}
use Rattle.protocol.specs.System.Configuration.{Configuration, IsConfiguration, is_correct_replica, is_correct_client}
use Rattle.terms.specs.declared.order.Mode.TheVariants as modes
use Rattle.wire_format.specs.Messages.{BodyData as Body, reply as Reply}
use Rattle.wire_format.specs.Words.{requests_of}
use Rattle.protocol.specs.System.Trace.{Entry, history_of, Once, Always, Has}
use Rattle.protocol.specs.System.Trace.Entry.{Invoke, Got, Tick, Executed, Installed, Sent, Accepted}
use Rattle.protocol.specs.Replica.State.{State, Call, Ran, opening, runs, run_call, call_of, run_frame, execute, ran_by, ran_in, kept_by, kept_of}
use Rattle.reply_cache.specs.Replies.{Kept}
use Rattle.protocol.specs.Replica.RightReplica.{HistoryReaches, May, MovesPoint, MaySendMessage, MayReply}
use Rattle.protocol.specs.Client.RightClient.{Vote, latest, is_alike}
use Rattle.protocol.specs.Space.Linear.{reached, is_level}
use Rattle.protocol.proofs.Words.Temporal.{once_weaker, once_always, once_stays}
use Rattle.protocol.proofs.Words.Options.{some_injective}
use Rattle.protocol.proofs.Words.Linking.{Speaks, heard_was_said}
use Rattle.protocol.proofs.Agreement.Voting.{RightAt, once_right, correct_replica}
use Rattle.protocol.proofs.Points.Levels.{reached_grows, reached_history, number_reached, level_after}
use Rattle.protocol.proofs.Points.Reading.{Runs, correct_client, own_entries, latest_received}
use Rattle.protocol.specs.Replica.State.{after_batches, ran_call}
use Rattle.protocol.specs.Replica.RightReplica.{executed_point, waiting_after, reply_of}
use Rattle.protocol.specs.System.Texts.{NoCollision}
use Rattle.protocol.proofs.Words.Leaving.{last_put, none_kept, executed_number}
use Rattle.protocol.specs.Laws.Histories.{IsStateOf}
use Rattle.protocol.proofs.Agreement.States.{GoodHere, states_agree}
use Rattle.tuple_codec.specs.Spelling.{outcome_spelling}
use Rattle.tuple_codec.specs.Operations.{Outcome}
use Rattle.protocol.proofs.Words.Elements.{has_some, has_either}

-- each kept number is at most k
abbrev pub AreAtMost : ℕ → State → Type 0
AreAtMost k st = (client : ℕ) (kept : Kept) → kept_of st client ≡ Some kept → kept.number ≤ k

run_at_most : (k : ℕ) (st : State) (call : Call) → AreAtMost k st → AreAtMost k (run_call st k call)
run_at_most k st call most = go (runs st call)
  where
    go : (b : Bool) → (client : ℕ) (kept : Kept) → kept_of (cond b (ran_call st k call) st) client ≡ Some kept → kept.number ≤ k
    go false client kept h = most client kept h
    go true client kept h =
        pick (last_put st.replies call.client client (kept_by st k call))
      where
        pick : ((kept_of (ran_call st k call) client ≡ Some (kept_by st k call)) × (call.client ≡ client)) ⊎ (kept_of (ran_call st k call) client ≡ kept_of st client) → kept.number ≤ k
        pick (inl e) = let same : kept_by st k call ≡ kept = some_injective (kept_by st k call) kept (sym e.0 ∙ h) in let n : k ≡ kept.number = ap (λ (x : Kept). x.number) same in omega arith
        pick (inr e) = most client kept (sym e ∙ h)

frames_at_most : (c : Configuration) (k : ℕ) (st : State) (frames : List (List ℕ)) → AreAtMost k st → AreAtMost k (fold (run_frame c k) st frames)
frames_at_most c k st [] most = most
frames_at_most c k st (frame ∷ frames) most = frames_at_most c k (run_frame c k st frame) frames (go (call_of c frame))
  where
    go : (o : Option Call) → AreAtMost k (option_map_or (run_call st k) o st)
    go None = most
    go (Some call) = run_at_most k st call most

ran_number : (c : Configuration) (k : ℕ) (st : State) (frames : List (List ℕ)) (ran : Ran) → Has (λ x. x ≡ ran) (ran_in c k st frames) → ran.kept.number ≡ k
ran_number c k st [] ran h = absurd h
ran_number c k st (frame ∷ frames) ran h = go (call_of c frame) h (ran_number c k (run_frame c k st frame) frames ran)
  where
    test : (call : Call) (b : Bool) (rest : List Ran) → Has (λ x. x ≡ ran) (cond b (record { call = call; kept = kept_by st k call } ∷ []) [] ++ rest) → (Has (λ x. x ≡ ran) rest → ran.kept.number ≡ k) → ran.kept.number ≡ k
    test call true rest (inl e) below = sym (ap (λ (x : Ran). x.kept.number) e)
    test call true rest (inr e) below = below e
    test call false rest e below = below e

    go : (o : Option Call) → Has (λ x. x ≡ ran) (option_map_or (ran_by st k) o [] ++ ran_in c k (run_frame c k st frame) frames)
        → (Has (λ x. x ≡ ran) (ran_in c k (run_frame c k st frame) frames) → ran.kept.number ≡ k) → ran.kept.number ≡ k
    go None h below = below h
    go (Some call) h below = test call (runs st call) (ran_in c k (run_frame c k st frame) frames) h below

executed_bounded : (c : Configuration) (st : State) (batch : List ℕ) → AreAtMost st.number st → AreAtMost (suc st.number) (execute c st batch)
unfolding execute
executed_bounded c st batch most = frames_at_most c (suc st.number) st (requests_of batch) (λ client kept h. let m = most client kept h in omega arith)

none_at_most : AreAtMost 0 opening
none_at_most client kept h = absurd (let none : None ≡ Some kept = sym (none_kept client) ∙ h in cc)

after_at_most : (c : Configuration) (st : State) (batches : List (List ℕ)) → AreAtMost st.number st → AreAtMost (after_batches c st batches).number (after_batches c st batches)
after_at_most c st [] most = most
after_at_most c st (batch ∷ batches) most =
    after_at_most c (execute c st batch) batches (subst (λ (n : ℕ). AreAtMost n (execute c st batch)) (sym (executed_number c st batch)) (executed_bounded c st batch most))

-- in a state of executed batches each kept number is at most the state's
kept_at_most : (c : Configuration) (trace : List Entry) (st : State) → IsStateOf c trace st → AreAtMost st.number st
kept_at_most c trace st s = subst (λ (x : State). AreAtMost x.number x) (sym s.is) (after_at_most c opening s.batches none_at_most)

-- the requests that ran in the event have a number that the state has reached
ran_at_most : (c : Configuration) (r : ℕ) (xs : List Entry) (point : RightReplica.Point) → HistoryReaches c r xs point → (x : Ran) → Has (λ y. y ≡ x) point.ran → x.kept.number ≤ point.state.number
ran_at_most c r [] point h x k = absurd (subst (λ (p : RightReplica.Point). Has (λ y. y ≡ x) p.ran) h k)
ran_at_most c r (e ∷ past) point h x k = go e h.2.may h.2.moves (ran_at_most c r past h.0 h.1 x)
  where
    at : (new : RightReplica.Point) → point ≡ new → Has (λ y. y ≡ x) new.ran
    at new is = subst (λ (p : RightReplica.Point). Has (λ y. y ≡ x) p.ran) is k

    go : (e : Entry) → May c r past h.0 e → MovesPoint c r past h.0 e point → (Has (λ y. y ≡ x) h.0.ran → x.kept.number ≤ h.0.state.number) → x.kept.number ≤ point.state.number
    go (Got p bytes) may move below = absurd (at (record h.0 { ran = []; waiting = waiting_after c r h.0 bytes }) move)
    go (Tick p) may move below = absurd (at (record h.0 { ran = [] }) move)
    go (Sent p bytes) may move below = subst (λ (q : RightReplica.Point). x.kept.number ≤ q.state.number) (sym move) (below (at h.0 move))
    go (Invoke y z w) may move below = absurd may
    go (Accepted y z w) may move below = absurd may
    go (Executed p j batch) may move below = pick (has_either (λ y. y ≡ x) h.0.ran (ran_in c j h.0.state (requests_of batch)) (at (executed_point c h.0 j batch) move))
      where
        number : point.state.number ≡ suc h.0.state.number
        number = ap (λ (q : RightReplica.Point). q.state.number) move ∙ executed_number c h.0.state batch

        pick : Has (λ y. y ≡ x) h.0.ran ⊎ Has (λ y. y ≡ x) (ran_in c j h.0.state (requests_of batch)) → x.kept.number ≤ point.state.number
        pick (inl a) = let m = below a in let n = number in omega arith
        pick (inr a) = let m = ran_number c j h.0.state (requests_of batch) x a in let j_is = may.next in let n = number in omega arith
    go (Installed p j root) may move below =
        let m = below (subst (λ (xs : List Ran). Has (λ y. y ≡ x) xs) move.ran k) in let n = move.number in let above = may.0 in omega arith

-- ---- an ordered reply

abbrev pub ordering : ℕ → ℕ → ℕ → ℕ → Outcome → Body
ordering s p t number answer = record { sender = s; message = Reply p t modes.Ordered number answer }

-- the contents of a kept reply
pub record RepliesTo (client timestamp number : ℕ) (answer : Outcome) (call_client : ℕ) (kept : Kept) : Type 0 where
  pub client_is : client ≡ 256 + call_client
  pub time : kept.timestamp ≡ timestamp
  pub number_is : kept.number ≡ number
  pub answer_is : kept.outcome ≡ answer

pub replies_to : (client timestamp number : ℕ) (answer : Outcome) (k : ℕ) (kept : Kept) → reply_of k kept ≡ Reply client timestamp modes.Ordered number answer → RepliesTo client timestamp number answer k kept
replies_to client timestamp number answer k kept h =
    let a : 256 + k ≡ client = cc in
    let b : kept.timestamp ≡ timestamp = cc in
    let d : kept.number ≡ number = cc in
    let e : kept.outcome ≡ answer = cc in
    record { client_is = sym a; time = b; number_is = d; answer_is = e }

says_ordered : (c : Configuration) (trace : List Entry) (s p t number : ℕ) (answer : Outcome) (past : List Entry) (e : Entry) → RightAt c s past e → GoodHere c trace s past
    → Speaks (ordering s p t number answer) past e → number ≤ reached past s
says_ordered c trace s p t number answer past (Sent q bytes) r good h =
    let is = some_injective r.may.body (ordering s p t number answer) (sym r.may.says ∙ h) in
    go (subst (λ (x : Body). MaySendMessage c s past r.point (Sent q bytes) bytes x.message) is r.may.allowed)
  where
    at : r.point.state.number ≡ reached past s
    at = number_reached c s past r.point r.leaves

    go : MayReply c s past r.point p t modes.Ordered number answer → number ≤ reached past s
    go (inl h) =
        let x = has_some (λ (ran : Ran). reply_of ran.call.client ran.kept ≡ Reply p t modes.Ordered number answer) r.point.ran h in
        let m = ran_at_most c s past r.point r.leaves x.0 x.1 in let n = (replies_to p t number answer x.0.call.client x.0.kept x.2).number_is in let a = at in omega arith
    go (inr h) = let m = kept_at_most c trace r.point.state (good r.point r.leaves).state h.0 h.1 h.2 in let n = (replies_to p t number answer h.0 h.1 h.3).number_is in let a = at in omega arith
says_ordered c trace s p t number answer past (Invoke x y z) r good h = absurd h
says_ordered c trace s p t number answer past _ r good h = absurd h

ordered_reached : (c : Configuration) → IsConfiguration c → (s p t number : ℕ) (answer : Outcome) (xs : List Entry) → Runs c xs → NoCollision c xs → is_correct_replica c s ≡ true
    → Once (Speaks (ordering s p t number answer)) (history_of s xs) → number ≤ reached xs s
ordered_reached c setting s p t number answer xs runs apart correct h =
    let goods = states_agree c setting xs runs.replicas runs.unforged apart s correct in
    let there : number ≤ reached (history_of s xs) s =
    once_stays (λ past. number ≤ reached past s) (λ e past k. let g = reached_grows e past s in omega arith) (history_of s xs)
    (once_weaker (λ past e. GoodHere c xs s past × (RightAt c s past e × Speaks (ordering s p t number answer) past e × Always (RightAt c s) past) × Always (λ past e. GoodHere c xs s past) past) (λ past e. number ≤ reached past s)
    (λ past e u. says_ordered c xs s p t number answer past e u.1.0 u.0 u.1.1) (history_of s xs)
    (once_always (λ past e. GoodHere c xs s past) (λ past e. RightAt c s past e × Speaks (ordering s p t number answer) past e × Always (RightAt c s) past) (history_of s xs) goods.1
    (once_right c s (Speaks (ordering s p t number answer)) (history_of s xs) (runs.replicas s correct) h))) in
    let same = reached_history s xs in omega arith

-- if 2f + 1 ordered replies agree, their number is at most the level
pub ordered_level : (c : Configuration) → IsConfiguration c → (past : List Entry) → Runs c past → NoCollision c past → (p t : ℕ) → is_correct_client c p ≡ true → (vote : Vote)
    → 2 * c.faults + 1 ≤ count_below (λ s. is_alike vote (latest c p (history_of p past) t modes.Ordered s)) (3 * c.faults + 1) → is_level c past vote.number ≡ true
ordered_level c setting past runs apart p t client vote enough =
    level_after c setting [] past vote.number (λ s. is_alike vote (latest c p (history_of p past) t modes.Ordered s)) enough high (λ s correct h. omega arith)
  where
    high : (s : ℕ) → is_correct_replica c s ≡ true → is_alike vote (latest c p (history_of p past) t modes.Ordered s) ≡ true → vote.number ≤ reached past s
    high s correct h = go (latest c p (history_of p past) t modes.Ordered s) refl h
      where
        go : (o : Option Vote) → latest c p (history_of p past) t modes.Ordered s ≡ o → is_alike vote o ≡ true → vote.number ≤ reached past s
        go None is k = absurd cc
        go (Some v) is k =
            let q = and_parts (v.number == vote.number) (bytes_eq (outcome_spelling v.answer) (outcome_spelling vote.answer)) k in
            let n : v.number ≡ vote.number = eqb-true v.number vote.number q.0 in
            let receives = latest_received c p t modes.Ordered s v (history_of p past) (own_entries c p (history_of p past) (runs.clients p client)) is in
            let said' = heard_was_said c past p (ordering s p t v.number v.answer) runs.unforged (correct_client c p client) (correct_replica c s correct) receives in
            let m = ordered_reached c setting s p t v.number v.answer past runs apart correct said' in
            omega arith
