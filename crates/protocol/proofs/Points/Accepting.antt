-- An accepted answer is, of a read, the space's at its number, and of an ordered call that of a request that ran.
use Rattle.std.proofs.Common.{◌≡◌, ℕ, zero, suc, ◌+◌, ◌-◌, ◌*◌, ◌≤◌, ◌<◌, inl, inr, Bool, true, false, cond, List, [], ◌∷◌, ◌++◌, length, refl, sym, ap, ◌∙◌, subst, arith, ◌&&◌, ◌||◌, Option, Some, None, eqb-true, eq-eqb, bytes_eq}
use Rattle.std.specs.Prelude.{◌==◌}
use Rattle.std.proofs.lemmas.Bool.{and_parts, leb-true, ltb-true}
use Rattle.std.proofs.lemmas.Slice.Eq.{bytes_eq-Decides}
use Rattle.protocol.specs.Replica.RightReplica
use Rattle.protocol.proofs.Points.Running
use Rattle.quorum.specs.Quorum.{count_below}
use Rattle.protocol.specs.System.Configuration.{Configuration, is_replica, is_correct_replica, is_correct_client, members}
use Rattle.terms.specs.declared.order.Mode.{Mode}
use Rattle.terms.specs.declared.order.Mode.TheVariants as modes
use Rattle.wire_format.specs.Messages.{BodyData as Body, MessageData as Message, reply as Reply}
use Rattle.signing.specs.AuthenticBody.{authentic}
use Rattle.protocol.specs.System.Trace.{Entry, party_of, history_of, Once, Always, Receives}
use Rattle.protocol.specs.System.Trace.Entry.{Invoke, Got, Executed, Sent, Accepted}
use Rattle.space.specs.Applying.{is_read_only, outcome}
use Rattle.protocol.specs.Replica.State.{State, Ran, opening, tuples, kept_of, execute}
use Rattle.reply_cache.specs.Replies.{Kept}
use Rattle.reply_cache.proofs.Determining.{outcome_same}
use Rattle.protocol.specs.Replica.RightReplica.{HistoryReaches, MaySendMessage, MayReply}
use Rattle.protocol.specs.Client.RightClient.{SafeClient, OpenCall, open_call, last_call, Vote, latest, is_alike, count_alike, newest_vote, MayAccept, reply_vote}
use Rattle.protocol.specs.Laws.Histories.{ExecutesBatch}
use Rattle.protocol.specs.Space.Linear.{batch_of, first_position, is_level, Invokes, Accepts}
use Rattle.std.specs.Bool.{then_some}
use Rattle.quorum.specs.Votes.{or_else}
use Rattle.protocol.proofs.Words.Temporal.{once_weaker, once_always, once_in_trace, once_in_history}
use Rattle.protocol.proofs.Words.Options.{some_injective, given_stays, then_some_gives, and_then_some}
use Rattle.protocol.proofs.Words.Linking.{Speaks, heard_was_said}
use Rattle.protocol.proofs.Agreement.Voting.{RightAt, once_right, correct_replica}
use Rattle.protocol.proofs.Agreement.States.{GoodHere, GoodAll, states_agree, correct_of, once_append}
use Rattle.protocol.proofs.Points.Reading.{own_entries, asking, correct_client, latest_received, last_of, last_of-history, read_level_after, read_level_before}
use Rattle.protocol.proofs.Points.Ordering.{ordered_level, replies_to}
use Rattle.protocol.proofs.Points.Running.{Run, run_earlier, state_by, is_by, executed_greatest}
use Rattle.protocol.proofs.Points.Ran.{place_before}
use Rattle.protocol.proofs.Points.Keeping.{RanBy, IsRun, Keeps, rans_ran, kept_ran-opening, ran_by-more}
use Rattle.protocol.proofs.Points.Invoking.{once_split, asked_op}
use Rattle.protocol.specs.Space.Linear.{last_executed}
use Rattle.protocol.specs.Replica.RightReplica.{reply_of, MayReplyRead}
use Rattle.protocol.proofs.Words.Bodies.{FitsMessage, heard_fits}
use Rattle.protocol.proofs.Words.Temporal.{once_stays}
use Rattle.tuple_codec.specs.Operations.{Outcome, IsOutcome, Operation}
use Rattle.tuple_codec.specs.Spelling.{outcome_spelling}
use Rattle.protocol.specs.Space.Linear.{invoke_past}
use Rattle.protocol.proofs.Words.Elements.{has_some, has_weaker}

-- ---- an acceptance

pub record Accepting (c : Configuration) (past : List Entry) (p t : ℕ) (a : Outcome) : Type 0 where
  pub client : is_correct_client c p ≡ true
  pub run : Run c past
  pub call : OpenCall
  pub vote : Vote
  pub opened : open_call (history_of p past) ≡ Some call
  pub time : call.timestamp ≡ t
  pub answer : vote.answer ≡ a
  pub newest : newest_vote c p (history_of p past) t ≡ Some vote
  pub complete : 2 * c.faults + 1 ≤ count_below (λ s. is_alike vote (latest c p (history_of p past) t vote.mode s)) (3 * c.faults + 1)

pub accepting : (c : Configuration) (past : List Entry) (cl t : ℕ) (a : Outcome) → Run c (Accepted cl t a ∷ past) → Accepting c past (256 + cl) t a
accepting c past cl t a run = go (is_correct_replica c (256 + cl)) refl run.parties.0
  where
    most : c.faults ≤ 3
    most = run.setting.most

    no_replica : is_correct_replica c (256 + cl) ≡ true → ⊥
    no_replica h = let b : 256 + cl < 3 * c.faults + 1 = ltb-true (256 + cl) (3 * c.faults + 1) (and_parts (is_replica c (256 + cl)) _ h).0 in let m = most in omega arith

    build : is_correct_client c (256 + cl) ≡ true → MayAccept c (256 + cl) (history_of (256 + cl) past) t a → Accepting c past (256 + cl) t a
    build client m = record {
      client = client;
      run = run_earlier c (Accepted cl t a) past run;
      call = m.0;
      vote = m.1;
      opened = m.2;
      time = m.3;
      answer = m.4;
      newest = m.5;
      complete =
          let q : 2 * c.faults + 1 ≤ count_alike c (256 + cl) (history_of (256 + cl) past) m.0.timestamp m.1 = leb-true (2 * c.faults + 1) (count_alike c (256 + cl) (history_of (256 + cl) past) m.0.timestamp m.1) m.6 in
          subst (λ (i : ℕ). 2 * c.faults + 1 ≤ count_below (λ s. is_alike m.1 (latest c (256 + cl) (history_of (256 + cl) past) i m.1.mode s)) (3 * c.faults + 1)) m.3 q;
    }

    head : (b : Bool) → b ≡ true → is_correct_client c (256 + cl) ≡ true → SafeClient c (256 + cl) (cond b (Accepted cl t a ∷ history_of (256 + cl) past) (history_of (256 + cl) past)) → Accepting c past (256 + cl) t a
    head true e client r = build client r.0.1
    head false e client r = absurd cc

    go : (b : Bool) → is_correct_replica c (256 + cl) ≡ b → (b || is_correct_client c (256 + cl)) ≡ true → Accepting c past (256 + cl) t a
    go true is h = absurd (no_replica is)
    go false is h = head (256 + cl == 256 + cl) (eq-eqb (256 + cl) (256 + cl) refl) h (run.runs.clients (256 + cl) h)

-- ---- acceptances of one timestamp are one

pub open_last : (xs : List Entry) (call : OpenCall) → open_call xs ≡ Some call → last_call xs ≡ call.timestamp
open_last [] call h = absurd cc
open_last (Invoke x y z ∷ past) call h = ap (λ (o : OpenCall). o.timestamp) (some_injective {A = OpenCall} (record { timestamp = y; op = z }) call h)
open_last (Accepted x y z ∷ past) call h = absurd cc
open_last (_ ∷ past) call h = open_last past call h

accepts_le : (c : Configuration) (p t : ℕ) (a : Outcome) (xs : List Entry) → SafeClient c p xs → Once (Accepts p t a) xs → t ≤ last_call xs
accepts_le c p t a [] r h = absurd h
accepts_le c p t a (Accepted x y z ∷ past) r (inl h) = let m = r.0.1 in let l = open_last past m.0 m.2 in let k = m.3 in let e = h.1 in omega arith
accepts_le c p t a (Invoke x y z ∷ past) r (inr h) = let l = accepts_le c p t a past r.1 h in let n = r.0.1.0 in omega arith
accepts_le c p t a (_ ∷ past) r (inl h) = absurd h
accepts_le c p t a (_ ∷ past) r (inr h) = accepts_le c p t a past r.1 h

accepts_lt : (c : Configuration) (p t : ℕ) (a : Outcome) (call : OpenCall) (xs : List Entry) → SafeClient c p xs → open_call xs ≡ Some call → Once (Accepts p t a) xs → t < call.timestamp
accepts_lt c p t a call [] r o h = absurd h
accepts_lt c p t a call (Accepted x y z ∷ past) r o h = absurd cc
accepts_lt c p t a call (Invoke x y z ∷ past) r o (inr h) =
    let l = accepts_le c p t a past r.1 h in let n = r.0.1.0 in let e : y ≡ call.timestamp = ap (λ (o : OpenCall). o.timestamp) (some_injective {A = OpenCall} (record { timestamp = y; op = z }) call o) in omega arith
accepts_lt c p t a call (_ ∷ past) r o (inl h) = absurd h
accepts_lt c p t a call (_ ∷ past) r o (inr h) = accepts_lt c p t a call past r.1 o h

pub accepts_own : (p t : ℕ) (a : Outcome) (past : List Entry) (e : Entry) → Accepts p t a past e → (party_of e ≡ p) × Accepts p t a (history_of p past) e
accepts_own p t a past (Accepted x y z) h = (h.0, h)
accepts_own p t a past _ h = absurd h

pub accepted_once : (c : Configuration) (past : List Entry) (p t : ℕ) (a b : Outcome) → Accepting c past p t a → Once (Accepts p t b) past → ⊥
accepted_once c past p t a b x h =
    let there : Once (Accepts p t b) (history_of p past) = once_in_history (Accepts p t b) p past (once_weaker (Accepts p t b) (λ past e. (party_of e ≡ p) × Accepts p t b (history_of p past) e) (accepts_own p t b) past h) in
    let l = accepts_lt c p t b x.call (history_of p past) (x.run.runs.clients p x.client) x.opened there in
    let e = x.time in omega arith

-- ---- its level

last_time_is : (c : Configuration) (past : List Entry) (p t : ℕ) (a : Outcome) → Accepting c past p t a → last_of p past ≡ t
last_time_is c past p t a x = sym (last_of-history p past) ∙ open_last (history_of p past) x.call x.opened ∙ x.time

pub accepted_level : (c : Configuration) (past : List Entry) (p t : ℕ) (a : Outcome) (x : Accepting c past p t a) → is_level c past x.vote.number ≡ true
accepted_level c past p t a x = go x.vote.mode refl x.complete
  where
    go : (mode : Mode) → x.vote.mode ≡ mode → 2 * c.faults + 1 ≤ count_below (λ s. is_alike x.vote (latest c p (history_of p past) t mode s)) (3 * c.faults + 1) → is_level c past x.vote.number ≡ true
    go modes.ReadOnly is enough = read_level_after c x.run.setting past x.run.runs p t x.client x.vote is (last_time_is c past p t a x) enough
    go modes.Ordered is enough = ordered_level c x.run.setting past x.run.runs x.run.apart p t x.client x.vote enough

pub read_before : (c : Configuration) (past : List Entry) (p t : ℕ) (a : Outcome) (x : Accepting c past p t a) → x.vote.mode ≡ modes.ReadOnly → (k : ℕ) → x.vote.number < k → is_level c (invoke_past p past) k ≡ true → ⊥
read_before c past p t a x is =
    read_level_before c x.run.setting past x.run.runs p t x.client x.vote is (last_time_is c past p t a x)
    (subst (λ (mode : Mode). 2 * c.faults + 1 ≤ count_below (λ s. is_alike x.vote (latest c p (history_of p past) t mode s)) (3 * c.faults + 1)) is x.complete)

level_place : (c : Configuration) (xs : List Entry) (k : ℕ) → (xs ≡ [] → ⊥) → is_level c xs k ≡ true → (q : ℕ) × (first_position c xs k ≡ Some q)
level_place c [] k none h = absurd (none refl)
level_place c (e ∷ past) k none h = go (first_position c past k)
  where
    go : (o : Option ℕ) → (q : ℕ) × (or_else o (then_some (is_level c (e ∷ past) k) (length past)) ≡ Some q)
    go (Some q) = (q, refl)
    go None = (length past, rw h refl)

place_grows : (c : Configuration) (later xs : List Entry) (k q : ℕ) → first_position c xs k ≡ Some q → first_position c (later ++ xs) k ≡ Some q
place_grows c [] xs k q h = h
place_grows c (e ∷ later) xs k q h = given_stays (λ past e. then_some (is_level c (e ∷ past) k) (length past)) q e (later ++ xs) (place_grows c later xs k q h)

pub accepted_place : (c : Configuration) (trace later past : List Entry) (e : Entry) (p t : ℕ) (a : Outcome) → trace ≡ later ++ e ∷ past → (x : Accepting c past p t a)
    → (q : ℕ) × (first_position c trace x.vote.number ≡ Some q) × (q < length past)
accepted_place c trace later past e p t a is x =
    let q = level_place c past x.vote.number some (accepted_level c past p t a x) in
    let l = place_before c past x.vote.number q.0 q.1 in
    let up : first_position c (e ∷ past) x.vote.number ≡ Some q.0 = given_stays (λ past e. then_some (is_level c (e ∷ past) x.vote.number) (length past)) q.0 e past q.1 in
    (q.0, subst (λ (ys : List Entry). first_position c ys x.vote.number ≡ Some q.0) (sym is) (place_grows c later (e ∷ past) x.vote.number q.0 up), l)
  where
    some : past ≡ [] → ⊥
    some none = let bad : None ≡ Some x.vote = sym (ap (λ (ys : List Entry). newest_vote c p (history_of p ys) t) none) ∙ x.newest in absurd cc

-- ---- the replies of a correct replica

once_history_more : (Q : List Entry → Entry → Type 0) (s : ℕ) (e : Entry) (xs : List Entry) → Once Q (history_of s xs) → Once Q (history_of s (e ∷ xs))
once_history_more Q s e xs h = go (party_of e == s) h
  where
    go : (b : Bool) → Once Q (history_of s xs) → Once Q (cond b (e ∷ history_of s xs) (history_of s xs))
    go true h = inr h
    go false h = h

once_history_later : (Q : List Entry → Entry → Type 0) (s : ℕ) (later xs : List Entry) → Once Q (history_of s xs) → Once Q (history_of s (later ++ xs))
once_history_later Q s [] xs h = h
once_history_later Q s (e ∷ later) xs h = once_history_more Q s e (later ++ xs) (once_history_later Q s later xs h)

pub embedded : (Q : List Entry → Entry → Type 0) (s : ℕ) (trace later past : List Entry) (e : Entry) → trace ≡ later ++ e ∷ past → Once Q (history_of s past) → Once Q (history_of s trace)
embedded Q s trace later past e is h = subst (λ (ys : List Entry). Once Q (history_of s ys)) (sym is) (once_history_later Q s later (e ∷ past) (once_history_more Q s e past h))

reply_may : (c : Configuration) (s p t : ℕ) (mode : Mode) (number : ℕ) (answer : Outcome) (past : List Entry) (e : Entry) → RightAt c s past e → Speaks (record { sender = s; message = Reply p t mode number answer }) past e
    → (point : RightReplica.Point) × HistoryReaches c s past point × MayReply c s past point p t mode number answer
reply_may c s p t mode number answer past (Sent q bytes) r h =
    let is = some_injective r.may.body (record { sender = s; message = Reply p t mode number answer }) (sym r.may.says ∙ h) in
    (r.point, r.leaves, subst (λ (x : Body). MaySendMessage c s past r.point (Sent q bytes) bytes x.message) is r.may.allowed)
reply_may c s p t mode number answer past (Invoke x y z) r h = absurd h
reply_may c s p t mode number answer past _ r h = absurd h

-- the entry at which it replied
pub record Replied (c : Configuration) (trace : List Entry) (s p t : ℕ) (mode : Mode) (number : ℕ) (answer : Outcome) : Type 0 where
  pub past : List Entry
  pub entry : Entry
  pub later : List Entry
  pub is : history_of s trace ≡ later ++ entry ∷ past
  pub good : GoodAll c trace s past
  pub point : RightReplica.Point
  pub leaves : HistoryReaches c s past point
  pub may : MayReply c s past point p t mode number answer

pub replied : (c : Configuration) (trace : List Entry) (s p t : ℕ) (mode : Mode) (number : ℕ) (answer : Outcome) → Run c trace → is_correct_replica c s ≡ true
    → Once (Speaks (record { sender = s; message = Reply p t mode number answer })) (history_of s trace) → Replied c trace s p t mode number answer
replied c trace s p t mode number answer run correct h =
    let goods = states_agree c run.setting trace run.runs.replicas run.runs.unforged run.apart s correct in
    let at = once_split (λ past e. GoodHere c trace s past × (RightAt c s past e × Speaks (record { sender = s; message = Reply p t mode number answer }) past e × Always (RightAt c s) past) × Always (λ past e. GoodHere c trace s past) past)
    (history_of s trace)
    (once_always (λ past e. GoodHere c trace s past) (λ past e. RightAt c s past e × Speaks (record { sender = s; message = Reply p t mode number answer }) past e × Always (RightAt c s) past) (history_of s trace) goods.1
    (once_right c s (Speaks (record { sender = s; message = Reply p t mode number answer })) (history_of s trace) (run.runs.replicas s correct) h)) in
    let m = reply_may c s p t mode number answer at.past at.entry at.holds.1.0 at.holds.1.1 in
    record { past = at.past; entry = at.entry; later = at.later; is = at.is; good = (at.holds.0, at.holds.2); point = m.0; leaves = m.1; may = m.2 }

-- a read-only reply is the space's answer at its number
pub record IsSpaceAnswer (c : Configuration) (trace : List Entry) (p t number : ℕ) (answer : Outcome) : Type 0 where
  pub op : Operation
  pub is_read : is_read_only op ≡ true
  pub invoked : Once (Invokes p t op) (history_of p trace)
  pub answer_is : answer ≡ outcome (tuples (state_by c trace opening 1 number)) (p - 256) op

pub read_replied : (c : Configuration) (trace : List Entry) (s p t number : ℕ) (answer : Outcome) → Run c trace → is_correct_replica c s ≡ true → is_correct_client c p ≡ true
    → Replied c trace s p t modes.ReadOnly number answer → IsSpaceAnswer c trace p t number answer
read_replied c trace s p t number answer run correct client r =
    let m : MayReplyRead c s r.past r.point p t number answer = r.may in
    let receives : Once (Receives c s (asking p t modes.ReadOnly m.op)) (history_of s trace) =
    subst (λ (ys : List Entry). Once (Receives c s (asking p t modes.ReadOnly m.op)) ys) (sym r.is) (once_append (Receives c s (asking p t modes.ReadOnly m.op)) r.later (r.entry ∷ r.past) (inr m.authentic)) in
    let said' = heard_was_said c trace s (asking p t modes.ReadOnly m.op) run.runs.unforged (correct_replica c s correct) (correct_client c p client) receives in
    let by = is_by c trace r.point.state run (r.good.0 r.point r.leaves).state in
    let state : r.point.state ≡ state_by c trace opening 1 number = by.is ∙ ap (state_by c trace opening 1) (sym m.number_is) in
    record {
      op = m.op;
      is_read = m.is_read;
      invoked = asked_op c p t modes.ReadOnly m.op (history_of p trace) (run.runs.clients p client) said';
      answer_is = m.answer_is ∙ ap (λ (st : State). outcome (tuples st) (p - 256) m.op) state;
    }

-- an ordered reply is of a request that ran
abbrev pub Answers : ℕ → ℕ → ℕ → Outcome → ℕ → Ran → Type 0
Answers p t number answer j x = (256 + x.call.client ≡ p) × (x.call.timestamp ≡ t) × (x.kept.outcome ≡ answer) × (number ≡ j)

ran_by-weaker : (c : Configuration) (xs : List Entry) (st : State) (k n : ℕ) (P Q : ℕ → Ran → Type 0) → ((j : ℕ) (x : Ran) → P j x → Q j x) → RanBy c xs st k n P → RanBy c xs st k n Q
ran_by-weaker c xs st k zero P Q f h = h
ran_by-weaker c xs st k (suc n) P Q f (inl h) = inl (has_weaker (P k) (Q k) (f k) _ h)
ran_by-weaker c xs st k (suc n) P Q f (inr h) = inr (ran_by-weaker c xs (execute c st (batch_of xs k)) (suc k) n P Q f h)

executes_any : (c : Configuration) (k : ℕ) (b : List ℕ) (past other : List Entry) (e : Entry) → ExecutesBatch c k b past e → ExecutesBatch c k b other e
executes_any c k b past other (Executed x y z) h = h
executes_any c k b past other _ h = absurd h

pub ordered_replied : (c : Configuration) (trace : List Entry) (s p t number : ℕ) (answer : Outcome) → Run c trace → is_correct_replica c s ≡ true → is_correct_client c p ≡ true
    → Replied c trace s p t modes.Ordered number answer → RanBy c trace opening 1 (last_executed trace) (Answers p t number answer)
ordered_replied c trace s p t number answer run correct client r = go r.may
  where
    by : Running.IsBy c trace r.point.state
    by = is_by c trace r.point.state run (r.good.0 r.point r.leaves).state

    most : r.point.state.number ≤ last_executed trace
    most = pick r.point.state.number refl
      where
        pick : (n : ℕ) → r.point.state.number ≡ n → n ≤ last_executed trace
        pick zero e = omega arith
        pick (suc n) e = let one : 1 ≤ suc n = omega arith in let l : suc n ≤ r.point.state.number = omega arith in let b = by.executed (suc n) one l in executed_greatest c (suc n) b.0 trace b.1

    emb : (k : ℕ) (b : List ℕ) → Once (ExecutesBatch c k b) r.past → Once (ExecutesBatch c k b) trace
    emb k b h =
        let there : Once (ExecutesBatch c k b) (history_of s trace) = subst (λ (ys : List Entry). Once (ExecutesBatch c k b) ys) (sym r.is) (once_append (ExecutesBatch c k b) r.later (r.entry ∷ r.past) (inr h)) in
        once_weaker (λ past e. (party_of e ≡ s) × ExecutesBatch c k b (history_of s past) e) (ExecutesBatch c k b) (λ past e u. executes_any c k b (history_of s past) past e u.1) trace (once_in_trace (ExecutesBatch c k b) s trace there)

    more : (Q : ℕ → Ran → Type 0) → ((j : ℕ) (x : Ran) → Q j x → Answers p t number answer j x) → RanBy c trace opening 1 r.point.state.number Q → RanBy c trace opening 1 (last_executed trace) (Answers p t number answer)
    more Q f h = ran_by-more c trace opening 1 r.point.state.number (last_executed trace) (Answers p t number answer) most (ran_by-weaker c trace opening 1 r.point.state.number Q (Answers p t number answer) f h)

    go : MayReply c s r.past r.point p t modes.Ordered number answer → RanBy c trace opening 1 (last_executed trace) (Answers p t number answer)
    go (inl h) =
        let x = has_some (λ (ran : Ran). reply_of ran.call.client ran.kept ≡ Reply p t modes.Ordered number answer) r.point.ran h in
        let says = replies_to p t number answer x.0.call.client x.0.kept x.2 in
        more (IsRun x.0) (λ j y u.
        let e : y ≡ x.0 = u.0 in
        let cl : y.call.client ≡ x.0.call.client = ap (λ (z : Ran). z.call.client) e in
        let a = says.client_is in
        let is_client' : 256 + y.call.client ≡ p = omega arith in
        let time : y.call.timestamp ≡ t = sym u.2 ∙ ap (λ (z : Ran). z.kept.timestamp) e ∙ says.time in
        let text : y.kept.outcome ≡ answer = ap (λ (z : Ran). z.kept.outcome) e ∙ says.answer_is in
        let number' : number ≡ j = sym says.number_is ∙ sym (ap (λ (z : Ran). z.kept.number) e) ∙ u.1 in
        (is_client', time, text, number'))
        (rans_ran c trace run s correct r.past emb r.good r.point r.leaves x.0 x.1)
    go (inr h) =
        let there : kept_of (state_by c trace opening 1 r.point.state.number) h.0 ≡ Some h.1 = subst (λ (st : State). kept_of st h.0 ≡ Some h.1) by.is h.2 in
        let says = replies_to p t number answer h.0 h.1 h.3 in
        more (Keeps h.0 h.1) (λ j y u.
        let e : y.kept ≡ h.1 = u.0 in
        let cl = u.1 in
        let a = says.client_is in
        let is_client' : 256 + y.call.client ≡ p = omega arith in
        let time : y.call.timestamp ≡ t = sym u.3 ∙ ap (λ (z : Kept). z.timestamp) e ∙ says.time in
        let text : y.kept.outcome ≡ answer = ap (λ (z : Kept). z.outcome) e ∙ says.answer_is in
        let number' : number ≡ j = sym says.number_is ∙ u.2 in
        (is_client', time, text, number'))
        (kept_ran-opening c trace r.point.state.number h.0 h.1 there)

-- ---- answers that are received are within the limits

pub heard_answer : (c : Configuration) (p s t : ℕ) (mode : Mode) (number : ℕ) (answer : Outcome) (xs : List Entry) → Once (Receives c p (record { sender = s; message = Reply p t mode number answer })) xs → IsOutcome answer
heard_answer c p s t mode number answer xs h = once_stays (λ past. IsOutcome answer) (λ e past k. k) xs (once_weaker (Receives c p (record { sender = s; message = Reply p t mode number answer })) (λ past e. IsOutcome answer) step xs h)
  where
    step : (past : List Entry) (e : Entry) → Receives c p (record { sender = s; message = Reply p t mode number answer }) past e → IsOutcome answer
    step past (Got q bytes) h = heard_fits c p bytes (record { sender = s; message = Reply p t mode number answer }) h
    step past _ h = absurd h

vote_answer : (me t s : ℕ) (vote : Vote) (sender : ℕ) (message : Message) → reply_vote me t s (record { sender = sender; message = message }) ≡ Some vote → FitsMessage message → IsOutcome vote.answer
vote_answer me t s vote sender (Reply client timestamp mode number answer) h f =
    let g = then_some_gives ((sender == s) && (client == me) && (timestamp == t)) (record { mode = mode; number = number; answer = answer }) vote h in
    subst IsOutcome (ap (λ (v : Vote). v.answer) g.1) f
vote_answer me t s vote sender _ h f = absurd cc

pub newest_answer : (c : Configuration) (me t : ℕ) (vote : Vote) (xs : List Entry) → newest_vote c me xs t ≡ Some vote → IsOutcome vote.answer
newest_answer c me t vote (Got p bytes ∷ past) h =
    let r = and_then_some (λ (body : Body). reply_vote me t body.sender body) (authentic (members c me) me bytes) vote h in
    vote_answer me t r.0.sender vote r.0.sender r.0.message r.2 (heard_fits c me bytes r.0 r.1)
newest_answer c me t vote _ h = absurd cc

-- ---- among those that are alike one is correct

pub record Voted (c : Configuration) (past : List Entry) (p t : ℕ) (mode : Mode) (vote : Vote) : Type 0 where
  pub replica : ℕ
  pub is_correct : is_correct_replica c replica ≡ true
  pub says : Once (Speaks (record { sender = replica; message = Reply p t mode vote.number vote.answer })) (history_of replica past)

pub voted : (c : Configuration) (past : List Entry) (p t : ℕ) (a : Outcome) (x : Accepting c past p t a) → Voted c past p t x.vote.mode x.vote
voted c past p t a x =
    let enough = x.complete in
    let more : c.faults < count_below (λ s. is_alike x.vote (latest c p (history_of p past) t x.vote.mode s)) (3 * c.faults + 1) = omega arith in
    let s = correct_of c x.run.setting (λ s. is_alike x.vote (latest c p (history_of p past) t x.vote.mode s)) more in
    record { replica = s.0; is_correct = s.1; says = go s.0 s.1 x.vote.mode (latest c p (history_of p past) t x.vote.mode s.0) refl s.2 }
  where
    own : Always (λ past e. party_of e ≡ p) (history_of p past)
    own = own_entries c p (history_of p past) (x.run.runs.clients p x.client)

    receives : (s : ℕ) (mode : Mode) (v : Vote) → latest c p (history_of p past) t mode s ≡ Some v → Once (Receives c p (record { sender = s; message = Reply p t mode v.number v.answer })) (history_of p past)
    receives s mode v is = latest_received c p t mode s v (history_of p past) own is

    go : (s : ℕ) → is_correct_replica c s ≡ true → (mode : Mode) (o : Option Vote) → latest c p (history_of p past) t mode s ≡ o → is_alike x.vote o ≡ true
        → Once (Speaks (record { sender = s; message = Reply p t mode x.vote.number x.vote.answer })) (history_of s past)
    go s correct mode None is k = absurd cc
    go s correct mode (Some v) is k =
        let q = and_parts (v.number == x.vote.number) (bytes_eq (outcome_spelling v.answer) (outcome_spelling x.vote.answer)) k in
        let n : v.number ≡ x.vote.number = eqb-true v.number x.vote.number q.0 in
        let m : v.answer ≡ x.vote.answer =
        outcome_same v.answer x.vote.answer (heard_answer c p s t mode v.number v.answer (history_of p past) (receives s mode v is)) (newest_answer c p t x.vote (history_of p past) x.newest)
        ((bytes_eq-Decides (outcome_spelling v.answer) (outcome_spelling x.vote.answer)).0 q.1) in
        let said' = heard_was_said c past p (record { sender = s; message = Reply p t mode v.number v.answer }) x.run.runs.unforged (correct_client c p x.client) (correct_replica c s correct) (receives s mode v is) in
        subst (λ (i : ℕ). Once (Speaks (record { sender = s; message = Reply p t mode i x.vote.answer })) (history_of s past)) n
        (subst (λ (b : Outcome). Once (Speaks (record { sender = s; message = Reply p t mode v.number b })) (history_of s past)) m said')
