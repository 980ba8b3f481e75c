-- Between events the replica owes nothing, and an input that changes nothing passes.
use Rattle.std.proofs.Common.{◌≡◌, ℕ, suc, ◌<◌, inl, inr, true, List, [], ◌∷◌, ◌++◌, refl, sym, ap, ◌∙◌, subst, arith, Option, Some, None, is_some, reverse}
use mathlib.Core.List.{reverse-cons}
use Rattle.std.proofs.lemmas.List.{append_assoc}
use Rattle.ordering.specs.Log as logs
use Rattle.ordering.specs.Log.{LogData}
use Rattle.protocol.specs.System.Configuration.{Configuration, primary}
use Rattle.protocol.specs.System.Trace.{Entry, is_output, Has}
use Rattle.protocol.specs.System.Trace.Entry.{Got, Tick}
use Rattle.protocol.specs.Replica.Certificates.{is_active_in, low, is_in_marks, logged, Committed}
use Rattle.protocol.specs.Replica.State.{State, Call}
use Rattle.protocol.specs.Replica.RightReplica.{Point, first_point, IsFree}
use Rattle.protocol.specs.Replica.Owed.{IsOfView, IsNumbered, Owes, HistoryIsPrompt}
use Rattle.protocol.proofs.Words.Reacting.{one_of}
use Rattle.protocol.proofs.Agreement.Voting.{logged_stays}
use Rattle.replica_histories.specs.Logs.{FitsLog}
use Rattle.replica_histories.specs.Desk.{Desk}
use Rattle.replica_histories.specs.Events.{BothFitWithinEvent, IsSettled, LeavesNoView, start_at, HeldAreStabilized}
use Rattle.state_transfer.specs.Transfer.{TransferData}
use Rattle.replica_histories.specs.Inputs.{again_due, InputsPass, TicksPass}
use Rattle.replica_histories.proofs.Words.{given_not, marks_are, primary_same}
use Rattle.replica_histories.proofs.Numbers.{lower_in_marks}
use Rattle.replica_histories.proofs.Certified.{active, committed_here}
use Rattle.replica_histories.proofs.Ending.{events_end}
use Rattle.replica_histories.proofs.Entering.{inputs_fit, ticks_fit}

-- ---- after an event

-- no batch is next, no waiting request is without a number, and no new view is left
pub record Rests (c : Configuration) (me : ℕ) (now : List Entry) (new : Point) : Type 0 where
  pub executes : (v : ℕ) (batch : List ℕ) → Committed c me now v (suc new.state.number) batch → ⊥
  pub numbers : (v i : ℕ) (call : Call) → is_active_in c now v ≡ true → primary c v ≡ me → Has (λ x. x ≡ call) new.waiting
      → IsFree c me now new.state.number v i → IsNumbered c me now v call.client call.timestamp
  pub new_views : LeavesNoView c me now

rests_owed : (c : Configuration) (me : ℕ) (before : List Entry) (input : Entry) (outputs now : List Entry) (old new : Point) → Owes c me before input outputs now old new → Rests c me now new
rests_owed c me before input outputs now old new o = record { executes = o.executes; numbers = o.numbers; new_views = o.new_views }

turned : (e : Entry) (outputs past : List Entry) → reverse (e ∷ outputs) ++ past ≡ reverse outputs ++ e ∷ past
turned e outputs past = ap (λ (xs : List Entry). xs ++ past) (reverse-cons e outputs) ∙ append_assoc (reverse outputs) (e ∷ []) past

-- after some output
rests_behind : (c : Configuration) (me : ℕ) (o : Entry) (outputs xs : List Entry) (new point : Point) → HistoryIsPrompt c me xs (o ∷ outputs) new point → Rests c me (reverse (o ∷ outputs) ++ xs) new
rests_behind c me o outputs [] new point h = absurd (let bad : o ∷ outputs ≡ [] = h.1 in cc)
rests_behind c me o outputs (e ∷ past) new point h =
    one_of (is_output e) (HistoryIsPrompt c me past (e ∷ o ∷ outputs) new h.0) (Owes c me past e (o ∷ outputs) (reverse (o ∷ outputs) ++ e ∷ past) h.0 new × HistoryIsPrompt c me past [] h.0 h.0)
    (Rests c me (reverse (o ∷ outputs) ++ e ∷ past) new) h.2
    (λ k. subst (λ (now : List Entry). Rests c me now new) (turned e (o ∷ outputs) past) (rests_behind c me e (o ∷ outputs) past new h.0 k))
    (λ k. rests_owed c me past e (o ∷ outputs) (reverse (o ∷ outputs) ++ e ∷ past) h.0 new k.0)

rests_first : (c : Configuration) (me : ℕ) (point : Point) → point ≡ first_point → Rests c me [] point
unfolding logged
rests_first c me point is = record {
  executes = λ v batch k. let l : None ≡ Some batch = k.prepared.logged in cc;
  numbers = λ v i call active own waits free. absurd (subst (λ (p : Point). Has (λ x. x ≡ call) p.waiting) is waits);
  new_views = λ other can. absurd (let left = can.left in omega (arith, left));
}

pub rests : (c : Configuration) (me : ℕ) (xs : List Entry) (point : Point) → HistoryIsPrompt c me xs [] point point → Rests c me xs point
rests c me [] point h = rests_first c me point h.0
rests c me (e ∷ past) point h =
    one_of (is_output e) (HistoryIsPrompt c me past (e ∷ []) point h.0) (Owes c me past e [] (e ∷ past) h.0 point × HistoryIsPrompt c me past [] h.0 h.0) (Rests c me (e ∷ past) point) h.2
    (λ k. rests_behind c me e [] past point h.0 k)
    (λ k. rests_owed c me past e [] (e ∷ past) h.0 point k.0)

pub held_are_settled : HeldAreStabilized
held_are_settled c me desk log history held = record {
  prepares = held.of_log.prepares;
  commits = held.of_log.commits;
  executes = executes (logs.committed_batch log (suc desk.state.number)) refl;
  numbers = numbers;
}
  where
    f : FitsLog c me log history
    f = held.of_log.fits

    r : Rests c me history held.of_desk.point
    r = rests c me history held.of_desk.point held.of_desk.proceeds

    state_is : held.of_desk.point.state ≡ desk.state
    state_is = ap (λ (p : Point). p.state) held.of_desk.is

    waiting_is : held.of_desk.point.waiting ≡ desk.waiting
    waiting_is = ap (λ (p : Point). p.waiting) held.of_desk.is

    executes : (o : Option (List ℕ)) → logs.committed_batch log (suc desk.state.number) ≡ o → o ≡ None
    executes None e = refl
    executes (Some batch) e =
        let k = committed_here c me log history (suc desk.state.number) batch f e in
        absurd (r.executes k.0 batch (subst (λ (st : State). Committed c me history k.0 (suc st.number) batch) (sym state_is) k.1))

    numbers : (i : ℕ) (call : Call) → log.active ≡ true → logs.primary log log.view ≡ log.me → Has (λ x. x ≡ call) desk.waiting → IsFree c me history desk.state.number log.view i
        → IsNumbered c me history log.view call.client call.timestamp
    numbers i call is_active own waits free =
        r.numbers log.view i call (active c me log history f ∙ is_active) (sym (primary_same c log log.view f.faults) ∙ own ∙ f.own) (subst (λ (w : List Call). Has (λ x. x ≡ call) w) (sym waiting_is) waits)
        (subst (λ (st : State). IsFree c me history st.number log.view i) (sym state_is) free)

-- ---- inputs that pass

-- a settled log stays settled after an entry that leaves it
settled_goes : (c : Configuration) (me : ℕ) (desk : Desk) (log : LogData) (past : List Entry) (e : Entry) → FitsLog c me log past → FitsLog c me log (e ∷ past) → IsSettled c me desk log past → IsSettled c me desk log (e ∷ past)
settled_goes c me desk log past e f g s = record {
  prepares = s.prepares;
  commits = s.commits;
  executes = s.executes;
  numbers = λ i call is_active own waits free. on call (s.numbers i call is_active own waits (was_free i free));
}
  where
    same : low c me (e ∷ past) ≡ low c me past
    same = g.low ∙ sym f.low

    -- a batch that is logged in the marks is the log's, before and after
    in_log : (i j : ℕ) → IsFree c me (e ∷ past) desk.state.number log.view i → low c me past < j → j < i → is_some (logged c me past log.view j) ≡ true
    in_log i j free above below =
        let over : low c me (e ∷ past) < j = subst (λ (h : ℕ). h < j) (sym same) above in
        let inside : logs.is_in_marks log j ≡ true = sym (marks_are c me log (e ∷ past) j g) ∙ lower_in_marks c (low c me (e ∷ past)) j i free.in_marks over (omega (arith, below)) in
        ap is_some (f.batches j inside ∙ sym (g.batches j inside)) ∙ free.used j over below

    none : (j : ℕ) → logged c me (e ∷ past) log.view j ≡ None → (o : Option (List ℕ)) → logged c me past log.view j ≡ o → o ≡ None
    none j h None k = refl
    none j h (Some batch) k = absurd (given_not (logged c me (e ∷ past) log.view j) batch (logged_stays c me log.view j batch e past k) h)

    was_free : (i : ℕ) → IsFree c me (e ∷ past) desk.state.number log.view i → IsFree c me past desk.state.number log.view i
    was_free i free = record {
      in_marks = ap (λ (h : ℕ). is_in_marks c h i) (sym same) ∙ free.in_marks;
      near = free.near;
      used = λ j above below. in_log i j free above below;
      unused = λ j above. none j (free.unused j above) (logged c me past log.view j) refl;
    }

    of_view : (batch : List ℕ) → IsOfView c me past log.view batch → IsOfView c me (e ∷ past) log.view batch
    of_view batch (inl l) = inl (l.0, logged_stays c me log.view l.0 batch e past l.1)
    of_view batch (inr l) = inr (inr l)

    on : (call : Call) → IsNumbered c me past log.view call.client call.timestamp → IsNumbered c me (e ∷ past) log.view call.client call.timestamp
    on call n = (n.0, of_view n.0 n.1, n.2)

pub inputs_pass : InputsPass
inputs_pass c me desk log past bytes held none e answered none_left =
    let f : BothFitWithinEvent c me (start_at c me desk log past held (Got me bytes)) desk log [] [] = inputs_fit c me desk desk log log [] past bytes held none e in
    events_end c me desk desk log log past [] (Got me bytes) held f (settled_goes c me desk log past (Got me bytes) held.of_log.fits f.of_log (held_are_settled c me desk log past held)) answered none_left refl (inl refl)

pub ticks_pass : TicksPass
ticks_pass c me desk log past held none answered none_left =
    let f : BothFitWithinEvent c me (start_at c me desk log past held (Tick me)) desk log [] [] =
    subst (λ (o : Option TransferData). BothFitWithinEvent c me (start_at c me desk log past held (Tick me)) desk log (again_due o) []) none (ticks_fit c me desk log past held) in
    events_end c me desk desk log log past [] (Tick me) held f (settled_goes c me desk log past (Tick me) held.of_log.fits f.of_log (held_are_settled c me desk log past held))
    answered none_left refl (inl refl)
