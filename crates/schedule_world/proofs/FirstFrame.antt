-- A client that has not stopped sends its request.
use Rattle.std.proofs.Common.{◌≡◌, ℕ, ◌+◌, ◌≤◌, ◌<◌, ◌⊎◌, inl, inr, Bool, true, false, cond, List, [], ◌∷◌, length, refl, sym, ap, ◌∙◌, subst, arith, eq-eqb}
use Rattle.std.specs.Prelude.{filter, ◌==◌, reverse}
use Rattle.tuple_codec.specs.Operations.{Operation}
use Rattle.protocol.specs.System.Configuration.{Configuration, is_correct, is_correct_client}
use Rattle.protocol.specs.System.Trace.{Entry, party_of, history_of, Has}
use Rattle.protocol.specs.System.Trace.Entry.{Invoke, Got, Tick, Executed, Installed, Sent, Accepted}
use Rattle.protocol.specs.System.Schedule as schedules
use Rattle.protocol.specs.System.Schedule.Step.{calls, deliver}
use Rattle.protocol.specs.System.Run.{OnlyTheseStopped}
use Rattle.protocol.specs.Client.RightClient.{Reacts, reaction}
use Rattle.protocol.specs.Laws.Schedules.{IsInputOfStep, is_sent}
use Rattle.protocol.proofs.Words.Scheduling.{feeds_each_step, allows_sent}
use Rattle.protocol.proofs.Words.Options.{some_injective}
use Rattle.protocol.proofs.Words.Elements.{has_filter, has_filtered}
use Rattle.schedule_text.specs.StepView.{step_of}
use Rattle.schedule_world.specs.Reports.{trace_of}
use Rattle.schedule_world.specs.Laws.{FirstFrameMayCome}

-- a frame is sent in this entry
abbrev IsSent : Entry → Type 0
IsSent e = is_sent e ≡ true

-- ---- a call of a client that has not stopped is sent

given : (e : Entry) (outputs past : List Entry) → Has IsSent (e ∷ outputs) ⊎ Has IsSent past → Has IsSent outputs ⊎ Has IsSent (e ∷ past)
given e outputs past (inl (inl s)) = inr (inl s)
given e outputs past (inl (inr s)) = inl s
given e outputs past (inr s) = inr (inr s)

earlier : (e : Entry) (outputs past : List Entry) → Has IsSent [] ⊎ Has IsSent past → Has IsSent outputs ⊎ Has IsSent (e ∷ past)
earlier e outputs past (inl s) = absurd s
earlier e outputs past (inr s) = inr (inr s)

sends : (c : Configuration) (me k : ℕ) (op : Operation) (outputs history : List Entry) → Reacts c me 0 (reaction c me) outputs history → Has (IsInputOfStep (calls k op)) history
    → Has IsSent outputs ⊎ Has IsSent history
sends c me k op outputs [] r h = absurd h
sends c me k op outputs (Invoke client t o ∷ past) r (inl h) = let request = r.1.1 in inl (subst (Has IsSent) (sym request.1) (inl refl))
sends c me k op outputs (Invoke client t o ∷ past) r (inr h) = earlier (Invoke client t o) outputs past (sends c me k op [] past r.1.2 h)
sends c me k op outputs (Got p bytes ∷ past) r (inr h) = earlier (Got p bytes) outputs past (sends c me k op [] past r.1.2 h)
sends c me k op outputs (Tick p ∷ past) r (inr h) = earlier (Tick p) outputs past (sends c me k op [] past r.1.2 h)
sends c me k op outputs (Executed p n batch ∷ past) r (inr h) = given (Executed p n batch) outputs past (sends c me k op (Executed p n batch ∷ outputs) past r.1 h)
sends c me k op outputs (Installed p n root ∷ past) r (inr h) = given (Installed p n root) outputs past (sends c me k op (Installed p n root ∷ outputs) past r.1 h)
sends c me k op outputs (Sent p bytes ∷ past) r (inr h) = inr (inl refl)
sends c me k op outputs (Accepted p t answer ∷ past) r (inr h) = given (Accepted p t answer) outputs past (sends c me k op (Accepted p t answer ∷ outputs) past r.1 h)
sends c me k op outputs (_ ∷ past) r (inl h) = absurd h

-- ---- so it is in the trace

calls_own : (k : ℕ) (op : Operation) (e : Entry) → IsInputOfStep (calls k op) e → (party_of e == (256 + k)) ≡ true
calls_own k op (Invoke client t o) h = eq-eqb (256 + client) (256 + k) (ap (λ n. 256 + n) h.0)
calls_own k op _ h = absurd h

counted : (trace : List Entry) → Has IsSent trace → 1 ≤ length (filter is_sent trace)
counted [] h = absurd h
counted (e ∷ trace) h = go (is_sent e) refl h (counted trace)
  where
    go : (b : Bool) → is_sent e ≡ b → Has IsSent (e ∷ trace) → (Has IsSent trace → 1 ≤ length (filter is_sent trace)) → 1 ≤ length (cond b (e ∷ filter is_sent trace) (filter is_sent trace))
    go true is h rest = omega arith
    go false is (inl s) rest = let bad : false ≡ true = sym is ∙ s in absurd cc
    go false is (inr s) rest = rest s

-- a delivery of the first frame after a call is refused only if a party has stopped
pub first_frame : (c : Configuration) (k p : ℕ) (op : Operation) (trace : List Entry) → is_correct_client c (256 + k) ≡ true → is_correct c p ≡ true
    → (feeds : schedules.Feeds c (calls k op ∷ []) trace) → (schedules.IsAllowed c feeds.0 (deliver 0 p) → ⊥) → OnlyTheseStopped c [] trace → ⊥
first_frame c k p op trace correct to feeds refused only =
    let called : Has (IsInputOfStep (calls k op)) trace = feeds_each_step c (calls k op ∷ []) (calls k op) trace (inl refl) refl feeds in
    let own = has_filtered (IsInputOfStep (calls k op)) (λ e. party_of e == (256 + k)) (calls_own k op) trace called in
    let some = counted trace (has_filter IsSent (λ e. party_of e == (256 + k)) trace
    (sent (sends c (256 + k) k op [] (history_of (256 + k) trace) (only.clients (256 + k) correct refl) own))) in
    let one : 0 < length (filter is_sent trace) = omega (arith, some) in
    refused (allows_sent c (calls k op ∷ []) 0 p trace feeds one to)
  where
    sent : Has IsSent [] ⊎ Has IsSent (history_of (256 + k) trace) → Has IsSent (history_of (256 + k) trace)
    sent (inl h) = absurd h
    sent (inr h) = h

-- ---- the same of a refusal

abbrev first_of : schedules.Step → List schedules.Step → schedules.Step
first_of other [] = other
first_of other (x ∷ xs) = x

abbrev second_of : schedules.Step → List schedules.Step → schedules.Step
second_of other [] = other
second_of other (x ∷ xs) = first_of other xs

pub first_frame_may_come : FirstFrameMayCome
first_frame_may_come c [] k p op before correct to same none stops = absurd cc
first_frame_may_come c (first ∷ []) k p op before correct to same none stops = absurd cc
first_frame_may_come c (first ∷ second ∷ rest) k p op before correct to same none stops =
    first_frame c k p op (trace_of before) correct to (stops.world, goes) refused only
  where
    goes : schedules.StepsLead c schedules.new_world (calls k op ∷ []) (reverse (trace_of before)) stops.world
    goes = subst (λ x. schedules.StepsLead c schedules.new_world (x ∷ []) (reverse (trace_of before)) stops.world) (ap (first_of (deliver 0 p)) same) stops.goes

    step_is : step_of stops.step ≡ deliver 0 p
    step_is = ap step_of (some_injective stops.step second (sym stops.is_step)) ∙ ap (second_of (deliver 0 p)) same

    refused : schedules.IsAllowed c stops.world (deliver 0 p) → ⊥
    refused = subst (λ x. schedules.IsAllowed c stops.world x → ⊥) step_is stops.refused

    only : OnlyTheseStopped c [] (trace_of before)
    only = subst (λ (stopped : List ℕ). OnlyTheseStopped c stopped (trace_of before)) none stops.tells.stopped
