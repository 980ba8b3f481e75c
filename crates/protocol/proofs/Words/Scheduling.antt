-- A schedule feeds each of its steps, and may deliver each frame that was sent.
use Rattle.std.proofs.Common.{◌≡◌, ℕ, ◌+◌, ◌≤◌, ◌<◌, inl, inr, true, false, List, [], ◌∷◌, ◌++◌, length, filter, refl, sym, ap, ◌∙◌, subst, arith, reverse}
use Rattle.std.proofs.lemmas.List.{length-append, reverse-reverse}
use mathlib.Core.List.{reverse_aux}
use Rattle.protocol.specs.System.Configuration.{Configuration}
use Rattle.protocol.specs.System.Trace.{Entry, Has}
use Rattle.protocol.specs.System.Trace.Entry.{Invoke, Got, Tick, Sent}
use Rattle.protocol.specs.System.Schedule.{Step, Made, World, StepsLead, new_world, made_by}
use Rattle.protocol.specs.System.Schedule.Step.{seal, sign, flush}
use Rattle.protocol.specs.System.Schedule.StepsLead.{ends, gives, called, delivers, gets, ticked, seals, signs, flushes, flushed}
use Rattle.protocol.specs.Laws.Schedules.{IsInputOfStep, feeds_input, FeedsEachStep, is_sent, AllowsSent}
use Rattle.protocol.proofs.Words.Elements.{has_reverse}

-- ---- each step is fed

no_input : (step other : Step) → feeds_input other ≡ false → other ≡ step → feeds_input step ≡ true → (X : Type 0) → X
no_input step other none is feeds X = let bad : false ≡ true = sym none ∙ ap feeds_input is ∙ feeds in absurd cc

fed : (c : Configuration) (w v : World) (steps : List Step) (entries : List Entry) → StepsLead c w steps entries v → (step : Step) → Has (λ x. x ≡ step) steps → feeds_input step ≡ true → Has (IsInputOfStep step) entries
fed c w v _ _ ends step h k = absurd h
fed c w v _ _ (gives o g) step h k = inr (fed c _ _ _ _ g step h k)
fed c w v _ _ (called {client = client} {timestamp = timestamp} {op = op} a g) step (inl h) k = inl (subst (λ (x : Step). IsInputOfStep x (Invoke client timestamp op)) h (refl, refl))
fed c w v _ _ (called a g) step (inr h) k = inr (fed c _ _ _ _ g step h k)
fed c w v _ _ (delivers {frame = frame} {party = party} {made = made} a s g) step (inl h) k = inl (subst (λ (x : Step). IsInputOfStep x (Got party made.bytes)) h refl)
fed c w v _ _ (delivers a s g) step (inr h) k = inr (fed c _ _ _ _ g step h k)
fed c w v _ _ (gets {party = party} {text = text} a g) step (inl h) k = inl (subst (λ (x : Step). IsInputOfStep x (Got party text)) h (refl, refl))
fed c w v _ _ (gets a g) step (inr h) k = inr (fed c _ _ _ _ g step h k)
fed c w v _ _ (ticked {party = party} a g) step (inl h) k = inl (subst (λ (x : Step). IsInputOfStep x (Tick party)) h refl)
fed c w v _ _ (ticked a g) step (inr h) k = inr (fed c _ _ _ _ g step h k)
fed c w v _ _ (seals {sender = sender} {receivers = receivers} {body = body} a i g) step (inl h) k = no_input step (seal sender receivers body) refl h k (Has (IsInputOfStep step) _)
fed c w v _ _ (seals a i g) step (inr h) k = fed c _ _ _ _ g step h k
fed c w v _ _ (signs {replica = replica} {leaf = leaf} {receivers = receivers} {body = body} a i g) step (inl h) k = no_input step (sign replica leaf receivers body) refl h k (Has (IsInputOfStep step) _)
fed c w v _ _ (signs a i g) step (inr h) k = fed c _ _ _ _ g step h k
fed c w v _ _ (flushes p g) step (inl h) k = no_input step flush refl h k (Has (IsInputOfStep step) _)
fed c w v _ _ (flushes p g) step (inr h) k = fed c _ _ _ _ g step (inr (inr h)) k
fed c w v _ _ (flushed i p g) step (inl h) k = no_input step flush refl h k (Has (IsInputOfStep step) _)
fed c w v _ _ (flushed i p g) step (inr h) k = fed c _ _ _ _ g step h k

pub feeds_each_step : FeedsEachStep
feeds_each_step c steps step trace has input feeds = has_reverse (IsInputOfStep step) trace (fed c new_world feeds.0 steps (reverse trace) feeds.1 step has input)

-- ---- the past and the frames

-- the entries to come stand behind the steps in the past
past_is : (c : Configuration) (w v : World) (steps : List Step) (entries : List Entry) → StepsLead c w steps entries v → v.past ≡ reverse_aux entries w.past
past_is c w v _ _ ends = refl
past_is c w v _ _ (gives o g) = past_is c _ _ _ _ g
past_is c w v _ _ (called a g) = past_is c _ _ _ _ g
past_is c w v _ _ (delivers a s g) = past_is c _ _ _ _ g
past_is c w v _ _ (gets a g) = past_is c _ _ _ _ g
past_is c w v _ _ (ticked a g) = past_is c _ _ _ _ g
past_is c w v _ _ (seals a i g) = past_is c _ _ _ _ g
past_is c w v _ _ (signs a i g) = past_is c _ _ _ _ g
past_is c w v _ _ (flushes p g) = past_is c _ _ _ _ g
past_is c w v _ _ (flushed i p g) = past_is c _ _ _ _ g

pub past_of : (c : Configuration) (v : World) (steps : List Step) (trace : List Entry) → StepsLead c new_world steps (reverse trace) v → v.past ≡ trace
past_of c v steps trace g = past_is c new_world v steps (reverse trace) g ∙ reverse-reverse trace

-- ---- a sent frame may be delivered

-- each frame that was sent was made
made_there : (c : Configuration) (w : World) (e : Entry) → length (filter is_sent w.past) ≤ length w.frames → length (filter is_sent (e ∷ w.past)) ≤ length (w.frames ++ made_by c e)
made_there c w e h = go e (length-append w.frames (made_by c e))
  where
    go : (e : Entry) → length (w.frames ++ made_by c e) ≡ length w.frames + length (made_by c e) → length (filter is_sent (e ∷ w.past)) ≤ length (w.frames ++ made_by c e)
    go (Sent p bytes) n = omega arith
    go _ n = omega arith

more_there : (frames : List Made) (made : Made) (n : ℕ) → n ≤ length frames → n ≤ length (frames ++ made ∷ [])
more_there frames made n h = let l = length-append frames (made ∷ []) in omega arith

sent_made : (c : Configuration) (w v : World) (steps : List Step) (entries : List Entry) → StepsLead c w steps entries v → length (filter is_sent w.past) ≤ length w.frames → length (filter is_sent v.past) ≤ length v.frames
sent_made c w v _ _ ends h = h
sent_made c w v _ _ (gives {e = e} o g) h = sent_made c _ _ _ _ g (made_there c w e h)
sent_made c w v _ _ (called {client = client} {timestamp = timestamp} {op = op} a g) h = sent_made c _ _ _ _ g (made_there c w (Invoke client timestamp op) h)
sent_made c w v _ _ (delivers {party = party} {made = made} a s g) h = sent_made c _ _ _ _ g (made_there c w (Got party made.bytes) h)
sent_made c w v _ _ (gets {party = party} {text = text} a g) h = sent_made c _ _ _ _ g (made_there c w (Got party text) h)
sent_made c w v _ _ (ticked {party = party} a g) h = sent_made c _ _ _ _ g (made_there c w (Tick party) h)
sent_made c w v _ _ (seals a i g) h = sent_made c _ _ _ _ g (more_there w.frames _ _ h)
sent_made c w v _ _ (signs a i g) h = sent_made c _ _ _ _ g (more_there w.frames _ _ h)
sent_made c w v _ _ (flushes p g) h = sent_made c _ _ _ _ g h
sent_made c w v _ _ (flushed i p g) h = sent_made c _ _ _ _ g h

pub allows_sent : AllowsSent
allows_sent c steps frame party trace feeds sent correct = (there, correct)
  where
    made : length (filter is_sent feeds.0.past) ≤ length feeds.0.frames
    made = sent_made c new_world feeds.0 _ _ feeds.1 (omega arith)

    there : frame < length feeds.0.frames
    there =
        let all = subst (λ (xs : List Entry). length (filter is_sent xs) ≤ length feeds.0.frames) (past_of c feeds.0 steps trace feeds.1) made in
        omega (arith, all, sent)
