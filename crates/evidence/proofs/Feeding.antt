-- A schedule takes each step that may come next.
use Rattle.std.proofs.Common.{◌≡◌, true, false, List, [], ◌∷◌, ◌++◌, refl, sym, ap, ◌∙◌, subst, reverse}
use Rattle.std.proofs.lemmas.List.{append-nil, reverse-append}
use Rattle.std.proofs.lemmas.Grind.{reverse_onto}
use Rattle.std.proofs.lemmas.Option.{slice_get_within}
use Rattle.protocol.specs.System.Configuration.{Configuration}
use Rattle.protocol.specs.System.Trace.{Entry, is_output, AreOutputs}
use Rattle.protocol.specs.System.Trace.Entry.{Invoke, Got, Tick}
use Rattle.protocol.specs.System.Schedule.{Step, World, StepsLead, NoOutputIsNext, new_world, with_entry, with_frame, sealed_bytes, signed_bytes, Feeds}
use Rattle.protocol.specs.System.Schedule.Step.{calls, deliver, feed, seal, sign, ticks}
use Rattle.protocol.specs.System.Schedule.StepsLead.{ends, gives, called, delivers, gets, ticked, seals, signs, flushes, flushed}
use Rattle.evidence.specs.Fed.{CallsAreFed, DeliveriesAreFed, BytesAreFed, TicksAreFed, SealedAreMade, SignedAreMade}
use Rattle.evidence.proofs.RefusingStepsAllowed.{allows_what_may_come}
use Rattle.protocol.proofs.Words.Elements.{each_append}
use Rattle.wire_format.specs.Lists.{Each}

-- ---- one schedule after another

-- entries may follow a faulty party's frame if they are empty or start with an input
at_input : (entries later : List Entry) → NoOutputIsNext entries → NoOutputIsNext later → NoOutputIsNext (entries ++ later)
at_input [] later h i = i
at_input (e ∷ entries) later h i = h

pub joins : (c : Configuration) (w u v : World) (steps : List Step) (entries : List Entry) → StepsLead c w steps entries u
    → (more : List Step) (later : List Entry) → NoOutputIsNext later → StepsLead c u more later v → StepsLead c w (steps ++ more) (entries ++ later) v
joins c w u v _ _ ends more later i h = h
joins c w u v _ _ (gives o g) more later i h = gives o (joins c _ u v _ _ g more later i h)
joins c w u v _ _ (called a g) more later i h = called a (joins c _ u v _ _ g more later i h)
joins c w u v _ _ (delivers a s g) more later i h = delivers a s (joins c _ u v _ _ g more later i h)
joins c w u v _ _ (gets a g) more later i h = gets a (joins c _ u v _ _ g more later i h)
joins c w u v _ _ (ticked a g) more later i h = ticked a (joins c _ u v _ _ g more later i h)
joins c w u v _ _ (seals {entries = entries} a j g) more later i h = seals a (at_input entries later j i) (joins c _ u v _ _ g more later i h)
joins c w u v _ _ (signs {entries = entries} a j g) more later i h = signs a (at_input entries later j i) (joins c _ u v _ _ g more later i h)
joins c w u v _ _ (flushes p g) more later i h = flushes p (joins c _ u v _ _ g more later i h)
joins c w u v _ _ (flushed {entries = entries} j p g) more later i h = flushed (at_input entries later j i) p (joins c _ u v _ _ g more later i h)

-- ---- an input with its outputs

outputs_come : (c : Configuration) (w : World) (outputs : List Entry) → AreOutputs outputs → (v : World) × StepsLead c w [] outputs v
outputs_come c w [] h = (w, ends)
outputs_come c w (e ∷ outputs) h = let r = outputs_come c (with_entry c w e) outputs h.1 in (r.0, gives h.0 r.1)

pub each_reverse : (P : Entry → Type 0) (xs : List Entry) → Each P xs → Each P (reverse xs)
each_reverse P [] h = tt
each_reverse P (x ∷ xs) h = subst (λ (ys : List Entry). Each P ys) (sym (reverse_onto xs x [])) (each_append P (reverse xs) (x ∷ []) (each_reverse P xs h.1) (h.0, tt))

oldest_first : (outputs : List Entry) (input : Entry) (trace : List Entry) → reverse (outputs ++ input ∷ trace) ≡ reverse trace ++ input ∷ reverse outputs
oldest_first outputs input trace = reverse-append outputs (input ∷ trace) ∙ ap (λ (xs : List Entry). xs ++ reverse outputs) (reverse_onto trace input []) ∙ associates (reverse trace)
  where
    associates : (xs : List Entry) → (xs ++ input ∷ []) ++ reverse outputs ≡ xs ++ input ∷ reverse outputs
    associates [] = refl
    associates (x ∷ xs) = ap (λ (ys : List Entry). x ∷ ys) (associates xs)

-- if a step takes this input in the world that the schedule makes, the step takes it after the schedule
one_more : (c : Configuration) (steps : List Step) (step : Step) (input : Entry) (outputs trace : List Entry) (feeds : Feeds c steps trace) (next : World)
    → ((entries : List Entry) (v : World) → StepsLead c next [] entries v → StepsLead c feeds.0 (step ∷ []) (input ∷ entries) v)
    → is_output input ≡ false → AreOutputs outputs → Feeds c (steps ++ step ∷ []) (outputs ++ input ∷ trace)
one_more c steps step input outputs trace feeds next takes i are =
    let r = outputs_come c next (reverse outputs) (each_reverse (λ e. is_output e ≡ true) outputs are) in
    let g = joins c new_world feeds.0 r.0 steps (reverse trace) feeds.1 (step ∷ []) (input ∷ reverse outputs) i (takes (reverse outputs) r.0 r.1) in
    (r.0, subst (λ (entries : List Entry). StepsLead c new_world (steps ++ step ∷ []) entries r.0) (sym (oldest_first outputs input trace)) g)

pub calls_are_fed : CallsAreFed
calls_are_fed c steps k timestamp op outputs trace feeds correct none is are =
    let a = allows_what_may_come c steps (calls k op) trace feeds (correct, none, is) in
    one_more c steps (calls k op) (Invoke k timestamp op) outputs trace feeds (with_entry c feeds.0 (Invoke k timestamp op)) (λ entries v g. called a g) refl are

pub deliveries_are_fed : DeliveriesAreFed
deliveries_are_fed c steps frame party made outputs trace feeds is correct are =
    one_more c steps (deliver frame party) (Got party made.bytes) outputs trace feeds
    (record (with_entry c feeds.0 (Got party made.bytes)) { delivered = (frame, party) ∷ feeds.0.delivered })
    (λ entries v g. delivers (slice_get_within feeds.0.frames frame made is, correct) is g) refl are

pub bytes_are_fed : BytesAreFed
bytes_are_fed c steps party text outputs trace feeds correct are =
    one_more c steps (feed party text) (Got party text) outputs trace feeds (with_entry c feeds.0 (Got party text)) (λ entries v g. gets correct g) refl are

pub ticks_are_fed : TicksAreFed
ticks_are_fed c steps party outputs trace feeds correct are =
    one_more c steps (ticks party) (Tick party) outputs trace feeds (with_entry c feeds.0 (Tick party)) (λ entries v g. ticked correct g) refl are

-- ---- a frame of a faulty party

-- a step without an input may follow the schedule
no_input : (c : Configuration) (steps : List Step) (step : Step) (trace : List Entry) (feeds : Feeds c steps trace) (v : World)
    → StepsLead c feeds.0 (step ∷ []) [] v → StepsLead c new_world (steps ++ step ∷ []) (reverse trace) v
no_input c steps step trace feeds v g =
    subst (λ (entries : List Entry). StepsLead c new_world (steps ++ step ∷ []) entries v) (append-nil (reverse trace))
    (joins c new_world feeds.0 v steps (reverse trace) feeds.1 (step ∷ []) [] tt g)

pub sealed_are_made : SealedAreMade
sealed_are_made c steps sender receivers body trace feeds h =
    let a = allows_what_may_come c steps (seal sender receivers body) trace feeds h in
    let v = with_frame feeds.0 (sealed_bytes c sender receivers body) receivers in
    ((v, no_input c steps (seal sender receivers body) trace feeds v (seals a tt ends)), refl)

pub signed_are_made : SignedAreMade
signed_are_made c steps replica leaf receivers body trace feeds h =
    let a = allows_what_may_come c steps (sign replica leaf receivers body) trace feeds h in
    let v = with_frame feeds.0 (signed_bytes c replica leaf body) receivers in
    ((v, no_input c steps (sign replica leaf receivers body) trace feeds v (signs a tt ends)), refl)
