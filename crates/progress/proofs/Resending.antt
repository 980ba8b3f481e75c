-- Frames that are delivered again bring answers: the laws of redelivery, for schedules.
use Rattle.std.proofs.Common.{◌≡◌, ◌+◌, ◌⊎◌, inl, inr, List, [], ◌∷◌, ◌++◌, reverse, refl, sym, ap, ◌∙◌, subst}
use Rattle.std.proofs.lemmas.List.{reverse-append, reverse-reverse}
use Rattle.tuple_codec.specs.Operations.{Outcome}
use Rattle.protocol.specs.System.Configuration.{Configuration}
use Rattle.protocol.specs.System.Texts.{NoCollision}
use Rattle.protocol.specs.System.Trace.{Entry, Unforged}
use Rattle.protocol.specs.System.Trace.Entry.{Tick, Accepted}
use Rattle.protocol.specs.System.Run.{IsRun, OnlyTheseStopped}
use Rattle.protocol.specs.System.Schedule.{World, StepsLead, NoOutputIsNext, new_world}
use Rattle.protocol.specs.System.Schedule.Step.{ticks, flush}
use Rattle.protocol.proofs.Words.Elements.{has_either, has_left, has_right, has_reverse, has_reversed}
use Rattle.evidence.proofs.Feeding.{joins}
use Rattle.progress.specs.Delivery.{HasEntry}
use Rattle.progress.specs.Flushed.{WorldIsReached}
use Rattle.progress.specs.Redelivered.{redelivery, RedeliveriesBringAnswers}
use Rattle.progress.proofs.Flushing.{past_grows, flushes_deliver_all}
use Rattle.progress.proofs.Bringing.{tick_is_fed}
use Rattle.progress.proofs.Redeliveries.{redeliveries_deliver_all}
use Rattle.progress.proofs.GivenCalls.{given_calls_are_accepted}

-- the world after steps that begin with an input is reached too
reached_on : (c : Configuration) (w u : World) (entries : List Entry) → WorldIsReached c w → StepsLead c w (redelivery c w) entries u → NoOutputIsNext entries → WorldIsReached c u
reached_on c w u entries reached goes at =
    let is : u.past ≡ reverse entries ++ w.past = past_grows c w u (redelivery c w) entries goes in
    let oldest : reverse u.past ≡ reverse w.past ++ entries =
    ap reverse is ∙ reverse-append (reverse entries) w.past ∙ ap (λ (xs : List Entry). reverse w.past ++ xs) (reverse-reverse entries) in
    let g = joins c new_world w u reached.0 (reverse w.past) reached.1 (redelivery c w) entries at goes in
    (reached.0 ++ redelivery c w, subst (λ (es : List Entry). StepsLead c new_world (reached.0 ++ redelivery c w) es u) (sym oldest) g)

pub redeliveries_bring_answers : RedeliveriesBringAnswers
redeliveries_bring_answers c setting w u x first more reached goes at k call asks run stopped whole whole_stopped unforged apart v m from stays each client opened i positive small given has =
    let is : u.past ≡ reverse first ++ w.past = past_grows c w u (redelivery c w) first goes in
    let f = flushes_deliver_all c u x (ticks (256 + k) ∷ flush ∷ []) more (reached_on c w u first reached goes at) asks tt in
    let on : x.past ≡ reverse more ++ (reverse first ++ w.past) = f.0 ∙ ap (λ (xs : List Entry). reverse more ++ xs) is in
    let tick = has_reversed (λ e. e ≡ Tick (256 + k)) more (tick_is_fed c u x (256 + k) (flush ∷ []) (ticks (256 + k) ∷ flush ∷ []) more asks refl) in
    let a = given_calls_are_accepted c setting (reverse more) (reverse first) w.past (subst (IsRun c) is run) (subst (OnlyTheseStopped c []) is stopped) (subst (IsRun c) on whole) (subst (OnlyTheseStopped c []) on whole_stopped)
    (subst (Unforged c) on unforged) (subst (NoCollision c) on apart) v m from stays (redeliveries_deliver_all c w u first reached goes) each k call client opened i positive small given has tick f.1 in
    (a.0, go a.0 (has_either (λ e. e ≡ Accepted k call.timestamp a.0) (reverse more) (reverse first) a.1))
  where
    go : (answer : Outcome) → HasEntry (Accepted k call.timestamp answer) (reverse more) ⊎ HasEntry (Accepted k call.timestamp answer) (reverse first) → HasEntry (Accepted k call.timestamp answer) (first ++ more)
    go answer (inl h) = has_right (λ e. e ≡ Accepted k call.timestamp answer) first more (has_reverse (λ e. e ≡ Accepted k call.timestamp answer) more h)
    go answer (inr h) = has_left (λ e. e ≡ Accepted k call.timestamp answer) first more (has_reverse (λ e. e ≡ Accepted k call.timestamp answer) first h)
