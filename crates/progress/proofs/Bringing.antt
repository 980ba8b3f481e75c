-- The laws of answers, for schedules.
use Rattle.std.proofs.Common.{◌≡◌, ℕ, ◌+◌, inl, inr, List, [], ◌∷◌, reverse, refl, ap, subst}
use Rattle.protocol.specs.System.Configuration.{Configuration}
use Rattle.protocol.specs.System.Texts.{NoCollision}
use Rattle.protocol.specs.System.Trace.{Entry, Unforged}
use Rattle.protocol.specs.System.Trace.Entry.{Tick, Accepted}
use Rattle.protocol.specs.System.Run.{IsRun, OnlyTheseStopped}
use Rattle.protocol.specs.System.Schedule.{Step, World, StepsLead}
use Rattle.protocol.specs.System.Schedule.Step.{ticks, flush}
use Rattle.protocol.specs.System.Schedule.StepsLead.{gives, ticked}
use Rattle.protocol.proofs.Words.Elements.{has_reverse, has_reversed}
use Rattle.progress.specs.Delivery.{HasEntry}
use Rattle.progress.specs.Flushed.{FlushesBringAnswers}
use Rattle.progress.proofs.Flushing.{flushes_deliver_all}
use Rattle.progress.proofs.Answering.{executed_calls_are_accepted}

-- a schedule feeds the tick with which it begins
pub tick_is_fed : (c : Configuration) (w v : World) (p : ℕ) (rest steps : List Step) (entries : List Entry) → StepsLead c w steps entries v → steps ≡ ticks p ∷ rest → HasEntry (Tick p) entries
tick_is_fed c w v p rest _ _ (gives o g) is = inr (tick_is_fed c _ v p rest _ _ g is)
tick_is_fed c w v p rest _ _ (ticked {party = q} a g) is = let same : q ≡ p = cc in inl (ap (λ (x : ℕ). Tick x) same)
tick_is_fed c w v p rest _ _ _ is = absurd cc

pub flushes_bring_answers : FlushesBringAnswers
flushes_bring_answers c setting w v entries reached k call keeps goes run stopped unforged apart client opened enough each =
    let f = flushes_deliver_all c w v (ticks (256 + k) ∷ flush ∷ []) entries reached goes tt in
    let tick = has_reversed (λ x. x ≡ Tick (256 + k)) entries (tick_is_fed c w v (256 + k) (flush ∷ []) (ticks (256 + k) ∷ flush ∷ []) entries goes refl) in
    let a = executed_calls_are_accepted c setting (reverse entries) w.past (subst (IsRun c) f.0 run) (subst (OnlyTheseStopped c []) f.0 stopped) (subst (Unforged c) f.0 unforged) (subst (NoCollision c) f.0 apart)
    k call keeps client opened enough each tick f.1 in
    (a.0, has_reverse (λ x. x ≡ Accepted k call.timestamp a.0) entries a.1)
