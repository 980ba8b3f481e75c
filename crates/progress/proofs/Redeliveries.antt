-- A schedule that delivers all frames again delivers all that was ever sent.
use Rattle.std.proofs.Common.{◌≡◌, ℕ, zero, suc, ◌+◌, ◌⊎◌, inl, inr, true, List, [], ◌∷◌, ◌++◌, map, slice_get, Some, refl, sym, ap, ◌∙◌, subst, arith, reverse}
use Rattle.std.specs.Prelude.{filter}
use Rattle.protocol.specs.System.Configuration.{Configuration, is_correct}
use Rattle.protocol.specs.System.Trace.{Entry, Has}
use Rattle.protocol.specs.System.Trace.Entry.{Invoke, Got, Tick, Sent}
use Rattle.protocol.specs.System.Schedule.{Step, Made, World, StepsLead, new_world, made_by, with_entry, with_frame, sealed_bytes, signed_bytes}
use Rattle.protocol.specs.System.Schedule.Step.{deliver, flush}
use Rattle.protocol.specs.System.Schedule.StepsLead.{ends, gives, called, delivers, gets, ticked, seals, signs, flushes, flushed}
use Rattle.protocol.proofs.Words.Options.{some_injective}
use Rattle.protocol.proofs.Words.Elements.{has_either, has_left, has_right, has_mapped, has_filtered, has_weaker, has_reversed}
use Rattle.progress.specs.Delivery.{HasEntry}
use Rattle.progress.specs.Flushed.{EndsInFlush}
use Rattle.progress.specs.Redelivered.{deliveries, redelivery, RedeliveriesDeliverAll}
use Rattle.progress.proofs.Flushing.{grows_by, made_since, frame_sent, flushes_deliver_all}

-- ---- a delivery that is among the steps is fed

module _ (c : Configuration) (i q : ℕ) (made : Made) where
  delivers_fed : (w v : World) (steps : List Step) (entries : List Entry) → StepsLead c w steps entries v → Has (λ x. x ≡ deliver i q) steps → slice_get w.frames i ≡ Some made → HasEntry (Got q made.bytes) entries
  delivers_fed w v _ _ ends h is = absurd h
  delivers_fed w v _ _ (gives {e = e} o g) h is = inr (delivers_fed _ v _ _ g h ((grows_by w (with_entry c w e) (made_by c e) refl).frames i made is))
  delivers_fed w v _ _ (called {client = k} {timestamp = t} {op = op} a g) (inr h) is = inr (delivers_fed _ v _ _ g h ((grows_by w (with_entry c w (Invoke k t op)) [] refl).frames i made is))
  delivers_fed w v _ _ (delivers {frame = n} {party = p} {made = m} a s g) (inl same) is =
      let number : n ≡ i = cc in
      let party : p ≡ q = cc in
      let frame : m ≡ made = some_injective m made (sym (subst (λ (j : ℕ). slice_get w.frames j ≡ Some m) number s) ∙ is) in
      inl (rw (party, frame) refl)
  delivers_fed w v _ _ (delivers {frame = n} {party = p} {made = m} a s g) (inr h) is =
      let u : World = record (with_entry c w (Got p m.bytes)) { delivered = (n, p) ∷ w.delivered } in
      inr (delivers_fed _ v _ _ g h ((grows_by w u [] refl).frames i made is))
  delivers_fed w v _ _ (gets {party = p} {text = text} a g) (inr h) is = inr (delivers_fed _ v _ _ g h ((grows_by w (with_entry c w (Got p text)) [] refl).frames i made is))
  delivers_fed w v _ _ (ticked {party = p} a g) (inr h) is = inr (delivers_fed _ v _ _ g h ((grows_by w (with_entry c w (Tick p)) [] refl).frames i made is))
  delivers_fed w v _ _ (seals {sender = s} {receivers = rs} {body = b} a j g) (inr h) is =
      let u : World = with_frame w (sealed_bytes c s rs b) rs in
      delivers_fed _ v _ _ g h ((grows_by w u (record { bytes = sealed_bytes c s rs b; receivers = rs } ∷ []) refl).frames i made is)
  delivers_fed w v _ _ (signs {replica = r} {leaf = l} {receivers = rs} {body = b} a j g) (inr h) is =
      let u : World = with_frame w (signed_bytes c r l b) rs in
      delivers_fed _ v _ _ g h ((grows_by w u (record { bytes = signed_bytes c r l b; receivers = rs } ∷ []) refl).frames i made is)
  delivers_fed w v _ _ (flushes x g) (inr h) is = delivers_fed _ v _ _ g (inr (inr h)) is
  delivers_fed w v _ _ (flushed j x g) (inr h) is = delivers_fed _ v _ _ g h is
  delivers_fed w v _ _ _ (inl same) is = absurd cc

-- ---- each frame is among the deliveries, for each of its correct receivers

in_deliveries : (c : Configuration) (first : ℕ) (frames : List Made) (i q : ℕ) (made : Made) → slice_get frames i ≡ Some made → Has (λ x. x ≡ q) made.receivers → is_correct c q ≡ true
    → Has (λ x. x ≡ deliver (first + i) q) (deliveries c first frames)
in_deliveries c first [] i q made is h correct = absurd cc
in_deliveries c first (x ∷ frames) zero q made is h correct =
    let same : x ≡ made = some_injective x made is in
    let number : first ≡ first + 0 = omega arith in
    has_left (λ y. y ≡ deliver (first + 0) q) (map (deliver first) (filter (is_correct c) x.receivers)) (deliveries c (suc first) frames)
    (has_mapped (λ y. y ≡ deliver (first + 0) q) (deliver first) (filter (is_correct c) x.receivers)
    (has_weaker (λ p. p ≡ q) (λ p. deliver first p ≡ deliver (first + 0) q) (λ p e. ap (deliver first) e ∙ ap (λ (n : ℕ). deliver n q) number) (filter (is_correct c) x.receivers)
    (has_filtered (λ p. p ≡ q) (is_correct c) (λ p e. ap (is_correct c) e ∙ correct) x.receivers (subst (λ (m : Made). Has (λ y. y ≡ q) m.receivers) (sym same) h))))
in_deliveries c first (x ∷ frames) (suc i) q made is h correct =
    let number : suc first + i ≡ first + suc i = omega arith in
    has_right (λ y. y ≡ deliver (first + suc i) q) (map (deliver first) (filter (is_correct c) x.receivers)) (deliveries c (suc first) frames)
    (subst (λ (n : ℕ). Has (λ y. y ≡ deliver n q) (deliveries c (suc first) frames)) number (in_deliveries c (suc first) frames i q made is h correct))

one_more : (s t : Step) (steps : List Step) → EndsInFlush (t ∷ steps) → EndsInFlush (s ∷ t ∷ steps)
one_more _ t steps h = h

ends_in_flush : (steps : List Step) → EndsInFlush (steps ++ flush ∷ [])
ends_in_flush [] = tt
ends_in_flush (s ∷ []) = one_more s flush [] tt
ends_in_flush (s ∷ t ∷ steps) = one_more s t (steps ++ flush ∷ []) (ends_in_flush (t ∷ steps))

-- ---- the law

pub redeliveries_deliver_all : RedeliveriesDeliverAll
redeliveries_deliver_all c w v entries reached goes p q bytes sent meant_is correct = go (has_either (λ x. x ≡ Sent p bytes) (reverse entries) w.past sent)
  where
    earlier : HasEntry (Sent p bytes) w.past → HasEntry (Got q bytes) (reverse entries)
    earlier h =
        let m = made_since c new_world w reached.0 (reverse w.past) p bytes reached.1 (has_reversed (λ x. x ≡ Sent p bytes) w.past h) in
        let number : 0 + m.index ≡ m.index = omega arith in
        let step = subst (λ (n : ℕ). Has (λ x. x ≡ deliver n q) (deliveries c 0 w.frames)) number (in_deliveries c 0 w.frames m.index q (frame_sent c p bytes) m.is meant_is correct) in
        has_reversed (λ x. x ≡ Got q bytes) entries
        (delivers_fed c m.index q (frame_sent c p bytes) w v (redelivery c w) entries goes (has_left (λ x. x ≡ deliver m.index q) (deliveries c 0 w.frames) (flush ∷ []) step) m.is)

    go : HasEntry (Sent p bytes) (reverse entries) ⊎ HasEntry (Sent p bytes) w.past → HasEntry (Got q bytes) (reverse entries)
    go (inl h) = (flushes_deliver_all c w v (redelivery c w) entries reached goes (ends_in_flush (deliveries c 0 w.frames))).1 p q bytes h meant_is correct
    go (inr h) = earlier h
