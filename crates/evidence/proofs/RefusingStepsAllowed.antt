-- The definition of schedules refuses inputs of faulty parties, frames of correct ones and for none, and a flush
-- that leaves such a frame undelivered.
use Rattle.std.proofs.Common.{◌≡◌, ℕ, zero, suc, ◌⊎◌, inl, inr, Bool, true, false, List, [], ◌∷◌, ◌++◌, length, slice_get, refl, sym, ap, ◌∙◌, subst, ◌||◌, Some, reverse}
use Rattle.std.proofs.lemmas.Bool.{or_cases}
use Rattle.protocol.specs.System.Configuration.{Configuration, is_replica, is_client}
use Rattle.protocol.specs.System.Trace.{Entry, Always, Has, is_output}
use Rattle.protocol.specs.System.Trace.Entry.{Invoke, Got, Tick}
use Rattle.protocol.specs.System.Schedule.{Step, Made, World, StepsLead, NoOutputIsNext, new_world, made_by, sealed_bytes, signed_bytes, AreReceivers, IsAllowed}
use Rattle.protocol.specs.System.Schedule.Step.{calls, deliver, feed, seal, sign, ticks, flush}
use Rattle.protocol.specs.System.Schedule.StepsLead.{ends, gives, called, delivers, gets, ticked, seals, signs, flushes, flushed}
use Rattle.evidence.specs.RefusedSteps.{MayBeFed, FeedsWhatMayBeFed, ArePartiesInOrder, MayMake, FeedsWhatMayBeMade, FlushDeliversSealed, FlushDeliversSigned, SealedIsNewest, SignedIsNewest, MayCome, AllowsWhatMayCome, AllowsNoOther}
use Rattle.protocol.proofs.Words.Scheduling.{past_of}
use Rattle.evidence.proofs.RefusingRunsSchedules.{flush_delivers_all}
use Rattle.wire_format.specs.Lists.{Each}

-- ---- the entries that a schedule feeds

output_may : (c : Configuration) (past : List Entry) (e : Entry) → is_output e ≡ true → MayBeFed c past e
output_may c past (Invoke k timestamp op) h = absurd cc
output_may c past (Got p bytes) h = absurd cc
output_may c past (Tick p) h = absurd cc
output_may c past _ h = tt

fed : (c : Configuration) (w v : World) (steps : List Step) (entries : List Entry) → StepsLead c w steps entries v → Always (MayBeFed c) w.past → Always (MayBeFed c) v.past
fed c w v _ _ ends h = h
fed c w v _ _ (gives {e = e} o g) h = fed c _ _ _ _ g (output_may c w.past e o, h)
fed c w v _ _ (called a g) h = fed c _ _ _ _ g (a, h)
fed c w v _ _ (delivers a s g) h = fed c _ _ _ _ g (a.1, h)
fed c w v _ _ (gets a g) h = fed c _ _ _ _ g (a, h)
fed c w v _ _ (ticked a g) h = fed c _ _ _ _ g (a, h)
fed c w v _ _ (seals a i g) h = fed c _ _ _ _ g h
fed c w v _ _ (signs a i g) h = fed c _ _ _ _ g h
fed c w v _ _ (flushes p g) h = fed c _ _ _ _ g h
fed c w v _ _ (flushed i p g) h = fed c _ _ _ _ g h

pub feeds_what_may_be_fed : FeedsWhatMayBeFed
feeds_what_may_be_fed c steps trace feeds =
    subst (λ (xs : List Entry). Always (MayBeFed c) xs) (past_of c feeds.0 steps trace feeds.1) (fed c new_world feeds.0 steps (reverse trace) feeds.1 tt)

-- ---- the frames that a schedule makes

test_of_party : (a b : Bool) → (a ≡ true) ⊎ (b ≡ true) → (a || b) ≡ true
test_of_party true b h = refl
test_of_party false b (inl h) = absurd cc
test_of_party false b (inr h) = h

in_order : (c : Configuration) (ps : List ℕ) → AreReceivers c ps → ArePartiesInOrder c ps
in_order c ps r = (r.some, r.few, r.ascend, λ k d l. or_cases (is_replica c _) (is_client c _) (r.parties k d l))

receivers : (c : Configuration) (ps : List ℕ) → ArePartiesInOrder c ps → AreReceivers c ps
receivers c ps h = record { some = h.0; few = h.1; ascend = h.2; parties = λ k d l. test_of_party (is_replica c _) (is_client c _) (h.3 k d l) }

made : (c : Configuration) (w v : World) (steps : List Step) (entries : List Entry) → StepsLead c w steps entries v → Each (MayMake c) steps
made c w v _ _ ends = tt
made c w v _ _ (gives o g) = made c _ _ _ _ g
made c w v _ _ (called a g) = (tt, made c _ _ _ _ g)
made c w v _ _ (delivers a s g) = (tt, made c _ _ _ _ g)
made c w v _ _ (gets a g) = (tt, made c _ _ _ _ g)
made c w v _ _ (ticked a g) = (tt, made c _ _ _ _ g)
made c w v _ _ (seals {sender = sender} {receivers = rs} a i g) = ((or_cases (is_replica c sender) (is_client c sender) a.0, a.1, in_order c rs a.2), made c _ _ _ _ g)
made c w v _ _ (signs {receivers = rs} a i g) = ((a.0, a.1, a.2, in_order c rs a.3), made c _ _ _ _ g)
made c w v _ _ (flushes p g) = let below = made c _ _ _ _ g in below.1
made c w v _ _ (flushed i p g) = (tt, made c _ _ _ _ g)

pub feeds_what_may_be_made : FeedsWhatMayBeMade
feeds_what_may_be_made c steps trace feeds = made c new_world feeds.0 steps (reverse trace) feeds.1

-- ---- which steps are allowed

allowed : (c : Configuration) (w : World) (step : Step) → MayCome c w.frames w.past step → IsAllowed c w step
allowed c w (calls k op) h = h
allowed c w (deliver frame party) h = h
allowed c w (feed party text) h = h
allowed c w (seal sender rs body) h = (test_of_party (is_replica c sender) (is_client c sender) h.0, h.1, receivers c rs h.2)
allowed c w (sign replica leaf rs body) h = (h.0, h.1, h.2, receivers c rs h.3)
allowed c w (ticks party) h = h
allowed c w flush h = tt

may_come : (c : Configuration) (w : World) (step : Step) → IsAllowed c w step → MayCome c w.frames w.past step
may_come c w (calls k op) h = h
may_come c w (deliver frame party) h = h
may_come c w (feed party text) h = h
may_come c w (seal sender rs body) h = (or_cases (is_replica c sender) (is_client c sender) h.0, h.1, in_order c rs h.2)
may_come c w (sign replica leaf rs body) h = (h.0, h.1, h.2, in_order c rs h.3)
may_come c w (ticks party) h = h
may_come c w flush h = tt

pub allows_what_may_come : AllowsWhatMayCome
allows_what_may_come c steps step trace feeds may =
    allowed c feeds.0 step (subst (λ (xs : List Entry). MayCome c feeds.0.frames xs step) (sym (past_of c feeds.0 steps trace feeds.1)) may)

pub allows_no_other : AllowsNoOther
allows_no_other c steps step trace feeds is =
    subst (λ (xs : List Entry). MayCome c feeds.0.frames xs step) (past_of c feeds.0 steps trace feeds.1) (may_come c feeds.0 step is)

-- ---- a frame that a step made is one of the world's

abbrev IsThere : Made → List Made → Type 0
IsThere x frames = (i : ℕ) × (slice_get frames i ≡ Some x)

there_before : (xs ys : List Made) (x : Made) → IsThere x xs → IsThere x (xs ++ ys)
there_before xs ys x h = (h.0, go xs h.0 h.1)
  where
    go : (xs : List Made) (i : ℕ) → slice_get xs i ≡ Some x → slice_get (xs ++ ys) i ≡ Some x
    go [] i h = absurd cc
    go (y ∷ xs) zero h = h
    go (y ∷ xs) (suc i) h = go xs i h

there_last : (frames : List Made) (x : Made) → IsThere x (frames ++ x ∷ [])
there_last frames x = (length frames, go frames)
  where
    go : (frames : List Made) → slice_get (frames ++ x ∷ []) (length frames) ≡ Some x
    go [] = refl
    go (y ∷ frames) = go frames

-- the frame that the step makes
abbrev Makes : Configuration → Made → Step → Type 0
Makes c x (seal sender rs body) = x ≡ record { bytes = sealed_bytes c sender rs body; receivers = rs }
Makes c x (sign replica leaf rs body) = x ≡ record { bytes = signed_bytes c replica leaf body; receivers = rs }
Makes c x _ = ⊥

module _ (c : Configuration) (x : Made) where
  stays : (w v : World) (steps : List Step) (entries : List Entry) → StepsLead c w steps entries v → IsThere x w.frames ⊎ Has (Makes c x) steps → IsThere x v.frames
  stays w v _ _ ends (inl h) = h
  stays w v _ _ ends (inr h) = absurd h
  stays w v _ _ (gives {e = e} o g) (inl h) = stays _ _ _ _ g (inl (there_before w.frames (made_by c e) x h))
  stays w v _ _ (gives o g) (inr h) = stays _ _ _ _ g (inr h)
  stays w v _ _ (called a g) (inl h) = stays _ _ _ _ g (inl (there_before w.frames [] x h))
  stays w v _ _ (called a g) (inr (inr h)) = stays _ _ _ _ g (inr h)
  stays w v _ _ (delivers a s g) (inl h) = stays _ _ _ _ g (inl (there_before w.frames [] x h))
  stays w v _ _ (delivers a s g) (inr (inr h)) = stays _ _ _ _ g (inr h)
  stays w v _ _ (gets a g) (inl h) = stays _ _ _ _ g (inl (there_before w.frames [] x h))
  stays w v _ _ (gets a g) (inr (inr h)) = stays _ _ _ _ g (inr h)
  stays w v _ _ (ticked a g) (inl h) = stays _ _ _ _ g (inl (there_before w.frames [] x h))
  stays w v _ _ (ticked a g) (inr (inr h)) = stays _ _ _ _ g (inr h)
  stays w v _ _ (seals a i g) (inl h) = stays _ _ _ _ g (inl (there_before w.frames _ x h))
  stays w v _ _ (seals a i g) (inr (inl h)) = stays _ _ _ _ g (inl (subst (λ (y : Made). IsThere x (w.frames ++ y ∷ [])) h (there_last w.frames x)))
  stays w v _ _ (seals a i g) (inr (inr h)) = stays _ _ _ _ g (inr h)
  stays w v _ _ (signs a i g) (inl h) = stays _ _ _ _ g (inl (there_before w.frames _ x h))
  stays w v _ _ (signs a i g) (inr (inl h)) = stays _ _ _ _ g (inl (subst (λ (y : Made). IsThere x (w.frames ++ y ∷ [])) h (there_last w.frames x)))
  stays w v _ _ (signs a i g) (inr (inr h)) = stays _ _ _ _ g (inr h)
  stays w v _ _ (flushes p g) (inl h) = stays _ _ _ _ g (inl h)
  stays w v _ _ (flushes p g) (inr (inr h)) = stays _ _ _ _ g (inr (inr (inr h)))
  stays w v _ _ (flushed i p g) (inl h) = stays _ _ _ _ g (inl h)
  stays w v _ _ (flushed i p g) (inr (inr h)) = stays _ _ _ _ g (inr h)
  stays w v _ _ _ (inr (inl h)) = absurd h

  makes_of : (step : Step) (steps more : List Step) → Makes c x step → Has (λ y. y ≡ step) steps → Has (Makes c x) (steps ++ more)
  makes_of step [] more m h = absurd h
  makes_of step (y ∷ steps) more m (inl h) = inl (subst (λ (z : Step). Makes c x z) (sym h) m)
  makes_of step (y ∷ steps) more m (inr h) = inr (makes_of step steps more m h)

pub flush_delivers_sealed : FlushDeliversSealed
flush_delivers_sealed c steps sender q rs body trace feeds step has correct =
    let x : Made = record { bytes = sealed_bytes c sender rs body; receivers = rs } in
    let at = stays c x new_world feeds.0 (steps ++ flush ∷ []) (reverse trace) feeds.1 (inr (makes_of c x (seal sender rs body) steps (flush ∷ []) refl step)) in
    flush_delivers_all c steps at.0 q x trace feeds at.1 has correct

pub flush_delivers_signed : FlushDeliversSigned
flush_delivers_signed c steps replica leaf q rs body trace feeds step has correct =
    let x : Made = record { bytes = signed_bytes c replica leaf body; receivers = rs } in
    let at = stays c x new_world feeds.0 (steps ++ flush ∷ []) (reverse trace) feeds.1 (inr (makes_of c x (sign replica leaf rs body) steps (flush ∷ []) refl step)) in
    flush_delivers_all c steps at.0 q x trace feeds at.1 has correct

-- ---- a frame that the last step made is the last

-- without steps, and with no output next, the world gets no more frames
nothing_more : (c : Configuration) (w v : World) (steps : List Step) (entries : List Entry) → StepsLead c w steps entries v → steps ≡ [] → NoOutputIsNext entries → v.frames ≡ w.frames
nothing_more c w v _ _ ends is i = refl
nothing_more c w v _ _ (gives o g) is i = let bad : false ≡ true = sym i ∙ o in absurd cc
nothing_more c w v _ _ (called a g) is i = absurd cc
nothing_more c w v _ _ (delivers a s g) is i = absurd cc
nothing_more c w v _ _ (gets a g) is i = absurd cc
nothing_more c w v _ _ (ticked a g) is i = absurd cc
nothing_more c w v _ _ (seals a j g) is i = absurd cc
nothing_more c w v _ _ (signs a j g) is i = absurd cc
nothing_more c w v _ _ (flushes p g) is i = absurd cc
nothing_more c w v _ _ (flushed j p g) is i = absurd cc

abbrev IsNewest : Made → List Made → Type 0
IsNewest x frames = (before : List Made) × (frames ≡ before ++ x ∷ [])

module _ (c : Configuration) (x : Made) where
  -- the last step makes the frame
  abbrev MakesLast : List Step → Type 0
  MakesLast steps = (before : List Step) × (step : Step) × (steps ≡ before ++ step ∷ []) × Makes c x step

  -- a first step that makes no such frame is not the last
  later : (first : Step) (steps : List Step) → (Makes c x first → ⊥) → MakesLast (first ∷ steps) → MakesLast steps
  later first steps none h = go h.0 h.2
    where
      go : (before : List Step) → first ∷ steps ≡ before ++ h.1 ∷ [] → MakesLast steps
      go [] e = absurd (none (let same : h.1 ≡ first = cc in subst (λ (s : Step). Makes c x s) same h.3))
      go (y ∷ before) e = (before, h.1, (let same : steps ≡ before ++ h.1 ∷ [] = cc in same), h.3)

  -- a first step is the last, or a later one is
  here_or_later : (first : Step) (steps : List Step) → MakesLast (first ∷ steps) → (X : Type 0) → (Makes c x first → steps ≡ [] → X) → (MakesLast steps → X) → X
  here_or_later first steps h X here below = go h.0 h.2
    where
      go : (before : List Step) → first ∷ steps ≡ before ++ h.1 ∷ [] → X
      go [] e = here (let same : h.1 ≡ first = cc in subst (λ (s : Step). Makes c x s) same h.3) (let none : steps ≡ [] = cc in none)
      go (y ∷ before) e = below (before, h.1, (let same : steps ≡ before ++ h.1 ∷ [] = cc in same), h.3)

  newest : (w v : World) (steps : List Step) (entries : List Entry) → StepsLead c w steps entries v → MakesLast steps → IsNewest x v.frames
  newest w v _ _ ends h = none h.0 h.2
    where
      none : (before : List Step) → [] ≡ before ++ h.1 ∷ [] → IsNewest x v.frames
      none [] e = absurd cc
      none (y ∷ before) e = absurd cc
  newest w v _ _ (gives o g) h = newest _ _ _ _ g h
  newest w v _ _ (called a g) h = newest _ _ _ _ g (later _ _ (λ m. m) h)
  newest w v _ _ (delivers a s g) h = newest _ _ _ _ g (later _ _ (λ m. m) h)
  newest w v _ _ (gets a g) h = newest _ _ _ _ g (later _ _ (λ m. m) h)
  newest w v _ _ (ticked a g) h = newest _ _ _ _ g (later _ _ (λ m. m) h)
  newest w v _ _ (seals {steps = steps} a i g) h =
      here_or_later _ steps h (IsNewest x v.frames) (λ m none. (w.frames, nothing_more c _ v steps _ g none i ∙ ap (λ (y : Made). w.frames ++ y ∷ []) (sym m))) (λ l. newest _ _ _ _ g l)
  newest w v _ _ (signs {steps = steps} a i g) h =
      here_or_later _ steps h (IsNewest x v.frames) (λ m none. (w.frames, nothing_more c _ v steps _ g none i ∙ ap (λ (y : Made). w.frames ++ y ∷ []) (sym m))) (λ l. newest _ _ _ _ g l)
  newest w v _ _ (flushes {frame = frame} {party = party} p g) h = newest _ _ _ _ g (deliver frame party ∷ h.0, h.1, ap (λ (xs : List Step). deliver frame party ∷ xs) h.2, h.3)
  newest w v _ _ (flushed i p g) h = newest _ _ _ _ g (later _ _ (λ m. m) h)

pub sealed_is_newest : SealedIsNewest
sealed_is_newest c steps sender rs body trace feeds =
    newest c (record { bytes = sealed_bytes c sender rs body; receivers = rs }) new_world feeds.0 (steps ++ seal sender rs body ∷ []) (reverse trace) feeds.1
    (steps, seal sender rs body, refl, refl)

pub signed_is_newest : SignedIsNewest
signed_is_newest c steps replica leaf rs body trace feeds =
    newest c (record { bytes = signed_bytes c replica leaf body; receivers = rs }) new_world feeds.0 (steps ++ sign replica leaf rs body ∷ []) (reverse trace) feeds.1
    (steps, sign replica leaf rs body, refl, refl)
