-- The definition of schedules refuses calls and ticks of no step, and a flush that leaves a frame undelivered.
use Rattle.std.proofs.Common.{◌≡◌, ℕ, zero, suc, ◌+◌, ◌⊎◌, inl, inr, Bool, true, false, not, cond, List, [], ◌∷◌, ◌++◌, length, filter, slice_get, refl, sym, ap, ◌∙◌, subst, arith, ◌&&◌, Option, Some, None, eqb-true, reverse}
use Rattle.std.specs.Prelude.{◌==◌}
use Rattle.std.proofs.lemmas.Bool.{and_parts}
use Rattle.tuple_codec.specs.Operations.{Operation}
use Rattle.quorum.specs.Votes.{or_else}
use Rattle.protocol.specs.System.Configuration.{Configuration, is_correct}
use Rattle.wire_format.specs.Words.{frame_of}
use Rattle.wire_format.specs.Messages.{FrameData as Frame}
use Rattle.std.specs.Option.{option_map_or}
use Rattle.protocol.specs.System.Trace.{Entry, is_output, Has}
use Rattle.protocol.specs.System.Trace.Entry.{Invoke, Got, Tick, Sent}
use Rattle.protocol.specs.System.Schedule.{Step, Made, World, StepsLead, NoOutputIsNext, new_world, made_by, meant_for, is_delivered, next_receiver, next_pair, pending, Feeds}
use Rattle.protocol.specs.System.Schedule.Step.{calls, deliver, feed, seal, sign, ticks, flush}
use Rattle.protocol.specs.System.Schedule.StepsLead.{ends, gives, called, delivers, gets, ticked, seals, signs, flushes, flushed}
use Rattle.evidence.specs.RefusedRuns.{calls_for, invokes_for, FeedsEachCall, ticks_for, is_tick_of, FeedsEachTick, PartyGetsFrame, FlushDeliversAll, FlushDeliversSent}
use Rattle.protocol.proofs.Words.Options.{some_injective}
use Rattle.protocol.proofs.Words.Elements.{some_of_has, each_has}
use Rattle.protocol.proofs.Words.Scheduling.{past_of}
use Rattle.wire_format.specs.Lists.{Each}

-- ---- no more calls and ticks than the steps have

-- a test of steps and one of entries that agree, and that no delivery passes
record Agree (on_steps : Step → Bool) (on_entries : Entry → Bool) : Type 0 where
  outputs : (e : Entry) → is_output e ≡ true → on_entries e ≡ false
  calls_agree : (client timestamp : ℕ) (op : Operation) → on_entries (Invoke client timestamp op) ≡ on_steps (calls client op)
  ticks_agree : (party : ℕ) → on_entries (Tick party) ≡ on_steps (ticks party)
  gots : (party : ℕ) (bytes : List ℕ) → on_entries (Got party bytes) ≡ false
  delivers_not : (frame party : ℕ) → on_steps (deliver frame party) ≡ false
  feeds_not : (party : ℕ) (text : List ℕ) → on_steps (feed party text) ≡ false
  seals_not : (sender : ℕ) (receivers body : List ℕ) → on_steps (seal sender receivers body) ≡ false
  signs_not : (replica leaf : ℕ) (receivers body : List ℕ) → on_steps (sign replica leaf receivers body) ≡ false
  flush_not : on_steps flush ≡ false

count_more : {A : Type 0} (test : A → Bool) (x : A) (xs : List A) → length (filter test (x ∷ xs)) ≡ cond (test x) 1 0 + length (filter test xs)
count_more test x xs = go (test x)
  where
    go : (b : Bool) → length (cond b (x ∷ filter test xs) (filter test xs)) ≡ cond b 1 0 + length (filter test xs)
    go true = omega arith
    go false = omega arith

count_same : {A : Type 0} (test : A → Bool) (x : A) (xs : List A) → test x ≡ false → length (filter test (x ∷ xs)) ≡ length (filter test xs)
count_same test x xs fails = rw fails refl

counted : (c : Configuration) (s : Step → Bool) (t : Entry → Bool) → Agree s t → (w v : World) (steps : List Step) (entries : List Entry) → StepsLead c w steps entries v
    → length (filter t v.past) ≡ length (filter s steps) + length (filter t w.past)
counted c s t a w v _ _ ends = omega arith
counted c s t a w v _ _ (gives {steps = steps} {e = e} o g) =
    (counted c s t a _ _ _ _ g) ∙ ap (λ (n : ℕ). length (filter s steps) + n) (count_same t e w.past (a.outputs e o))
counted c s t a w v _ _ (called {steps = steps} {client = client} {timestamp = timestamp} {op = op} allowed g) =
    let below = counted c s t a _ _ _ _ g in
    let here = count_more t (Invoke client timestamp op) w.past in
    let there = count_more s (calls client op) steps in
    let same = ap (λ (b : Bool). cond {A = ℕ} b 1 0) (a.calls_agree client timestamp op) in
    omega arith
counted c s t a w v _ _ (delivers {steps = steps} {frame = frame} {party = party} {made = made} allowed is g) =
    let below = counted c s t a _ _ _ _ g in
    let here = count_same t (Got party made.bytes) w.past (a.gots party made.bytes) in
    let there = count_same s (deliver frame party) steps (a.delivers_not frame party) in
    omega arith
counted c s t a w v _ _ (gets {steps = steps} {party = party} {text = text} allowed g) =
    let below = counted c s t a _ _ _ _ g in
    let here = count_same t (Got party text) w.past (a.gots party text) in
    let there = count_same s (feed party text) steps (a.feeds_not party text) in
    omega arith
counted c s t a w v _ _ (ticked {steps = steps} {party = party} allowed g) =
    let below = counted c s t a _ _ _ _ g in
    let here = count_more t (Tick party) w.past in
    let there = count_more s (ticks party) steps in
    let same = ap (λ (b : Bool). cond {A = ℕ} b 1 0) (a.ticks_agree party) in
    omega arith
counted c s t a w v _ _ (seals {steps = steps} {sender = sender} {receivers = receivers} {body = body} allowed i g) =
    let below = counted c s t a _ _ _ _ g in
    let there = count_same s (seal sender receivers body) steps (a.seals_not sender receivers body) in
    omega arith
counted c s t a w v _ _ (signs {steps = steps} {replica = replica} {leaf = leaf} {receivers = receivers} {body = body} allowed i g) =
    let below = counted c s t a _ _ _ _ g in
    let there = count_same s (sign replica leaf receivers body) steps (a.signs_not replica leaf receivers body) in
    omega arith
counted c s t a w v _ _ (flushes {steps = steps} {frame = frame} {party = party} p g) =
    let below = counted c s t a _ _ _ _ g in
    let there = count_same s (deliver frame party) (flush ∷ steps) (a.delivers_not frame party) in
    omega arith
counted c s t a w v _ _ (flushed {steps = steps} i p g) =
    let below = counted c s t a _ _ _ _ g in
    let there = count_same s flush steps a.flush_not in
    omega arith

counted_feeds : (c : Configuration) (s : Step → Bool) (t : Entry → Bool) → Agree s t → (steps : List Step) (trace : List Entry) → Feeds c steps trace → length (filter t trace) ≡ length (filter s steps)
counted_feeds c s t a steps trace feeds =
    let n = counted c s t a new_world feeds.0 steps (reverse trace) feeds.1 in
    let past = ap (λ (xs : List Entry). length (filter t xs)) (past_of c feeds.0 steps trace feeds.1) in
    omega arith

pub feeds_each_call : FeedsEachCall
feeds_each_call c steps k trace feeds = counted_feeds c (calls_for k) (invokes_for k)
    (record {
      outputs = outputs;
      calls_agree = λ client timestamp op. refl;
      ticks_agree = λ party. refl;
      gots = λ party bytes. refl;
      delivers_not = λ frame party. refl;
      feeds_not = λ party text. refl;
      seals_not = λ sender receivers body. refl;
      signs_not = λ replica leaf receivers body. refl;
      flush_not = refl;
    })
    steps trace feeds
  where
    outputs : (e : Entry) → is_output e ≡ true → invokes_for k e ≡ false
    outputs (Invoke x y z) h = absurd cc
    outputs _ h = refl

pub feeds_each_tick : FeedsEachTick
feeds_each_tick c steps p trace feeds = counted_feeds c (ticks_for p) (is_tick_of p)
    (record {
      outputs = outputs;
      calls_agree = λ client timestamp op. refl;
      ticks_agree = λ party. refl;
      gots = λ party bytes. refl;
      delivers_not = λ frame party. refl;
      feeds_not = λ party text. refl;
      seals_not = λ sender receivers body. refl;
      signs_not = λ replica leaf receivers body. refl;
      flush_not = refl;
    })
    steps trace feeds
  where
    outputs : (e : Entry) → is_output e ≡ true → is_tick_of p e ≡ false
    outputs (Tick x) h = absurd cc
    outputs _ h = refl

-- ---- what a flush leaves

-- each delivery is of a frame that a party made, and the receiver gets the frame
abbrev IsDone : List Made → List Entry → ℕ × ℕ → Type 0
IsDone frames past x = (made : Made) × (slice_get frames x.0 ≡ Some made) × Has (PartyGetsFrame x.1 made.bytes) past

pub get_left : (xs ys : List Made) (i : ℕ) (x : Made) → slice_get xs i ≡ Some x → slice_get (xs ++ ys) i ≡ Some x
get_left [] ys i x h = absurd cc
get_left (y ∷ xs) ys zero x h = h
get_left (y ∷ xs) ys (suc i) x h = get_left xs ys i x h

done_later : (frames more : List Made) (past : List Entry) (e : Entry) (xs : List (ℕ × ℕ)) → Each (IsDone frames past) xs → Each (IsDone (frames ++ more) (e ∷ past)) xs
done_later frames more past e [] h = tt
done_later frames more past e (x ∷ xs) h = ((h.0.0, get_left frames more x.0 h.0.0 h.0.1, inr h.0.2), done_later frames more past e xs h.1)

done_more : (frames more : List Made) (past : List Entry) (xs : List (ℕ × ℕ)) → Each (IsDone frames past) xs → Each (IsDone (frames ++ more) past) xs
done_more frames more past [] h = tt
done_more frames more past (x ∷ xs) h = ((h.0.0, get_left frames more x.0 h.0.0 h.0.1, h.0.2), done_more frames more past xs h.1)

all_done : (c : Configuration) (w v : World) (steps : List Step) (entries : List Entry) → StepsLead c w steps entries v → Each (IsDone w.frames w.past) w.delivered → Each (IsDone v.frames v.past) v.delivered
all_done c w v _ _ ends h = h
all_done c w v _ _ (gives {e = e} o g) h = all_done c _ _ _ _ g (done_later w.frames (made_by c e) w.past e w.delivered h)
all_done c w v _ _ (called {client = client} {timestamp = timestamp} {op = op} a g) h = all_done c _ _ _ _ g (done_later w.frames [] w.past (Invoke client timestamp op) w.delivered h)
all_done c w v _ _ (delivers {frame = frame} {party = party} {made = made} a s g) h =
    all_done c _ _ _ _ g ((made, get_left w.frames [] frame made s, inl (refl, refl)), done_later w.frames [] w.past (Got party made.bytes) w.delivered h)
all_done c w v _ _ (gets {party = party} {text = text} a g) h = all_done c _ _ _ _ g (done_later w.frames [] w.past (Got party text) w.delivered h)
all_done c w v _ _ (ticked {party = party} a g) h = all_done c _ _ _ _ g (done_later w.frames [] w.past (Tick party) w.delivered h)
all_done c w v _ _ (seals a i g) h = all_done c _ _ _ _ g (done_more w.frames _ w.past w.delivered h)
all_done c w v _ _ (signs a i g) h = all_done c _ _ _ _ g (done_more w.frames _ w.past w.delivered h)
all_done c w v _ _ (flushes p g) h = all_done c _ _ _ _ g h
all_done c w v _ _ (flushed i p g) h = all_done c _ _ _ _ g h

-- after a last flush, no frame is left to deliver
no_more : (c : Configuration) (w v : World) (steps : List Step) (entries : List Entry) → StepsLead c w steps entries v → steps ≡ [] → NoOutputIsNext entries → pending c w ≡ None → pending c v ≡ None
no_more c w v _ _ ends is i h = h
no_more c w v _ _ (gives o g) is i h = let bad : false ≡ true = sym i ∙ o in absurd cc
no_more c w v _ _ (called a g) is i h = absurd cc
no_more c w v _ _ (delivers a s g) is i h = absurd cc
no_more c w v _ _ (gets a g) is i h = absurd cc
no_more c w v _ _ (ticked a g) is i h = absurd cc
no_more c w v _ _ (seals a j g) is i h = absurd cc
no_more c w v _ _ (signs a j g) is i h = absurd cc
no_more c w v _ _ (flushes p g) is i h = absurd cc
no_more c w v _ _ (flushed j p g) is i h = absurd cc

-- the last step is a flush
abbrev Flushes : List Step → Type 0
Flushes steps = (before : List Step) × (steps ≡ before ++ flush ∷ [])

rest_flushes : (step : Step) (steps : List Step) → (step ≡ flush → ⊥) → Flushes (step ∷ steps) → Flushes steps
rest_flushes step steps other h = go h.0 h.1
  where
    go : (before : List Step) → step ∷ steps ≡ before ++ flush ∷ [] → Flushes steps
    go [] e = absurd (other (let same : step ≡ flush = cc in same))
    go (x ∷ before) e = (before, let same : steps ≡ before ++ flush ∷ [] = cc in same)

nothing_left : (c : Configuration) (w v : World) (steps : List Step) (entries : List Entry) → StepsLead c w steps entries v → Flushes steps → pending c v ≡ None
nothing_left c w v _ _ ends h = none h.0 h.1
  where
    none : (before : List Step) → [] ≡ before ++ flush ∷ [] → pending c v ≡ None
    none [] e = absurd cc
    none (x ∷ before) e = absurd cc
nothing_left c w v _ _ (gives o g) h = nothing_left c _ _ _ _ g h
nothing_left c w v _ _ (called a g) h = nothing_left c _ _ _ _ g (rest_flushes _ _ (λ e. cc) h)
nothing_left c w v _ _ (delivers a s g) h = nothing_left c _ _ _ _ g (rest_flushes _ _ (λ e. cc) h)
nothing_left c w v _ _ (gets a g) h = nothing_left c _ _ _ _ g (rest_flushes _ _ (λ e. cc) h)
nothing_left c w v _ _ (ticked a g) h = nothing_left c _ _ _ _ g (rest_flushes _ _ (λ e. cc) h)
nothing_left c w v _ _ (seals a i g) h = nothing_left c _ _ _ _ g (rest_flushes _ _ (λ e. cc) h)
nothing_left c w v _ _ (signs a i g) h = nothing_left c _ _ _ _ g (rest_flushes _ _ (λ e. cc) h)
nothing_left c w v _ _ (flushes {frame = frame} {party = party} p g) h = nothing_left c _ _ _ _ g (deliver frame party ∷ h.0, ap (λ (xs : List Step). deliver frame party ∷ xs) h.1)
nothing_left c w v _ _ (flushed {steps = steps} i p g) h = go h.0 h.1 (nothing_left c _ _ _ _ g)
  where
    go : (before : List Step) → flush ∷ steps ≡ before ++ flush ∷ [] → (Flushes steps → pending c v ≡ None) → pending c v ≡ None
    go [] e below = no_more c w v steps _ g (let same : steps ≡ [] = cc in same) i p
    go (x ∷ before) e below = below (before, let same : steps ≡ before ++ flush ∷ [] = cc in same)

-- then each frame was delivered to each of its correct receivers
receiver_done : (c : Configuration) (delivered : List (ℕ × ℕ)) (frame q : ℕ) (receivers : List ℕ) → next_receiver c delivered frame receivers ≡ None → Has (λ r. r ≡ q) receivers → is_correct c q ≡ true → is_delivered delivered frame q ≡ true
receiver_done c delivered frame q [] none h correct = absurd h
receiver_done c delivered frame q (r ∷ receivers) none h correct = go (is_correct c r) refl (is_delivered delivered frame r) refl none h (receiver_done c delivered frame q receivers)
  where
    go : (a : Bool) → is_correct c r ≡ a → (b : Bool) → is_delivered delivered frame r ≡ b → cond (a && not b) (Some (frame, r)) (next_receiver c delivered frame receivers) ≡ None
        → (r ≡ q) ⊎ Has (λ x. x ≡ q) receivers → (next_receiver c delivered frame receivers ≡ None → Has (λ x. x ≡ q) receivers → is_correct c q ≡ true → is_delivered delivered frame q ≡ true)
        → is_delivered delivered frame q ≡ true
    go true ea false eb k h below = absurd cc
    go true ea true eb k (inl h) below = subst (λ (x : ℕ). is_delivered delivered frame x ≡ true) h eb
    go true ea true eb k (inr h) below = below k h correct
    go false ea b eb k (inl h) below = let bad : false ≡ true = sym ea ∙ ap (is_correct c) h ∙ correct in absurd cc
    go false ea b eb k (inr h) below = below k h correct

frame_done : (c : Configuration) (delivered : List (ℕ × ℕ)) (first : ℕ) (frames : List Made) (k : ℕ) (made : Made) → next_pair c delivered first frames ≡ None → slice_get frames k ≡ Some made
    → next_receiver c delivered (first + k) made.receivers ≡ None
frame_done c delivered first [] k made none h = absurd cc
frame_done c delivered first (x ∷ frames) zero made none h =
    let same : x ≡ made = cc in
    let here : first ≡ first + 0 = omega arith in
    subst (λ (n : ℕ). next_receiver c delivered n made.receivers ≡ None) here (subst (λ (y : Made). next_receiver c delivered first y.receivers ≡ None) same (first_none (next_receiver c delivered first x.receivers) none))
  where
    first_none : (o : Option (ℕ × ℕ)) → or_else o (next_pair c delivered (suc first) frames) ≡ None → o ≡ None
    first_none None e = refl
    first_none (Some y) e = absurd cc
frame_done c delivered first (x ∷ frames) (suc k) made none h =
    let there : suc first + k ≡ first + suc k = omega arith in
    subst (λ (n : ℕ). next_receiver c delivered n made.receivers ≡ None) there (frame_done c delivered (suc first) frames k made (rest_none (next_receiver c delivered first x.receivers) none) h)
  where
    rest_none : (o : Option (ℕ × ℕ)) → or_else o (next_pair c delivered (suc first) frames) ≡ None → next_pair c delivered (suc first) frames ≡ None
    rest_none None e = e
    rest_none (Some y) e = absurd cc

pub flush_delivers_all : FlushDeliversAll
flush_delivers_all c steps i q made trace feeds is has correct =
    let v = feeds.0 in
    let none : pending c v ≡ None = nothing_left c new_world v (steps ++ flush ∷ []) (reverse trace) feeds.1 (steps, refl) in
    let first : 0 + i ≡ i = omega arith in
    let left : next_receiver c v.delivered i made.receivers ≡ None = subst (λ (n : ℕ). next_receiver c v.delivered n made.receivers ≡ None) first (frame_done c v.delivered 0 v.frames i made none is) in
    let was : is_delivered v.delivered i q ≡ true = receiver_done c v.delivered i q made.receivers left has correct in
    let at = some_of_has (λ (x : ℕ × ℕ). (x.0 == i) && (x.1 == q)) v.delivered was in
    let p = and_parts (at.0.0 == i) (at.0.1 == q) at.2 in
    let done : IsDone v.frames v.past at.0 = each_has (IsDone v.frames v.past) v.delivered at.0 (all_done c new_world v (steps ++ flush ∷ []) (reverse trace) feeds.1 tt) at.1 in
    let frame : slice_get v.frames i ≡ Some done.0 = subst (λ (n : ℕ). slice_get v.frames n ≡ Some done.0) (eqb-true at.0.0 i p.0) done.1 in
    let same : done.0 ≡ made = some_injective done.0 made (sym frame ∙ is) in
    let got : Has (PartyGetsFrame q done.0.bytes) v.past = subst (λ (n : ℕ). Has (PartyGetsFrame n done.0.bytes) v.past) (eqb-true at.0.1 q p.1) done.2 in
    subst (λ (xs : List Entry). Has (PartyGetsFrame q made.bytes) xs) (past_of c v (steps ++ flush ∷ []) trace feeds.1) (subst (λ (m : Made). Has (PartyGetsFrame q m.bytes) v.past) same got)

-- ---- a frame that was sent is one that was made

abbrev made_of : Configuration → ℕ → List ℕ → Made
made_of c sender bytes = record { bytes = bytes; receivers = option_map_or (λ (frame : Frame). meant_for c sender frame.authenticator) (frame_of bytes) [] }

abbrev IsMade : Made → List Made → Type 0
IsMade made frames = (i : ℕ) × (slice_get frames i ≡ Some made)

is_last : (frames : List Made) (made : Made) → slice_get (frames ++ made ∷ []) (length frames) ≡ Some made
is_last [] made = refl
is_last (x ∷ frames) made = is_last frames made

module _ (c : Configuration) (sender : ℕ) (bytes : List ℕ) where
  made_here : (frames : List Made) (past : List Entry) (e : Entry) → (Has (λ x. x ≡ Sent sender bytes) past → IsMade (made_of c sender bytes) frames)
      → Has (λ x. x ≡ Sent sender bytes) (e ∷ past) → IsMade (made_of c sender bytes) (frames ++ made_by c e)
  made_here frames past e before (inl is) = subst (λ (x : Entry). IsMade (made_of c sender bytes) (frames ++ made_by c x)) (sym is) (length frames, is_last frames (made_of c sender bytes))
  made_here frames past e before (inr h) = let i = before h in (i.0, get_left frames (made_by c e) i.0 (made_of c sender bytes) i.1)

  made_before : (frames more : List Made) → IsMade (made_of c sender bytes) frames → IsMade (made_of c sender bytes) (frames ++ more)
  made_before frames more i = (i.0, get_left frames more i.0 (made_of c sender bytes) i.1)

  sent_is_made : (w v : World) (steps : List Step) (entries : List Entry) → StepsLead c w steps entries v → (Has (λ x. x ≡ Sent sender bytes) w.past → IsMade (made_of c sender bytes) w.frames)
      → Has (λ x. x ≡ Sent sender bytes) v.past → IsMade (made_of c sender bytes) v.frames
  sent_is_made w v _ _ ends h = h
  sent_is_made w v _ _ (gives {e = e} o g) h = sent_is_made _ _ _ _ g (made_here w.frames w.past e h)
  sent_is_made w v _ _ (called {client = client} {timestamp = timestamp} {op = op} a g) h = sent_is_made _ _ _ _ g (made_here w.frames w.past (Invoke client timestamp op) h)
  sent_is_made w v _ _ (delivers {party = party} {made = made} a s g) h = sent_is_made _ _ _ _ g (made_here w.frames w.past (Got party made.bytes) h)
  sent_is_made w v _ _ (gets {party = party} {text = text} a g) h = sent_is_made _ _ _ _ g (made_here w.frames w.past (Got party text) h)
  sent_is_made w v _ _ (ticked {party = party} a g) h = sent_is_made _ _ _ _ g (made_here w.frames w.past (Tick party) h)
  sent_is_made w v _ _ (seals a i g) h = sent_is_made _ _ _ _ g (λ k. made_before w.frames _ (h k))
  sent_is_made w v _ _ (signs a i g) h = sent_is_made _ _ _ _ g (λ k. made_before w.frames _ (h k))
  sent_is_made w v _ _ (flushes p g) h = sent_is_made _ _ _ _ g h
  sent_is_made w v _ _ (flushed i p g) h = sent_is_made _ _ _ _ g h

pub flush_delivers_sent : FlushDeliversSent
flush_delivers_sent c steps sender q bytes frame trace feeds sent is for correct =
    let v = feeds.0 in
    let there : Has (λ (e : Entry). e ≡ Sent sender bytes) v.past = subst (λ (xs : List Entry). Has (λ (e : Entry). e ≡ Sent sender bytes) xs) (sym (past_of c v (steps ++ flush ∷ []) trace feeds.1)) sent in
    let at = sent_is_made c sender bytes new_world v (steps ++ flush ∷ []) (reverse trace) feeds.1 (λ h. absurd h) there in
    let receivers : meant_for c sender frame.authenticator ≡ (made_of c sender bytes).receivers = ap (λ (o : Option Frame). option_map_or (λ (f : Frame). meant_for c sender f.authenticator) o []) (sym is) in
    flush_delivers_all c steps at.0 q (made_of c sender bytes) trace feeds at.1 (subst (λ (rs : List ℕ). Has (λ r. r ≡ q) rs) receivers for) correct
