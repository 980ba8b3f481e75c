-- A flush delivers all: a frame that is sent since some world is made since, and at the end of a flush none is left.
use Rattle.std.proofs.Common.{◌≡◌, ℕ, zero, suc, ◌+◌, ◌≤◌, ◌<◌, ◌⊎◌, inl, inr, Bool, true, false, not, cond, List, [], ◌∷◌, ◌++◌, length, slice_get, refl, sym, ap, ◌∙◌, subst, arith, ◌&&◌, Option, Some, None, reverse, append_assoc, eqb-true}
use Rattle.std.specs.Prelude.{◌==◌}
use Rattle.std.proofs.lemmas.Bool.{and_parts}
use Rattle.std.proofs.lemmas.Grind.{reverse_onto}
use Rattle.std.proofs.lemmas.List.{length-append}
use Rattle.quorum.specs.Votes.{or_else}
use Rattle.protocol.specs.System.Configuration.{Configuration, is_correct}
use Rattle.protocol.specs.System.Trace.{Entry, Has}
use Rattle.protocol.specs.System.Trace.Entry.{Invoke, Got, Tick, Sent}
use Rattle.protocol.specs.System.Schedule.{Step, Made, World, StepsLead, NoOutputIsNext, new_world, made_by, with_entry, with_frame, is_delivered, next_receiver, next_pair, pending, sealed_bytes, signed_bytes}
use Rattle.protocol.specs.System.Schedule.Step.{calls, deliver, feed, seal, sign, ticks, flush}
use Rattle.protocol.specs.System.Schedule.StepsLead.{ends, gives, called, delivers, gets, ticked, seals, signs, flushes, flushed}
use Rattle.protocol.proofs.Words.Options.{some_injective}
use Rattle.protocol.proofs.Words.Elements.{some_of_has, has_reverse, has_reversed}
use Rattle.evidence.proofs.RefusingRunsSchedules.{get_left}
use Rattle.progress.specs.Delivery.{HasEntry, meant, AllDelivered}
use Rattle.progress.specs.Flushed.{WorldIsReached, EndsInFlush, FlushesDeliverAll}

-- ---- the trace grows by the entries

grown : (w v : World) (entries : List Entry) (e : Entry) → v.past ≡ reverse entries ++ e ∷ w.past → v.past ≡ reverse (e ∷ entries) ++ w.past
grown w v entries e is = is ∙ sym (append_assoc (reverse entries) (e ∷ []) w.past) ∙ ap (λ (xs : List Entry). xs ++ w.past) (sym (reverse_onto entries e []))

pub past_grows : (c : Configuration) (w v : World) (steps : List Step) (entries : List Entry) → StepsLead c w steps entries v → v.past ≡ reverse entries ++ w.past
past_grows c w v _ _ ends = refl
past_grows c w v _ _ (gives {entries = entries} {e = e} o g) = grown w v entries e (past_grows c _ v _ _ g)
past_grows c w v _ _ (called {entries = entries} {client = k} {timestamp = t} {op = op} a g) = grown w v entries (Invoke k t op) (past_grows c _ v _ _ g)
past_grows c w v _ _ (delivers {entries = entries} {party = p} {made = made} a s g) = grown w v entries (Got p made.bytes) (past_grows c _ v _ _ g)
past_grows c w v _ _ (gets {entries = entries} {party = p} {text = text} a g) = grown w v entries (Got p text) (past_grows c _ v _ _ g)
past_grows c w v _ _ (ticked {entries = entries} {party = p} a g) = grown w v entries (Tick p) (past_grows c _ v _ _ g)
past_grows c w v _ _ (seals a j g) = past_grows c _ v _ _ g
past_grows c w v _ _ (signs a j g) = past_grows c _ v _ _ g
past_grows c w v _ _ (flushes p g) = past_grows c _ v _ _ g
past_grows c w v _ _ (flushed j p g) = past_grows c _ v _ _ g

-- ---- frames stay, and those that are sent are among them

get_last : (xs : List Made) (x : Made) → slice_get (xs ++ x ∷ []) (length xs) ≡ Some x
get_last [] x = refl
get_last (y ∷ xs) x = get_last xs x

-- a world keeps the frames and deliveries of an earlier one
pub record Grows (w v : World) : Type 0 where
  pub frames : (i : ℕ) (made : Made) → slice_get w.frames i ≡ Some made → slice_get v.frames i ≡ Some made
  pub many : length w.frames ≤ length v.frames

grows_on : (w u v : World) → Grows w u → Grows u v → Grows w v
grows_on w u v a b = let l = a.many in let m = b.many in record { frames = λ i made h. b.frames i made (a.frames i made h); many = omega arith }

pub grows_by : (w u : World) (more : List Made) → u.frames ≡ w.frames ++ more → Grows w u
grows_by w u more is = record {
  frames = λ i made h. subst (λ (xs : List Made). slice_get xs i ≡ Some made) (sym is) (get_left w.frames more i made h);
  many = let n = length-append w.frames more in let m : length u.frames ≡ length (w.frames ++ more) = ap length is in omega arith;
}

frames_grow : (c : Configuration) (w v : World) (steps : List Step) (entries : List Entry) → StepsLead c w steps entries v → Grows w v
frames_grow c w v _ _ ends = record { frames = λ i made h. h; many = omega arith }
frames_grow c w v _ _ (gives {e = e} o g) = grows_on w (with_entry c w e) v (grows_by w (with_entry c w e) (made_by c e) refl) (frames_grow c _ v _ _ g)
frames_grow c w v _ _ (called {client = k} {timestamp = t} {op = op} a g) = grows_on w (with_entry c w (Invoke k t op)) v (grows_by w (with_entry c w (Invoke k t op)) [] refl) (frames_grow c _ v _ _ g)
frames_grow c w v _ _ (delivers {frame = i} {party = p} {made = made} a s g) =
    let u : World = record (with_entry c w (Got p made.bytes)) { delivered = (i, p) ∷ w.delivered } in
    grows_on w u v (grows_by w u [] refl) (frames_grow c _ v _ _ g)
frames_grow c w v _ _ (gets {party = p} {text = text} a g) = grows_on w (with_entry c w (Got p text)) v (grows_by w (with_entry c w (Got p text)) [] refl) (frames_grow c _ v _ _ g)
frames_grow c w v _ _ (ticked {party = p} a g) = grows_on w (with_entry c w (Tick p)) v (grows_by w (with_entry c w (Tick p)) [] refl) (frames_grow c _ v _ _ g)
frames_grow c w v _ _ (seals {sender = s} {receivers = rs} {body = b} a j g) =
    let u : World = with_frame w (sealed_bytes c s rs b) rs in
    grows_on w u v (grows_by w u (record { bytes = sealed_bytes c s rs b; receivers = rs } ∷ []) refl) (frames_grow c _ v _ _ g)
frames_grow c w v _ _ (signs {replica = r} {leaf = l} {receivers = rs} {body = b} a j g) =
    let u : World = with_frame w (signed_bytes c r l b) rs in
    grows_on w u v (grows_by w u (record { bytes = signed_bytes c r l b; receivers = rs } ∷ []) refl) (frames_grow c _ v _ _ g)
frames_grow c w v _ _ (flushes p g) = frames_grow c _ v _ _ g
frames_grow c w v _ _ (flushed j p g) = frames_grow c _ v _ _ g

-- the frame that a party sends
abbrev pub frame_sent : Configuration → ℕ → List ℕ → Made
frame_sent c p bytes = record { bytes = bytes; receivers = meant c p bytes }

-- a frame that is sent since a world is made since
pub record MadeSince (c : Configuration) (w v : World) (p : ℕ) (bytes : List ℕ) : Type 0 where
  pub index : ℕ
  pub since : length w.frames ≤ index
  pub is : slice_get v.frames index ≡ Some (frame_sent c p bytes)

earlier : (c : Configuration) (w u v : World) (p : ℕ) (bytes : List ℕ) → Grows w u → MadeSince c u v p bytes → MadeSince c w v p bytes
earlier c w u v p bytes grows m = let a = grows.many in let b = m.since in record { index = m.index; since = omega arith; is = m.is }

pub made_since : (c : Configuration) (w v : World) (steps : List Step) (entries : List Entry) (p : ℕ) (bytes : List ℕ) → StepsLead c w steps entries v → HasEntry (Sent p bytes) entries → MadeSince c w v p bytes
made_since c w v _ _ p bytes ends h = absurd h
made_since c w v _ _ p bytes (gives {e = e} o g) (inl is) = record { index = length w.frames; since = omega arith; is = (frames_grow c _ v _ _ g).frames (length w.frames) (frame_sent c p bytes) there }
  where
    there : slice_get (w.frames ++ made_by c e) (length w.frames) ≡ Some (frame_sent c p bytes)
    there = subst (λ (x : Entry). slice_get (w.frames ++ made_by c x) (length w.frames) ≡ Some (frame_sent c p bytes)) (sym is) (get_last w.frames (frame_sent c p bytes))
made_since c w v _ _ p bytes (gives {e = e} o g) (inr h) = earlier c w (with_entry c w e) v p bytes (grows_by w (with_entry c w e) (made_by c e) refl) (made_since c _ v _ _ p bytes g h)
made_since c w v _ _ p bytes (called {client = k} {timestamp = t} {op = op} a g) (inr h) =
    earlier c w (with_entry c w (Invoke k t op)) v p bytes (grows_by w (with_entry c w (Invoke k t op)) [] refl) (made_since c _ v _ _ p bytes g h)
made_since c w v _ _ p bytes (delivers {frame = i} {party = q} {made = made} a s g) (inr h) =
    let u : World = record (with_entry c w (Got q made.bytes)) { delivered = (i, q) ∷ w.delivered } in
    earlier c w u v p bytes (grows_by w u [] refl) (made_since c _ v _ _ p bytes g h)
made_since c w v _ _ p bytes (gets {party = q} {text = text} a g) (inr h) = earlier c w (with_entry c w (Got q text)) v p bytes (grows_by w (with_entry c w (Got q text)) [] refl) (made_since c _ v _ _ p bytes g h)
made_since c w v _ _ p bytes (ticked {party = q} a g) (inr h) = earlier c w (with_entry c w (Tick q)) v p bytes (grows_by w (with_entry c w (Tick q)) [] refl) (made_since c _ v _ _ p bytes g h)
made_since c w v _ _ p bytes (seals {sender = s} {receivers = rs} {body = b} a j g) h =
    let u : World = with_frame w (sealed_bytes c s rs b) rs in
    earlier c w u v p bytes (grows_by w u (record { bytes = sealed_bytes c s rs b; receivers = rs } ∷ []) refl) (made_since c _ v _ _ p bytes g h)
made_since c w v _ _ p bytes (signs {replica = r} {leaf = l} {receivers = rs} {body = b} a j g) h =
    let u : World = with_frame w (signed_bytes c r l b) rs in
    earlier c w u v p bytes (grows_by w u (record { bytes = signed_bytes c r l b; receivers = rs } ∷ []) refl) (made_since c _ v _ _ p bytes g h)
made_since c w v _ _ p bytes (flushes x g) h = made_since c _ v _ _ p bytes g h
made_since c w v _ _ p bytes (flushed j x g) h = made_since c _ v _ _ p bytes g h
made_since c w v _ _ p bytes _ (inl is) = absurd cc

-- ---- frames that are delivered were made, and are received

abbrev AreMade : World → Type 0
AreMade w = (i q : ℕ) → Has (λ x. x ≡ (i, q)) w.delivered → i < length w.frames

-- a frame that is delivered since a world is received since
abbrev GotSince : World → World → List Entry → Type 0
GotSince w v entries = (i q : ℕ) (made : Made) → Has (λ x. x ≡ (i, q)) v.delivered → slice_get v.frames i ≡ Some made
    → Has (λ x. x ≡ (i, q)) w.delivered ⊎ HasEntry (Got q made.bytes) entries

got_more : (w u v : World) (e : Entry) (entries : List Entry) → u.delivered ≡ w.delivered → GotSince u v entries → GotSince w v (e ∷ entries)
got_more w u v e entries same h i q made d is = go (h i q made d is)
  where
    go : Has (λ x. x ≡ (i, q)) u.delivered ⊎ HasEntry (Got q made.bytes) entries → Has (λ x. x ≡ (i, q)) w.delivered ⊎ HasEntry (Got q made.bytes) (e ∷ entries)
    go (inl k) = inl (subst (λ (xs : List (ℕ × ℕ)). Has (λ x. x ≡ (i, q)) xs) same k)
    go (inr k) = inr (inr k)

got_since : (c : Configuration) (w v : World) (steps : List Step) (entries : List Entry) → StepsLead c w steps entries v → GotSince w v entries
got_since c w v _ _ ends i q made d is = inl d
got_since c w v _ _ (gives {entries = entries} {e = e} o g) i q made d is = got_more w (with_entry c w e) v e entries refl (got_since c _ v _ _ g) i q made d is
got_since c w v _ _ (called {entries = entries} {client = k} {timestamp = t} {op = op} a g) i q made d is = got_more w (with_entry c w (Invoke k t op)) v (Invoke k t op) entries refl (got_since c _ v _ _ g) i q made d is
got_since c w v _ _ (delivers {entries = entries} {frame = n} {party = p} {made = m} a s g) i q made d is = go (got_since c _ v _ _ g i q made d is)
  where
    go : Has (λ x. x ≡ (i, q)) ((n, p) ∷ w.delivered) ⊎ HasEntry (Got q made.bytes) entries → Has (λ x. x ≡ (i, q)) w.delivered ⊎ HasEntry (Got q made.bytes) (Got p m.bytes ∷ entries)
    go (inl (inl same)) =
        let number : n ≡ i = ap (λ (x : ℕ × ℕ). x.0) same in
        let there : slice_get v.frames i ≡ Some m = subst (λ (j : ℕ). slice_get v.frames j ≡ Some m) number ((frames_grow c _ v _ _ g).frames n m (get_left w.frames [] n m s)) in
        inr (inl (rw ((ap (λ (x : ℕ × ℕ). x.1) same), (some_injective m made (sym there ∙ is))) refl))
    go (inl (inr k)) = inl k
    go (inr k) = inr (inr k)
got_since c w v _ _ (gets {entries = entries} {party = p} {text = text} a g) i q made d is = got_more w (with_entry c w (Got p text)) v (Got p text) entries refl (got_since c _ v _ _ g) i q made d is
got_since c w v _ _ (ticked {entries = entries} {party = p} a g) i q made d is = got_more w (with_entry c w (Tick p)) v (Tick p) entries refl (got_since c _ v _ _ g) i q made d is
got_since c w v _ _ (seals a j g) i q made d is = got_since c _ v _ _ g i q made d is
got_since c w v _ _ (signs a j g) i q made d is = got_since c _ v _ _ g i q made d is
got_since c w v _ _ (flushes p g) i q made d is = got_since c _ v _ _ g i q made d is
got_since c w v _ _ (flushed j p g) i q made d is = got_since c _ v _ _ g i q made d is

-- in a world that is reached only frames that were made are delivered
still_made : (w u : World) → u.delivered ≡ w.delivered → Grows w u → AreMade w → AreMade u
still_made w u same grows are i q d = let l = are i q (subst (λ (xs : List (ℕ × ℕ)). Has (λ x. x ≡ (i, q)) xs) same d) in let m = grows.many in omega arith

made_first : (c : Configuration) (w v : World) (steps : List Step) (entries : List Entry) → StepsLead c w steps entries v → AreMade w → AreMade v
made_first c w v _ _ ends are = are
made_first c w v _ _ (gives {e = e} o g) are = made_first c _ v _ _ g (still_made w (with_entry c w e) refl (grows_by w (with_entry c w e) (made_by c e) refl) are)
made_first c w v _ _ (called {client = k} {timestamp = t} {op = op} a g) are = made_first c _ v _ _ g (still_made w (with_entry c w (Invoke k t op)) refl (grows_by w (with_entry c w (Invoke k t op)) [] refl) are)
made_first c w v _ _ (delivers {frame = n} {party = p} {made = m} a s g) are = made_first c _ v _ _ g next
  where
    u : World
    u = record (with_entry c w (Got p m.bytes)) { delivered = (n, p) ∷ w.delivered }

    more : length w.frames ≤ length (w.frames ++ [])
    more = let l = length-append w.frames [] in omega arith

    next : (i q : ℕ) → Has (λ x. x ≡ (i, q)) ((n, p) ∷ w.delivered) → i < length (w.frames ++ [])
    next i q (inl same) = let number : n ≡ i = ap (λ (x : ℕ × ℕ). x.0) same in let l = a.0 in let k = more in omega arith
    next i q (inr d) = let l = are i q d in let k = more in omega arith
made_first c w v _ _ (gets {party = p} {text = text} a g) are = made_first c _ v _ _ g (still_made w (with_entry c w (Got p text)) refl (grows_by w (with_entry c w (Got p text)) [] refl) are)
made_first c w v _ _ (ticked {party = p} a g) are = made_first c _ v _ _ g (still_made w (with_entry c w (Tick p)) refl (grows_by w (with_entry c w (Tick p)) [] refl) are)
made_first c w v _ _ (seals {sender = s} {receivers = rs} {body = b} a j g) are =
    let u : World = with_frame w (sealed_bytes c s rs b) rs in
    made_first c _ v _ _ g (still_made w u refl (grows_by w u (record { bytes = sealed_bytes c s rs b; receivers = rs } ∷ []) refl) are)
made_first c w v _ _ (signs {replica = r} {leaf = l} {receivers = rs} {body = b} a j g) are =
    let u : World = with_frame w (signed_bytes c r l b) rs in
    made_first c _ v _ _ g (still_made w u refl (grows_by w u (record { bytes = signed_bytes c r l b; receivers = rs } ∷ []) refl) are)
made_first c w v _ _ (flushes p g) are = made_first c _ v _ _ g are
made_first c w v _ _ (flushed j p g) are = made_first c _ v _ _ g are

reached_made : (c : Configuration) (w : World) → WorldIsReached c w → AreMade w
reached_made c w reached = made_first c new_world w reached.0 (reverse w.past) reached.1 (λ i q d. absurd d)

-- ---- at its end none is left

-- one that is no flush is not the last
next_step : (step : Step) (steps : List Step) → (step ≡ flush → ⊥) → EndsInFlush (step ∷ steps) → EndsInFlush steps
next_step flush [] other h = absurd (other refl)
next_step step (next ∷ steps) other h = h
next_step _ [] other h = absurd h

none_left : (c : Configuration) (w v : World) (steps : List Step) (entries : List Entry) → StepsLead c w steps entries v → EndsInFlush steps → pending c v ≡ None
none_left c w v _ _ ends h = absurd h
none_left c w v _ _ (gives o g) h = none_left c _ v _ _ g h
none_left c w v _ _ (called {steps = steps} {client = k} {op = op} a g) h = none_left c _ v _ _ g (next_step (calls k op) steps (λ e. cc) h)
none_left c w v _ _ (delivers {steps = steps} {frame = i} {party = p} a s g) h = none_left c _ v _ _ g (next_step (deliver i p) steps (λ e. cc) h)
none_left c w v _ _ (gets {steps = steps} {party = p} {text = text} a g) h = none_left c _ v _ _ g (next_step (feed p text) steps (λ e. cc) h)
none_left c w v _ _ (ticked {steps = steps} {party = p} a g) h = none_left c _ v _ _ g (next_step (ticks p) steps (λ e. cc) h)
none_left c w v _ _ (seals {steps = steps} {sender = s} {receivers = rs} {body = b} a j g) h = none_left c _ v _ _ g (next_step (seal s rs b) steps (λ e. cc) h)
none_left c w v _ _ (signs {steps = steps} {replica = r} {leaf = l} {receivers = rs} {body = b} a j g) h = none_left c _ v _ _ g (next_step (sign r l rs b) steps (λ e. cc) h)
none_left c w v _ _ (flushes p g) h = none_left c _ v _ _ g h
none_left c w v _ _ (flushed {steps = []} j p g) h = last w _ _ g refl j p
  where
    last : (w : World) (steps : List Step) (entries : List Entry) → StepsLead c w steps entries v → steps ≡ [] → NoOutputIsNext entries → pending c w ≡ None → pending c v ≡ None
    last w _ _ ends none j p = p
    last w _ _ (gives {e = e} o g) none j p = let bad : false ≡ true = sym j ∙ o in absurd cc
    last w _ _ _ none j p = absurd cc
none_left c w v _ _ (flushed {steps = step ∷ steps} j p g) h = none_left c _ v _ _ g h

-- if none is left, each frame was delivered to each of its correct receivers

module _ (c : Configuration) (d : List (ℕ × ℕ)) where
  was_delivered : (i q : ℕ) → is_delivered d i q ≡ true → Has (λ x. x ≡ (i, q)) d
  was_delivered i q h =
      let at = some_of_has (λ (x : ℕ × ℕ). (x.0 == i) && (x.1 == q)) d h in
      let p = and_parts (at.0.0 == i) (at.0.1 == q) at.2 in
      let same : at.0 ≡ (i, q) = ap (λ j. (j, at.0.1)) (eqb-true at.0.0 i p.0) ∙ ap (λ r. (i, r)) (eqb-true at.0.1 q p.1) in
      subst (λ (y : ℕ × ℕ). Has (λ x. x ≡ y) d) same at.1

  all_got : (i : ℕ) (rs : List ℕ) (q : ℕ) → next_receiver c d i rs ≡ None → Has (λ x. x ≡ q) rs → is_correct c q ≡ true → Has (λ x. x ≡ (i, q)) d
  all_got i [] q none h correct = absurd h
  all_got i (r ∷ rs) q none h correct = go (is_correct c r) refl (is_delivered d i r) refl none h (all_got i rs q)
    where
      go : (a : Bool) → is_correct c r ≡ a → (b : Bool) → is_delivered d i r ≡ b → cond (a && not b) (Some (i, r)) (next_receiver c d i rs) ≡ None → Has (λ x. x ≡ q) (r ∷ rs)
          → (next_receiver c d i rs ≡ None → Has (λ x. x ≡ q) rs → is_correct c q ≡ true → Has (λ x. x ≡ (i, q)) d) → Has (λ x. x ≡ (i, q)) d
      go true e false f none h below = absurd cc
      go true e true f none (inl is) below = subst (λ (p : ℕ). Has (λ x. x ≡ (i, p)) d) is (was_delivered i r f)
      go true e true f none (inr h) below = below none h correct
      go false e b f none (inl is) below = let bad : false ≡ true = sym e ∙ ap (is_correct c) is ∙ correct in absurd cc
      go false e b f none (inr h) below = below none h correct

  each_got : (first : ℕ) (frames : List Made) (i : ℕ) (made : Made) (q : ℕ) → next_pair c d first frames ≡ None → slice_get frames i ≡ Some made → Has (λ x. x ≡ q) made.receivers → is_correct c q ≡ true
      → Has (λ x. x ≡ (first + i, q)) d
  each_got first [] i made q none is h correct = absurd cc
  each_got first (x ∷ frames) i made q none is h correct = go (next_receiver c d first x.receivers) refl none i is (each_got (suc first) frames)
    where
      go : (o : Option (ℕ × ℕ)) → next_receiver c d first x.receivers ≡ o → or_else o (next_pair c d (suc first) frames) ≡ None → (i : ℕ) → slice_get (x ∷ frames) i ≡ Some made
          → ((j : ℕ) (m : Made) (p : ℕ) → next_pair c d (suc first) frames ≡ None → slice_get frames j ≡ Some m → Has (λ y. y ≡ p) m.receivers → is_correct c p ≡ true → Has (λ y. y ≡ (suc first + j, p)) d)
          → Has (λ y. y ≡ (first + i, q)) d
      go (Some y) e none i is below = absurd cc
      go None e none zero is below =
          let same : x ≡ made = some_injective x made is in
          let number : first ≡ first + 0 = omega arith in
          subst (λ (n : ℕ). Has (λ y. y ≡ (n, q)) d) number (all_got first x.receivers q e (subst (λ (m : Made). Has (λ y. y ≡ q) m.receivers) (sym same) h) correct)
      go None e none (suc i) is below =
          subst (λ (n : ℕ). Has (λ y. y ≡ (n, q)) d) (omega arith) (below i made q none is h correct)

-- ---- the law

pub flushes_deliver_all : FlushesDeliverAll
flushes_deliver_all c w v steps entries reached goes last = (past_grows c w v steps entries goes, all)
  where
    all : AllDelivered c (reverse entries)
    all p q bytes sent meant_is correct = go (got_since c w v steps entries goes s.index q (frame_sent c p bytes) there s.is)
      where
        s : MadeSince c w v p bytes
        s = made_since c w v steps entries p bytes goes (has_reverse (λ x. x ≡ Sent p bytes) entries sent)

        there : Has (λ x. x ≡ (s.index, q)) v.delivered
        there =
            let number : 0 + s.index ≡ s.index = omega arith in
            subst (λ (n : ℕ). Has (λ x. x ≡ (n, q)) v.delivered) number (each_got c v.delivered 0 v.frames s.index (frame_sent c p bytes) q (none_left c w v steps entries goes last) s.is meant_is correct)

        go : Has (λ x. x ≡ (s.index, q)) w.delivered ⊎ HasEntry (Got q bytes) entries → HasEntry (Got q bytes) (reverse entries)
        go (inl before) = let l = reached_made c w reached s.index q before in let m = s.since in absurd (omega arith)
        go (inr h) = has_reversed (λ x. x ≡ Got q bytes) entries h
