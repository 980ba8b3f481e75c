-- A pool stays that of the world as frames are made and delivered, and says what a flush delivers next.
use Rattle.std.proofs.Common.{length-append, append-nil, ◌≡◌, ℕ, zero, suc, ◌+◌, ◌<◌, Bool, true, false, not, ◌&&◌, ◌||◌, ◌==◌, cond, List, [], ◌∷◌, ◌++◌, length, filter, get_or, refl, sym, ap, ◌∙◌, subst, arith, Some, None, slice_get, eqb-true, eq-eqb}
use Rattle.std.proofs.lemmas.List.Elements.{filter_agree}
use Rattle.std.specs.Prelude.{All}
use Rattle.quorum.specs.Votes.{or_else}
use Rattle.protocol.specs.System.Configuration.{Configuration, is_correct}
use Rattle.protocol.specs.System.Trace.{Entry}
use Rattle.protocol.specs.System.Trace.Entry.{Sent}
use Rattle.protocol.specs.System.Schedule.{Made, World, made_by, new_world, with_entry, with_frame, is_delivered, next_receiver, next_pair, pending}
use Rattle.schedule_world.specs.Pooled.{Frame, added, numbers_without, noted, IsServed, IsFirstWaiting, HasBytes}
use Rattle.schedule_world.specs.Pooling.{delivery_is_due, pooled, pooled_from, IsPool}
use Rattle.events.specs.Outputs.{receivers_in}
use Rattle.schedule_world.specs.Receiving.{correct_in}

-- ---- filters

twice_case : {X : Type 0} (f g : X → Bool) (x : X) (xs : List X) (b : Bool) → filter f (filter g xs) ≡ filter (λ y. g y && f y) xs
    → filter f (cond b (x ∷ filter g xs) (filter g xs)) ≡ cond (b && f x) (x ∷ filter (λ y. g y && f y) xs) (filter (λ y. g y && f y) xs)
twice_case f g x xs true h = ap (λ ys. cond (f x) (x ∷ ys) ys) h
twice_case f g x xs false h = h

filter_twice : {X : Type 0} (f g : X → Bool) (xs : List X) → filter f (filter g xs) ≡ filter (λ y. g y && f y) xs
filter_twice f g [] = refl
filter_twice f g (x ∷ xs) = twice_case f g x xs (g x) (filter_twice f g xs)

-- ---- numbers and truths

same_false : (a b : ℕ) → (a ≡ b → ⊥) → (a == b) ≡ false
same_false a b h = go (a == b) refl
  where
    go : (t : Bool) → (a == b) ≡ t → t ≡ false
    go true e = absurd (h (eqb-true a b e))
    go false e = refl

same_turned : (a b : ℕ) → (a == b) ≡ (b == a)
same_turned a b = go (b == a) refl
  where
    go : (t : Bool) → (b == a) ≡ t → (a == b) ≡ t
    go true e = eq-eqb a b (sym (eqb-true b a e))
    go false e = same_false a b (λ s. let f : ⊥ = absurd_of (sym e ∙ eq-eqb b a (sym s)) in f)
      where
        absurd_of : false ≡ true → ⊥
        absurd_of p = let g : ⊥ = cc in g

and_nothing : (a : Bool) → (a && not false) ≡ a
and_nothing true = refl
and_nothing false = refl

left_out : (a e b : Bool) → (a && not (e || b)) ≡ ((a && not b) && not e)
left_out true true true = refl
left_out true true false = refl
left_out true false true = refl
left_out true false false = refl
left_out false e b = refl

-- ---- changes by a delivery

module _ (c : Configuration) (delivered : List (ℕ × ℕ)) (n p : ℕ) where
  -- of another frame
  other_due : (k q : ℕ) → (n ≡ k → ⊥) → delivery_is_due c ((n, p) ∷ delivered) k q ≡ delivery_is_due c delivered k q
  other_due k q h = ap (λ b. is_correct c q && not ((b && (p == q)) || is_delivered delivered k q)) (same_false n k h)

  other_frame : (k : ℕ) (m : Made) → (n ≡ k → ⊥) → pooled c ((n, p) ∷ delivered) k m ≡ pooled c delivered k m
  other_frame k m h =
      ap (λ ws. record { bytes = m.bytes; waiting = ws })
      (filter_agree (delivery_is_due c ((n, p) ∷ delivered) k) (delivery_is_due c delivered k) (λ q. other_due k q h) m.receivers)

  -- of this one
  own_due : (k q : ℕ) → n ≡ k → delivery_is_due c ((n, p) ∷ delivered) k q ≡ (delivery_is_due c delivered k q && not (q == p))
  own_due k q e =
      ap (λ b. is_correct c q && not ((b && (p == q)) || is_delivered delivered k q)) (eq-eqb n k e)
      ∙ left_out (is_correct c q) (p == q) (is_delivered delivered k q)
      ∙ ap (λ b. delivery_is_due c delivered k q && not b) (same_turned p q)

  own_waiting : (k : ℕ) (rs : List ℕ) → n ≡ k → filter (delivery_is_due c ((n, p) ∷ delivered) k) rs ≡ numbers_without p (filter (delivery_is_due c delivered k) rs)
  own_waiting k rs e =
      filter_agree (delivery_is_due c ((n, p) ∷ delivered) k) (λ q. delivery_is_due c delivered k q && not (q == p)) (λ q. own_due k q e) rs
      ∙ sym (filter_twice (λ q. not (q == p)) (delivery_is_due c delivered k) rs)

  later_frames : (k : ℕ) (ms : List Made) → n < k → pooled_from c ((n, p) ∷ delivered) k ms ≡ pooled_from c delivered k ms
  later_frames k [] h = refl
  later_frames k (m ∷ ms) h = λ t. other_frame k m (λ e. let f : ⊥ = omega (arith, e, h) in f) t ∷ later_frames (suc k) ms (omega (arith, h)) t

  noted_from : (k i : ℕ) (ms : List Made) → n ≡ k + i → pooled_from c ((n, p) ∷ delivered) k ms ≡ noted (pooled_from c delivered k ms) i p
  noted_from k i [] e = refl
  noted_from k zero (m ∷ ms) e =
      λ t. record { bytes = m.bytes; waiting = own_waiting k m.receivers (omega (arith, e)) t } ∷ later_frames (suc k) ms (omega (arith, e)) t
  noted_from k (suc i) (m ∷ ms) e =
      λ t. other_frame k m (λ s. let f : ⊥ = omega (arith, e, s) in f) t ∷ noted_from (suc k) i ms (omega (arith, e)) t

-- ---- changes by one more frame

module _ (c : Configuration) (delivered : List (ℕ × ℕ)) where
  one_more : (k n : ℕ) (ms : List Made) (m : Made) → n ≡ k + length ms
      → pooled_from c delivered k (ms ++ m ∷ []) ≡ pooled_from c delivered k ms ++ pooled c delivered n m ∷ []
  one_more k n [] m e = ap (λ j. pooled c delivered j m ∷ []) (let s : k ≡ n = omega (arith, e) in s)
  one_more k n (x ∷ ms) m e = ap (λ fs. pooled c delivered k x ∷ fs) (one_more (suc k) n ms m (omega (arith, e)))

pooled_length : (c : Configuration) (delivered : List (ℕ × ℕ)) (k : ℕ) (ms : List Made) → length (pooled_from c delivered k ms) ≡ length ms
pooled_length c delivered k [] = refl
pooled_length c delivered k (m ∷ ms) = ap suc (pooled_length c delivered (suc k) ms)

-- a frame that was not made was not delivered
not_delivered : (delivered : List (ℕ × ℕ)) (n q : ℕ) → All (λ (x : ℕ × ℕ). x.0 < n) delivered → is_delivered delivered n q ≡ false
not_delivered [] n q h = refl
not_delivered (x ∷ delivered) n q h =
    ap (λ b. (b && (x.1 == q)) || is_delivered delivered n q)
    (same_false x.0 n (λ e. let b = h 0 x (omega arith) in let f : ⊥ = omega (arith, b, e) in f))
    ∙ not_delivered delivered n q (λ k d b. h (suc k) d (omega (arith, b)))

new_frame : (c : Configuration) (delivered : List (ℕ × ℕ)) (n : ℕ) (m : Made) → All (λ (x : ℕ × ℕ). x.0 < n) delivered
    → pooled c delivered n m ≡ record { bytes = m.bytes; waiting = correct_in c m.receivers }
new_frame c delivered n m h =
    ap (λ ws. record { bytes = m.bytes; waiting = ws })
    (filter_agree (delivery_is_due c delivered n) (is_correct c)
    (λ q. ap (λ b. is_correct c q && not b) (not_delivered delivered n q h) ∙ and_nothing (is_correct c q)) m.receivers)

-- ---- the laws

-- before the first step
pub pool_new : (c : Configuration) → IsPool c new_world []
pool_new c = record { frames = refl; made = λ k d h. absurd (omega (arith, h)) }

-- a faulty party made a frame
pub pool_with_frame : (c : Configuration) (w : World) (pool : List Frame) (bytes receivers : List ℕ) → IsPool c w pool
    → IsPool c (with_frame w bytes receivers) (added pool bytes (correct_in c receivers))
pool_with_frame c w pool bytes receivers h =
    let m : Made = record { bytes = bytes; receivers = receivers } in
    let longer : length (w.frames ++ m ∷ []) ≡ length w.frames + 1 = length-append w.frames (m ∷ []) in
    record {
      frames =
          ap (λ fs. added fs bytes (correct_in c receivers)) h.frames
          ∙ ap (λ f. pooled_from c w.delivered 0 w.frames ++ f ∷ []) (sym (new_frame c w.delivered (length w.frames) m h.made))
          ∙ sym (one_more c w.delivered 0 (length w.frames) w.frames m (omega arith));
      made = λ k d b. let old = h.made k d b in omega (arith, old, longer);
    }

-- a correct party sent one
pub pool_sent : (c : Configuration) (w : World) (pool : List Frame) (sender : ℕ) (bytes : List ℕ) → IsPool c w pool
    → IsPool c (with_entry c w (Sent sender bytes)) (added pool bytes (correct_in c (receivers_in c sender bytes)))
pool_sent c w pool sender bytes h =
    let more = pool_with_frame c w pool bytes (receivers_in c sender bytes) h in
    record { frames = more.frames; made = more.made }

-- any other entry
pub pool_kept : (c : Configuration) (w : World) (pool : List Frame) (e : Entry) → made_by c e ≡ [] → IsPool c w pool
    → IsPool c (with_entry c w e) pool
pool_kept c w pool e none h =
    let same : w.frames ++ made_by c e ≡ w.frames = ap (λ ms. w.frames ++ ms) none ∙ append-nil w.frames in
    record {
      frames = h.frames ∙ ap (pooled_from c w.delivered 0) (sym same);
      made = λ k d b. let old = h.made k d b in let longer = ap length same in omega (arith, old, longer);
    }

-- a frame was delivered
pub pool_delivered : (c : Configuration) (w : World) (pool : List Frame) (n p : ℕ) → n < length w.frames → IsPool c w pool
    → IsPool c (record w { delivered = (n, p) ∷ w.delivered }) (noted pool n p)
pool_delivered c w pool n p within h =
    record {
      frames = ap (λ fs. noted fs n p) h.frames ∙ sym (noted_from c w.delivered n p 0 n w.frames (omega arith));
      made = made;
    }
  where
    made : All (λ (x : ℕ × ℕ). x.0 < length w.frames) ((n, p) ∷ w.delivered)
    made zero d b = within
    made (suc k) d b = h.made k d (omega (arith, b))

-- as many frames
pub pool_length : (c : Configuration) (w : World) (pool : List Frame) → IsPool c w pool → length pool ≡ length w.frames
pool_length c w pool h = ap length h.frames ∙ pooled_length c w.delivered 0 w.frames

bytes_from : (c : Configuration) (delivered : List (ℕ × ℕ)) (k n : ℕ) (ms : List Made) (bytes : List ℕ) → HasBytes (pooled_from c delivered k ms) n bytes
    → (made : Made) × (slice_get ms n ≡ Some made) × (made.bytes ≡ bytes)
bytes_from c delivered k n [] bytes h = absurd (omega (arith, h.there))
bytes_from c delivered k zero (m ∷ ms) bytes h = (m, refl, h.same (record { bytes = []; waiting = [] }))
bytes_from c delivered k (suc n) (m ∷ ms) bytes h =
    bytes_from c delivered (suc k) n ms bytes (record { there = omega (arith, h.there); same = λ d. h.same d })

-- the pool has the bytes with which a frame was made
pub pool_bytes : (c : Configuration) (w : World) (pool : List Frame) (n : ℕ) (bytes : List ℕ) → IsPool c w pool → HasBytes pool n bytes
    → (made : Made) × (slice_get w.frames n ≡ Some made) × (made.bytes ≡ bytes)
pool_bytes c w pool n bytes h has =
    bytes_from c w.delivered 0 n w.frames bytes (subst (λ fs. HasBytes fs n bytes) h.frames has)

-- ---- the next delivery

due_case : (c : Configuration) (delivered : List (ℕ × ℕ)) (k p q : ℕ) (ws later : List ℕ) (rs : List ℕ) (b : Bool)
    → (ws ≡ p ∷ later → next_receiver c delivered k rs ≡ Some (k, p))
    → cond b (q ∷ ws) ws ≡ p ∷ later → cond b (Some (k, q)) (next_receiver c delivered k rs) ≡ Some (k, p)
due_case c delivered k p q ws later rs true h e = ap (λ xs. Some (k, get_or xs 0 q)) e
due_case c delivered k p q ws later rs false h e = h e

first_due : (c : Configuration) (delivered : List (ℕ × ℕ)) (k p : ℕ) (rs later : List ℕ) → filter (delivery_is_due c delivered k) rs ≡ p ∷ later
    → next_receiver c delivered k rs ≡ Some (k, p)
first_due c delivered k p [] later e = absurd (omega (arith, ap length e))
first_due c delivered k p (q ∷ rs) later e =
    due_case c delivered k p q (filter (delivery_is_due c delivered k) rs) later rs (delivery_is_due c delivered k q) (first_due c delivered k p rs later) e

none_case : (c : Configuration) (delivered : List (ℕ × ℕ)) (k q : ℕ) (ws : List ℕ) (rs : List ℕ) (b : Bool)
    → (ws ≡ [] → next_receiver c delivered k rs ≡ None)
    → cond b (q ∷ ws) ws ≡ [] → cond b (Some (k, q)) (next_receiver c delivered k rs) ≡ None
none_case c delivered k q ws rs true h e = absurd (omega (arith, ap length e))
none_case c delivered k q ws rs false h e = h e

none_due : (c : Configuration) (delivered : List (ℕ × ℕ)) (k : ℕ) (rs : List ℕ) → filter (delivery_is_due c delivered k) rs ≡ []
    → next_receiver c delivered k rs ≡ None
none_due c delivered k [] e = refl
none_due c delivered k (q ∷ rs) e =
    none_case c delivered k q (filter (delivery_is_due c delivered k) rs) rs (delivery_is_due c delivered k q) (none_due c delivered k rs) e

next_from : (c : Configuration) (delivered : List (ℕ × ℕ)) (k n j p : ℕ) (ms : List Made) → j ≡ k + n → IsFirstWaiting (pooled_from c delivered k ms) n p
    → next_pair c delivered k ms ≡ Some (j, p)
next_from c delivered k n j p [] e h = absurd (omega (arith, h.there))
next_from c delivered k zero j p (m ∷ ms) e h =
    let w = h.waits (record { bytes = []; waiting = [] }) in
    let here : k ≡ j = omega (arith, e) in
    ap (λ o. or_else o (next_pair c delivered (suc k) ms)) (first_due c delivered k p m.receivers w.0 w.1) ∙ ap (λ i. Some (i, p)) here
next_from c delivered k (suc n) j p (m ∷ ms) e h =
    ap (λ o. or_else o (next_pair c delivered (suc k) ms)) (none_due c delivered k m.receivers (h.served 0 (record { bytes = []; waiting = [] }) (omega arith)))
    ∙ next_from c delivered (suc k) n j p ms (omega (arith, e))
    (record { served = λ i d b. h.served (suc i) d (omega (arith, b)); there = omega (arith, h.there); waits = λ d. h.waits d })

none_from : (c : Configuration) (delivered : List (ℕ × ℕ)) (k : ℕ) (ms : List Made) → All IsServed (pooled_from c delivered k ms)
    → next_pair c delivered k ms ≡ None
none_from c delivered k [] h = refl
none_from c delivered k (m ∷ ms) h =
    ap (λ o. or_else o (next_pair c delivered (suc k) ms)) (none_due c delivered k m.receivers (h 0 (record { bytes = []; waiting = [] }) (omega arith)))
    ∙ none_from c delivered (suc k) ms (λ i d b. h (suc i) d (omega (arith, b)))

-- the first frame that somebody waits for is delivered next
pub pool_next : (c : Configuration) (w : World) (pool : List Frame) (n p : ℕ) → IsPool c w pool → IsFirstWaiting pool n p → pending c w ≡ Some (n, p)
pool_next c w pool n p h next = next_from c w.delivered 0 n n p w.frames (omega arith) (subst (λ fs. IsFirstWaiting fs n p) h.frames next)

-- nothing is left if nobody waits
pub pool_served : (c : Configuration) (w : World) (pool : List Frame) → IsPool c w pool → All IsServed pool → pending c w ≡ None
pool_served c w pool h served = none_from c w.delivered 0 w.frames (subst (All IsServed) h.frames served)

-- the pool after a delivery of a frame that was made
pub pool_forgets : (c : Configuration) (w : World) (pool new : List Frame) (n p : ℕ) (bytes : List ℕ) → HasBytes pool n bytes → new ≡ noted pool n p → IsPool c w pool
    → IsPool c (record w { delivered = (n, p) ∷ w.delivered }) new
pool_forgets c w pool new n p bytes has is h =
    let same = pool_length c w pool h in let there = has.there in
    subst (IsPool c (record w { delivered = (n, p) ∷ w.delivered })) (sym is) (pool_delivered c w pool n p (omega (arith, same, there)) h)
