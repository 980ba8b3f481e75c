-- Waiting requests, with the flags that say which of them have numbers.
use Rattle.std.proofs.Common.{◌≡◌, ℕ, zero, suc, ◌≤◌, inl, inr, Bool, true, false, cond, not, List, [], ◌∷◌, length, take, drop, filter, refl, sym, ap, ◌∙◌, subst, arith, eqb-true, eq-eqb}
use Rattle.std.specs.Prelude.{◌==◌, ◌&&◌}
use Rattle.std.proofs.lemmas.Bool.{and_parts, and_from, not-true}
use Rattle.wire_format.specs.Lists.{Each}
use Rattle.protocol.specs.System.Configuration.{Configuration}
use Rattle.protocol.specs.System.Trace.{Entry, Has, either}
use Rattle.protocol.specs.Replica.State.{Call}
use Rattle.protocol.specs.Replica.Owed.{IsNumbered}
use Rattle.protocol.proofs.Words.Elements.{has_some, has_of_any, any_of_has, each_has, each_filtered}
use Rattle.replica_histories.specs.Numbers.{Waiting, AssignedCall, calls_of, unnumbered, count_unnumbered, with_numbered, is_assigned, IsInNewView, CallHasNumber, CallHasNoNumber, IsRightly}

-- ---- the one or the other

pub either_weaker : {A B C D : Type 0} (b : Bool) → (A → C) → (B → D) → either b A B → either b C D
either_weaker true f g h = f h
either_weaker false f g h = g h

-- a waiting request has a number if its flag says so, and none if it doesn't
module _ (c : Configuration) (me v : ℕ) (history : List Entry) (w : Waiting) where
  abbrev IsSo : Bool → Type 0
  IsSo = λ b. either b (CallHasNumber c me v history w.call) (CallHasNoNumber c me v history w.call)

  pub flag_has : w.numbered ≡ true → IsRightly c me v history w → CallHasNumber c me v history w.call
  flag_has e h = subst IsSo e h

  pub flag_lacks : w.numbered ≡ false → IsRightly c me v history w → CallHasNoNumber c me v history w.call
  flag_lacks e h = subst IsSo e h

  pub has_flag : w.numbered ≡ true → CallHasNumber c me v history w.call → IsRightly c me v history w
  has_flag e h = subst IsSo (sym e) h

  pub lacks_flag : w.numbered ≡ false → CallHasNoNumber c me v history w.call → IsRightly c me v history w
  lacks_flag e h = subst IsSo (sym e) h

pub rightly_none : (c : Configuration) (me v : ℕ) (history : List Entry) (ws : List Waiting) → Each (IsRightly c me v history) ws → Each (λ w. CallHasNoNumber c me v history w.call) (unnumbered ws)
rightly_none c me v history ws h =
    each_filtered (IsRightly c me v history) (λ w. CallHasNoNumber c me v history w.call) (λ w. not w.numbered) (λ w e. flag_lacks c me v history w (not-true w.numbered e)) ws h

-- ---- the first ones get numbers

-- the calls stay
pub calls_numbered : (n : ℕ) (ws : List Waiting) → calls_of (with_numbered n ws) ≡ calls_of ws
calls_numbered n [] = refl
calls_numbered zero (w ∷ ws) = refl
calls_numbered (suc n) (w ∷ ws) = go w.numbered (calls_numbered (suc n) ws) (calls_numbered n ws)
  where
    go : (b : Bool) → calls_of (with_numbered (suc n) ws) ≡ calls_of ws → calls_of (with_numbered n ws) ≡ calls_of ws
        → calls_of (cond b (w ∷ with_numbered (suc n) ws) (record w { numbered = true } ∷ with_numbered n ws)) ≡ w.call ∷ calls_of ws
    go true h k = ap (λ calls. w.call ∷ calls) h
    go false h k = ap (λ calls. w.call ∷ calls) k

-- and the others are left
pub left_unnumbered : (n : ℕ) (ws : List Waiting) → unnumbered (with_numbered n ws) ≡ drop n (unnumbered ws)
left_unnumbered zero [] = refl
left_unnumbered (suc n) [] = refl
left_unnumbered zero (w ∷ ws) = refl
left_unnumbered (suc n) (w ∷ ws) = go w.numbered refl (left_unnumbered (suc n) ws) (left_unnumbered n ws)
  where
    go : (b : Bool) → w.numbered ≡ b → unnumbered (with_numbered (suc n) ws) ≡ drop (suc n) (unnumbered ws) → unnumbered (with_numbered n ws) ≡ drop n (unnumbered ws)
        → unnumbered (cond b (w ∷ with_numbered (suc n) ws) (record w { numbered = true } ∷ with_numbered n ws)) ≡ drop (suc n) (cond (not b) (w ∷ unnumbered ws) (unnumbered ws))
    go true e h k = ap (λ (b : Bool). cond (not b) (w ∷ unnumbered (with_numbered (suc n) ws)) (unnumbered (with_numbered (suc n) ws))) e ∙ h
    go false e h k = k

module _ (F G : Waiting → Type 0) (old : (w : Waiting) → w.numbered ≡ true → F w → G w) where
  -- if none gets one
  each_left : (ws : List Waiting) → ((w : Waiting) → w.numbered ≡ false → Has (λ x. x ≡ w) (unnumbered ws) → F w → G w) → Each F ws → Each G ws
  each_left [] none e = tt
  each_left (w ∷ ws) none e = (first w.numbered refl none, each_left ws (rest w.numbered none) e.1)
    where
      first : (b : Bool) → w.numbered ≡ b → ((x : Waiting) → x.numbered ≡ false → Has (λ y. y ≡ x) (cond (not b) (w ∷ unnumbered ws) (unnumbered ws)) → F x → G x) → G w
      first true at none = old w at e.0
      first false at none = none w at (inl refl) e.0

      rest : (b : Bool) → ((x : Waiting) → x.numbered ≡ false → Has (λ y. y ≡ x) (cond (not b) (w ∷ unnumbered ws) (unnumbered ws)) → F x → G x)
          → (x : Waiting) → x.numbered ≡ false → Has (λ y. y ≡ x) (unnumbered ws) → F x → G x
      rest true none x at has = none x at has
      rest false none x at has = none x at (inr has)

  -- the property of each then
  pub each_numbered : (n : ℕ) (ws : List Waiting) → ((w : Waiting) → Has (λ x. x ≡ w) (take n (unnumbered ws)) → G (record w { numbered = true }))
      → ((w : Waiting) → w.numbered ≡ false → Has (λ x. x ≡ w) (drop n (unnumbered ws)) → F w → G w) → Each F ws → Each G (with_numbered n ws)
  each_numbered n [] new none e = tt
  each_numbered zero (w ∷ ws) new none e = each_left (w ∷ ws) none e
  each_numbered (suc n) (w ∷ ws) new none e = go w.numbered refl new none (λ f g. each_numbered (suc n) ws f g e.1) (λ f g. each_numbered n ws f g e.1)
    where
      go : (b : Bool) → w.numbered ≡ b
          → ((x : Waiting) → Has (λ y. y ≡ x) (take (suc n) (cond (not b) (w ∷ unnumbered ws) (unnumbered ws))) → G (record x { numbered = true }))
          → ((x : Waiting) → x.numbered ≡ false → Has (λ y. y ≡ x) (drop (suc n) (cond (not b) (w ∷ unnumbered ws) (unnumbered ws))) → F x → G x)
          → (((x : Waiting) → Has (λ y. y ≡ x) (take (suc n) (unnumbered ws)) → G (record x { numbered = true }))
          → ((x : Waiting) → x.numbered ≡ false → Has (λ y. y ≡ x) (drop (suc n) (unnumbered ws)) → F x → G x) → Each G (with_numbered (suc n) ws))
          → (((x : Waiting) → Has (λ y. y ≡ x) (take n (unnumbered ws)) → G (record x { numbered = true }))
          → ((x : Waiting) → x.numbered ≡ false → Has (λ y. y ≡ x) (drop n (unnumbered ws)) → F x → G x) → Each G (with_numbered n ws))
          → Each G (cond b (w ∷ with_numbered (suc n) ws) (record w { numbered = true } ∷ with_numbered n ws))
      go true at new none as_many fewer = (old w at e.0, as_many new none)
      go false at new none as_many fewer = (new w (inl refl), fewer (λ x has. new x (inr has)) none)

-- ---- how many have no number

-- if none is without one, all have one
pub all_numbered : (P N : Call → Type 0) (ws : List Waiting) → count_unnumbered ws ≡ 0 → Each (λ w. either w.numbered (P w.call) (N w.call)) ws → Each (λ w. P w.call) ws
all_numbered P N [] none e = tt
all_numbered P N (w ∷ ws) none e = go w.numbered none e.0 (λ k. all_numbered P N ws k e.1)
  where
    go : (b : Bool) → length (cond (not b) (w ∷ unnumbered ws) (unnumbered ws)) ≡ 0 → either b (P w.call) (N w.call) → (count_unnumbered ws ≡ 0 → Each (λ x. P x.call) ws)
        → P w.call × Each (λ x. P x.call) ws
    go true k h below = (h, below k)
    go false k h below = absurd (omega (arith, k))

-- no more of some of them are without one
pub fewer_unnumbered : (test : Waiting → Bool) (ws : List Waiting) → count_unnumbered (filter test ws) ≤ count_unnumbered ws
fewer_unnumbered test [] = omega arith
fewer_unnumbered test (w ∷ ws) = go (test w) (fewer_unnumbered test ws)
  where
    kept : (b : Bool) → count_unnumbered (filter test ws) ≤ count_unnumbered ws
        → length (cond b (w ∷ unnumbered (filter test ws)) (unnumbered (filter test ws))) ≤ length (cond b (w ∷ unnumbered ws) (unnumbered ws))
    kept true h = omega (arith, h)
    kept false h = h

    dropped : (b : Bool) → count_unnumbered (filter test ws) ≤ count_unnumbered ws → count_unnumbered (filter test ws) ≤ length (cond b (w ∷ unnumbered ws) (unnumbered ws))
    dropped true h = omega (arith, h)
    dropped false h = h

    go : (b : Bool) → count_unnumbered (filter test ws) ≤ count_unnumbered ws
        → count_unnumbered (cond b (w ∷ filter test ws) (filter test ws)) ≤ length (cond (not w.numbered) (w ∷ unnumbered ws) (unnumbered ws))
    go true h = kept (not w.numbered) h
    go false h = dropped (not w.numbered) h

-- ---- the calls of a new view

-- the new view has the call exactly if one of these is that call
pub assigned_is : (assigned : List AssignedCall) (call : Call) → is_assigned assigned call ≡ true → IsInNewView assigned call.client call.timestamp
assigned_is assigned call h = has_of_any (λ b. (b.client ≡ call.client) × (b.timestamp ≡ call.timestamp)) (λ b. (b.client == call.client) && (b.timestamp == call.timestamp)) of assigned h
  where
    of : (b : AssignedCall) → ((b.client == call.client) && (b.timestamp == call.timestamp)) ≡ true → (b.client ≡ call.client) × (b.timestamp ≡ call.timestamp)
    of b e = let p = and_parts (b.client == call.client) (b.timestamp == call.timestamp) e in (eqb-true b.client call.client p.0, eqb-true b.timestamp call.timestamp p.1)

pub is_assigned_where : (assigned : List AssignedCall) (call : Call) → IsInNewView assigned call.client call.timestamp → is_assigned assigned call ≡ true
is_assigned_where assigned call h = any_of_has (λ b. (b.client ≡ call.client) × (b.timestamp ≡ call.timestamp)) (λ b. (b.client == call.client) && (b.timestamp == call.timestamp)) so assigned h
  where
    so : (b : AssignedCall) → (b.client ≡ call.client) × (b.timestamp ≡ call.timestamp) → ((b.client == call.client) && (b.timestamp == call.timestamp)) ≡ true
    so b at = and_from (b.client == call.client) (b.timestamp == call.timestamp) (eq-eqb b.client call.client at.0) (eq-eqb b.timestamp call.timestamp at.1)

-- and has a number
pub assigned_numbered : (c : Configuration) (me v client timestamp : ℕ) (history : List Entry) (assigned : List AssignedCall)
    → Each (λ b. IsNumbered c me history v b.client b.timestamp) assigned → IsInNewView assigned client timestamp → IsNumbered c me history v client timestamp
assigned_numbered c me v client timestamp history assigned each h =
    let x = has_some (λ (b : AssignedCall). (b.client ≡ client) × (b.timestamp ≡ timestamp)) assigned h in
    subst (λ (k : ℕ). IsNumbered c me history v k timestamp) x.2.0 (subst (λ (t : ℕ). IsNumbered c me history v x.0.client t) x.2.1
    (each_has (λ (b : AssignedCall). IsNumbered c me history v b.client b.timestamp) assigned x.0 each x.1))
