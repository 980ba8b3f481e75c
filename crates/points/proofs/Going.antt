-- The requests that frames and batches run.
use Rattle.std.proofs.Common.{◌≡◌, ℕ, zero, suc, ◌+◌, ◌≤◌, ◌<◌, List, [], ◌∷◌, ◌++◌, map, drop, get_or, length, Bor, refl, sym, ap, ap₂, ◌∙◌, subst, append-nil, append_assoc, drop-cons, add-one, arith, Option, Some, None}
use Rattle.std.specs.Prelude.{fold}
use Rattle.std.proofs.lemmas.List.{map-append}
use Rattle.wire_format.specs.Words.{requests_of}
use Rattle.protocol.specs.System.Configuration.{Configuration}
use Rattle.protocol.specs.Replica.State.{State, Ran, opening, run_frame, ran_in, execute}
use Rattle.protocol.specs.Space.Linear.{Placing, ordered_point}
use Rattle.points.specs.declared.levels.Rise.{Rise}
use Rattle.points.specs.declared.running.Turn.{Turn}
use Rattle.points.specs.Leveling.{level_position}
use Rattle.points.specs.Numbering.{Numbered, AscendsFrom, before, numbered_points, points_at}
use Rattle.points.specs.declared.point.Placed.{Placed}
use Rattle.points.specs.PointView.{placings_of}
use Rattle.points.specs.Running.{PlacedSoFar, placed_so_far, placed_state, frame_placed, PlacesOneFrame, PlacesAllFrames, RunsEach}
use Rattle.space.specs.Births.{SpaceState, empty_state}
use Rattle.reply_cache.specs.Replies.{Replies, no_replies}
use Rattle.wire_format.specs.Lists.{Each}
use Rattle.points.proofs.Numbers.{any_number}

points_append : (place : Option ℕ) (k : ℕ) (xs ys : List Ran) → points_at place k (xs ++ ys) ≡ points_at place k xs ++ points_at place k ys
points_append None k xs ys = refl
points_append (Some p) k xs ys = map-append (ordered_point p k) xs ys

abbrev pub texts : List (Bor (List ℕ)) → List (List ℕ)
texts xs = map (λ f. f.now) xs

-- Running the rest leads to the end of the whole.
pub record Left (turn : Turn) (xs : List (Bor (List ℕ))) (x y : PlacedSoFar) (i : ℕ) : Type 0 where
  pub states : (c : Configuration) (n : ℕ) → c.clients ≡ turn.clients
      → fold (run_frame c turn.number.0) (placed_state n x) (texts xs) ≡ fold (run_frame c turn.number.0) (placed_state n y) (texts (drop i xs))
  pub points : (c : Configuration) (n : ℕ) → c.clients ≡ turn.clients
      → x.points ++ points_at turn.place turn.number.0 (ran_in c turn.number.0 (placed_state n x) (texts xs))
      ≡ y.points ++ points_at turn.place turn.number.0 (ran_in c turn.number.0 (placed_state n y) (texts (drop i xs)))

pub goes_on : (turn : Turn) (xs : List (Bor (List ℕ))) (x y z : PlacedSoFar) (i : ℕ) (d : Bor (List ℕ)) → i < length xs
    → Left turn xs x y i → PlacesOneFrame turn (get_or xs i d).now y z → Left turn xs x z (i + 1)
goes_on turn xs x y z i d l left step = record {
  states = λ c n e.
      let k = step c n e in
      left.states c n e ∙ (rw (drop-cons xs i d l) (rw add-one (ap (λ (s : State). fold (run_frame c turn.number.0) s (texts (drop (suc i) xs))) (sym k.state))));
  points = λ c n e.
      let k = step c n e in
      let f : List ℕ = (get_or xs i d).now in
      let rest : List (List ℕ) = texts (drop (suc i) xs) in
      let st : State = placed_state n y in
      let at : List Ran → List Placing = points_at turn.place turn.number.0 in
      left.points c n e
      ∙ rw (drop-cons xs i d l) (ap (λ t. y.points ++ t) (points_append turn.place turn.number.0 (frame_placed c turn.number.0 st f) (ran_in c turn.number.0 (run_frame c turn.number.0 st f) rest))
      ∙ sym (append_assoc y.points (at (frame_placed c turn.number.0 st f)) (at (ran_in c turn.number.0 (run_frame c turn.number.0 st f) rest)))
      ∙ ap (λ t. t ++ at (ran_in c turn.number.0 (run_frame c turn.number.0 st f) rest)) (sym k.points)
      ∙ rw add-one (ap (λ (s : State). z.points ++ at (ran_in c turn.number.0 s rest)) (sym k.state)));
}

points_none : (place : Option ℕ) (k : ℕ) → points_at place k [] ≡ []
points_none None k = refl
points_none (Some p) k = refl

pub ends : (turn : Turn) (xs : List (Bor (List ℕ))) (x y : PlacedSoFar) (i : ℕ) → drop i xs ≡ []
    → Left turn xs x y i → PlacesAllFrames turn (texts xs) x y
ends turn xs x y i e left = λ c n m. record {
  state = sym (left.states c n m ∙ ap (λ ys. fold (run_frame c turn.number.0) (placed_state n y) (texts ys)) e);
  points = sym (left.points c n m ∙ ap (λ ys. y.points ++ points_at turn.place turn.number.0 (ran_in c turn.number.0 (placed_state n y) (texts ys))) e
      ∙ ap (λ t. y.points ++ t) (points_none turn.place turn.number.0) ∙ append-nil y.points);
}

-- ---- a batch

-- the points before, and those of the rest of the batches, are the points of all
abbrev pub Going : ℕ → List Rise → List Numbered → PlacedSoFar → List Numbered → Type 0
Going clients found all x rest =
    (c : Configuration) (n : ℕ) → c.clients ≡ clients
    → x.points ++ numbered_points c (level_position found) (placed_state n x) rest ≡ numbered_points c (level_position found) opening all

after : (k : ℕ) → 1 ≤ k → suc (before k) ≡ k
after zero l = absurd (omega arith)
after (suc k) l = refl

batch_state : (c : Configuration) (k : ℕ) (batch : List ℕ) (x y : PlacedSoFar) → 1 ≤ k
    → placed_state (before k) y ≡ fold (run_frame c k) (placed_state (before k) x) (requests_of batch) → execute c (placed_state (before k) x) batch ≡ placed_state k y
unfolding execute
batch_state c k batch x y l h =
    ap (λ (m : ℕ). let s : State = record (fold (run_frame c m) (placed_state (before k) x) (requests_of batch)) { number = m } in s) (after k l)
    ∙ ap (λ (s : State). let t : State = record s { number = k } in t) (sym h)

batch_more : (turn : Turn) (found : List Rise) (all rest : List Numbered) (batch : List ℕ) (x y : PlacedSoFar) → 1 ≤ turn.number.0 → turn.place ≡ level_position found turn.number.0
    → Going turn.clients found all x (record { number = turn.number.0; batch = batch } ∷ rest) → PlacesAllFrames turn (requests_of batch) x y → Going turn.clients found all y rest
batch_more turn found all rest batch x y l at going run = λ c n e.
    let k : ℕ = turn.number.0 in
    let r = run c (before k) e in
    let ran : List Ran = ran_in c k (placed_state (before k) x) (requests_of batch) in
    let left : State → List Placing = λ st. numbered_points c (level_position found) st rest in
    ap (λ t. t ++ left (placed_state n y)) (r.points ∙ ap (λ o. x.points ++ points_at o k ran) at)
    ∙ append_assoc x.points (points_at (level_position found k) k ran) (left (placed_state n y))
    ∙ ap (λ t. x.points ++ (points_at (level_position found k) k ran ++ t)) (any_number c (level_position found) (placed_state n y) n k rest ∙ sym (ap left (batch_state c k batch x y l r.state)))
    ∙ going c n e

-- the rest begins with this batch, and each number is one
pub batch_goes_on : (turn : Turn) (found : List Rise) (all now rest : List Numbered) (batch : List ℕ) (x y : PlacedSoFar) → turn.place ≡ level_position found turn.number.0
    → now ≡ record { number = turn.number.0; batch = batch } ∷ rest → Each (λ (z : Numbered). 1 ≤ z.number) now
    → Going turn.clients found all x now → PlacesAllFrames turn (requests_of batch) x y → Going turn.clients found all y rest × Each (λ (z : Numbered). 1 ≤ z.number) rest
batch_goes_on turn found all now rest batch x y at is some going run =
    let above = subst (Each (λ (z : Numbered). 1 ≤ z.number)) is some in
    (batch_more turn found all rest batch x y above.0 at (subst (Going turn.clients found all x) is going) run, above.1)

pub going_begins : (clients : ℕ) (found : List Rise) (all now : List Numbered) (space : SpaceState) (replies : Replies) (points : List Placed) → space ≡ empty_state → replies ≡ no_replies → points ≡ []
    → now ≡ all → Going clients found all (placed_so_far space replies points) now
going_begins clients found all now space replies points s r p is c n e =
    ap (λ xs. placings_of xs ++ numbered_points c (level_position found) (record { space = space; number = n; replies = replies }) now) p
    ∙ ap₂ (λ (a : SpaceState) (b : Replies). numbered_points c (level_position found) (record { space = a; number = n; replies = b }) now) s r
    ∙ any_number c (level_position found) opening n 0 now ∙ ap (numbered_points c (level_position found) opening) is

pub going_ends : (clients : ℕ) (found : List Rise) (all now : List Numbered) (x : PlacedSoFar) → now ≡ [] → Going clients found all x now → RunsEach clients found all x.points
going_ends clients found all now x none going c e =
    sym (append-nil x.points) ∙ sym (ap (λ ys. x.points ++ numbered_points c (level_position found) (placed_state 0 x) ys) none) ∙ going c 0 e

ascends_above : (m : ℕ) (xs : List Numbered) → 1 ≤ m → AscendsFrom m xs → Each (λ (z : Numbered). 1 ≤ z.number) xs
ascends_above m [] l a = tt
ascends_above m (x ∷ xs) l a = let k = a.0 in (omega arith, ascends_above (suc x.number) xs (omega arith) a.1)

pub each_above : (all now : List Numbered) → now ≡ all → AscendsFrom 1 all → Each (λ (z : Numbered). 1 ≤ z.number) now
each_above all now is a = subst (Each (λ (z : Numbered). 1 ≤ z.number)) (sym is) (ascends_above 1 all (omega arith) a)
