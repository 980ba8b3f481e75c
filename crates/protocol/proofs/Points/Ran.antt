-- The requests that ran, by number: their origin, their positions, and the tuples that they leave.
use Rattle.std.proofs.Common.{◌≡◌, ℕ, zero, suc, ◌+◌, ◌-◌, ◌≤◌, ◌<◌, inl, inr, Bool, true, false, cond, List, [], ◌∷◌, ◌++◌, length, map, fold, refl, sym, ap, ◌∙◌, subst, arith, Option, Some, None}
use Rattle.std.specs.Prelude.{nat_le}
use Rattle.std.specs.Option.{option_map_or}
use Rattle.std.proofs.lemmas.Bool.{le-leb}
use Rattle.protocol.specs.System.Configuration.{Configuration}
use Rattle.wire_format.specs.Words.{requests_of}
use Rattle.protocol.specs.System.Trace.{Entry, Has}
use Rattle.space.specs.Applying.{Contents, tuples_after}
use Rattle.protocol.specs.Replica.State.{State, Call, Ran, tuples, runs, run_call, call_of, run_frame, execute, ran_by, ran_in, kept_by}
use Rattle.protocol.specs.Space.Linear.{Placing, item_after, ordered_point, ordered_points, first_position, batch_of, is_level}
use Rattle.std.specs.Bool.{then_some}
use Rattle.quorum.specs.Votes.{or_else}
use Rattle.protocol.proofs.Words.Options.{some_injective}
use Rattle.protocol.proofs.Points.Levels.{level_below}
use Rattle.protocol.proofs.Points.Legality.{executed_tuples}
use Rattle.protocol.proofs.Points.Running.{state_by}
use Rattle.protocol.proofs.Points.Sorting.{AllOf, all_weaker, all_append, Ascends, IsOrdered, tuples_at, early}
use Rattle.space.proofs.Keeping.{tuples_of-state_after}
use Rattle.protocol.specs.Replica.State.{ran_call}
use Rattle.protocol.proofs.Words.Leaving.{executed_number}

-- ---- the first position of a level

pub place_before : (c : Configuration) (xs : List Entry) (k q : ℕ) → first_position c xs k ≡ Some q → q < length xs
place_before c [] k q h = absurd cc
place_before c (e ∷ past) k q h = go (first_position c past k) refl (is_level c (e ∷ past) k) h (place_before c past k q)
  where
    go : (o : Option ℕ) → first_position c past k ≡ o → (b : Bool) → or_else o (then_some b (length past)) ≡ Some q → (first_position c past k ≡ Some q → q < length past) → q < suc (length past)
    go (Some p) is b h below = let e : p ≡ q = some_injective p q h in let l = below (is ∙ h) in omega arith
    go None is true h below = let e : length past ≡ q = some_injective (length past) q h in omega arith
    go None is false h below = absurd cc

pub place_lower : (c : Configuration) (xs : List Entry) (k n p : ℕ) → k ≤ n → first_position c xs n ≡ Some p → (q : ℕ) × (first_position c xs k ≡ Some q) × (q ≤ p)
place_lower c [] k n p l h = absurd cc
place_lower c (e ∷ past) k n p l h =
    go (first_position c past n) refl (is_level c (e ∷ past) n) refl h (first_position c past k) refl (is_level c (e ∷ past) k) refl (place_lower c past k n p l)
  where
    go : (o : Option ℕ) → first_position c past n ≡ o → (b : Bool) → is_level c (e ∷ past) n ≡ b → or_else o (then_some b (length past)) ≡ Some p
        → (u : Option ℕ) → first_position c past k ≡ u → (d : Bool) → is_level c (e ∷ past) k ≡ d
        → (first_position c past n ≡ Some p → (q : ℕ) × (first_position c past k ≡ Some q) × (q ≤ p)) → (q : ℕ) × (or_else u (then_some d (length past)) ≡ Some q) × (q ≤ p)
    go (Some x) is b eb h u us d ed below = let t = below (is ∙ h) in later t.0 t.2 u (sym us ∙ t.1)
      where
        later : (q : ℕ) → q ≤ p → (u : Option ℕ) → u ≡ Some q → (q : ℕ) × (or_else u (then_some d (length past)) ≡ Some q) × (q ≤ p)
        later q m (Some y) e = (q, e, m)
        later q m None e = absurd cc
    go None is true eb h (Some y) us d ed below = let at : length past ≡ p = some_injective (length past) p h in let m = place_before c past k y us in (y, refl, omega arith)
    go None is true eb h None us true ed below = let at : length past ≡ p = some_injective (length past) p h in (length past, refl, omega arith)
    go None is true eb h None us false ed below = absurd (let bad : false ≡ true = sym ed ∙ level_below c (e ∷ past) k n l eb in cc)
    go None is false eb h u us d ed below = absurd cc

-- ---- where each request that ran comes from

pub has_map_all : {A B : Type 0} (P : B → Type 0) (f : A → B) (xs : List A) → AllOf (λ x. P (f x)) xs → AllOf P (map f xs)
has_map_all P f [] a = tt
has_map_all P f (x ∷ xs) a = (a.0, has_map_all P f xs a.1)

pub record FromFrame (c : Configuration) (frames : List (List ℕ)) (ran : Ran) : Type 0 where
  pub frame : List ℕ
  pub is_there : Has (λ x. x ≡ frame) frames
  pub is_call : call_of c frame ≡ Some ran.call
  pub time : ran.kept.timestamp ≡ ran.call.timestamp

pub ran_frames : (c : Configuration) (k : ℕ) (st : State) (frames : List (List ℕ)) → AllOf (FromFrame c frames) (ran_in c k st frames)
ran_frames c k st [] = tt
ran_frames c k st (frame ∷ frames) = go (call_of c frame) refl (all_weaker (FromFrame c frames) (FromFrame c (frame ∷ frames)) more (ran_in c k (run_frame c k st frame) frames) (ran_frames c k (run_frame c k st frame) frames))
  where
    more : (x : Ran) → FromFrame c frames x → FromFrame c (frame ∷ frames) x
    more x f = record { frame = f.frame; is_there = inr f.is_there; is_call = f.is_call; time = f.time }

    test : (call : Call) → call_of c frame ≡ Some call → (b : Bool) (rest : List Ran) → AllOf (FromFrame c (frame ∷ frames)) rest → AllOf (FromFrame c (frame ∷ frames)) (cond b (record { call = call; kept = kept_by st k call } ∷ []) [] ++ rest)
    test call is true rest a = (record { frame = frame; is_there = inl refl; is_call = is; time = refl }, a)
    test call is false rest a = a

    go : (o : Option Call) → call_of c frame ≡ o → AllOf (FromFrame c (frame ∷ frames)) (ran_in c k (run_frame c k st frame) frames)
        → AllOf (FromFrame c (frame ∷ frames)) (option_map_or (ran_by st k) o [] ++ ran_in c k (run_frame c k st frame) frames)
    go None is a = a
    go (Some call) is a = test call is (runs st call) (ran_in c k (run_frame c k st frame) frames) a

pub record Source (c : Configuration) (trace : List Entry) (x : Placing) : Type 0 where
  pub ran : Ran
  pub position : ℕ
  pub number : ℕ
  pub is : x ≡ ordered_point position number ran
  pub from : FromFrame c (requests_of (batch_of trace number)) ran
  pub place : first_position c trace number ≡ Some position

pub ordered_sources : (c : Configuration) (trace : List Entry) (st : State) (k more : ℕ) → AllOf (Source c trace) (ordered_points c trace st k more)
ordered_sources c trace st k zero = tt
ordered_sources c trace st k (suc more) = all_append (Source c trace) _ _ (go (first_position c trace k) refl) (ordered_sources c trace (execute c st (batch_of trace k)) (suc k) more)
  where
    go : (o : Option ℕ) → first_position c trace k ≡ o → AllOf (Source c trace) (option_map_or (λ position. map (ordered_point position k) (ran_in c k st (requests_of (batch_of trace k)))) o [])
    go None is = tt
    go (Some p) is = has_map_all (Source c trace) (ordered_point p k) (ran_in c k st (requests_of (batch_of trace k)))
        (all_weaker (FromFrame c (requests_of (batch_of trace k))) (λ x. Source c trace (ordered_point p k x)) (λ x f. record { ran = x; position = p; number = k; is = refl; from = f; place = is })
        (ran_in c k st (requests_of (batch_of trace k))) (ran_frames c k st (requests_of (batch_of trace k))))

pub source_ordered : (c : Configuration) (trace : List Entry) (x : Placing) → Source c trace x → IsOrdered (first_position c trace) x
source_ordered c trace x s = subst (IsOrdered (first_position c trace)) (sym s.is) (record {
  stands = record { at = s.position; is_at = s.place; after = omega arith; before = before };
  exact = omega arith;
  mode_is = refl;
})
  where
    before : (k p : ℕ) → s.number < k → first_position c trace k ≡ Some p → s.position ≤ p
    before k p l h = let m : s.number ≤ k = omega arith in let t = place_lower c trace s.number k p m h in let e : s.position ≡ t.0 = some_injective s.position t.0 (sym s.place ∙ t.1) in let b = t.2 in omega arith

pub points_from : (c : Configuration) (trace : List Entry) (st : State) (k more : ℕ) → AllOf (λ x. k ≤ x.number) (ordered_points c trace st k more)
points_from c trace st k zero = tt
points_from c trace st k (suc more) =
    all_append (λ x. k ≤ x.number) _ _ (go (first_position c trace k))
    (all_weaker (λ x. suc k ≤ x.number) (λ x. k ≤ x.number) (λ x l. omega arith) (ordered_points c trace (execute c st (batch_of trace k)) (suc k) more) (points_from c trace (execute c st (batch_of trace k)) (suc k) more))
  where
    each : (p : ℕ) (xs : List Ran) → AllOf (λ x. k ≤ x.number) (map (ordered_point p k) xs)
    each p [] = tt
    each p (x ∷ xs) = (omega arith, each p xs)

    go : (o : Option ℕ) → AllOf (λ x. k ≤ x.number) (option_map_or (λ position. map (ordered_point position k) (ran_in c k st (requests_of (batch_of trace k)))) o [])
    go None = tt
    go (Some p) = each p (ran_in c k st (requests_of (batch_of trace k)))

pub points_ascend : (c : Configuration) (trace : List Entry) (st : State) (k more : ℕ) → Ascends (λ x. x.number) (ordered_points c trace st k more)
points_ascend c trace st k zero = tt
points_ascend c trace st k (suc more) = go (first_position c trace k) (points_ascend c trace (execute c st (batch_of trace k)) (suc k) more) (points_from c trace (execute c st (batch_of trace k)) (suc k) more)
  where
    each : (p : ℕ) (xs : List Ran) (rest : List Placing) → Ascends (λ x. x.number) rest → AllOf (λ x. suc k ≤ x.number) rest → Ascends (λ x. x.number) (map (ordered_point p k) xs ++ rest)
    each p [] rest a l = a
    each p (x ∷ xs) rest a l = (all_append (λ y. k ≤ y.number) (map (ordered_point p k) xs) rest (same xs) (all_weaker (λ y. suc k ≤ y.number) (λ y. k ≤ y.number) (λ y m. omega arith) rest l), each p xs rest a l)
      where
        same : (xs : List Ran) → AllOf (λ y. k ≤ y.number) (map (ordered_point p k) xs)
        same [] = tt
        same (y ∷ ys) = (omega arith, same ys)

    go : (o : Option ℕ) → Ascends (λ x. x.number) (ordered_points c trace (execute c st (batch_of trace k)) (suc k) more) → AllOf (λ x. suc k ≤ x.number) (ordered_points c trace (execute c st (batch_of trace k)) (suc k) more)
        → Ascends (λ x. x.number) (option_map_or (λ position. map (ordered_point position k) (ran_in c k st (requests_of (batch_of trace k)))) o [] ++ ordered_points c trace (execute c st (batch_of trace k)) (suc k) more)
    go None a l = a
    go (Some p) a l = each p (ran_in c k st (requests_of (batch_of trace k))) (ordered_points c trace (execute c st (batch_of trace k)) (suc k) more) a l

-- ---- the tuples at a number

tuples_append : (r : ℕ) (t : Contents) (xs ys : List Placing) → tuples_at r t (xs ++ ys) ≡ tuples_at r (tuples_at r t xs) ys
tuples_append r t [] ys = refl
tuples_append r t (x ∷ xs) ys = tuples_append r (cond (nat_le x.number r) (item_after t x.item) t) xs ys

ran_tuples : (c : Configuration) (position k r : ℕ) (st : State) (frames : List (List ℕ)) → k ≤ r → tuples_at r (tuples st) (map (ordered_point position k) (ran_in c k st frames)) ≡ tuples (fold (run_frame c k) st frames)
ran_tuples c position k r st [] l = refl
ran_tuples c position k r st (frame ∷ frames) l = go (call_of c frame) refl (ran_tuples c position k r (run_frame c k st frame) frames l)
  where
    step : (call : Call) (b : Bool)
        → tuples_at r (tuples (cond b (ran_call st k call) st)) (map (ordered_point position k) (ran_in c k (cond b (ran_call st k call) st) frames)) ≡ tuples (fold (run_frame c k) (cond b (ran_call st k call) st) frames)
        → tuples_at r (tuples st) (map (ordered_point position k) (cond b (record { call = call; kept = kept_by st k call } ∷ []) [] ++ ran_in c k (cond b (ran_call st k call) st) frames)) ≡ tuples (fold (run_frame c k) (cond b (ran_call st k call) st) frames)
    step call false below = below
    step call true below =
        let client : 256 + call.client - 256 ≡ call.client = omega arith in
        let e1 : cond (nat_le k r) (item_after (tuples st) (ordered_point position k (record { call = call; kept = kept_by st k call })).item) (tuples st) ≡ tuples_after (tuples st) call.client call.op =
        ap (λ (b : Bool). cond b (tuples_after (tuples st) (256 + call.client - 256) call.op) (tuples st)) (le-leb k r l) ∙ ap (λ (i : ℕ). tuples_after (tuples st) i call.op) client in
        let e2 : tuples_after (tuples st) call.client call.op ≡ tuples (ran_call st k call) = sym (tuples_of-state_after st.space call.client call.op) in
        ap (λ (t : Contents). tuples_at r t (map (ordered_point position k) (ran_in c k (ran_call st k call) frames))) (e1 ∙ e2) ∙ below

    go : (o : Option Call) → call_of c frame ≡ o
        → tuples_at r (tuples (option_map_or (run_call st k) o st)) (map (ordered_point position k) (ran_in c k (option_map_or (run_call st k) o st) frames)) ≡ tuples (fold (run_frame c k) (option_map_or (run_call st k) o st) frames)
        → tuples_at r (tuples st) (map (ordered_point position k) (option_map_or (ran_by st k) o [] ++ ran_in c k (option_map_or (run_call st k) o st) frames)) ≡ tuples (fold (run_frame c k) (option_map_or (run_call st k) o st) frames)
    go None is below = below
    go (Some call) is below = step call (runs st call) below

-- the tuples after the points of the first n numbers are those of the state after n batches
pub tuples_by : (c : Configuration) (trace : List Entry) (st : State) (k more n r : ℕ) → k ≡ suc st.number → r ≡ st.number + n → n ≤ more → ((j : ℕ) → k ≤ j → j ≤ r → (q : ℕ) × (first_position c trace j ≡ Some q))
    → tuples_at r (tuples st) (ordered_points c trace st k more) ≡ tuples (state_by c trace st k n)
unfolding state_by
tuples_by c trace st k more zero r is at le places = early r (tuples st) (ordered_points c trace st k more) (all_weaker (λ x. k ≤ x.number) (λ x. r < x.number) (λ x l. omega arith) (ordered_points c trace st k more) (points_from c trace st k more))
tuples_by c trace st k zero (suc n) r is at le places = absurd (omega arith)
tuples_by c trace st k (suc more) (suc n) r is at le places =
    let there : k ≤ r = omega arith in
    let self : k ≤ k = omega arith in
    let p = places k self there in
    let number = executed_number c st (batch_of trace k) in
    let is' : suc k ≡ suc (execute c st (batch_of trace k)).number = omega arith in
    let at' : r ≡ (execute c st (batch_of trace k)).number + n = omega arith in
    let le' : n ≤ more = omega arith in
    let rest = tuples_by c trace (execute c st (batch_of trace k)) (suc k) more n r is' at' le' (λ j a b. let l : k ≤ j = omega arith in places j l b) in
    let first : tuples_at r (tuples st) (map (ordered_point p.0 k) (ran_in c k st (requests_of (batch_of trace k)))) ≡ tuples (execute c st (batch_of trace k)) =
    ran_tuples c p.0 k r st (requests_of (batch_of trace k)) there ∙ ap (λ (x : ℕ). tuples (fold (run_frame c x) st (requests_of (batch_of trace k)))) is ∙ sym (executed_tuples c st (batch_of trace k)) in
    ap (λ (o : Option ℕ). tuples_at r (tuples st) (option_map_or (λ position. map (ordered_point position k) (ran_in c k st (requests_of (batch_of trace k)))) o [] ++ ordered_points c trace (execute c st (batch_of trace k)) (suc k) more)) p.1
    ∙ tuples_append r (tuples st) (map (ordered_point p.0 k) (ran_in c k st (requests_of (batch_of trace k)))) (ordered_points c trace (execute c st (batch_of trace k)) (suc k) more)
    ∙ ap (λ (t : Contents). tuples_at r t (ordered_points c trace (execute c st (batch_of trace k)) (suc k) more)) first
    ∙ rest
