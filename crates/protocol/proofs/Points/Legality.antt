-- The requests that run in the batches are legal, one after another.
use Rattle.std.proofs.Common.{◌≡◌, ℕ, zero, suc, ◌+◌, ◌-◌, ◌≤◌, Bool, true, false, cond, List, [], ◌∷◌, ◌++◌, length, map, fold, refl, sym, ap, ◌∙◌, subst, arith, Option, Some, None}
use Rattle.std.specs.Option.{option_map_or}
use Rattle.space.specs.Applying.{Contents, outcome, tuples_after}
use Rattle.protocol.specs.System.Configuration.{Configuration}
use Rattle.wire_format.specs.Words.{requests_of}
use Rattle.protocol.specs.System.Trace.{Entry}
use Rattle.protocol.specs.Replica.State.{State, Call, Ran, tuples, runs, run_call, call_of, run_frame, execute, ran_by, ran_in, kept_by}
use Rattle.protocol.specs.Space.Linear.{Item, LegalFrom, Placing, ordered_point, ordered_points, first_position, batch_of, is_level}
use Rattle.protocol.specs.Replica.Certificates.{first_given}
use Rattle.std.specs.Bool.{then_some}
use Rattle.quorum.specs.Votes.{or_else}
use Rattle.protocol.proofs.Points.Levels.{level_below}
use Rattle.space.proofs.Keeping.{tuples_of-state_after}
use Rattle.protocol.specs.Replica.State.{ran_call}
use Rattle.protocol.proofs.Words.Leaving.{executed_number}

abbrev pub item_of : ℕ → ℕ → Ran → Item
item_of position k ran = (ordered_point position k ran).item

-- the requests that run in some frames are legal, if what follows them is legal after these frames
pub legal_ran : (c : Configuration) (position k : ℕ) (st : State) (frames : List (List ℕ)) (rest : List Item) → LegalFrom (tuples (fold (run_frame c k) st frames)) rest
    → LegalFrom (tuples st) (map (item_of position k) (ran_in c k st frames) ++ rest)
legal_ran c position k st [] rest h = h
legal_ran c position k st (frame ∷ frames) rest h = go (call_of c frame) refl (legal_ran c position k (run_frame c k st frame) frames rest h)
  where
    after : (o : Option Call) → State
    after o = option_map_or (run_call st k) o st

    step : (call : Call) → (b : Bool)
        → LegalFrom (tuples (cond b (ran_call st k call) st)) (map (item_of position k) (ran_in c k (cond b (ran_call st k call) st) frames) ++ rest)
        → LegalFrom (tuples st) (map (item_of position k) (cond b (record { call = call; kept = kept_by st k call } ∷ []) [] ++ ran_in c k (cond b (ran_call st k call) st) frames) ++ rest)
    step call true below =
        let client : call.client ≡ 256 + call.client - 256 = omega arith in (
          ap (λ (i : ℕ). outcome (tuples st) i call.op) client,
          subst (λ (t : Contents). LegalFrom t (map (item_of position k) (ran_in c k (ran_call st k call) frames) ++ rest))
              (tuples_of-state_after st.space call.client call.op ∙ ap (λ (i : ℕ). tuples_after (tuples st) i call.op) client) below,
        )
    step call false below = below

    go : (o : Option Call) → call_of c frame ≡ o
        → LegalFrom (tuples (option_map_or (run_call st k) o st)) (map (item_of position k) (ran_in c k (option_map_or (run_call st k) o st) frames) ++ rest)
        → LegalFrom (tuples st) (map (item_of position k) (option_map_or (ran_by st k) o [] ++ ran_in c k (option_map_or (run_call st k) o st) frames) ++ rest)
    go None is below = below
    go (Some call) is below =
        step call (runs st call) below

-- ---- batch by batch

pub none_later : (c : Configuration) (k : ℕ) (xs : List Entry) → first_position c xs k ≡ None → first_position c xs (suc k) ≡ None
none_later c k [] h = refl
none_later c k (e ∷ past) h = go (first_given (λ past e. then_some (is_level c (e ∷ past) k) (length past)) past) refl (is_level c (e ∷ past) k) refl (is_level c (e ∷ past) (suc k)) refl h (none_later c k past)
  where
    go : (o : Option ℕ) → first_position c past k ≡ o → (x : Bool) → is_level c (e ∷ past) k ≡ x → (y : Bool) → is_level c (e ∷ past) (suc k) ≡ y
        → or_else o (then_some x (length past)) ≡ None → (first_position c past k ≡ None → first_position c past (suc k) ≡ None) → or_else (first_position c past (suc k)) (then_some y (length past)) ≡ None
    go (Some p) is x ex y ey g below = absurd cc
    go None is true ex y ey g below = absurd cc
    go None is false ex true ey g below = let l : k ≤ suc k = omega arith in absurd (let bad : false ≡ true = sym ex ∙ level_below c (e ∷ past) k (suc k) l ey in cc)
    go None is false ex false ey g below = rw (below is) refl

pub none_points : (c : Configuration) (trace : List Entry) (st : State) (k more : ℕ) → first_position c trace k ≡ None → ordered_points c trace st k more ≡ []
none_points c trace st k zero h = refl
none_points c trace st k (suc more) h =
    rw h (none_points c trace (execute c st (batch_of trace k)) (suc k) more (none_later c k trace h))

pub map_items : (xs ys : List Placing) → map (λ (x : Placing). x.item) (xs ++ ys) ≡ map (λ (x : Placing). x.item) xs ++ map (λ (x : Placing). x.item) ys
map_items [] ys = refl
map_items (x ∷ xs) ys = ap (λ t. x.item ∷ t) (map_items xs ys)

pub ran_items : (position k : ℕ) (rans : List Ran) → map (λ (x : Placing). x.item) (map (ordered_point position k) rans) ≡ map (item_of position k) rans
ran_items position k [] = refl
ran_items position k (x ∷ xs) = ap (λ t. item_of position k x ∷ t) (ran_items position k xs)

pub executed_tuples : (c : Configuration) (st : State) (batch : List ℕ) → tuples (execute c st batch) ≡ tuples (fold (run_frame c (suc st.number)) st (requests_of batch))
unfolding execute
executed_tuples c st batch = refl

-- the ordered requests of all batches whose level comes are legal, one after another
pub legal_ordered : (c : Configuration) (trace : List Entry) (st : State) (k more : ℕ) → k ≡ suc st.number → LegalFrom (tuples st) (map (λ (x : Placing). x.item) (ordered_points c trace st k more))
legal_ordered c trace st k zero is = tt
legal_ordered c trace st k (suc more) is = go (first_position c trace k) refl (legal_ordered c trace (execute c st (batch_of trace k)) (suc k) more next)
  where
    next : suc k ≡ suc (execute c st (batch_of trace k)).number
    next = let n = executed_number c st (batch_of trace k) in omega arith

    go : (o : Option ℕ) → first_position c trace k ≡ o → LegalFrom (tuples (execute c st (batch_of trace k))) (map (λ (x : Placing). x.item) (ordered_points c trace (execute c st (batch_of trace k)) (suc k) more))
        → LegalFrom (tuples st) (map (λ (x : Placing). x.item) (option_map_or (λ position. map (ordered_point position k) (ran_in c k st (requests_of (batch_of trace k)))) o [] ++ ordered_points c trace (execute c st (batch_of trace k)) (suc k) more))
    go None e below = rw (none_points c trace (execute c st (batch_of trace k)) (suc k) more (none_later c k trace e)) tt
    go (Some position) e below =
        let rest : List Item = map (λ (x : Placing). x.item) (ordered_points c trace (execute c st (batch_of trace k)) (suc k) more) in
        let at : LegalFrom (tuples (fold (run_frame c k) st (requests_of (batch_of trace k)))) (map (λ (x : Placing). x.item) (ordered_points c trace (execute c st (batch_of trace k)) (suc k) more)) =
        subst (λ (n : ℕ). LegalFrom (tuples (fold (run_frame c n) st (requests_of (batch_of trace k)))) (map (λ (x : Placing). x.item) (ordered_points c trace (execute c st (batch_of trace k)) (suc k) more))) (sym is)
        (subst (λ (t : Contents). LegalFrom t (map (λ (x : Placing). x.item) (ordered_points c trace (execute c st (batch_of trace k)) (suc k) more))) (executed_tuples c st (batch_of trace k)) below) in
        let ran = legal_ran c position k st (requests_of (batch_of trace k)) (map (λ (x : Placing). x.item) (ordered_points c trace (execute c st (batch_of trace k)) (suc k) more)) at in
        let shape : map (λ (x : Placing). x.item) (map (ordered_point position k) (ran_in c k st (requests_of (batch_of trace k))) ++ ordered_points c trace (execute c st (batch_of trace k)) (suc k) more)
        ≡ map (item_of position k) (ran_in c k st (requests_of (batch_of trace k))) ++ map (λ (x : Placing). x.item) (ordered_points c trace (execute c st (batch_of trace k)) (suc k) more) =
        map_items (map (ordered_point position k) (ran_in c k st (requests_of (batch_of trace k)))) (ordered_points c trace (execute c st (batch_of trace k)) (suc k) more)
        ∙ ap (λ t. t ++ map (λ (x : Placing). x.item) (ordered_points c trace (execute c st (batch_of trace k)) (suc k) more)) (ran_items position k (ran_in c k st (requests_of (batch_of trace k)))) in
        subst (λ (t : List Item). LegalFrom (tuples st) t) (sym shape) ran
