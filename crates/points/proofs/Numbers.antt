-- Numbers that a scan skips.
use Rattle.std.proofs.Common.{◌≡◌, ℕ, zero, suc, List, [], ◌∷◌, ◌++◌, map, fold, inl, inr, refl, sym, ap, ◌∙◌, subst, Option, Some, None}
use Rattle.std.specs.Option.{option_map_or}
use Rattle.protocol.specs.System.Configuration.{Configuration}
use Rattle.protocol.specs.System.Trace.{Entry}
use Rattle.protocol.specs.Replica.Selection.{null_batch}
use Rattle.wire_format.specs.Words.{requests_of}
use Rattle.wire_format.specs.Reading.{requests_at}
use Rattle.protocol.specs.Replica.State.{State, execute, run_frame, ran_in}
use Rattle.protocol.specs.Space.Linear.{Placing, ordered_point, ordered_points, first_position, batch_of}
use Rattle.points.specs.Numbering.{Numbered, numbered_points}
use Rattle.points.proofs.Listing.{Lists}

pub nothing_requested : requests_of null_batch ≡ []
unfolding requests_at requests_of
nothing_requested = refl

-- the null batch changes only the number, and runs nothing
pub null_execute : (c : Configuration) (st : State) → execute c st null_batch ≡ record st { number = suc st.number }
unfolding execute
null_execute c st = ap (λ (xs : List (List ℕ)). let y : State = record (fold (run_frame c (suc st.number)) st xs) { number = suc st.number } in y) nothing_requested

pub null_runs : (c : Configuration) (k : ℕ) (st : State) → ran_in c k st (requests_of null_batch) ≡ []
null_runs c k st = ap (ran_in c k st) nothing_requested

abbrev with_number : ℕ → State → State
with_number n st = record st { number = n }

pub any_number : (c : Configuration) (place : ℕ → Option ℕ) (st : State) (j k : ℕ) (xs : List Numbered) → numbered_points c place (with_number j st) xs ≡ numbered_points c place (with_number k st) xs
any_number c place st j k [] = refl
any_number c place st j k (x ∷ xs) = refl

no_points : (k : ℕ) (o : Option ℕ) → option_map_or (λ position. map (ordered_point position k) []) o [] ≡ []
no_points k None = refl
no_points k (Some p) = refl

own_number : (c : Configuration) (st : State) (k : ℕ) (batch : List ℕ) → with_number (suc k) (execute c (with_number k st) batch) ≡ execute c (with_number k st) batch
unfolding execute
own_number c st k batch = refl

-- the points, from a state of whatever number
pub from_any : (c : Configuration) (trace : List Entry) (st : State) (k more : ℕ) (xs : List Numbered) → Lists (batch_of trace) (suc k) more xs
    → ordered_points c trace (with_number k st) (suc k) more ≡ numbered_points c (first_position c trace) (with_number k st) xs
from_any c trace st k zero xs l = ap (numbered_points c (first_position c trace) (with_number k st)) (sym l)
from_any c trace st k (suc more) xs (inl l) =
    ap (λ (batch : List ℕ). points_of batch ++ ordered_points c trace (execute c (with_number k st) batch) (suc (suc k)) more) l.0
    ∙ ap (λ (ys : List Placing). ys ++ ordered_points c trace (execute c (with_number k st) null_batch) (suc (suc k)) more) none
    ∙ ap (λ (s : State). ordered_points c trace s (suc (suc k)) more) (null_execute c (with_number k st))
    ∙ from_any c trace st (suc k) more xs l.1
    ∙ any_number c (first_position c trace) st (suc k) k xs
  where
    points_of : List ℕ → List Placing
    points_of batch = option_map_or (λ position. map (ordered_point position (suc k)) (ran_in c (suc k) (with_number k st) (requests_of batch))) (first_position c trace (suc k)) []

    none : points_of null_batch ≡ []
    none = ap (λ ran. option_map_or (λ position. map (ordered_point position (suc k)) ran) (first_position c trace (suc k)) []) (null_runs c (suc k) (with_number k st)) ∙ no_points (suc k) (first_position c trace (suc k))
from_any c trace st k (suc more) xs (inr l) =
    ap (λ (ys : List Placing). ran ++ ys) (
    ap (λ (s : State). ordered_points c trace s (suc (suc k)) more) (sym (own_number c st k (batch_of trace (suc k))))
    ∙ from_any c trace (execute c (with_number k st) (batch_of trace (suc k))) (suc k) more l.0 l.2
    ∙ ap (λ (s : State). numbered_points c (first_position c trace) s l.0) (own_number c st k (batch_of trace (suc k))))
    ∙ ap (numbered_points c (first_position c trace) (with_number k st)) (sym l.1)
  where
    ran : List Placing
    ran = option_map_or (λ position. map (ordered_point position (suc k)) (ran_in c (suc k) (with_number k st) (requests_of (batch_of trace (suc k))))) (first_position c trace (suc k)) []

pub ordered_are : (c : Configuration) (trace : List Entry) (st : State) (k more : ℕ) (xs : List Numbered) → st.number ≡ k → Lists (batch_of trace) (suc k) more xs
    → ordered_points c trace st (suc k) more ≡ numbered_points c (first_position c trace) st xs
ordered_are c trace st k more xs e l =
    subst (λ n. ordered_points c trace (with_number n st) (suc k) more ≡ numbered_points c (first_position c trace) (with_number n st) xs) (sym e) (from_any c trace st k more xs l)
