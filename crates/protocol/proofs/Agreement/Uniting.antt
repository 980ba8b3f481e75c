-- States of one number are one state.
use Rattle.std.proofs.Common.{◌≡◌, ℕ, ◌+◌, List, [], ◌∷◌, length, refl, sym, ap, ap₂, ◌∙◌, arith}
use Rattle.protocol.specs.System.Configuration.{Configuration, IsConfiguration}
use Rattle.protocol.specs.System.Trace.{Entry, Unforged}
use Rattle.protocol.specs.Replica.State.{State, opening, after_batches}
use Rattle.protocol.specs.System.Texts.{NoCollision}
use Rattle.protocol.specs.Laws.Histories.{AreReplicasSafe, AreExecuted, IsStateOf, StatesAreExecuted, StatesAgree}
use Rattle.protocol.proofs.Agreement.Executing.{executed_agree}
use Rattle.protocol.proofs.Agreement.States.{number_after, had_executed}

pub same_batches : (c : Configuration) → IsConfiguration c → (trace : List Entry) → AreReplicasSafe c trace → Unforged c trace → NoCollision c trace
    → (first : ℕ) (xs ys : List (List ℕ)) → length xs ≡ length ys → AreExecuted c trace first xs → AreExecuted c trace first ys → xs ≡ ys
same_batches c setting trace right unforged apart first [] [] n a b = refl
same_batches c setting trace right unforged apart first [] (y ∷ ys) n a b = absurd (omega arith)
same_batches c setting trace right unforged apart first (x ∷ xs) [] n a b = absurd (omega arith)
same_batches c setting trace right unforged apart first (x ∷ xs) (y ∷ ys) n a b =
    let m : length xs ≡ length ys = omega arith in
    ap₂ (λ (u : List ℕ) (us : List (List ℕ)). u ∷ us) (executed_agree c setting trace right unforged apart first x y a.0 b.0)
    (same_batches c setting trace right unforged apart (first + 1) xs ys m a.1 b.1)

pub same_state_of : (c : Configuration) → IsConfiguration c → (trace : List Entry) → AreReplicasSafe c trace → Unforged c trace → NoCollision c trace
    → (x y : State) → IsStateOf c trace x → IsStateOf c trace y → x.number ≡ y.number → x ≡ y
same_state_of c setting trace right unforged apart x y a b n =
    let m = number_after c opening a.batches in
    let k = number_after c opening b.batches in
    let xn : x.number ≡ (after_batches c opening a.batches).number = ap (λ (s : State). s.number) a.is in
    let yn : y.number ≡ (after_batches c opening b.batches).number = ap (λ (s : State). s.number) b.is in
    let l : length a.batches ≡ length b.batches = omega arith in
    let same = same_batches c setting trace right unforged apart 1 a.batches b.batches l a.executed b.executed in
    a.is ∙ ap (after_batches c opening) same ∙ sym b.is

pub all_states_executed : StatesAreExecuted
all_states_executed c setting trace right unforged apart st h = had_executed c setting trace right unforged apart st h

pub all_states_agree : StatesAgree
all_states_agree c setting trace right unforged apart x y a b n =
    same_state_of c setting trace right unforged apart x y (had_executed c setting trace right unforged apart x a) (had_executed c setting trace right unforged apart y b) n
