-- The batches that were executed first are the executed ones.
use Rattle.std.proofs.Common.{◌≡◌, ℕ, ◌+◌, inl, inr, Bool, List, [], ◌∷◌, refl, ap, ◌∙◌, ◌&&◌, Option, Some, None, eqb-true, eq-eqb}
use Rattle.std.specs.Prelude.{◌==◌}
use Rattle.std.specs.Bool.{then_some}
use Rattle.std.proofs.lemmas.Bool.{and_parts, and_from}
use Rattle.quorum.specs.Votes.{or_else}
use Rattle.protocol.specs.System.Configuration.{Configuration, IsConfiguration, is_correct_replica}
use Rattle.protocol.specs.System.Trace.{Entry, Once, Unforged}
use Rattle.protocol.specs.System.Trace.Entry.{Invoke, Executed}
use Rattle.protocol.specs.System.Texts.{NoCollision, batch_by, first_batch, AreFirstBatches}
use Rattle.protocol.specs.Laws.Histories.{AreReplicasSafe, ExecutesBatch, AreExecuted}
use Rattle.protocol.proofs.Words.Temporal.{once_weaker}
use Rattle.protocol.proofs.Words.Options.{given_once, given_stays, then_some_gives}
use Rattle.protocol.proofs.Agreement.Executing.{executed_agree}

pub by_executes : (c : Configuration) (k : ℕ) (b : List ℕ) (past : List Entry) (e : Entry) → batch_by c k e ≡ Some b → ExecutesBatch c k b past e
by_executes c k b past (Executed r number text) h =
    let g = then_some_gives (is_correct_replica c r && (number == k)) text b h in
    let p = and_parts (is_correct_replica c r) (number == k) g.0 in
    (p.0, eqb-true number k p.1, g.1)
by_executes c k b past (Invoke x y z) h = absurd cc
by_executes c k b past _ h = absurd cc

executes_by : (c : Configuration) (k : ℕ) (b : List ℕ) (past : List Entry) (e : Entry) → ExecutesBatch c k b past e → batch_by c k e ≡ Some b
executes_by c k b past (Executed r number text) h =
    ap (λ (x : Bool). then_some x text) (and_from (is_correct_replica c r) (number == k) h.0 (eq-eqb number k h.1)) ∙ ap Some h.2
executes_by c k b past (Invoke x y z) h = absurd h
executes_by c k b past _ h = absurd h

pub first_executes : (c : Configuration) (k : ℕ) (b : List ℕ) (xs : List Entry) → first_batch c xs k ≡ Some b → Once (ExecutesBatch c k b) xs
first_executes c k b xs h =
    once_weaker (λ past e. batch_by c k e ≡ Some b) (ExecutesBatch c k b) (λ past e t. by_executes c k b past e t) xs
    (given_once (λ past e. batch_by c k e) b xs h)

some_first : (c : Configuration) (k : ℕ) (b : List ℕ) (xs : List Entry) → Once (ExecutesBatch c k b) xs → (x : List ℕ) × (first_batch c xs k ≡ Some x)
some_first c k b [] h = absurd h
some_first c k b (e ∷ past) (inr h) =
    let s = some_first c k b past h in (s.0, given_stays (λ past e. batch_by c k e) s.0 e past s.1)
some_first c k b (e ∷ past) (inl h) = go (first_batch c past k)
  where
    go : (o : Option (List ℕ)) → (x : List ℕ) × (or_else o (batch_by c k e) ≡ Some x)
    go None = (b, executes_by c k b past e h)
    go (Some x) = (x, refl)

pub first_later : (c : Configuration) (e : Entry) (xs : List Entry) (k : ℕ) (batches : List (List ℕ)) → AreFirstBatches c xs k batches → AreFirstBatches c (e ∷ xs) k batches
first_later c e xs k [] h = tt
first_later c e xs k (b ∷ batches) h = (given_stays (λ past e. batch_by c k e) b e xs h.0, first_later c e xs (k + 1) batches h.1)

pub executed_first : (c : Configuration) → IsConfiguration c → (trace : List Entry) → AreReplicasSafe c trace → Unforged c trace → NoCollision c trace
    → (k : ℕ) (batches : List (List ℕ)) → AreExecuted c trace k batches → AreFirstBatches c trace k batches
executed_first c setting trace right unforged apart k [] h = tt
executed_first c setting trace right unforged apart k (b ∷ batches) h =
    let s = some_first c k b trace h.0 in
    let same = executed_agree c setting trace right unforged apart k s.0 b (first_executes c k s.0 trace s.1) h.0 in
    (s.1 ∙ ap Some same, executed_first c setting trace right unforged apart (k + 1) batches h.1)
