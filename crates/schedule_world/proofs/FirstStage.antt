-- The stage before the first step.
use Rattle.std.proofs.Common.{◌≡◌, ℕ, ◌+◌, ◌<◌, Bool, true, false, ◌==◌, List, [], ◌∷◌, ◌++◌, length, get_or, Some, refl, sym, ap, ◌∙◌, subst, arith, eqb-true}
use Rattle.std.specs.Prelude.{slice_get}
use Rattle.std.proofs.lemmas.List.{length-append, get_or_push, get_or_append_left}
use Rattle.std.proofs.lemmas.Bool.{both_ways}
use Rattle.authenticator.specs.Keys.{signing_seed}
use Rattle.signing.specs.Signatures.{public_key}
use Rattle.signing.proofs.Publics.{one_within}
use Rattle.protocol.specs.System.Configuration.{Configuration, IsConfiguration, replicas}
use Rattle.protocol.specs.System.Schedule.{new_world}
use Rattle.schedule_world.specs.declared.stage.Stage.{Stage}
use Rattle.schedule_world.specs.Opening.{AreNewReplicas, AreNewStageClients}
use Rattle.schedule_world.specs.Stages.{PartiesArePlaced, StageIsAfterSteps}
use Rattle.replica.specs.State.{has_stopped}
use Rattle.schedule_world.proofs.Attending.{replica_below, apart_from}
use Rattle.schedule_world.proofs.Pools.{pool_new}
use Rattle.schedule_world.proofs.Reached.{reaches_first}
use Rattle.schedule_world.proofs.Standing.{client_below}

-- there are n elements, and each is right for its place
pub record AreFirst {X : Type 0} (P : ℕ → X → Type 0) (xs : List X) (n : ℕ) : Type 0 where
  pub count : length xs ≡ n
  pub each : (p : ℕ) (d : X) → p < n → P p (get_or xs p d)

pub none_first : {X : Type 0} (P : ℕ → X → Type 0) → AreFirst P [] 0
none_first P = record { count = refl; each = λ p d lt. absurd (omega (arith, lt)) }

pub more_first : {X : Type 0} (P : ℕ → X → Type 0) (xs : List X) (n : ℕ) (x : X) → AreFirst P xs n → P n x → AreFirst P (xs ++ x ∷ []) (n + 1)
more_first {X} P xs n x h right = record {
  count = length-append xs (x ∷ []) ∙ ap (λ k. k + 1) h.count;
  each = λ p d lt. go p d lt (p == n) refl;
}
  where
    below : (p : ℕ) → p < n + 1 → (p ≡ n → ⊥) → p < n
    below p lt apart = omega (arith, lt, apart)

    go : (p : ℕ) (d : X) → p < n + 1 → (b : Bool) → (p == n) ≡ b → P p (get_or (xs ++ x ∷ []) p d)
    go p d lt true e =
        let same : p ≡ n = eqb-true p n e in
        let at : get_or (xs ++ x ∷ []) p d ≡ x = ap (λ k. get_or (xs ++ x ∷ []) k d) same ∙ get_or_push xs x d n h.count in
        rw at (subst (λ k. P k x) (sym same) right)
    go p d lt false e =
        let apart = apart_from n p e in
        let before : p < n = below p lt apart in
        let within : p < length xs = omega (arith, before, h.count) in
        rw (get_or_append_left xs (x ∷ []) d p within) (h.each p d before)

-- the public key of a replica's signer is among those of the configuration
pub own_public : (c : Configuration) → IsConfiguration c → (publics : List (List ℕ)) (p : ℕ) (seed : List ℕ) → publics ≡ c.publics → seed ≡ signing_seed c.seed p
    → p < replicas c → slice_get publics p ≡ Some (public_key seed)
own_public c valid publics p seed known own below =
    ap (λ (keys : List (List ℕ)). slice_get keys p) (known ∙ valid.publics) ∙ one_within c.seed c.faults p below ∙ ap (λ (s : List ℕ). Some (public_key s)) (sym own)

pub placed_first : (c : Configuration) (s : Stage) → IsConfiguration c → AreNewReplicas c s.replicas.items → AreNewStageClients c s.stage_clients.items → PartiesArePlaced c s
placed_first c s valid rs stage_clients = record {
  valid = valid;
  replicas = rs.count;
  clients = stage_clients.count;
  numbers = λ p d lt. (rs.each p d lt).number;
  client_numbers = λ k d lt. (stage_clients.each k d lt).number;
}

pub at_first : (c : Configuration) (s : Stage) → AreNewReplicas c s.replicas.items → AreNewStageClients c s.stage_clients.items → s.pool ≡ [] → s.trace.items ≡ [] → s.accepted.items ≡ [] → StageIsAfterSteps c [] [] s
at_first c s rs stage_clients pool trace accepted = record {
  world = new_world;
  stands = record {
    shows = record { past = rw trace refl; frames = rw pool (pool_new c); accepted = rw accepted refl };
    attend = record {
      replicas = λ p d h.
          let below = replica_below c p h in
          let new = rs.each p d (omega (arith, below, rs.count)) in
          (new.fits, λ stopped. absurd (both_ways (has_stopped (get_or s.replicas.items p d)) new.runs stopped));
      clients = λ k d h. let below = client_below c k h in (stage_clients.each k d (omega (arith, below, stage_clients.count))).fits;
    };
    orderly = record { parties = tt; events = tt };
  };
  reaches = reaches_first c [];
}
