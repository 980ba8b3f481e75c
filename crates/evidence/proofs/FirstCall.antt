-- The first call of a client is a run.
use Rattle.std.proofs.Common.{◌≡◌, ℕ, ◌+◌, ◌*◌, ◌<◌, Bool, true, false, not, cond, List, [], ◌∷◌, inl, refl, subst, arith, ◌||◌, eqb-true}
use Rattle.std.specs.Prelude.{◌==◌}
use Rattle.std.proofs.lemmas.Bool.{and_parts, ltb-true}
use Rattle.tuple_codec.specs.Operations.{Operation, IsOperation}
use Rattle.protocol.specs.System.Configuration.{Configuration, IsConfiguration, is_replica, is_faulty_replica, is_correct_replica, is_correct_client, is_correct}
use Rattle.protocol.specs.System.Trace.Entry.{Invoke, Sent}
use Rattle.protocol.specs.Client.RightClient.{first_mode, IsRequest, IsClient}
use Rattle.protocol.specs.Replica.Owed.{IsReplica}
use Rattle.protocol.specs.System.Run.{IsRun}
use Rattle.evidence.specs.Examples.{FirstCallIsRun}

module _ (c : Configuration) (setting : IsConfiguration c) (k : ℕ) (op : Operation) (request : List ℕ) (correct : is_correct_client c (256 + k) ≡ true)
    (valid : IsOperation op) (asks : IsRequest c (256 + k) (first_mode op) (record { timestamp = 1; op = op }) request) where
  no_replica : (p : ℕ) → is_correct_replica c p ≡ true → 256 + k ≡ p → ⊥
  no_replica p h e =
      let l : p < 3 * c.faults + 1 = ltb-true p (3 * c.faults + 1) (and_parts (is_replica c p) (not (is_faulty_replica c p)) h).0 in
      let m = setting.most in
      omega arith

  replica : (p : ℕ) → is_correct_replica c p ≡ true → (b : Bool) → (256 + k == p) ≡ b → IsReplica c p (cond b (Sent (256 + k) request ∷ cond b (Invoke k 1 op ∷ []) []) (cond b (Invoke k 1 op ∷ []) []))
  replica p h true e = absurd (no_replica p h (eqb-true (256 + k) p e))
  replica p h false e = tt

  client : (p : ℕ) → (b : Bool) → (256 + k == p) ≡ b → IsClient c p (cond b (Sent (256 + k) request ∷ cond b (Invoke k 1 op ∷ []) []) (cond b (Invoke k 1 op ∷ []) []))
  client p true e = subst (λ (x : ℕ). IsClient c x (Sent (256 + k) request ∷ Invoke k 1 op ∷ [])) (eqb-true (256 + k) p e)
      (inl (refl, (refl, ((refl, refl, valid), (request, refl, asks), refl))))
  client p false e = tt

  here : is_correct c (256 + k) ≡ true
  here = go (is_correct_replica c (256 + k)) correct
    where
      go : (b : Bool) → is_correct_client c (256 + k) ≡ true → (b || is_correct_client c (256 + k)) ≡ true
      go true h = refl
      go false h = h

  pub is_run : IsRun c (Sent (256 + k) request ∷ Invoke k 1 op ∷ [])
  is_run = record {
    replicas = λ p h. replica p h (256 + k == p) refl;
    clients = λ p h. client p (256 + k == p) refl;
    parties = (here, (here, tt));
    events = (λ e. refl, (refl, tt));
  }

pub first_call_is_run : FirstCallIsRun
first_call_is_run c setting k op request correct valid asks = is_run c setting k op request correct valid asks
