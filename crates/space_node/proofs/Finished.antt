-- The result of a finished cluster.
use Rattle.std.proofs.Common.{◌≡◌, ℕ, ◌+◌, ◌<◌, ◌≤◌, List, [], ◌∷◌, ◌++◌, length, get_or, take, map, refl, sym, ap, ◌∙◌, subst}
use Rattle.std.proofs.lemmas.List.{map-append, take_all, take_more}
use Rattle.std.proofs.lemmas.List.Elements.{All-push, All-same}
use Rattle.terms.specs.declared.parties.ReplicaId.{ReplicaId}
use Rattle.protocol.specs.System.Configuration.{Configuration, IsConfiguration}
use Rattle.protocol.specs.System.Run.{IsRun}
use Rattle.protocol.specs.System.Trace.{Entry}
use Rattle.protocol.specs.Laws.Runs.{PointsAreLinear}
use Rattle.protocol.proofs.Points.Whole.{runs_are_of_lives}
use Rattle.protocol.specs.Replica.Owed.{IsPromptReplica}
use Rattle.journal.specs.Carrying.{Carried}
use Rattle.journal.specs.Histories.{correct_replicas}
use Rattle.journal.specs.Laws.{CarriedIsUnforged}
use Rattle.space_node.specs.Runs.{AreNamed, ClientsArePrompt, HasHistories, IsFinished, ReplicasArePrompt, Serves}
use Rattle.space_node.specs.PartyStates.{PartyState}

-- ---- the shares of correct replicas, one after another

parties_more : (shares : List PartyState) (share : PartyState) → map (λ (s : PartyState). s.party) (shares ++ share ∷ []) ≡ map (λ (s : PartyState). s.party) shares ++ share.party ∷ []
parties_more [] share = refl
parties_more (s ∷ shares) share = ap (λ (ps : List ℕ). s.party ∷ ps) (parties_more shares share)

numbers_more : (replicas : List ReplicaId) (i : ℕ) (d : ReplicaId) → i < length replicas
    → map (λ (r : ReplicaId). r.0) (take (i + 1) replicas) ≡ map (λ (r : ReplicaId). r.0) (take i replicas) ++ (get_or replicas i d).0 ∷ []
numbers_more replicas i d low =
    ap (map (λ (r : ReplicaId). r.0)) (take_more replicas i d low) ∙ map-append (λ (r : ReplicaId). r.0) (take i replicas) (get_or replicas i d ∷ [])

pub shares_more : (replicas : List ReplicaId) (i : ℕ) (d : ReplicaId) (shares more : List PartyState) (share : PartyState) → i < length replicas
    → share.party ≡ (get_or replicas i d).0 → more ≡ shares ++ share ∷ [] → map (λ (s : PartyState). s.party) shares ≡ map (λ (r : ReplicaId). r.0) (take i replicas)
    → map (λ (s : PartyState). s.party) more ≡ map (λ (r : ReplicaId). r.0) (take (i + 1) replicas)
shares_more replicas i d shares more share low who grown are =
    ap (map (λ (s : PartyState). s.party)) grown ∙ (parties_more shares share
    ∙ (ap (λ (ps : List ℕ). ps ++ share.party ∷ []) are
    ∙ (ap (λ (p : ℕ). map (λ (r : ReplicaId). r.0) (take i replicas) ++ p ∷ []) who ∙ sym (numbers_more replicas i d low))))

pub shares_are : (c : Configuration) (replicas : List ReplicaId) (i : ℕ) (shares : List PartyState) → Serves c replicas → length replicas ≤ i
    → map (λ (s : PartyState). s.party) shares ≡ map (λ (r : ReplicaId). r.0) (take i replicas) → map (λ (s : PartyState). s.party) shares ≡ correct_replicas c
shares_are c replicas i shares serves all are =
    are ∙ (ap (map (λ (r : ReplicaId). r.0)) (take_all i replicas all) ∙ serves.correct_are)

pub prompt_more : (c : Configuration) (shares more : List PartyState) (share : PartyState) → more ≡ shares ++ share ∷ [] → ReplicasArePrompt c shares → IsPromptReplica c share.party share.history
    → ReplicasArePrompt c more
prompt_more c shares more share is old new =
    All-same (λ (s : PartyState). IsPromptReplica c s.party s.history) more (shares ++ share ∷ []) is
    (All-push (λ (s : PartyState). IsPromptReplica c s.party s.history) shares share old new)

pub finished : (c : Configuration) (old trace : List Entry) (shares : List PartyState) (stopped : List ℕ) (clients : List PartyState) → CarriedIsUnforged → PointsAreLinear → IsConfiguration c
    → map (λ (s : PartyState). s.party) shares ≡ correct_replicas c → trace ≡ old → IsRun c trace → Carried c trace → HasHistories old shares → HasHistories old clients
    → ReplicasArePrompt c shares → ClientsArePrompt c clients → AreNamed stopped shares clients → IsFinished c trace shares stopped clients
finished c old trace shares stopped clients unforge linear valid are is run carried has has_clients replicas_prompt clients_prompt named = record {
  whole = record {
    run = run;
    carried = carried;
    shares_are = subst (λ (t : List Entry). HasHistories t shares) (sym is) has;
    clients_are = subst (λ (t : List Entry). HasHistories t clients) (sym is) has_clients;
  };
  replicas_prompt = replicas_prompt;
  clients_prompt = clients_prompt;
  named = named;
  replicas_are = are;
  unforged = λ faultless. unforge c trace faultless.0 faultless.1 run carried;
  linear = λ unforged apart. linear c valid trace (runs_are_of_lives c trace run) unforged apart;
}
