-- A run and then an event of one party are a run.
use Rattle.std.proofs.Common.{◌≡◌, ℕ, ⊎_elim, Bool, true, false, List, [], ◌∷◌, ap, sym, ◌∙◌, subst}
use Rattle.std.proofs.lemmas.Bool.Decides.{eqb_tells}
use Rattle.wire_format.specs.Lists.{Each}
use Rattle.protocol.specs.System.Configuration.{Configuration, is_correct, is_correct_replica, is_correct_client}
use Rattle.protocol.specs.System.Trace.{Entry, party_of, is_output, history_of, Always}
use Rattle.protocol.specs.System.Run.{OutputFollows, IsRun}
use Rattle.protocol.specs.Replica.Owed.{IsReplica}
use Rattle.protocol.specs.Client.RightClient.{IsClient}
use Rattle.events.specs.Outputs.{after_entries}
use Rattle.journal.specs.Histories.{IsRight, IsOutputOf, IsEventOf}
use Rattle.journal.proofs.Events.{own_behind, other_behind}

-- ---- outputs follow

outputs_follow : (p : ℕ) (es : List Entry) (e : Entry) (past : List Entry) → party_of e ≡ p → Each (IsOutputOf p) es → Always OutputFollows (e ∷ past) → Always OutputFollows (after_entries es (e ∷ past))
outputs_follow p [] e past at are h = h
outputs_follow p (x ∷ es) e past at are h = outputs_follow p es x (e ∷ past) are.0.0 are.1 (λ o. at ∙ sym are.0.0, h)

input_follows : (e : Entry) (past : List Entry) → is_output e ≡ false → Always OutputFollows past → Always OutputFollows (e ∷ past)
input_follows e [] i h = (i, h)
input_follows e (before ∷ past) i h = (λ o. absurd (both (is_output e) i o), h)
  where
    both : (b : Bool) → b ≡ false → b ≡ true → ⊥
    both true f t = cc
    both false f t = cc

pub event_follows : (p : ℕ) (es past : List Entry) → IsEventOf p es → Always OutputFollows past → Always OutputFollows (after_entries es past)
event_follows p [] past event h = absurd event
event_follows p (e ∷ es) past event h = outputs_follow p es e past event.0 event.2 (input_follows e past event.1 h)

-- ---- parties are correct

outputs_correct : (c : Configuration) (p : ℕ) (es past : List Entry) → is_correct c p ≡ true → Each (IsOutputOf p) es → Always (λ past e. is_correct c (party_of e) ≡ true) past
    → Always (λ past e. is_correct c (party_of e) ≡ true) (after_entries es past)
outputs_correct c p [] past is are h = h
outputs_correct c p (e ∷ es) past is are h = outputs_correct c p es (e ∷ past) is are.1 (ap (is_correct c) are.0.0 ∙ is, h)

pub event_correct : (c : Configuration) (p : ℕ) (es past : List Entry) → is_correct c p ≡ true → IsEventOf p es → Always (λ past e. is_correct c (party_of e) ≡ true) past
    → Always (λ past e. is_correct c (party_of e) ≡ true) (after_entries es past)
event_correct c p [] past is event h = absurd event
event_correct c p (e ∷ es) past is event h = outputs_correct c p es (e ∷ past) is event.2 (ap (is_correct c) event.0 ∙ is, h)

-- ---- histories

-- each party's history stays as it was, or is longer by the event
histories : (P : List Entry → Type 0) (p q : ℕ) (es past history : List Entry) → IsEventOf p es → history_of p past ≡ history → (p ≡ q → P (after_entries es history)) → P (history_of q past) → P (history_of q (after_entries es past))
histories P p q es past history event is own other =
    ⊎_elim
    (λ a.
    let all : history_of p (after_entries es past) ≡ after_entries es history = own_behind p es past event ∙ ap (after_entries es) is in
    subst (λ (r : ℕ). P (history_of r (after_entries es past))) a.1 (subst P (sym all) (own a.1)))
    (λ a. subst P (sym (other_behind p q es past a.1 event)) other)
    (eqb_tells p q)

pub run_longer : (c : Configuration) (p : ℕ) (es past history : List Entry) → IsRun c past → history_of p past ≡ history → is_correct c p ≡ true → IsEventOf p es → IsRight c p (after_entries es history)
    → IsRun c (after_entries es past)
run_longer c p es past history run is correct event right = record {
  replicas = λ q at. histories (IsReplica c q) p q es past history event is
      (λ same. subst (λ (r : ℕ). IsReplica c r (after_entries es history)) same (right.replica (subst (λ (r : ℕ). is_correct_replica c r ≡ true) (sym same) at)))
      (run.replicas q at);
  clients = λ q at. histories (IsClient c q) p q es past history event is
      (λ same. subst (λ (r : ℕ). IsClient c r (after_entries es history)) same (right.client (subst (λ (r : ℕ). is_correct_client c r ≡ true) (sym same) at)))
      (run.clients q at);
  parties = event_correct c p es past correct event run.parties;
  events = event_follows p es past event run.events;
}

-- nothing has happened yet
pub run_empty : (c : Configuration) → IsRun c []
run_empty c = record { replicas = λ p at. tt; clients = λ p at. tt; parties = tt; events = tt }
