-- From what a part of a step shows to the reason.
use Rattle.std.proofs.Common.{◌≡◌, ℕ, ◌<◌, ◌≤◌, Bool, true, false, inl, inr, List, ◌∷◌, length, map, refl, sym, subst, arith, Option, None, Some, MatchOption}
use Rattle.std.specs.Prelude.{◌&&◌, ◌||◌, nat_lt}
use Rattle.std.specs.List.{list_all}
use Rattle.std.proofs.lemmas.Bool.{and_from, le-ltb, lt-ltb}
use Rattle.terms.specs.Parties.{client_party, party_number}
use Rattle.terms.specs.declared.parties.Party.{Party}
use Rattle.wire_format.specs.Lists.{ascends}
use Rattle.schedule_world.proofs.Meant.{are_receivers}
use Rattle.tuple_codec.specs.Operations.{Operation, IsOperation}
use Rattle.protocol.specs.Client.RightClient.{open_call}
use Rattle.protocol.specs.System.Configuration.{Configuration, IsConfiguration, replicas, is_correct, is_correct_client, is_replica}
use Rattle.protocol.specs.System.Trace.{history_of}
use Rattle.protocol.specs.System.Schedule.{World, Step, AreReceivers, IsAllowed, is_party}
use Rattle.protocol.specs.System.Schedule.Step.{calls, sign}
use Rattle.schedule_command.specs.Allowed.{IsCall, IsReason, receivers_named}
use Rattle.schedule_command.specs.Misfits.{FitsParties, MisfitsSigner, MisfitsOrder, MisfitsReceivers}
use Rattle.schedule_command.specs.declared.allowed.NotAllowed.{NotAllowed}
use Rattle.schedule_command.specs.declared.allowed.NotAllowed.TheVariants as why

-- a step that signs, whose party or leaf is none
pub signer_reason : (c : Configuration) (w : World) (replica leaf : ℕ) (receivers body : List ℕ) (reason : NotAllowed) → MisfitsSigner c replica leaf reason → IsReason c w (sign replica leaf receivers body) reason
signer_reason c w replica leaf receivers body (why.NoParty name) k =
    (inr (inl k.0), subst (λ q. is_party c q ≡ false) (sym k.0) k.1)
signer_reason c w replica leaf receivers body (why.Correct name) k =
    (k.0, subst (λ q. is_correct c q ≡ true) (sym k.0) k.1)
signer_reason c w replica leaf receivers body (why.NoReplica name) k =
    ((leaf, (k.0, refl)), subst (λ q. is_replica c q ≡ false) (sym k.0) k.1)
signer_reason c w replica leaf receivers body (why.NoLeaf n) k = ((replica, (refl, k.0)), subst (λ m. 64 ≤ m) (sym k.0) k.1)
signer_reason c w replica leaf receivers body (why.Faulty name) k = absurd k
signer_reason c w replica leaf receivers body (why.Busy name) k = absurd k
signer_reason c w replica leaf receivers body (why.NoFrame frame made) k = absurd k
signer_reason c w replica leaf receivers body (why.Receivers count) k = absurd k
signer_reason c w replica leaf receivers body (why.NotAscending first second) k = absurd k

-- a step that makes a frame for these
pub receivers_reason : (c : Configuration) (w : World) (step : Step) (reason : NotAllowed) → MisfitsReceivers c (receivers_named step) reason → IsReason c w step reason
receivers_reason c w step (why.NoParty name) k = (inr (inr k.0), k.1)
receivers_reason c w step (why.Receivers count) k = k
receivers_reason c w step (why.NotAscending first second) k = k
receivers_reason c w step (why.Faulty name) k = absurd k
receivers_reason c w step (why.Correct name) k = absurd k
receivers_reason c w step (why.NoReplica name) k = absurd k
receivers_reason c w step (why.Busy name) k = absurd k
receivers_reason c w step (why.NoFrame frame made) k = absurd k
receivers_reason c w step (why.NoLeaf leaf) k = absurd k

-- ---- what is found

-- A reason for the step, or none if its parties fit.
abbrev Found : Configuration → Step → Option NotAllowed → Type 0
Found c step found = MatchOption found (FitsParties c step) (λ reason. (w : World) → IsReason c w step reason)

pub receivers_found : (c : Configuration) (step : Step) (found : Option NotAllowed) → (AreReceivers c (receivers_named step) → FitsParties c step)
    → MatchOption found (AreReceivers c (receivers_named step)) (MisfitsReceivers c (receivers_named step)) → Found c step found
receivers_found c step None fits h = fits h
receivers_found c step (Some reason) fits h = λ w. receivers_reason c w step reason h

-- ---- the last reasons

or_false : (a b x : Bool) → a ≡ false → ((a && x) || b) ≡ true → b ≡ true
or_false a b x e h = subst (λ y. ((y && x) || b) ≡ true) e h

-- A correct party with a client's number is a correct client: there are at most 10 replicas.
client_correct : (c : Configuration) (k : ℕ) → IsConfiguration c → is_correct c (client_party k) ≡ true → is_correct_client c (client_party k) ≡ true
client_correct c k valid e = or_false _ _ _ none e
  where
    none : is_replica c (client_party k) ≡ false
    none = le-ltb (client_party k) (replicas c) (omega (arith, valid.most))

busy : (c : Configuration) (w : World) (k : ℕ) (op : Operation) → is_correct_client c (client_party k) ≡ true → IsOperation op → (IsAllowed c w (calls k op) → ⊥)
    → open_call (history_of (client_party k) w.past) ≡ None → ⊥
busy c w k op correct valid refused none = refused (correct, none, valid)

-- the call of a correct client that isn't allowed
pub why_busy : (c : Configuration) (k : ℕ) (op : Operation) → IsConfiguration c → is_correct c (client_party k) ≡ true → IsOperation op
    → (w : World) → (IsAllowed c w (calls k op) → ⊥) → IsCall (calls k op) (client_party k) × (open_call (history_of (client_party k) w.past) ≡ None → ⊥)
why_busy c k op valid correct ranged w refused = (refl, busy c w k op (client_correct c k valid correct) ranged refused)

-- ---- receivers

-- one more party in front
pub order_more : (x y : ℕ) (zs : List ℕ) (found : Option NotAllowed) → x < y → MatchOption found (ascends nat_lt (y ∷ zs) ≡ true) (MisfitsOrder (y ∷ zs))
    → MatchOption found (ascends nat_lt (x ∷ y ∷ zs) ≡ true) (MisfitsOrder (x ∷ y ∷ zs))
order_more x y zs None below h = and_from (nat_lt x y) (ascends nat_lt (y ∷ zs)) (lt-ltb x y below) h
order_more x y zs (Some (why.NotAscending first second)) below h = (inr h.0, h.1)
order_more x y zs (Some (why.NoParty name)) below h = absurd h
order_more x y zs (Some (why.Faulty name)) below h = absurd h
order_more x y zs (Some (why.Correct name)) below h = absurd h
order_more x y zs (Some (why.NoReplica name)) below h = absurd h
order_more x y zs (Some (why.Busy name)) below h = absurd h
order_more x y zs (Some (why.NoFrame frame made)) below h = absurd h
order_more x y zs (Some (why.NoLeaf leaf)) below h = absurd h
order_more x y zs (Some (why.Receivers count)) below h = absurd h

-- 1 to 10 parties of the configuration, which ascend or not
pub receivers_ordered : (c : Configuration) (ps : List Party) (found : Option NotAllowed) → 1 ≤ length ps → length ps ≤ 10
    → list_all (λ p. is_party c (party_number p)) ps ≡ true
    → MatchOption found (ascends nat_lt (map party_number ps) ≡ true) (MisfitsOrder (map party_number ps))
    → MatchOption found (AreReceivers c (map party_number ps)) (MisfitsReceivers c (map party_number ps))
receivers_ordered c ps None some few parties h = are_receivers c ps some few parties h
receivers_ordered c ps (Some (why.NotAscending first second)) some few parties h = h
receivers_ordered c ps (Some (why.NoParty name)) some few parties h = absurd h
receivers_ordered c ps (Some (why.Faulty name)) some few parties h = absurd h
receivers_ordered c ps (Some (why.Correct name)) some few parties h = absurd h
receivers_ordered c ps (Some (why.NoReplica name)) some few parties h = absurd h
receivers_ordered c ps (Some (why.Busy name)) some few parties h = absurd h
receivers_ordered c ps (Some (why.NoFrame frame made)) some few parties h = absurd h
receivers_ordered c ps (Some (why.NoLeaf leaf)) some few parties h = absurd h
receivers_ordered c ps (Some (why.Receivers count)) some few parties h = absurd h
