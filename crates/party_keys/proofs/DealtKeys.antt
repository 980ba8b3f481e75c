-- The keys that a configuration gives a party.
use Rattle.std.proofs.Common.{◌≡◌, ◌≢◌, ℕ, zero, suc, ◌+◌, ◌*◌, ◌<◌, ◌≤◌, ◌==◌, ◌&&◌, ◌||◌, nat_lt, ltb-true, ltb-false, eqb-true, eq-eqb, Bool, true, false, cond, List, [], ◌∷◌, ◌++◌, length, map, get_or, Option, Some, None, arith, refl, ap, ap₂, sym, ◌∙◌, subst}
use Rattle.std.specs.Prelude.{All, filter, not, nat_le, slice_get, option_map, IfSome, IsTrue}
use Rattle.std.specs.List.{range_with_len}
use Rattle.std.proofs.lemmas.List.FromFn.{length-range_with_len, get_or-range_with_len}
use Rattle.std.proofs.lemmas.Bool.Decides.{nat_tests}
use Rattle.std.proofs.lemmas.Option.{slice_get-get_or, slice_get-map}
use Rattle.terms.specs.declared.parties.TheConstants.{FIRST_CLIENT}
use Rattle.authenticator.specs.Dealing.{all_clients, all_replicas, clients_of, dealt_keys, keys_with, other_replicas, others_among, peers}
use Rattle.authenticator.specs.Keys.{derived_key, row, signing_seed}
use Rattle.authenticator.specs.declared.row.SharedKey.{SharedKey}
use Rattle.signing.specs.Publics.{derived_publics, knows}
use Rattle.signing.specs.Signatures.{public_key}
use Rattle.protocol.specs.System.Configuration.{Configuration, IsConfiguration, members}
use Rattle.party_keys.specs.Dealing.{IsRingOf, keys_of, seed_of}
use Rattle.party_keys.specs.PartyData.{AreKeys, HasOwnSeed, IsKey, IsPartyData, PartyData, pairs_with, ring_of, row_of, takes_part}

-- ---- the row

pairs_are : (seed : List ℕ) (me : ℕ) (ps : List ℕ) → pairs_with me ps (map (λ p. derived_key seed p me) ps) (map (λ p. derived_key seed me p) ps) ≡ keys_with seed me ps
pairs_are seed me [] = refl
pairs_are seed me (p ∷ ps) =
    ap (λ rest. record { from = p; to = me; key = derived_key seed p me } ∷ record { from = me; to = p; key = derived_key seed me p } ∷ rest) (pairs_are seed me ps)

members_are : (c : Configuration) (me : ℕ) → members c me ≡ knows (ring_of (keys_of c me)) c.publics
members_are c me =
    ap (λ keys. record { faults = c.faults; clients = c.clients; keys = row keys; publics = c.publics }) (sym (pairs_are c.seed me (peers c.faults c.clients me)))

pub is_ring : (k : PartyData) → IsRingOf k (ring_of k)
is_ring k c given = subst (λ j. members c k.party ≡ knows (ring_of j) j.publics) (sym given) (members_are c k.party)

-- ---- from and to others

abbrev Differ : ℕ → List ℕ → Type 0
Differ me [] = Unit {0}
Differ me (p ∷ ps) = (p ≢ me) × Differ me ps

no_equal : (p me : ℕ) → p ≢ me → (p == me) ≡ false
no_equal p me differs = go (p == me) refl
  where
    go : (b : Bool) → (p == me) ≡ b → (p == me) ≡ false
    go true e = absurd (differs (eqb-true p me e))
    go false e = e

abbrev keys_to : ℕ → List SharedKey → List (List ℕ)
keys_to me keys = map (λ s. s.key) (filter (λ s. s.to == me) keys)

abbrev keys_from : ℕ → List SharedKey → List (List ℕ)
keys_from me keys = map (λ s. s.key) (filter (λ s. s.from == me) keys)

to_are : (seed : List ℕ) (me : ℕ) (ps : List ℕ) → Differ me ps → keys_to me (keys_with seed me ps) ≡ map (λ p. derived_key seed p me) ps
to_are seed me [] h = refl
to_are seed me (p ∷ ps) h = rw (eq-eqb me me refl, no_equal p me h.0) (ap (λ keys. derived_key seed p me ∷ keys) (to_are seed me ps h.1))

from_are : (seed : List ℕ) (me : ℕ) (ps : List ℕ) → Differ me ps → keys_from me (keys_with seed me ps) ≡ map (λ p. derived_key seed me p) ps
from_are seed me [] h = refl
from_are seed me (p ∷ ps) h = rw (eq-eqb me me refl, no_equal p me h.0) (ap (λ keys. derived_key seed me p ∷ keys) (from_are seed me ps h.1))

differ_append : (me : ℕ) (ps qs : List ℕ) → Differ me ps → Differ me qs → Differ me (ps ++ qs)
differ_append me [] qs h k = k
differ_append me (p ∷ ps) qs h k = (h.0, differ_append me ps qs h.1 k)

others_differ : (me : ℕ) (ps : List ℕ) → Differ me (others_among ps me)
others_differ me [] = tt
others_differ me (p ∷ ps) = go (p == me) refl (others_differ me ps)
  where
    go : (b : Bool) → (p == me) ≡ b → Differ me (others_among ps me) → Differ me (others_among (p ∷ ps) me)
    go true e rest = rw e rest
    go false e rest = rw e (λ same. let h : true ≡ false = sym (eq-eqb p me same) ∙ e in cc, rest)

above_differ : (me a n : ℕ) → me < a → Differ me (range_with_len a n)
above_differ me a zero h = tt
above_differ me a (suc n) h = (λ same. omega (arith, same, h), above_differ me (a + 1) n (omega (arith, h)))

clients_differ : (me clients : ℕ) → Differ me (all_clients (clients_of me clients))
clients_differ me clients = go (nat_lt me FIRST_CLIENT) refl
  where
    go : (b : Bool) → nat_lt me FIRST_CLIENT ≡ b → Differ me (all_clients (clients_of me clients))
    go true e = rw e (above_differ me FIRST_CLIENT clients (ltb-true me FIRST_CLIENT e))
    go false e = rw e tt

peers_differ : (faults clients me : ℕ) → Differ me (peers faults clients me)
peers_differ faults clients me =
    differ_append me (other_replicas faults me) (all_clients (clients_of me clients)) (others_differ me (all_replicas faults)) (clients_differ me clients)

pub dealt_to : (c : Configuration) (me : ℕ) → keys_to me (dealt_keys c.seed c.faults c.clients me) ≡ (keys_of c me).from
dealt_to c me = to_are c.seed me (peers c.faults c.clients me) (peers_differ c.faults c.clients me)

pub dealt_from : (c : Configuration) (me : ℕ) → keys_from me (dealt_keys c.seed c.faults c.clients me) ≡ (keys_of c me).to
dealt_from c me = from_are c.seed me (peers c.faults c.clients me) (peers_differ c.faults c.clients me)

-- ---- they are valid

in_range : (n i : ℕ) → i < n → slice_get (range_with_len 0 n) i ≡ Some i
in_range n i p =
    let q : i < length (range_with_len 0 n) = omega (arith, p, length-range_with_len 0 n) in
    let e : 0 + i ≡ i = omega arith in
    slice_get-get_or (range_with_len 0 n) i 0 q ∙ ap Some (get_or-range_with_len 0 n i 0 p ∙ e)

own_public : (seed : List ℕ) (faults me : ℕ) → me < 3 * faults + 1 → slice_get (derived_publics seed faults) me ≡ Some (public_key (signing_seed seed me))
own_public seed faults me p =
    slice_get-map (λ r. public_key (signing_seed seed r)) (range_with_len 0 (3 * faults + 1)) me
    ∙ ap (option_map (λ r. public_key (signing_seed seed r))) (in_range (3 * faults + 1) me p)

is_replica : (faults clients me : ℕ) → IsTrue (takes_part faults clients me) → me < FIRST_CLIENT → me < 3 * faults + 1
is_replica faults clients me part below = grind (arith, nat_tests)

owns_seed : (c : Configuration) (me : ℕ) → IsConfiguration c → IsTrue (takes_part c.faults c.clients me) → IfSome (seed_of c me) IsKey → HasOwnSeed c.publics me (seed_of c me)
owns_seed c me valid part is_key = go (nat_lt me FIRST_CLIENT) refl
  where
    go : (b : Bool) → nat_lt me FIRST_CLIENT ≡ b → HasOwnSeed c.publics me (seed_of c me)
    go true e =
        let below = ltb-true me FIRST_CLIENT e in
        rw e (
          below,
          rw e at is_key,
          ap (λ ps. slice_get ps me) valid.publics ∙ own_public c.seed c.faults me (is_replica c.faults c.clients me part below),
        )
    go false e = rw e (ltb-false me FIRST_CLIENT e)

same_length : (f : ℕ → List ℕ) (ps : List ℕ) → length (map f ps) ≡ length ps
same_length f [] = refl
same_length f (p ∷ ps) = ap suc (same_length f ps)

public_count : (seed : List ℕ) (faults : ℕ) → length (derived_publics seed faults) ≡ 3 * faults + 1
public_count seed faults = same_length (λ r. public_key (signing_seed seed r)) (range_with_len 0 (3 * faults + 1)) ∙ length-range_with_len 0 (3 * faults + 1)

pub dealt_publics : (c : Configuration) → IsConfiguration c → length c.publics ≡ 3 * c.faults + 1
dealt_publics c valid = ap length valid.publics ∙ public_count c.seed c.faults

pub dealt_valid : (c : Configuration) (me : ℕ) → IsConfiguration c → IsTrue (takes_part c.faults c.clients me)
    → All IsKey (keys_of c me).from → All IsKey (keys_of c me).to → All IsKey c.publics → IfSome (seed_of c me) IsKey → IsPartyData (keys_of c me)
dealt_valid c me valid part from to publics seed =
    record {
      some_faults = valid.some_faults;
      most = valid.most;
      some_clients = valid.some_clients;
      clients = valid.clients;
      period = valid.period;
      period_most = valid.period_most;
      part = part;
      from_are = (same_length (λ p. derived_key c.seed p me) (peers c.faults c.clients me), from);
      to_are = (same_length (λ p. derived_key c.seed me p) (peers c.faults c.clients me), to);
      publics_are = (dealt_publics c valid, publics);
      own = owns_seed c me valid part seed;
    }

-- ---- from what the program has at hand

pub dealt_same : (s s' : List ℕ) (f f' k k' me : ℕ) → s ≡ s' → f ≡ f' → k ≡ k' → dealt_keys s f k me ≡ dealt_keys s' f' k' me
dealt_same s s' f f' k k' me p q r = ap (λ x. dealt_keys x f k me) p ∙ ap (λ x. dealt_keys s' x k me) q ∙ ap (λ x. dealt_keys s' f' x me) r

pub from_row : (c : Configuration) (me m : ℕ) (keys : List SharedKey) (xs : List (List ℕ)) → xs ≡ keys_to m keys → m ≡ me → keys ≡ dealt_keys c.seed c.faults c.clients me → xs ≡ (keys_of c me).from
from_row c me m keys xs e same rows = e ∙ ap (λ n. keys_to n keys) same ∙ ap (keys_to me) rows ∙ dealt_to c me

pub to_row : (c : Configuration) (me m : ℕ) (keys : List SharedKey) (xs : List (List ℕ)) → xs ≡ keys_from m keys → m ≡ me → keys ≡ dealt_keys c.seed c.faults c.clients me → xs ≡ (keys_of c me).to
to_row c me m keys xs e same rows = e ∙ ap (λ n. keys_from n keys) same ∙ ap (keys_from me) rows ∙ dealt_from c me
