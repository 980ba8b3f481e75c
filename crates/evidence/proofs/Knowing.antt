-- Parties that exchange frames share keys, everybody knows the replicas' public keys, and what a signature tells one it
-- tells all.
use Rattle.std.proofs.Common.{◌≡◌, ◌≢◌, ℕ, ◌*◌, ◌+◌, ◌<◌, ◌≤◌, ◌⊎◌, inl, inr, true, ◌&&◌, ◌||◌, List, [], Option, Some, refl, sym, ap, subst, ◌∙◌, arith}
use Rattle.std.specs.Prelude.{◌==◌, not, nat_lt, nat_le, option_map}
use Rattle.std.specs.Option.{option_map_or}
use Rattle.std.proofs.lemmas.Bool.{and_parts, and_from, or_cases, or_left, or_right, ltb-true, lt-ltb, leb-true, ne_eqb, eqb-false, not-true}
use Rattle.terms.specs.declared.parties.TheConstants.{FIRST_CLIENT}
use Rattle.tuple_tree.specs.Reading.{◌>>=◌}
use Rattle.wire_format.specs.Messages.{BodyData as Body, FrameData as Frame}
use Rattle.wire_format.specs.Words.{frame_of, said}
use Rattle.authenticator.specs.Keys.{derived_key, key_between, mac_between, shared_mac, signing_seed, dealt}
use Rattle.authenticator.specs.Mac.{hmac_of}
use Rattle.authenticator.specs.Laws.{ShareKey, is_among_clients, is_peer}
use Rattle.authenticator.proofs.Dealing.{finds_from, finds_to}
use Rattle.signing.specs.Publics.{public_of}
use Rattle.signing.specs.Signatures.{public_key}
use Rattle.signing.specs.AuthenticBody.{authentic, signed_body}
use Rattle.signing.proofs.AuthenticBody.{signed_is_authentic}
use Rattle.signing.proofs.Publics.{public_within}
use Rattle.protocol.specs.System.Configuration.{Configuration, IsConfiguration, replicas, is_replica, is_client, signers, members}
use Rattle.protocol.proofs.Words.Options.{some_injective}

-- ---- parties that exchange frames

-- each of the two is a peer of the other
abbrev pub DoExchange : Configuration → ℕ → ℕ → Type 0
DoExchange c one other = (is_peer c.faults c.clients one other ≡ true) × (is_peer c.faults c.clients other one ≡ true)

with_replica : (c : Configuration) (me r : ℕ) → is_replica c r ≡ true → r ≢ me → is_peer c.faults c.clients me r ≡ true
with_replica c me r known differ =
    let apart : not (r == me) ≡ true = ap not (ne_eqb r me differ) in
    or_left (not (r == me) && nat_lt r (3 * c.faults + 1)) (nat_lt me FIRST_CLIENT && is_among_clients c.clients r)
    (and_from (not (r == me)) (nat_lt r (3 * c.faults + 1)) apart known)

with_client : (c : Configuration) (me k : ℕ) → me < 256 → is_client c k ≡ true → is_peer c.faults c.clients me k ≡ true
with_client c me k small known =
    or_right (not (k == me) && nat_lt k (3 * c.faults + 1)) (nat_lt me FIRST_CLIENT && is_among_clients c.clients k)
    (and_from (nat_lt me FIRST_CLIENT) (is_among_clients c.clients k) (lt-ltb me 256 small) known)

pub replicas_exchange : (c : Configuration) (r s : ℕ) → is_replica c r ≡ true → is_replica c s ≡ true → r ≢ s → DoExchange c r s
replicas_exchange c r s one other differ = (with_replica c r s other (λ same. differ (sym same)), with_replica c s r one differ)

client_above : (c : Configuration) (k : ℕ) → is_client c k ≡ true → 256 ≤ k
client_above c k known = leb-true 256 k (and_parts (nat_le 256 k) (nat_lt k (256 + c.clients)) known).0

replica_below : (c : Configuration) → replicas c ≤ 256 → (r : ℕ) → is_replica c r ≡ true → r < 256
replica_below c few r known = let l : r < replicas c = ltb-true r (replicas c) known in omega arith

pub clients_exchange : (c : Configuration) → replicas c ≤ 256 → (k r : ℕ) → is_client c k ≡ true → is_replica c r ≡ true → DoExchange c k r
clients_exchange c few k r client replica =
    let below = replica_below c few r replica in
    let above = client_above c k client in (
      with_replica c k r replica (λ same. absurd (omega (arith, same, below, above))),
      with_client c r k below client,
    )

pub exchange_back : (c : Configuration) (one other : ℕ) → DoExchange c one other → DoExchange c other one
exchange_back c one other both = (both.1, both.0)

pub exchange_apart : (c : Configuration) (one other : ℕ) → DoExchange c one other → one ≢ other
exchange_apart c one other both same =
    go (or_cases (not (one == one) && is_replica c one) (nat_lt one FIRST_CLIENT && is_client c one) (subst (λ (p : ℕ). is_peer c.faults c.clients one p ≡ true) (sym same) both.0))
  where
    go : ((not (one == one) && is_replica c one) ≡ true) ⊎ ((nat_lt one FIRST_CLIENT && is_client c one) ≡ true) → ⊥
    go (inl h) = eqb-false one one (not-true (one == one) (and_parts (not (one == one)) (is_replica c one) h).0) refl
    go (inr h) =
        let parts = and_parts (nat_lt one FIRST_CLIENT) (is_client c one) h in
        let small : one < 256 = ltb-true one 256 parts.0 in
        let above = client_above c one parts.1 in
        omega (arith, small, above)

-- a peer of a party is one that it exchanges frames with
pub peers_exchange : (c : Configuration) → replicas c ≤ 256 → (one other : ℕ) → (is_replica c one || is_client c one) ≡ true → is_peer c.faults c.clients one other ≡ true
    → DoExchange c one other
peers_exchange c few one other party peer =
    go (or_cases (not (other == one) && is_replica c other) (nat_lt one FIRST_CLIENT && is_client c other) peer)
    (or_cases (is_replica c one) (is_client c one) party)
  where
    go : ((not (other == one) && is_replica c other) ≡ true) ⊎ ((nat_lt one FIRST_CLIENT && is_client c other) ≡ true)
        → (is_replica c one ≡ true) ⊎ (is_client c one ≡ true) → DoExchange c one other
    go (inl h) (inl replica) =
        let parts = and_parts (not (other == one)) (is_replica c other) h in
        let apart = eqb-false other one (not-true (other == one) parts.0) in
        replicas_exchange c one other replica parts.1 (λ same. apart (sym same))
    go (inl h) (inr client) = clients_exchange c few one other client (and_parts (not (other == one)) (is_replica c other) h).1
    go (inr h) (inl replica) =
        exchange_back c other one (clients_exchange c few other one (and_parts (nat_lt one FIRST_CLIENT) (is_client c other) h).1 replica)
    go (inr h) (inr client) =
        let small : one < 256 = ltb-true one 256 (and_parts (nat_lt one FIRST_CLIENT) (is_client c other) h).0 in
        let above = client_above c one client in
        absurd (omega (arith, small, above))

-- ---- they share keys

dealt_code : (c : Configuration) (from to : ℕ) (text : List ℕ) → hmac_of (derived_key c.seed from to) text ≡ mac_between (dealt c.seed) from to text
unfolding key_between
dealt_code c from to text = refl

-- under the keys that a party has for another it makes the codes that the seed gives
pub own_code : (c : Configuration) (from to : ℕ) (text : List ℕ) → DoExchange c from to → mac_between (dealt c.seed) from to text ≡ mac_between (members c from).keys from to text
unfolding key_between
own_code c from to text both =
    ap (λ (found : Option (List ℕ)). hmac_of (option_map_or (λ key. key) found []) text) (sym (finds_from c.seed c.faults c.clients from to both.0))

-- so the other party has the key of each frame that is sealed for it
pub dealt_is_shared : (c : Configuration) (from to : ℕ) → DoExchange c from to → ShareKey (dealt c.seed) (members c to).keys from to
dealt_is_shared c from to both = (derived_key c.seed from to, refl, finds_to c.seed c.faults c.clients to from both.1)

-- and finds the code that the sender makes for it
pub code_is_found : (c : Configuration) (from to : ℕ) (text : List ℕ) → DoExchange c from to
    → shared_mac (members c to).keys from to text ≡ Some (mac_between (members c from).keys from to text)
code_is_found c from to text both =
    ap (option_map (λ (key : List ℕ). hmac_of key text)) (finds_to c.seed c.faults c.clients to from both.1) ∙ ap Some (dealt_code c from to text ∙ own_code c from to text both)

-- ---- the public keys

pub own_public : (c : Configuration) → IsConfiguration c → (r : ℕ) → is_replica c r ≡ true → public_of c.publics r ≡ public_key (signing_seed c.seed r)
own_public c valid r known =
    ap (λ (publics : List (List ℕ)). public_of publics r) valid.publics ∙ public_within c.seed c.faults r (ltb-true r (replicas c) known)

-- ---- what a signature tells

told_alike : (c : Configuration) (me : ℕ) (bytes : List ℕ) → signed_body (signers c) bytes ≡ signed_body (members c me) bytes
unfolding signed_body
told_alike c me bytes = refl

pub signed_is_heard : (c : Configuration) (me : ℕ) (bytes : List ℕ) (body : Body) → signed_body (signers c) bytes ≡ Some body → body.sender ≢ me
    → authentic (members c me) me bytes ≡ Some body
signed_is_heard c me bytes body h other = signed_is_authentic (members c me) me bytes body (sym (told_alike c me bytes) ∙ h) other

-- ---- the body of a frame

pub body_of_frame : (bytes : List ℕ) (frame : Frame) (body : Body) → frame_of bytes ≡ Some frame → said bytes ≡ Some body → frame.body ≡ body
unfolding said
body_of_frame bytes frame body is says =
    some_injective frame.body body (sym (ap (λ (o : Option Frame). o >>= λ (f : Frame). Some f.body) is) ∙ says)
