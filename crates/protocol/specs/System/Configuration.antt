-- The configuration: how many replicas and clients there are, which are faulty, and what all parties are given (Castro
-- and Liskov, TOCS 2002, on the system model: 3f + 1 replicas, of which at most f are faulty).
use Rattle.std.specs.Prelude.{◌≡◌, ◌≢◌, ℕ, ◌*◌, ◌%◌, ◌^◌, ◌≤◌, ◌<◌, Bool, ◌&&◌, ◌||◌, not, List, [], length, nat_lt, All, AllPairs}
use Rattle.terms.specs.Parties.{client_number}
use Rattle.terms.specs.declared.parties.TheConstants.{MAX_CLIENTS}
use Rattle.authenticator.specs.Dealing.{dealt_keys}
use Rattle.authenticator.specs.Keys.{row}
use Rattle.signing.specs.Publics.{derived_publics}
use Rattle.authenticator.specs.Membership.{Membership, replicas as member_replicas, is_replica as is_member_replica, is_client as is_member_client}
use Rattle.quorum.specs.Quorum.{member}

-- Replicas are 0 to 3f, clients 0 to clients - 1. publics: the replicas' public keys. period: batches to a checkpoint.
pub record Configuration : Type 0 where
  pub faults : ℕ
  pub clients : ℕ
  pub seed : List ℕ
  pub publics : List (List ℕ)
  pub period : ℕ
  pub faulty_replicas : List ℕ
  pub faulty_clients : List ℕ

-- what everybody knows: who takes part, and the public keys of the replicas
abbrev pub signers : Configuration → Membership
signers c = record { faults = c.faults; clients = c.clients; keys = row []; publics = c.publics }

-- What a party knows: the same, and the keys that the seed gives it. No other party's keys are among them.
abbrev pub members : Configuration → ℕ → Membership
members c me = record (signers c) { keys = row (dealt_keys c.seed c.faults c.clients me) }

-- how many replicas there are
abbrev pub replicas : Configuration → ℕ
replicas c = member_replicas (signers c)

-- The configuration is valid.
pub record IsConfiguration (c : Configuration) : Type 0 where
  pub some_faults : 1 ≤ c.faults
  pub most : c.faults ≤ 3
  pub some_clients : 1 ≤ c.clients
  pub clients : c.clients ≤ MAX_CLIENTS
  pub seed : length c.seed ≡ 32
  pub publics : c.publics ≡ derived_publics c.seed c.faults
  pub period : 1 ≤ c.period
  pub period_most : c.period ≤ 16
  pub few : length c.faulty_replicas ≤ c.faults
  pub replicas_are : All (λ r. r < replicas c) c.faulty_replicas
  pub replicas_differ : AllPairs (λ r s. r ≢ s) c.faulty_replicas
  pub clients_are : All (λ k. k < c.clients) c.faulty_clients
  pub clients_differ : AllPairs (λ k l. k ≢ l) c.faulty_clients

-- ---- parties: replica r is the party r, client k the party 256 + k

-- The party is one of the 3f + 1 replicas.
abbrev pub is_replica : Configuration → ℕ → Bool
is_replica c p = is_member_replica (signers c) p

-- The party is one of the clients.
abbrev pub is_client : Configuration → ℕ → Bool
is_client c p = is_member_client (signers c) p

-- The party is one of the faulty replicas.
abbrev pub is_faulty_replica : Configuration → ℕ → Bool
is_faulty_replica c = member c.faulty_replicas

-- The party is a correct replica: one that is not faulty.
abbrev pub is_correct_replica : Configuration → ℕ → Bool
is_correct_replica c p = is_replica c p && not (member c.faulty_replicas p)

-- The party is a correct client: one that is not faulty.
abbrev pub is_correct_client : Configuration → ℕ → Bool
is_correct_client c p = is_client c p && not (member c.faulty_clients (client_number p))

-- The party is correct: a correct replica or a correct client.
abbrev pub is_correct : Configuration → ℕ → Bool
is_correct c p = is_correct_replica c p || is_correct_client c p

-- ---- views and numbers

-- the primary of a view
abbrev pub primary : Configuration → ℕ → ℕ
primary c view = view % replicas c

-- the distance from the low water mark to the high one
abbrev pub span : Configuration → ℕ
span c = 2 * c.period

-- Views and sequence numbers are below 2^48.
abbrev pub is_number : ℕ → Bool
is_number n = nat_lt n (2 ^ 48)
