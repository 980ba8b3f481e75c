-- What the file of a party has: what that party may know, and nothing else. A party goes by its number: replica r has the
-- number r, client c the number 256 + c.
use Rattle.std.specs.Prelude.{◌≡◌, ℕ, ◌+◌, ◌*◌, ◌<◌, ◌≤◌, Bool, ◌&&◌, ◌||◌, nat_lt, nat_le, IsTrue, List, [], ◌∷◌, length, slice_get, All, Option, Some, MatchOption}
use Rattle.hex.specs.Hex.{IsBytes}
use Rattle.terms.specs.declared.parties.TheConstants.{FIRST_CLIENT, MAX_CLIENTS}
use Rattle.authenticator.specs.Dealing.{peers}
use Rattle.authenticator.specs.Keys.{row}
use Rattle.authenticator.specs.Membership.{Membership}
use Rattle.authenticator.specs.declared.row.SharedKey.{SharedKey}
use Rattle.signing.specs.Signatures.{public_key}

-- Its number; how many replicas may be faulty, of how many clients, and the number of batches between checkpoints. Its
-- keys from and to each party that it exchanges frames with, in the order of these. The public keys of all replicas, and
-- a replica's own signing seed.
pub record PartyData : Type 0 where
  pub party : ℕ
  pub faults : ℕ
  pub clients : ℕ
  pub period : ℕ
  pub from : List (List ℕ)
  pub to : List (List ℕ)
  pub publics : List (List ℕ)
  pub seed : Option (List ℕ)

-- the parties that it exchanges frames with
abbrev pub peers_of : PartyData → List ℕ
peers_of k = peers k.faults k.clients k.party

-- a party of so many replicas and clients
abbrev pub takes_part : ℕ → ℕ → ℕ → Bool
takes_part faults clients party =
    nat_le party (3 * faults) || (nat_le FIRST_CLIENT party && nat_lt party (FIRST_CLIENT + clients))

-- A key has 32 bytes.
pub record IsKey (key : List ℕ) : Type 0 where
  pub size : length key ≡ 32
  pub bytes : IsBytes key

-- so many keys
abbrev pub AreKeys : ℕ → List (List ℕ) → Type 0
AreKeys count keys = (length keys ≡ count) × All IsKey keys

-- A replica has a signing seed, which gives its public key. A client has none.
abbrev pub HasOwnSeed : List (List ℕ) → ℕ → Option (List ℕ) → Type 0
HasOwnSeed publics party seed =
    MatchOption seed (FIRST_CLIENT ≤ party)
    (λ s. (party < FIRST_CLIENT) × IsKey s × (slice_get publics party ≡ Some (public_key s)))

-- The numbers are those of a configuration, which has this party. No key is missing, and there is none too many.
pub record IsPartyData (k : PartyData) : Type 0 where
  pub some_faults : 1 ≤ k.faults
  pub most : k.faults ≤ 3
  pub some_clients : 1 ≤ k.clients
  pub clients : k.clients ≤ MAX_CLIENTS
  pub period : 1 ≤ k.period
  pub period_most : k.period ≤ 16
  pub part : IsTrue (takes_part k.faults k.clients k.party)
  pub from_are : AreKeys (length (peers_of k)) k.from
  pub to_are : AreKeys (length (peers_of k)) k.to
  pub publics_are : AreKeys (3 * k.faults + 1) k.publics
  pub own : HasOwnSeed k.publics k.party k.seed

-- ---- what it knows

-- the keys from and to each party, in pairs
abbrev pub pairs_with : ℕ → List ℕ → List (List ℕ) → List (List ℕ) → List SharedKey
pairs_with me [] xs ys = []
pairs_with me (party ∷ parties) [] ys = []
pairs_with me (party ∷ parties) (x ∷ xs) [] = []
pairs_with me (party ∷ parties) (x ∷ xs) (y ∷ ys) =
    record { from = party; to = me; key = x } ∷ record { from = me; to = party; key = y } ∷ pairs_with me parties xs ys

-- its row of keys
abbrev pub row_of : PartyData → List SharedKey
row_of k = pairs_with k.party (peers_of k) k.from k.to

-- what a ring of its row knows, which has no public keys
abbrev pub ring_of : PartyData → Membership
ring_of k = record { faults = k.faults; clients = k.clients; keys = row (row_of k); publics = [] }
