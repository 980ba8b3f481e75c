-- Handles that a cluster still has, by the numbers of their parties, and the states of a new one's parties.
use Rattle.std.specs.Prelude.{◌≡◌, ℕ, ◌<◌, List, [], ◌∷◌, ◌++◌, Contains, MatchOption, Option, cond, filter, map, nat_le, nat_lt, slice_get, Some}
use Rattle.std.specs.List.{range_with_len}
use Rattle.terms.specs.declared.parties.TheConstants.{FIRST_CLIENT}
use Rattle.protocol.specs.System.Configuration.{Configuration}
use Rattle.journal.specs.Parts.{Part}
use Rattle.space_node.specs.PartyStates.{PartyState, new_party_state}

-- The clients of a configuration, each of which has a handle in a new cluster.
abbrev pub clients_of : Configuration → List ℕ
clients_of c = range_with_len FIRST_CLIENT c.clients

-- one handle of the party is taken, and all others are left
pub record PartyTakesHandle (old : List ℕ) (p : ℕ) (new : List ℕ) : Type 0 where
  pub before : List ℕ
  pub later : List ℕ
  pub old_is : old ≡ before ++ p ∷ later
  pub new_is : new ≡ before ++ later

-- If there is a handle of the party, it is handed out, and it is new. Otherwise nothing changes.
abbrev pub HandsOut : List ℕ → ℕ → Option PartyState → List ℕ → Type 0
HandsOut old p result new =
    MatchOption result ((¬ Contains old p) × (new ≡ old))
    (λ handle. (handle ≡ new_party_state p) × PartyTakesHandle old p new)

-- ---- for private functions

-- the clients among parties: their numbers begin at 256
abbrev pub clients_among : List ℕ → List ℕ
clients_among = filter (nat_le FIRST_CLIENT)

-- the replicas among parties
abbrev pub replicas_among : List ℕ → List ℕ
replicas_among = filter (λ p. nat_lt p FIRST_CLIENT)

-- if the party is a replica, the first of these shares of ordering is its
abbrev pub IsFirstShareOf : ℕ → List Part → Type 0
IsFirstShareOf p orders = p < FIRST_CLIENT → slice_get (map (λ o. o.party) orders) 0 ≡ Some p

-- all but the first
abbrev pub all_but_first : List Part → List Part
all_but_first [] = []
all_but_first (order ∷ orders) = orders

-- the shares of ordering that are left after the party has its state
abbrev pub left_after : ℕ → List Part → List Part
left_after p orders = cond (nat_lt p FIRST_CLIENT) (all_but_first orders) orders

abbrev pub parties_of : List PartyState → List ℕ
parties_of handles = map (λ s. s.party) handles

-- the handle of the party is at this place
abbrev pub HandleAt : List PartyState → ℕ → ℕ → Type 0
HandleAt handles p at = (s : PartyState) × (slice_get handles at ≡ Some s) × (s.party ≡ p)
