-- The histories of a cluster's parties, and the events that lengthen them. The newest entry stands first.
use Rattle.std.specs.Prelude.{◌≡◌, ℕ, true, false, List, [], ◌∷◌, ◌++◌, filter}
use Rattle.std.specs.List.{range_with_len}
use Rattle.terms.specs.declared.parties.TheConstants.{FIRST_CLIENT}
use Rattle.wire_format.specs.Lists.{Each}
use Rattle.protocol.specs.System.Configuration.{Configuration, replicas, is_correct, is_correct_replica, is_correct_client}
use Rattle.protocol.specs.System.Trace.{Entry, party_of, is_output}
use Rattle.protocol.specs.Replica.Owed.{IsReplica}
use Rattle.protocol.specs.Client.RightClient.{IsClient}

-- A correct replica's history is safe and prompt, a correct client's is a client's; or the party stopped.
pub record IsRight (c : Configuration) (p : ℕ) (history : List Entry) : Type 0 where
  pub replica : is_correct_replica c p ≡ true → IsReplica c p history
  pub client : is_correct_client c p ≡ true → IsClient c p history

-- the correct ones of these parties
abbrev pub correct_of : Configuration → List ℕ → List ℕ
correct_of c = filter (is_correct c)

-- the correct replicas, and all correct parties: the replicas, and then the clients
abbrev pub correct_replicas : Configuration → List ℕ
correct_replicas c = correct_of c (range_with_len 0 (replicas c))

abbrev pub correct_parties : Configuration → List ℕ
correct_parties c = correct_replicas c ++ correct_of c (range_with_len FIRST_CLIENT c.clients)

-- an output of the party
abbrev pub IsOutputOf : ℕ → Entry → Type 0
IsOutputOf p e = (party_of e ≡ p) × (is_output e ≡ true)

-- one event of the party, the oldest entry first: an input, and then outputs
abbrev pub IsEventOf : ℕ → List Entry → Type 0
IsEventOf p [] = ⊥
IsEventOf p (e ∷ outputs) = (party_of e ≡ p) × (is_output e ≡ false) × Each (IsOutputOf p) outputs
