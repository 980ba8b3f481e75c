-- What one party knows: who takes part, its keys, and the public keys of the replicas. A party goes by its number:
-- replica r has the number r, client c the number 256 + c.
use Rattle.std.specs.Prelude.{ℕ, ◌+◌, ◌*◌, Bool, ◌&&◌, nat_lt, nat_le, List}
use Rattle.terms.specs.declared.parties.TheConstants.{FIRST_CLIENT}
use Rattle.wire_format.specs.Messages.{MessageData, request, BodyData}
use Rattle.authenticator.specs.Keys.{Keys}

-- how many replicas may be faulty, how many clients there are, the party's keys, the replicas' public keys in order
pub record Membership : Type 0 where
  pub faults : ℕ
  pub clients : ℕ
  pub keys : Keys
  pub publics : List (List ℕ)

-- how many replicas there are: 3 f + 1 if f may be faulty
abbrev pub replicas : Membership → ℕ
replicas m = 3 * m.faults + 1

-- The party is one of the replicas.
abbrev pub is_replica : Membership → ℕ → Bool
is_replica m party = nat_lt party (replicas m)

-- The party is one of the clients.
abbrev pub is_client : Membership → ℕ → Bool
is_client m party = nat_le FIRST_CLIENT party && nat_lt party (FIRST_CLIENT + m.clients)

-- clients send requests, replicas all other messages
abbrev pub sends : Membership → ℕ → MessageData → Bool
sends m party (request timestamp mode operation) = is_client m party
sends m party _ = is_replica m party

-- a body names a sender that takes part and may send such a message
abbrev pub has_sender : Membership → BodyData → Bool
has_sender m body = sends m body.sender body.message
