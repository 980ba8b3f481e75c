-- The drills that a cluster may start with, and the answers of a stale replica.
use Rattle.std.specs.Prelude.{◌≡◌, ◌≢◌, ℕ, Bool, true, ◌&&◌, not, List, [], ◌∷◌, All, AllPairs, Some, map}
use Rattle.terms.specs.Parties.{client_party}
use Rattle.quorum.specs.Quorum.{member}
use Rattle.tuple_codec.specs.Operations.{Operation}
use Rattle.space.specs.Applying.{no_tuples, outcome, is_read_only}
use Rattle.authenticator.specs.Membership.{Membership}
use Rattle.signing.specs.AuthenticBody.{authentic}
use Rattle.protocol.specs.System.Configuration.{Configuration, is_faulty_replica}
use Rattle.read_only.specs.Answering.{read_reply}
use Rattle.read_only.specs.Receiving.{read_only_request}
use Rattle.frame_endpoint.specs.Endpoint.{IsSealedOutgoing}
use Rattle.events.specs.declared.output.Output.{Output}
use Rattle.space_node.specs.declared.drill.Drill.{Drill}

-- the replicas of the drills
abbrev pub replicas_of : List (ℕ × Drill) → List ℕ
replicas_of = map (λ d. d.0)

-- each is a faulty replica, and no two are the same
abbrev pub AreOfFaulty : Configuration → List ℕ → Type 0
AreOfFaulty c replicas = All (λ r. is_faulty_replica c r ≡ true) replicas × AllPairs (λ r s. r ≢ s) replicas

-- each faulty replica has a drill
abbrev pub IsDrilled : Configuration → List ℕ → Type 0
IsDrilled c replicas = All (λ r. member replicas r ≡ true) c.faulty_replicas

-- These replicas are the configuration's faulty ones, each once.
pub record AreDrillsOf (c : Configuration) (replicas : List ℕ) : Type 0 where
  pub of_faulty : AreOfFaulty c replicas
  pub each : IsDrilled c replicas

-- With drills of these replicas a cluster may start, if no client is faulty.
abbrev pub MayStart : Configuration → List ℕ → Type 0
MayStart c replicas = (c.faulty_clients ≡ []) × AreDrillsOf c replicas

-- whether each is a faulty replica and differs from all later ones
abbrev pub are_faulty_once : Configuration → List ℕ → Bool
are_faulty_once c [] = true
are_faulty_once c (r ∷ rs) = (is_faulty_replica c r && not (member rs r)) && are_faulty_once c rs

-- The replica receives a client's read in the bytes. Its output for the client has the read's outcome on no tuples, as
-- from the state of number 0.
pub record IsStale (m : Membership) (me : ℕ) (bytes : List ℕ) (output : Output) : Type 0 where
  pub client : ℕ
  pub timestamp : ℕ
  pub op : Operation
  pub receives : authentic m me bytes ≡ Some (read_only_request (client_party client) timestamp op)
  pub read : is_read_only op ≡ true
  pub answers : IsSealedOutgoing m me (read_reply client timestamp 0 (outcome no_tuples client op))
      (client_party client ∷ []) output
