-- The parties before the first step.
use Rattle.std.specs.Prelude.{◌≡◌, ℕ, ◌<◌, false, List, [], length, slice_index_or}
use Rattle.authenticator.specs.Membership.{Membership}
use Rattle.protocol.specs.System.Configuration.{Configuration, members, replicas}
use Rattle.replica.specs.State.{ReplicaData, has_stopped}
use Rattle.replica.specs.Fits as replica_fits
use Rattle.schedule_world.specs.declared.stage.StageClient.{StageClient}
use Rattle.schedule_world.specs.Stages.{FitsStageClient}

-- a party's own keys
abbrev pub own_ring : Configuration → ℕ → Membership
own_ring c me = record (members c me) { publics = [] }

-- a replica of number p, with an empty history
pub record IsNewReplica (c : Configuration) (p : ℕ) (r : ReplicaData) : Type 0 where
  pub number : replica_fits.me_of r ≡ p
  pub fits : replica_fits.Fits c r []
  pub runs : has_stopped r ≡ false

-- a client of number k, with an empty history
pub record IsNewStageClient (c : Configuration) (k : ℕ) (stage_client : StageClient) : Type 0 where
  pub number : stage_client.client.number ≡ k
  pub fits : FitsStageClient c stage_client []

-- each number has such a party
pub record AreNewReplicas (c : Configuration) (rs : List ReplicaData) : Type 0 where
  pub count : length rs ≡ replicas c
  pub each : (p : ℕ) (d : ReplicaData) → p < length rs → IsNewReplica c p (slice_index_or rs p d)

pub record AreNewStageClients (c : Configuration) (stage_clients : List StageClient) : Type 0 where
  pub count : length stage_clients ≡ c.clients
  pub each : (k : ℕ) (d : StageClient) → k < length stage_clients
      → IsNewStageClient c k (slice_index_or stage_clients k d)
