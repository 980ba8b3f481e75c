-- The program's stage beside the world of the definitions, and their invariant between events.
use Rattle.std.specs.Prelude.{◌≡◌, ℕ, ◌<◌, true, List, [], ◌∷◌, map, length, reverse, is_some, slice_index_or, Bool}
use Rattle.terms.specs.Parties.{client_party}
use Rattle.tuple_codec.specs.OperationView.{outcome_of}
use Rattle.protocol.specs.System.Configuration.{Configuration, IsConfiguration, replicas, is_correct, is_correct_replica, is_correct_client}
use Rattle.protocol.specs.System.Trace.{Entry, party_of, history_of, Always}
use Rattle.protocol.specs.System.Run.{OutputFollows, GaveNothingLast}
use Rattle.protocol.specs.System.Schedule as schedules
use Rattle.protocol.specs.System.Schedule.{Step, World, with_entry, acceptances}
use Rattle.protocol.specs.Client.RightClient.{last_call}
use Rattle.replica.specs.State.{ReplicaData, has_stopped}
use Rattle.replica.specs.Fits as replica_fits
use Rattle.client_cert.specs.Fits as client_fits
use Rattle.schedule_world.specs.declared.report.Acceptance.{Acceptance}
use Rattle.schedule_world.specs.declared.stage.StageClient.{StageClient}
use Rattle.schedule_world.specs.declared.stage.Stage.{Stage}
use Rattle.schedule_world.specs.Pooling.{IsPool}
use Rattle.schedule_world.specs.Reaching.{StepsReach}

-- an acceptance of the program, as that of the definitions
abbrev pub acceptance_of : Acceptance → schedules.Acceptance
acceptance_of a = record {
  position = a.position;
  client = a.client.number;
  timestamp = a.timestamp.0;
  answer = outcome_of a.answer;
}

-- The configuration is valid, and each party has its place, the faulty ones too.
pub record PartiesArePlaced (c : Configuration) (s : Stage) : Type 0 where
  pub valid : IsConfiguration c
  pub replicas : length s.replicas.items ≡ replicas c
  pub clients : length s.stage_clients.items ≡ c.clients
  pub numbers : (p : ℕ) (d : ReplicaData) → p < length s.replicas.items
      → replica_fits.me_of (slice_index_or s.replicas.items p d) ≡ p
  pub client_numbers : (k : ℕ) (d : StageClient) → k < length s.stage_clients.items
      → (slice_index_or s.stage_clients.items k d).client.number ≡ k

-- whether the client of this number has a call open
abbrev pub IsOpen : Stage → ℕ → Bool → Type 0
IsOpen s k b = (d : StageClient) → b ≡ is_some (slice_index_or s.stage_clients.items k d).client.call

-- ---- at any entry, also within an event

-- The stage has the trace, the frames and the acceptances of the world.
pub record StageShowsWorld (c : Configuration) (w : World) (s : Stage) : Type 0 where
  pub past : reverse s.trace.items ≡ w.past
  pub frames : IsPool c w s.pool
  pub accepted : map acceptance_of s.accepted.items ≡ reverse (acceptances w.past)

-- the world after these entries, the oldest first
abbrev pub with_entries : Configuration → World → List Entry → World
with_entries c w [] = w
with_entries c w (e ∷ entries) = with_entries c (with_entry c w e) entries

-- ---- between events

-- The replica fits the history. If it has stopped, it gave nothing for its last input.
abbrev pub FitsReplica : Configuration → ReplicaData → List Entry → Type 0
FitsReplica c r history = replica_fits.Fits c r history × (has_stopped r ≡ true → GaveNothingLast history)

-- The client fits the history in the same way, and its state has the last timestamp.
abbrev pub FitsStageClient : Configuration → StageClient → List Entry → Type 0
FitsStageClient c stage_client history =
    client_fits.Fits c stage_client.client history × (last_call history ≡ stage_client.calls)
    × (stage_client.client.stopped ≡ true → GaveNothingLast history)

-- Each correct replica and each correct client fits its history of the trace.
pub record PartiesFitTrace (c : Configuration) (trace : List Entry) (rs : List ReplicaData)
    (stage_clients : List StageClient) : Type 0 where
  pub replicas : (p : ℕ) (d : ReplicaData) → is_correct_replica c p ≡ true
      → FitsReplica c (slice_index_or rs p d) (history_of p trace)
  pub clients : (k : ℕ) (d : StageClient) → is_correct_client c (client_party k) ≡ true
      → FitsStageClient c (slice_index_or stage_clients k d) (history_of (client_party k) trace)

-- the trace's parties are correct, and outputs follow their inputs
pub record IsOrderly (c : Configuration) (trace : List Entry) : Type 0 where
  pub parties : Always (λ past e. is_correct c (party_of e) ≡ true) trace
  pub events : Always OutputFollows trace

-- The stage stands at this world: it shows it, its parties fit their histories, and the trace is orderly.
pub record StageIsAt (c : Configuration) (w : World) (s : Stage) : Type 0 where
  pub shows : StageShowsWorld c w s
  pub attend : PartiesFitTrace c w.past s.replicas.items s.stage_clients.items
  pub orderly : IsOrderly c w.past

-- The stage stands at some world.
abbrev pub IsStanding : Configuration → Stage → Type 0
IsStanding c s = (w : World) × StageIsAt c w s

-- The stage stands at a world to which the steps done lead, with these steps done in part.
pub record StageIsAfterSteps (c : Configuration) (done left : List Step) (s : Stage) : Type 0 where
  pub world : World
  pub stands : StageIsAt c world s
  pub reaches : StepsReach c done left world
