-- Which correct parties have stopped.
use Rattle.std.specs.Prelude.{◌≡◌, ℕ, Bool, false, ◌&&◌, List, ◌++◌, map, filter, slice_get, Vec, Result, OnOk}
use Rattle.std.specs.List.{range_with_len}
use Rattle.std.specs.Option.{option_map_or}
use Rattle.std.specs.declared.alloc.Global.{Global}
use Rattle.terms.specs.declared.parties.TheConstants.{FIRST_CLIENT}
use Rattle.terms.specs.Parties.{party_number, client_number}
use Rattle.terms.specs.declared.parties.Party.{Party}
use Rattle.protocol.specs.System.Configuration.{Configuration, replicas, is_correct_replica, is_correct_client}
use Rattle.replica.specs.State.{ReplicaData, has_stopped}
use Rattle.schedule_world.specs.declared.stage.StageClient.{StageClient}
use Rattle.schedule_world.specs.declared.stage.Stage.{Stage}

-- the party is a correct replica that has stopped
abbrev pub is_stopped_replica : Configuration → List ReplicaData → ℕ → Bool
is_stopped_replica c rs p = is_correct_replica c p && option_map_or has_stopped (slice_get rs p) false

-- the party is a correct client that has stopped
abbrev pub is_stopped_client : Configuration → List StageClient → ℕ → Bool
is_stopped_client c stage_clients p =
    is_correct_client c p
    && option_map_or (λ (s : StageClient). s.client.stopped) (slice_get stage_clients (client_number p)) false

-- all of them, by number
abbrev pub stopped_replicas : Configuration → Stage → List ℕ
stopped_replicas c s = filter (is_stopped_replica c s.replicas.items) (range_with_len 0 (replicas c))

abbrev pub stopped_clients : Configuration → Stage → List ℕ
stopped_clients c s = filter (is_stopped_client c s.stage_clients.items) (range_with_len FIRST_CLIENT c.clients)

abbrev pub stopped_parties : Configuration → Stage → List ℕ
stopped_parties c s = stopped_replicas c s ++ stopped_clients c s

-- Unless it fails, the function adds the parties of these numbers after those that were there.
abbrev pub AddsParties : {U E : Type 0} → List ℕ → Vec Party Global → Vec Party Global → Result U E → Type 0
AddsParties numbers old new result =
    OnOk result (map party_number new.items ≡ map party_number old.items ++ numbers)
