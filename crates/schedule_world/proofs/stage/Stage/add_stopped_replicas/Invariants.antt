use Rattle.std.proofs.Common.{◌≡◌, ◌+◌, ◌-◌, ◌++◌, map}
use Rattle.std.specs.Prelude.{filter}
use Rattle.std.specs.List.{range_with_len}
use Rattle.terms.specs.Parties.{party_number}
use Rattle.protocol.specs.System.Configuration.{replicas}
use Rattle.schedule_world.specs.Stopped.{is_stopped_replica, stopped_replicas}
use Rattle.schedule_world.proofs.stage.Stage.add_stopped_replicas.Given as goal

abbrev pub invariant-loop-number : goal.invariant-loop-number
invariant-loop-number l =
    map party_number l.parties.items
    ++ filter (is_stopped_replica l.config l.self.replicas.items) (range_with_len (0 + l.number) (replicas l.config - l.number))
    ≡ map party_number l.fn.parties.items ++ stopped_replicas l.config l.self
