use Rattle.std.proofs.Common.{◌≡◌, ◌+◌, ◌-◌, ◌++◌, map}
use Rattle.std.specs.Prelude.{filter}
use Rattle.std.specs.List.{range_with_len}
use Rattle.terms.specs.Parties.{party_number}
use Rattle.schedule_world.specs.Stopped.{is_stopped_client, stopped_clients}
use Rattle.schedule_world.proofs.stage.Stage.add_stopped_clients.Given as goal

abbrev pub invariant-loop-number : goal.invariant-loop-number
invariant-loop-number l =
    map party_number l.parties.items
    ++ filter (is_stopped_client l.config l.self.stage_clients.items) (range_with_len (256 + l.number) (l.config.clients - l.number))
    ≡ map party_number l.fn.parties.items ++ stopped_clients l.config l.self
