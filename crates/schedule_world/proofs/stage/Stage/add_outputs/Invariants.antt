use Rattle.std.proofs.Common.{map}
use Rattle.terms.specs.Parties.{party_number}
use Rattle.events.specs.Outputs.{entry_of}
use Rattle.schedule_world.specs.Moving.{AddsAllIfMeant, AreOf, KeepsParties}
use Rattle.schedule_world.proofs.stage.Stage.add_outputs.Given as goal

abbrev pub invariant-loop-output : goal.invariant-loop-output
invariant-loop-output l =
    AddsAllIfMeant l.config (party_number l.party) l.yielded l.initial.self l.self
    × AreOf (party_number l.party) (map (entry_of (party_number l.party)) l.yielded)
    × KeepsParties l.initial.self l.self
