use Rattle.std.proofs.Common.{◌≡◌, ◌+◌, ◌<◌, ◌++◌, ◌∷◌, [], map, ap, ◌∙◌, arith}
use Rattle.std.specs.Prelude.{filter}
use Rattle.terms.specs.Parties.{party_number}
use Rattle.protocol.specs.System.Configuration.{replicas}
use Rattle.schedule_world.specs.Stopped.{is_stopped_replica}
use Rattle.schedule_world.proofs.Stopping.{number_added}
use Rattle.schedule_world.proofs.stage.Stage.add_stopped_replicas.Goals as goal

pub loop-number-preserved : goal.loop-number-preserved
loop-number-preserved c =
    let low : c.loop-number.number < replicas c.args.config.now = omega arith in
    let same : c.loop-number.number ≡ 0 + c.loop-number.number = omega arith in
    number_added (is_stopped_replica c.args.config.now c.args.self.now.replicas.items) 0 c.loop-number.number (replicas c.args.config.now) _ _ _ low
    (c.in_ok-add_stopped_replica.ensures
    ∙ ap (λ k. map party_number c.loop-number.parties.items ++ filter (is_stopped_replica c.args.config.now c.args.self.now.replicas.items) (k ∷ [])) same)
    c.loop-number.invariant
