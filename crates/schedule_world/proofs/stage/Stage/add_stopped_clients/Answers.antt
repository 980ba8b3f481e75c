use Rattle.std.proofs.Common.{◌<◌, arith}
use Rattle.schedule_world.specs.Stopped.{is_stopped_client}
use Rattle.schedule_world.proofs.Stopping.{number_added}
use Rattle.schedule_world.proofs.stage.Stage.add_stopped_clients.Goals as goal

pub loop-number-preserved : goal.loop-number-preserved
loop-number-preserved c =
    let low : c.loop-number.number < c.args.config.now.clients = omega arith in
    number_added (is_stopped_client c.args.config.now c.args.self.now.stage_clients.items) 256 c.loop-number.number c.args.config.now.clients _ _ _ low
    c.in_ok-add_stopped_client.ensures c.loop-number.invariant
