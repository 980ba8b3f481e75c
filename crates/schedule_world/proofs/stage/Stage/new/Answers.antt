use Rattle.schedule_world.proofs.FirstStage.{placed_first, at_first}
use Rattle.schedule_world.proofs.stage.Stage.new.Goals as goal

pub returns-clause-placed : goal.returns-clause-placed
returns-clause-placed c = placed_first c.args.config.now _ c.faults.ensures.valid c.in_ok-new_replicas.ensures c.in_ok-new_stage_clients.ensures

pub returns-clause-stands : goal.returns-clause-stands
returns-clause-stands c = at_first c.args.config.now _ c.in_ok-new_replicas.ensures c.in_ok-new_stage_clients.ensures c.new-2.ensures c.new-3.ensures.items c.new-4.ensures.items
