use Rattle.schedule_world.specs.Opening.{IsNewStageClient}
use Rattle.schedule_world.proofs.FirstStage.{AreFirst}
use Rattle.schedule_world.proofs.stage.new_stage_clients.Given as goal

abbrev pub invariant-loop-number : goal.invariant-loop-number
invariant-loop-number l = AreFirst (IsNewStageClient l.config) l.stage_clients.items l.number
