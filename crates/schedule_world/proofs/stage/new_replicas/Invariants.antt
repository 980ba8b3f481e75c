use Rattle.schedule_world.specs.Opening.{IsNewReplica}
use Rattle.schedule_world.proofs.FirstStage.{AreFirst}
use Rattle.schedule_world.proofs.stage.new_replicas.Given as goal

abbrev pub invariant-loop-number : goal.invariant-loop-number
invariant-loop-number l = AreFirst (IsNewReplica l.config) l.replicas.items l.number
