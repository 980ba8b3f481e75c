use Rattle.std.proofs.Common.{[], map, take}
use Rattle.schedule_text.specs.StepView.{step_of}
use Rattle.schedule_world.specs.Stages.{PartiesArePlaced, StageIsAfterSteps}
use Rattle.schedule_world.proofs.running.run.Given as goal

abbrev pub invariant-loop-i : goal.invariant-loop-i
invariant-loop-i l = PartiesArePlaced l.config l.stage × StageIsAfterSteps l.config (map step_of (take l.i l.steps)) [] l.stage
