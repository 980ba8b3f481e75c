use Rattle.schedule_world.specs.Stages.{PartiesArePlaced, IsStanding}
use Rattle.schedule_world.proofs.Flushed.{Flushes}
use Rattle.schedule_world.proofs.stage.Stage.flush.Given as goal

abbrev pub invariant-loop : goal.invariant-loop
invariant-loop l = PartiesArePlaced l.config l.self × IsStanding l.config l.self × Flushes l.config l.initial.self l.self
