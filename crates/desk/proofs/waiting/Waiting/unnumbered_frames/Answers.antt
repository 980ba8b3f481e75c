use Rattle.std.proofs.Common.{subst}
use Rattle.desk.specs.Waiting.{IsWaiting, unnumbered}
use Rattle.desk.proofs.WaitingKept.{each_unnumbered, frames_carried}
use Rattle.desk.proofs.waiting.Waiting.unnumbered_frames.Goals as goal

pub returns-clause-each : goal.returns-clause-each
returns-clause-each c = frames_carried (unnumbered c.args.self.now) (each_unnumbered c.args.self.now (subst IsWaiting c.self.view_is c.self.invariant))
