use Rattle.std.proofs.Common.{length}
use Rattle.lives.specs.Repeats.{RepeatsBefore}
use Rattle.lives.proofs.replaying.repeat_text.Given as goal

abbrev pub invariant-loop-event : goal.invariant-loop-event
invariant-loop-event g l = RepeatsBefore g.M.Machine.fits l.initial.machine l.machine l.text l.rest l.initial.given.items l.given.items

abbrev pub decreases-loop-event : goal.decreases-loop-event
decreases-loop-event g l = length l.rest
