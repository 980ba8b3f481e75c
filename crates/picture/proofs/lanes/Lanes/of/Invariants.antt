use Rattle.picture.specs.Lanes.{TakePart}
use Rattle.picture.proofs.lanes.Lanes.of.Given as goal

abbrev pub invariant-loop-number : goal.invariant-loop-number
invariant-loop-number l = TakePart l.rows l.fn.run.trace.now l.fn.arrows l.fn.run.points.now l.parties.items
