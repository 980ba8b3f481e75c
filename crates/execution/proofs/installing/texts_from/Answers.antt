use Rattle.std.proofs.Common.{arith}
use Rattle.execution.proofs.Restoring.{filled_more}
use Rattle.execution.proofs.installing.texts_from.Goals as goal

pub loop-i-preserved : goal.loop-i-preserved
loop-i-preserved c = filled_more c.args.pages.now c.args.first c.loop-i.texts c.loop-i.i c.page.result (omega arith) c.page.ensures.text c.loop-i.invariant
