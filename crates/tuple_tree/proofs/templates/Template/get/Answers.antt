use Rattle.std.proofs.Common.{arith}
use Rattle.tuple_tree.proofs.Getting.{passed, none_left}
use Rattle.tuple_tree.proofs.templates.Template.get.Goals as goal

pub loop-passed-preserved : goal.loop-passed-preserved
loop-passed-preserved g c = passed _ c.args.i c.loop-passed._passed _ _ _ (omega arith) c.in_ok-next.ensures.some c.loop-passed.invariant

pub returns-in_err-next-clause-value : goal.returns-in_err-next-clause-value
returns-in_err-next-clause-value g c = rw c.from_residual.ensures (none_left _ c.args.i c.loop-passed._passed _ c.in_err-next.ensures.none c.loop-passed.invariant)
