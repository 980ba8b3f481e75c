use Rattle.std.proofs.Common.{arith}
use Rattle.one_space.proofs.ScriptLemmas.{enough, ends_at_last, tells_at_last}
use Rattle.one_space.proofs.script.Script.read_lines.Goals as goal

pub returns-then-len-most-clause-read : goal.returns-then-len-most-clause-read
returns-then-len-most-clause-read g c = enough c.args.most _ _ _ _ (omega arith) c.loop-number.invariant.kept

pub returns-clause-read : goal.returns-clause-read
returns-clause-read g c = ends_at_last c.args.most c.loop-number.number _ _ _ _ c.end_lines.result (omega arith) c.end_lines.ensures.read c.loop-number.invariant.kept

pub returns-clause-told : goal.returns-clause-told
returns-clause-told g c = tells_at_last c.end_lines.result _ _ _ c.loop-number.invariant.said c.end_lines.ensures.told
