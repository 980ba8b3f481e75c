use Rattle.std.proofs.Common.{rules, refl}
use Rattle.tuple_tests.proofs.turns.values.Goals as goal

pub same-tuple : goal.same-tuple
same-tuple g c = refl

pub loop-number-preserved : goal.loop-number-preserved
loop-number-preserved g c = search rules
