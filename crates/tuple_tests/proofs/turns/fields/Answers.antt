use Rattle.std.proofs.Common.{rules, refl}
use Rattle.tuple_tests.proofs.turns.fields.Goals as goal

pub same-template : goal.same-template
same-template g c = refl

pub loop-number-preserved : goal.loop-number-preserved
loop-number-preserved g c = search rules
