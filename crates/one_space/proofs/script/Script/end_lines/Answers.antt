use Rattle.std.proofs.Common.{arith, refl, subst, sym, ◌∙◌}
use Rattle.one_space.proofs.ScriptLemmas.{one_too_many, none_left}
use Rattle.one_space.specs.Scripts.{EndsBy}
use Rattle.one_space.proofs.script.Script.end_lines.Goals as goal

pub returns-in-Ok-true-clause-read : goal.returns-in-Ok-true-clause-read
returns-in-Ok-true-clause-read g c most bytes so_far =
    rw c.refused_line.ensures.fault
    (one_too_many most bytes _ _ _ so_far c.has_line.result c.has_line.ensures c.in-Ok-true.field-0 c.in-Ok-true.is c.in-Ok-true.field-0-test (omega arith))

pub returns-in-Ok-false-clause-read : goal.returns-in-Ok-false-clause-read
returns-in-Ok-false-clause-read g c most bytes so_far =
    none_left most bytes _ _ _ so_far c.has_line.result c.has_line.ensures _ c.in-Ok-false.field-0 c.in-Ok-false.is c.in-Ok-false.field-0-test refl
