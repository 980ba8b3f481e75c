use Rattle.std.proofs.Common.{◌∙◌, sym, arith}
use Rattle.wire.proofs.Whole.{is_too_long, is_over_inside, none_is_judged}
use Rattle.wire.proofs.judging.judge_whole.Goals as goal

pub returns-then-bytes-limit : goal.returns-then-bytes-limit
returns-then-bytes-limit c = is_too_long c.args.bytes.now (omega (arith, c.limit.ensures))

pub returns-then-carries_too_large : goal.returns-then-carries_too_large
returns-then-carries_too_large c = is_over_inside c.args.bytes.now (sym c.if-carries_too_large.true ∙ c.carries_too_large.ensures)

pub returns-in-None : goal.returns-in-None
returns-in-None c = none_is_judged c.args.bytes.now (omega (arith, c.limit.ensures)) (sym c.if-carries_too_large.false ∙ c.carries_too_large.ensures) c.in-None.ensures
