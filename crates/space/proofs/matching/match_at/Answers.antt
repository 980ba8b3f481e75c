use Rattle.space.proofs.Printed.{none_like}
use Rattle.space.proofs.matching.match_at.Goals as goal

pub returns-then-passes : goal.returns-then-passes
returns-then-passes g c = none_like c.args.template.now c.args.tuples.now.entries c.args.birth c.args.wanted.now c.requires (c.passes.ensures c.if-passes.true)
