use Rattle.std.proofs.Common.{arith, refl}
use Rattle.signing.proofs.Nodes.{level_narrow, level_width}
use Rattle.signing.proofs.tree.node_index.Goals as goal

pub returns-clause-value : goal.returns-clause-value
returns-clause-value c = rw (level_width c.args.level c.requires.level) refl

pub returns-clause-range : goal.returns-clause-range
returns-clause-range c =
    let width = level_width c.args.level c.requires.level in
    let narrow = level_narrow c.args.level in
    omega (arith, width, narrow, c.requires.place)
