use Rattle.std.proofs.Common.{rules}
use Rattle.space_node.proofs.Turning.{found}
use Rattle.space_node.proofs.turn.accept_nothing.Goals as goal

pub returns-then-accepts : goal.returns-then-accepts
returns-then-accepts c = (
  (λ says. absurd cc),
  (λ none. absurd (found c.args.outputs.now c.loop-output.output-index c.output-item.result c.loop-output-test.true c.output-item.is (search rules) none)),
)
